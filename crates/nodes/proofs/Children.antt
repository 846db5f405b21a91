-- A child that is read from its table, in a pass over the inner nodes from 2 up.
use Prim.Native.Nat.{ℕ, ◌+◌, ◌≤◌, ◌<◌}
use mathlib.Core.Path.{◌≡◌}
use mathlib.Core.List.{List}
use lib.ListN.{get_or}
use native.Mathlib.Omega.{arith}
use Rattle.nodes.specs.Walks.{Falls}

module _ (child : List ℕ) (count n : ℕ) (falls : Falls child (count + 1)) (i : 2 ≤ n) (l : n < count + 2) where
  pub child_below : get_or child n 0 < n
  child_below = falls.below n i (omega arith)

  module _ (v : ℕ) (is : v ≡ get_or child n 0) where
    pub child_inside : v < 512
    child_inside = omega (arith, child_below, falls.inside)
