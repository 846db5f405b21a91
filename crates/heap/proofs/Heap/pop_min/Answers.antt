-- The method `pop_min` meets its contract.
-- Assumes nothing.
use mathlib.Core.Path.{refl}
use native.Mathlib.Omega.{arith}
use Rattle.heap.proofs.Heap.pop_min.Goals as goal

pub returns-clause-popped : goal.returns-clause-popped
returns-clause-popped c =
    λ p h. (omega arith, refl, c.pop_min-r.ensures p h)
