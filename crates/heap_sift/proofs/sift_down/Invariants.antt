-- The loop of `sift_down`: all is in order but between x and its children, and v is the key at x. The measure is n - x.
-- Assumes nothing.
use mathlib.Core.Path.{◌≡◌}
use Prim.Native.Nat.{◌-◌, ◌≤◌}
use lib.ListN.{length}
use Rattle.heap_sift.specs.Heap.{slices}
use Rattle.heap_sift.specs.Sift.{SiftingDown}
use Rattle.heap_sift.proofs.Loops.{Dropping}
use Rattle.heap_sift.proofs.sift_down.Given as goal

abbrev pub invariant-loop-x : goal.invariant-loop-x
invariant-loop-x l =
    (length l.heap ≡ length l.initial.heap)
    × (length l.pos ≡ length l.initial.pos)
    × (l.x ≤ l.n)
    × ((a : SiftingDown l.n l.at l.v (slices l.keys l.initial.heap l.initial.pos)) → Dropping l.keys a.p l.n l.v l.initial.heap l.initial.pos l.heap l.pos l.x)

abbrev pub decreases-loop-x : goal.decreases-loop-x
decreases-loop-x l = l.n - l.x
