-- The loop of `sift_up`: all is in order but between x and its parent, and v is the key at x. The measure is x.
-- Assumes nothing.
use mathlib.Core.Path.{◌≡◌}
use lib.ListN.{length}
use Rattle.heap_sift.specs.Heap.{slices}
use Rattle.heap_sift.specs.Sift.{SiftingUp}
use Rattle.heap_sift.proofs.Loops.{Lifting}
use Rattle.heap_sift.proofs.sift_up.Given as goal

abbrev pub invariant-loop-x : goal.invariant-loop-x
invariant-loop-x l =
    (length l.heap ≡ length l.initial.heap)
    × (length l.pos ≡ length l.initial.pos)
    × ((a : SiftingUp l.at l.v (slices l.keys l.initial.heap l.initial.pos)) → Lifting l.keys a.p a.n l.v l.initial.heap l.initial.pos l.heap l.pos l.x)

abbrev pub decreases-loop-x : goal.decreases-loop-x
decreases-loop-x l = l.x
