-- The loop of `apply::descend`: what holds at its head, and its measure.
use Rattle.std.proofs.Common.{◌+◌}
use Rattle.apply.specs.Turns.{Onward}
use Rattle.apply.specs.Views.{DescendingFor}
use Rattle.apply.proofs.walk.descend.Given as goal

abbrev pub invariant-loop-reference : goal.invariant-loop-reference
invariant-loop-reference l =
    (x : DescendingFor l.initial.stack l.work l.operands l.initial.now) → Onward x l.stack.frames l.stack.count l.now.first l.now.second

abbrev pub decreases-loop-reference : goal.decreases-loop-reference
decreases-loop-reference l = l.now.first + l.now.second
