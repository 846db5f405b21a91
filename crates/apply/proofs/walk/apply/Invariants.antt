-- The loop of `apply::apply`: what holds at its head, and its measure.
use Rattle.unique_table.specs.Held.{held, SameArray}
use Rattle.apply.specs.Walks.{Walking}
use Rattle.apply.specs.Weights.{weights}
use Rattle.apply.specs.Whole.{Going}
use Rattle.apply.proofs.walk.apply.Given as goal

abbrev pub invariant-loop-frame : goal.invariant-loop-frame
invariant-loop-frame l =
    ((y : Walking l.initial.stack.frames l.initial.work (held l.initial.table) l.operands.left.now l.operands.right.now l.operands.width l.initial.stack.count l.initial.reference)
    → Going y l.stack.frames l.work (held l.table) l.stack.count l.reference)
    × SameArray l.initial.table l.table

abbrev pub decreases-loop-frame : goal.decreases-loop-frame
decreases-loop-frame l = weights l.stack.frames l.stack.count
