-- The loop of `nodes::fill_finishing`: what holds at its head, and its measure.
use Prim.Native.Nat.{◌+◌, ◌-◌}
use Rattle.diagram_fields.specs.Words.{nodes_in}
use Rattle.nodes.proofs.Finished.{Passed}
use Rattle.nodes.proofs.walks.fill_finishing.Given as goal

abbrev pub invariant-loop-n : goal.invariant-loop-n
invariant-loop-n l = Passed (nodes_in l.inner).lo l.count l.yes l.n

abbrev pub decreases-loop-n : goal.decreases-loop-n
decreases-loop-n l = l.count + 2 - l.n
