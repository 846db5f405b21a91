-- The loop of `nodes::finishes`: what holds at its head, and its measure.
use Rattle.diagram_fields.specs.Words.{nodes_in}
use Rattle.nodes.proofs.Finished.{Walked}
use Rattle.nodes.proofs.walks.finishes.Given as goal

abbrev pub invariant-loop-m : goal.invariant-loop-m
invariant-loop-m l = Walked (nodes_in l.inner).lo l.initial.m l.m

abbrev pub decreases-loop-m : goal.decreases-loop-m
decreases-loop-m l = l.m
