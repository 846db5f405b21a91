-- The loop of `nodes::descend_to`: what holds at its head, and its measure.
use mathlib.Core.Path.{◌≡◌}
use lib.ListN.{get_or}
use Rattle.diagram_fields.specs.Words.{nodes_in}
use Rattle.nodes.proofs.Lowering.{Lowering}
use Rattle.nodes.proofs.walks.descend_to.Given as goal

abbrev pub invariant-loop-step : goal.invariant-loop-step
invariant-loop-step l =
    Lowering (nodes_in l.inner).step (nodes_in l.inner).lo l.key l.initial.m l.m × (l.word ≡ get_or l.inner l.m 0) × (l.step ≡ get_or (nodes_in l.inner).step l.m 0)

abbrev pub decreases-loop-step : goal.decreases-loop-step
decreases-loop-step l = l.m
