-- The loop of `guided_expand::settle_kind`: the steps before e have been offered.
use Rattle.nodes.specs.Walks.{Tests}
use Rattle.checks.specs.Ready.{walked}
use Rattle.guided_offers.specs.Views.{estimates_of, SameSlices}
use Rattle.guided_expand.specs.Progress.{progress_of}
use Rattle.guided_expand.specs.Opening.{Opening}
use Rattle.guided_expand.proofs.Walking.{Walking}
use Rattle.guided_expand.proofs.steps.settle_kind.Given as goal

abbrev pub invariant-loop-e : goal.invariant-loop-e
invariant-loop-e g l =
    ((x : Opening (walked l.tables) (estimates_of l.estimates) l.source l.pairs (progress_of l.initial.work l.initial.filled))
    → Walking x.by l.source l.pairs (progress_of l.initial.work l.initial.filled) (progress_of l.work l.filled) l.m.node.0 l.e)
    × SameSlices l.initial.work l.work
    × Tests (walked l.tables).read.inner.step l.m
