-- `sweep_ends::begin` meets its contract: a root that is 0 changes nothing.
use Rattle.sweep_model.specs.Model.{rows}
use Rattle.sweep_ends.proofs.Leaves.{begun_none, begun_one}
use Rattle.sweep_ends.proofs.start.begin.Goals as goal

pub returns-then-root-eq0 : goal.returns-then-root-eq0
returns-then-root-eq0 c = λ via. begun_none _ _ _ _ c.if-root-eq0.true

pub returns : goal.returns
returns c =
    λ via. begun_one _ _ _ (rows c.args.costs.now via c.args.nodes.now c.args.counts.now) c.if-root-eq0.false
