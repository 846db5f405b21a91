-- `chart_fields::step_of` meets its contract.
use Rattle.chart_fields.proofs.Values.{step_read}
use Rattle.chart_fields.proofs.bodies.step_of.Goals as goal

pub returns : goal.returns
returns c = search step_read
