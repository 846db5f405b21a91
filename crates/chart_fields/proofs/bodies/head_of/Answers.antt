-- `chart_fields::head_of` meets its contract.
use Rattle.chart_fields.proofs.Values.{head_read}
use Rattle.chart_fields.proofs.bodies.head_of.Goals as goal

pub returns : goal.returns
returns c = search head_read
