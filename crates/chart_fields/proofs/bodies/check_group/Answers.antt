-- `chart_fields::check_group` meets its contract.
use Rattle.chart_fields.proofs.Values.{group_laws}
use Rattle.chart_fields.proofs.bodies.check_group.Goals as goal

pub returns-then-group-gt1023 : goal.returns-then-group-gt1023
returns-then-group-gt1023 c = search group_laws

pub returns-then-group-last : goal.returns-then-group-last
returns-then-group-last c = search group_laws

pub returns : goal.returns
returns c = search group_laws
