-- `chart_fields::check_head` meets its contract.
use Rattle.chart_fields.proofs.Values.{head-laws}
use Rattle.chart_fields.proofs.bodies.check_head.Goals as goal

pub returns-then-stages-eq0 : goal.returns-then-stages-eq0
returns-then-stages-eq0 c = search head-laws

pub returns-then-stages-gt256 : goal.returns-then-stages-gt256
returns-then-stages-gt256 c = search head-laws

pub returns-then-stages-start : goal.returns-then-stages-start
returns-then-stages-start c = search head-laws

pub returns-then-stages-end : goal.returns-then-stages-end
returns-then-stages-end c = search head-laws

pub returns : goal.returns
returns c = search head-laws
