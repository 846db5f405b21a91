-- `report::write_answers` meets its contract.
use Rattle.report.proofs.Lines.{report_plan, report_refused}
use Rattle.report.proofs.write_answers.Goals as goal

pub returns-then-guided-ne0 : goal.returns-then-guided-ne0
returns-then-guided-ne0 c = search report_refused

pub returns : goal.returns
returns c = search report_plan
