-- `report::write_plan` meets its contract.
use Rattle.report.proofs.Lines.{plan_written}
use Rattle.report.proofs.write_plan.Goals as goal

pub returns : goal.returns
returns c = search plan_written
