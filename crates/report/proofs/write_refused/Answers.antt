-- `report::write_refused` meets its contract.
use Rattle.report.proofs.Lines.{refused_written}
use Rattle.report.proofs.write_refused.Goals as goal

pub returns : goal.returns
returns c = search refused_written
