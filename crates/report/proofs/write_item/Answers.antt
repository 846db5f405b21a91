-- `report::write_item` meets its contract.
use Rattle.report.proofs.Lines.{item_written}
use Rattle.report.proofs.write_item.Goals as goal

pub returns : goal.returns
returns c = search item_written
