-- `report::write_last_item` meets its contract.
use Rattle.report.proofs.Lines.{last_item_written}
use Rattle.report.proofs.write_last_item.Goals as goal

pub returns : goal.returns
returns c = search last_item_written
