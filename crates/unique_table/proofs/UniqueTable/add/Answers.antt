-- `unique_table::UniqueTable::add` meets its contract.
use Rattle.std.proofs.Common.{◌+◌, ap}
use Rattle.unique_table.specs.Stores.{stored_adds}
use Rattle.unique_table.proofs.UniqueTable.add.Goals as goal

pub returns-clause-adds : goal.returns-clause-adds
returns-clause-adds c =
    stored_adds _ c.requires.0 c.requires.1 _ c.ranges.w.fits _ _ c.chain-k.ensures.0 c.chain-k.ensures.1 (ap (λ k. k + 2) c.count-n.ensures)
