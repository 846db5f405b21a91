-- `unique_table::UniqueTable::over` meets its contract.
use Rattle.unique_table.specs.Held.{blank_table}
use Rattle.unique_table.proofs.UniqueTable.over.Goals as goal

pub returns-clause-blank : goal.returns-clause-blank
returns-clause-blank c = blank_table _ c.told-nodes
