-- `unique_table::chain` meets its contract.
use mathlib.Core.Path.{refl}
use Rattle.unique_table.specs.Chains.{hash_is}
use Rattle.unique_table.proofs.chain.Goals as goal

pub returns : goal.returns
returns c = hash_is _ _ refl
