-- `digits::write_number` meets its contract.
use Rattle.digits.proofs.Decimals.{spell_start, spell_more, spelled_long, number_written}
use Rattle.digits.proofs.write_number.Goals as goal

pub loop-left-init : goal.loop-left-init
loop-left-init c = search spell_start

pub loop-left-preserved : goal.loop-left-preserved
loop-left-preserved c = search spell_more

pub slice_bounds-copy-end : goal.slice_bounds-copy-end
slice_bounds-copy-end c = search spelled_long

pub returns : goal.returns
returns c = search number_written
