-- `field_writer::write_step` meets its contract.
use Rattle.buffer.specs.Writing.{wrote_both}
use Rattle.definitions.specs.Basics.{pick}
use borrow.Author.Rules.{rules}
use Rattle.field_writer.proofs.write_step.Goals as goal

pub returns : goal.returns
unfolding pick
returns c =
    wrote_both (search rules) c.write_start.ensures c.write_u32.ensures
