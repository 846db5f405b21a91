-- `field_writer::write_three` meets its contract.
use Rattle.buffer.specs.Writing.{wrote_both}
use borrow.Author.Rules.{rules}
use Rattle.field_writer.proofs.write_three.Goals as goal

pub returns : goal.returns
returns c =
    wrote_both (search rules) c.write_start.ensures c.write_u16.ensures
