-- `field_writer::write_start` meets its contract.
use Rattle.buffer.specs.Writing.{wrote_both}
use borrow.Author.Rules.{rules}
use Rattle.field_writer.proofs.write_start.Goals as goal

pub returns : goal.returns
returns c =
    wrote_both (search rules) (wrote_both (search rules) c.write_header.ensures c.write_u16.ensures) c.write_u16-2.ensures
