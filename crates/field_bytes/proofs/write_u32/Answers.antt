-- `field_bytes::write_u32` meets its contract.
use borrow.Author.Rules.{rules}
use Rattle.buffer.specs.Writing.{wrote_both}
use Rattle.field_bytes.proofs.write_u32.Goals as goal

pub returns : goal.returns
returns c =
    wrote_both (search rules) c.write_u16.ensures c.write_u16-2.ensures
