-- `field_bytes::write_header` meets its contract.
use borrow.Author.Rules.{rules}
use Rattle.buffer.specs.Writing.{wrote_both}
use Rattle.field_bytes.proofs.write_header.Goals as goal

pub returns : goal.returns
returns c =
    wrote_both (search rules) c.write_u8.ensures c.write_u16.ensures
