-- `field_bytes::write_numbers` meets its contract.
use mathlib.Core.Path.{◌∙◌}
use borrow.Author.Rules.{rules}
use Rattle.definitions.specs.Bytes.{le2}
use Rattle.buffer.specs.Writing.{wrote_next, wrote_long}
use Rattle.field_bytes.proofs.write_numbers.Goals as goal

pub loop-n-preserved : goal.loop-n-preserved
loop-n-preserved c =
    (search rules, wrote_long (search rules) c.write_u16.ensures ∙ c.loop-n.invariant.1, wrote_next le2 _ c.loop-n.n-index 0 (search rules) (search rules) c.loop-n.invariant.2 c.write_u16.ensures)
