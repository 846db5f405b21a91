-- `fields::look::field_at` meets its contract.
use mathlib.Core.Path.{◌∙◌}
use Rattle.fields.specs.Positions.{only_has}
use Rattle.fields.proofs.look.field_at.Goals as goal

pub returns-then-is_whole : goal.returns-then-is_whole
returns-then-is_whole c = c.whole.ensures ∙ only_has _ _ _ _ (c.is_whole.ensures.has c.if-is_whole.true)
