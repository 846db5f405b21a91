-- `fields::look::fault_at` meets its contract.
use mathlib.Core.Path.{◌∙◌}
use borrow.Author.Rules.{rules}
use Rattle.fields.specs.Positions.{field_absent, field_cut, only_tag, only_unfit, only_short}
use Rattle.fields.proofs.look.fault_at.Goals as goal

pub returns-then-s-at : goal.returns-then-s-at
returns-then-s-at c = search field_absent

pub returns-then-s-at-lt3 : goal.returns-then-s-at-lt3
returns-then-s-at-lt3 c = c.faulty.ensures ∙ field_cut _ _ _ (search rules) (search rules)

pub returns-then-s-at-2 : goal.returns-then-s-at-2
returns-then-s-at-2 c = c.faulty-then-s-at-2.ensures ∙ only_tag _ _ _ _ (search rules) (search rules) (search rules)

pub returns-then-read_u16-len : goal.returns-then-read_u16-len
returns-then-read_u16-len c =
    c.faulty-then-read_u16-len.ensures ∙ only_unfit _ _ _ _ (search rules) (search rules) _ c.read_u16.ensures (search rules) (search rules)

pub returns : goal.returns
returns c =
    c.faulty-2.ensures ∙ only_short _ _ _ _ (search rules) (search rules) _ c.read_u16.ensures (search rules) (search rules) c.requires
