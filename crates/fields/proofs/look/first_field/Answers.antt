-- `fields::look::first_field` meets its contract.
use mathlib.Core.Path.{◌∙◌}
use borrow.Author.Rules.{rules}
use Rattle.fields.specs.First.{first_long, first_short}
use Rattle.fields.proofs.look.first_field.Goals as goal

pub returns-then-s-gt-LONGEST : goal.returns-then-s-gt-LONGEST
returns-then-s-gt-LONGEST c = c.faulty.ensures ∙ first_long _ _ _ (search rules)

pub returns : goal.returns
returns c = search first_short
