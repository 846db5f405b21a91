-- `fields::look::remark_at` meets its contract.
use mathlib.Core.Path.{◌∙◌}
use native.Mathlib.Omega.{arith}
use borrow.Author.Rules.{rules}
use Rattle.fields.specs.Remarks.{remark_left, remark_cut, remark_over}
use Rattle.fields.proofs.look.remark_at.Goals as goal

pub overflow_add-at : goal.overflow_add-at
overflow_add-at c = omega (arith, remark_left _ _ c.requires)

pub read_u16-requires : goal.read_u16-requires
read_u16-requires c = omega (arith, remark_left _ _ c.requires)

pub overflow_sub-s : goal.overflow_sub-s
overflow_sub-s c = omega (arith, remark_left _ _ c.requires)

pub returns-then-s-at : goal.returns-then-s-at
returns-then-s-at c =
    λ kind. c.faulty.ensures ∙ remark_cut _ _ c.requires _ c.read_u16.ensures (search rules) kind

pub returns : goal.returns
returns c = remark_over _ _ c.requires _ (c.from-field.ensures ∙ c.read_u16.ensures) (search rules)
