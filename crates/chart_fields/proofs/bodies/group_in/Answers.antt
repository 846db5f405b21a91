-- `chart_fields::group_in` meets its contract.
use Rattle.std.proofs.Common.{◌≡◌, sym, ◌∙◌}
use Rattle.chart_fields.proofs.Values.{long_named, in-laws}
use borrow.Author.Rules.{rules}
use Rattle.chart_fields.proofs.bodies.group_in.Goals as goal

pub read_u16-requires : goal.read_u16-requires
read_u16-requires c = search (long_named, rules)

pub returns-then-tag : goal.returns-then-tag
returns-then-tag c = let named : c.args.tag ≡ 3 = c.if-tag.true ∙ c.tag.ensures in search in-laws

pub returns : goal.returns
returns c = let plain : c.args.tag ≡ 3 → ⊥ = λ e. c.if-tag.false (e ∙ sym c.tag.ensures) in search in-laws
