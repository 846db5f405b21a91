-- `chart_fields::check_step` meets its contract.
use Rattle.std.proofs.Common.{◌≡◌, sym, ◌∙◌}
use Rattle.chart_fields.proofs.Values.{long_named, step-laws}
use borrow.Author.Rules.{rules}
use Rattle.chart_fields.proofs.bodies.check_step.Goals as goal

pub returns-then-count-ge1024 : goal.returns-then-count-ge1024
returns-then-count-ge1024 c = search step-laws

pub returns-then-to-from : goal.returns-then-to-from
returns-then-to-from c = search step-laws

pub returns-then-stages-to : goal.returns-then-stages-to
returns-then-stages-to c = search step-laws

pub returns-then-from-last : goal.returns-then-from-last
returns-then-from-last c = search step-laws

pub returns-then-value-gt1000000 : goal.returns-then-value-gt1000000
returns-then-value-gt1000000 c = search step-laws

pub check_group-requires : goal.check_group-requires
check_group-requires c = search (long_named, rules)

pub returns-then-tag : goal.returns-then-tag
returns-then-tag c = let named : c.args.tag ≡ 3 = c.if-tag.true ∙ c.tag.ensures in search step-laws

pub returns : goal.returns
returns c = let plain : c.args.tag ≡ 3 → ⊥ = λ e. c.if-tag.false (e ∙ sym c.tag.ensures) in search step-laws
