-- `chart_fields::step_length` meets its contract.
use Rattle.std.proofs.Common.{◌≡◌, sym, ◌∙◌}
use Rattle.chart_fields.proofs.Values.{length-laws}
use Rattle.chart_fields.proofs.kinds.step_length.Goals as goal

pub returns-then-tag : goal.returns-then-tag
returns-then-tag c = let named : c.args.tag ≡ 3 = c.if-tag.true ∙ c.tag.ensures in search length-laws

pub returns : goal.returns
returns c = let plain : c.args.tag ≡ 3 → ⊥ = λ e. c.if-tag.false (e ∙ sym c.tag.ensures) in search length-laws
