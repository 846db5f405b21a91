-- `StepTable::is_grouped` meets its contract.
use Rattle.std.proofs.Common.{sym, ◌∙◌, eqb-true}
use Rattle.std.proofs.lemmas.Bool.{eqb-false}
use Rattle.chart_fields.proofs.table.StepTable.is_grouped.Goals as goal

pub returns-clause-named : goal.returns-clause-named
returns-clause-named c = λ h. sym c.tag_at.ensures ∙ eqb-true _ _ h ∙ c.tag.ensures

pub returns-clause-plain : goal.returns-clause-plain
returns-clause-plain c = λ h e. eqb-false _ _ h (c.tag_at.ensures ∙ e ∙ sym c.tag.ensures)
