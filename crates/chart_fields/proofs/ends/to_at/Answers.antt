-- `chart_fields::to_at` meets its contract.
use mathlib.Core.Path.{sym, ◌∙◌}
use Rattle.chart_fields.specs.Ends.{tos_at}
use Rattle.chart_fields.proofs.ends.to_at.Goals as goal

pub returns : goal.returns
returns c =
    c.to_of.ensures ∙ sym (tos_at _ _)
