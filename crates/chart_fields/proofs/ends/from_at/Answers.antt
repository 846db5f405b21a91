-- `chart_fields::from_at` meets its contract.
use mathlib.Core.Path.{sym, ◌∙◌}
use Rattle.chart_fields.specs.Ends.{froms_at}
use Rattle.chart_fields.proofs.ends.from_at.Goals as goal

pub returns : goal.returns
returns c =
    c.from_of.ensures ∙ sym (froms_at _ _)
