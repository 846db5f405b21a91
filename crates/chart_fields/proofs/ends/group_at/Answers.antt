-- `chart_fields::group_at` meets its contract.
use mathlib.Core.Path.{sym, ◌∙◌}
use Rattle.chart_fields.specs.Ends.{groups_at}
use Rattle.chart_fields.proofs.ends.group_at.Goals as goal

pub returns : goal.returns
returns c = c.group_of.ensures ∙ sym (groups_at _ _)
