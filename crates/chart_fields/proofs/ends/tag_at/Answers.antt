-- `chart_fields::tag_at` meets its contract.
use mathlib.Core.Path.{sym, ◌∙◌}
use Rattle.chart_fields.specs.Ends.{tags_at}
use Rattle.chart_fields.proofs.ends.tag_at.Goals as goal

pub returns : goal.returns
returns c =
    c.tag_of.ensures ∙ sym (tags_at _ _)
