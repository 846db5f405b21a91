-- The kinds of steps, by their tags.
-- Assumes nothing.
use Rattle.std.specs.Prelude.{ℕ}
use Rattle.definitions.specs.Charts.{plain, grouped}
use Rattle.chart_fields.specs.declared.kinds.StepKind.{StepKind}
use Rattle.chart_fields.specs.declared.kinds.StepKind.TheVariants.{Plain, Grouped}

abbrev pub kind_tag : StepKind → ℕ
kind_tag Plain = plain
kind_tag Grouped = grouped
