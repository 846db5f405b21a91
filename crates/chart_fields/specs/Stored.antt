-- The table of steps, blank and with one more step.
-- Assumes nothing.
use Rattle.std.specs.Prelude.{ℕ, replicate, set}
use Rattle.chart_fields.specs.declared.table.StepTable.{StepTable}

abbrev pub blank : StepTable
blank = record { ends = replicate 1024 0; costs = replicate 1024 0 }

-- step e gets its kind, group and stages in one number, and its cost
abbrev pub stored : StepTable → ℕ → ℕ → ℕ → StepTable
stored t e ends cost = record { ends = set t.ends e ends; costs = set t.costs e cost }
