-- A chart that stands in tables, by its stages: the steps that leave each.
-- Assumes nothing.
use Rattle.std.specs.Prelude.{ℕ, ◌+◌, ◌<◌, ◌≡◌, List}
use Rattle.definitions.specs.Plans.{graph}
use Rattle.definitions.specs.declared.Shape.{Shape}
use Rattle.theory.specs.Limits.{Valid}
use Rattle.chart.specs.Tables.{Steps, chart_in}
use Rattle.chart_stages.specs.FirstSteps.{first_step, FirstTable}
use Rattle.chart_stages.specs.Estimates.{Told}

-- the chart in the tables is one that is accepted, and the first steps of its stages are found
pub record Staged (z : Shape) (t : Steps) (first : List ℕ) : Type 0 where
  pub valid : Valid (graph (chart_in z t))
  pub firsts : FirstTable z.steps z.stages t.from first

-- the steps from `start` to before `until` are those that leave stage s, before the end, of some chart in the tables; the estimates of the stages after it are known
pub record Leaving (t : Steps) (start until : ℕ) (estimates : List ℕ) : Type 0 where
  pub z : Shape
  pub s : ℕ
  pub valid : Valid (graph (chart_in z t))
  pub begins : start ≡ first_step (graph (chart_in z t)) s
  pub ends : until ≡ first_step (graph (chart_in z t)) (s + 1)
  pub early : s < z.end.0
  pub told : Told (graph (chart_in z t)) (s + 1) estimates
