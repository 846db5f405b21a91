-- The loop of `chart_stages::fill_chart_estimates`: the entries of the stages from s on are told.
use Prim.Native.Nat.{◌≤◌, ◌<◌}
use mathlib.Core.Path.{◌≡◌}
use lib.ListN.{length}
use Rattle.definitions.specs.Plans.{graph}
use Rattle.definitions.specs.declared.Shape.{Shape}
use Rattle.chart.specs.Tables.{steps_in, chart_in}
use Rattle.chart_stages.specs.Estimates.{Told}
use Rattle.chart_stages.specs.Leaving.{Staged}
use Rattle.chart_stages.proofs.estimates.fill_chart_estimates.Given as goal

abbrev pub invariant-loop-s : goal.invariant-loop-s
invariant-loop-s l =
    (l.s ≤ l.end) × (l.end < 256) × (length l.estimates ≡ 256)
    × ((z : Shape) → Staged z (steps_in l.steps) l.first → z.end.0 ≡ l.end → Told (graph (chart_in z (steps_in l.steps))) l.s l.estimates)
