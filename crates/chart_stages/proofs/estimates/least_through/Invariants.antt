-- The loop of `chart_stages::least_through`: what is known shows the least cost of the ways by the steps below e.
use Prim.Native.Nat.{◌≤◌}
use Rattle.definitions.specs.Basics.{NONE}
use Rattle.definitions.specs.Plans.{graph}
use Rattle.chart.specs.Tables.{steps_in, chart_in}
use Rattle.chart_stages.specs.Estimates.{WayBy}
use Rattle.theory.specs.Least.{Shows}
use Rattle.chart_stages.specs.Leaving.{Leaving}
use Rattle.chart_stages.proofs.estimates.least_through.Given as goal

abbrev pub invariant-loop-e : goal.invariant-loop-e
invariant-loop-e l =
    (l.start ≤ l.e) × (l.e ≤ l.until) × (l.until ≤ 1024) × (l.best ≤ NONE)
    × ((x : Leaving (steps_in l.steps) l.start l.until l.estimates) → Shows (WayBy (graph (chart_in x.z (steps_in l.steps))) l.e x.s) l.best)
