-- The loop of `node_estimates::fill_prices`: what holds at its head, and its measure.
use Prim.Native.Nat.{◌≤◌}
use Rattle.chart.specs.Tables.{steps_in}
use Rattle.node_estimates.proofs.Pricing.{Pricing}
use Rattle.node_estimates.proofs.fill_prices.Given as goal

abbrev pub invariant-loop-e : goal.invariant-loop-e
invariant-loop-e l = Pricing (steps_in l.steps) l.e-end l.e l.price × (l.e ≤ l.e-end)
