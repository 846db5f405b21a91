-- The loop of `node_estimates::fill_diagram_estimates`: what holds at its head, and its measure.
use Prim.Native.Nat.{◌+◌}
use mathlib.Core.Path.{◌≡◌}
use Rattle.diagram_fields.specs.Words.{nodes_in}
use Rattle.node_estimates.proofs.Estimating.{Estimating}
use Rattle.node_estimates.proofs.fill_diagram_estimates.Given as goal

abbrev pub invariant-loop-n : goal.invariant-loop-n
invariant-loop-n l =
    let t = nodes_in l.inner in
    (l.n-end ≡ l.count + 2) × Estimating t.step t.lo t.hi l.cost l.count l.estimates l.n
