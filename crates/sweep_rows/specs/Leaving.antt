-- The table of first steps gives each stage the steps that leave it.
-- Assumes nothing.
use Rattle.std.specs.Prelude.{suc, ◌+◌, ◌≡◌}
use Rattle.std.proofs.Common.{ap, arith}
use Rattle.sweep_model.specs.Sweeps.{FirstSteps}
use Rattle.checks.specs.Ready.{Walk, Ready, graph_in, count_is, first_leave, first_all}
use Rattle.definitions.specs.declared.Shape.{Shape}
use Rattle.sweep_rows.specs.Standing.{at}

pub first_steps : (z : Shape) (on : Walk) → Ready z on → FirstSteps (graph_in z on.read) (at on.first)
first_steps z on y = record {
  leave = λ s e h i j.
      let q : suc s ≡ s + 1 = omega arith in
      let x = first_leave z on y s e h i (omega (arith, ap (at on.first) q)) in
      (omega (arith, x.0, count_is z on.read y.tables), x.1);
  all = λ s e h i j.
      let q : suc s ≡ s + 1 = omega arith in
      let x = first_all z on y s e h i j in
      (x.0, omega (arith, x.1, ap (at on.first) q));
}
