-- The answer, on each way through `conclude`.
-- Assumes nothing.
use Prim.Native.Nat.{ℕ}
use mathlib.Core.Path.{◌≡◌, sym, ◌∙◌, ap, subst}
use mathlib.Core.List.{List, ◌++◌}
use lib.ListN.{length, drop}
use Rattle.std.specs.Prelude.{Some}
use Rattle.std.proofs.lemmas.Option.{none-some}
use Rattle.definitions.specs.Answers.{accepted}
use Rattle.definitions.specs.declared.Answer.{Answer}
use Rattle.definitions.specs.declared.Shape.{Shape}
use Rattle.chart.specs.Tables.{Steps}
use Rattle.guided_ends.specs.Ends.{Trails, Concludes}
use Rattle.guided_ends.specs.declared.Goal.{Goal}
use Rattle.guided_ends.specs.declared.Ended.{Ended}

module _ {z : Shape} {via : List ℕ} {steps : Steps} {row : List ℕ} {e : Ended} {plan : List ℕ} where
  pub concludes_found : {g : Goal} → e.goal ≡ Some g → {l : ℕ} {plan' : List ℕ} → ((x : Trails z via steps row g) → (l ≡ length x.steps) × (plan' ≡ x.steps ++ drop l plan)) → {r : Answer}
      → r ≡ accepted g.cost l e.count → Concludes z via steps row e plan plan' r
  concludes_found {g} f {l} {plan'} written {r} er = record {
    found = λ h q.
        let same : g ≡ h = cc in
        subst (λ (i : Goal). (x : Trails z via steps row i) → (r ≡ accepted i.cost (length x.steps) e.count) × (plan' ≡ x.steps ++ drop (length x.steps) plan)) same (λ x.
        let w = written x in
        (er ∙ ap (λ (k : ℕ). accepted g.cost k e.count) w.0, w.1 ∙ ap (λ (k : ℕ). x.steps ++ drop k plan) w.0));
    not_found = λ q. absurd (none-some g (sym q ∙ f));
  }
