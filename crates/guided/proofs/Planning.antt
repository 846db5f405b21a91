-- The answer with a plan, and without one.
-- Assumes nothing.
use Prim.Native.Nat.{ℕ, ◌≤◌}
use mathlib.Core.Path.{◌≡◌, refl, sym, ◌∙◌, ap, subst}
use mathlib.Core.List.{List, ◌++◌}
use mathlib.Core.Option.{Option, none, some}
use lib.ListN.{length, take, drop}
use lib.Seq.{take-append_seam, drop-append_seam}
use Rattle.definitions.specs.Charts.{Chart}
use Rattle.definitions.specs.Diagrams.{Diagram}
use Rattle.definitions.specs.Ways.{way_cost}
use Rattle.definitions.specs.Plans.{graph, Legal, cheapest}
use Rattle.definitions.specs.Answers.{refusal, accepted}
use Rattle.definitions.specs.Promises.{Outcome}
use Rattle.definitions.specs.declared.Answer.{Answer}

module _ (c : Chart) (d : Diagram) (count : ℕ) (plan : List ℕ) where
  pub outcome_some : (m : ℕ) (w plan' : List ℕ) (r : Answer) → cheapest c d ≡ some m → Legal c d w → way_cost (graph c) w ≡ m → length w ≤ length plan
      → r ≡ accepted m (length w) count → plan' ≡ w ++ drop (length w) plan → length plan' ≡ length plan → Outcome (cheapest c d) c d r.count plan plan' r
  outcome_some m w plan' r best legal costs fits er ep long =
      subst (λ (a : Answer). Outcome (cheapest c d) c d a.count plan plan' a) (sym er)
      (subst (λ (o : Option ℕ). Outcome o c d count plan plan' (accepted m (length w) count)) (sym best) (
        refl,
        record {
          fits = fits;
          legal = subst (Legal c d) (sym front) legal;
          costs = ap (way_cost (graph c)) front ∙ costs;
          long = long;
          rest = ap (drop (length w)) ep ∙ drop-append_seam w (drop (length w) plan);
        },
      ))
    where
      front : take (length w) plan' ≡ w
      front = ap (take (length w)) ep ∙ take-append_seam w (drop (length w) plan)

  pub outcome_none : (plan' : List ℕ) (r : Answer) → cheapest c d ≡ none → r ≡ refusal 8 0 0 count → plan' ≡ plan → Outcome (cheapest c d) c d r.count plan plan' r
  outcome_none plan' r best er ep =
      subst (λ (a : Answer). Outcome (cheapest c d) c d a.count plan plan' a) (sym er)
      (subst (λ (o : Option ℕ). Outcome o c d count plan plan' (refusal 8 0 0 count)) (sym best) (refl, ep))
