-- Two calls on the same files agree, by what both searches promise alike.
-- Assumes nothing.
use Rattle.std.specs.Prelude.{ℕ, ◌≤◌, ◌≡◌, List, ◌⊎◌}
use Rattle.std.proofs.Common.{sym, ◌∙◌, inl, inr, arith}
use Rattle.definitions.specs.Charts.{Chart}
use Rattle.definitions.specs.Diagrams.{Diagram}
use Rattle.demands.specs.Demands.{Call, Files, Passes, Refusal, Searched, Agree}
use Rattle.demands.specs.Checked.{load_of, Judged, chart_bad, rules_bad, too_short, all_pass, chart_load, rules_load, held_alike}
use Rattle.demands.proofs.Checked.{judged}
use Rattle.demands.specs.Results.{Promised, Found, Lacks}
use Rattle.demands.proofs.Results.{ends, searched_passes, answer_is, demand_1}

-- both were searched
alike : (x y : Call) (c : Chart) (d : Diagram) → Found x c d ⊎ Lacks x c d → Found y c d ⊎ Lacks y c d
    → (x.answer.number ≡ y.answer.number) × (x.answer.cost ≡ y.answer.cost)
alike x y c d (inl t) (inl u) = (
  t.number ∙ sym u.number,
  omega (arith, t.least u.given.steps u.given.legal, u.least t.given.steps t.given.legal, t.given.cost, u.given.cost),
)
alike x y c d (inl t) (inr u) = absurd (u.legal t.given.steps t.given.legal)
alike x y c d (inr t) (inl u) = absurd (t.legal u.given.steps u.given.legal)
alike x y c d (inr t) (inr u) = (t.answer.number ∙ sym u.answer.number, t.answer.cost ∙ sym u.answer.cost)

module _ (chart rules : List ℕ) where
  module _ (x y : Call) (promise : Promised (load_of chart rules x) x) (promise' : Promised (load_of chart rules y) y) where
    -- for the same chart and diagram
    pub same_pass : Searched x.answer → Searched y.answer → (c : Chart) × (d : Diagram) × Passes chart rules x c d × Passes chart rules y c d
    same_pass h i =
        let a = searched_passes chart rules x promise h in
        let b = searched_passes chart rules y promise' i in
        (a.0, a.1, a.2, held_alike chart rules _ _ _ _ b.2.files a.2.files (Passes chart rules y) b.2)

    together : Searched x.answer → Searched y.answer → (x.answer.number ≡ y.answer.number) × (x.answer.cost ≡ y.answer.cost)
    together h i =
        let a = same_pass h i in
        alike x y a.0 a.1 (ends chart rules x promise a.0 a.1 a.2) (ends chart rules y promise' a.0 a.1 a.3)

    -- both were refused: for the same reason
    both_refused : Judged chart rules x → Judged chart rules y → (Searched x.answer → ⊥) → (Searched y.answer → ⊥) → x.answer ≡ y.answer
    both_refused (chart_bad p e) k h i = answer_is chart rules x promise _ _ _ e ∙ sym (answer_is chart rules y promise' _ _ _ (chart_load chart rules y p))
    both_refused (rules_bad p u e) k h i = answer_is chart rules x promise _ _ _ e ∙ sym (answer_is chart rules y promise' _ _ _ (rules_load chart rules y p u))
    both_refused (all_pass a e) k h i = absurd (h ((demand_1 chart rules x promise).passed _ _ a))
    both_refused (too_short f s e) (chart_bad p e') h i = absurd (p f.chart_passes)
    both_refused (too_short f s e) (rules_bad p u e') h i = absurd (u f.rules_pass)
    both_refused (too_short f s e) (too_short f' s' e') h i = answer_is chart rules x promise 7 0 0 e ∙ sym (answer_is chart rules y promise' 7 0 0 e')
    both_refused (too_short f s e) (all_pass a e') h i = absurd (i ((demand_1 chart rules y promise').passed _ _ a))

    -- one alone was refused: its slices are too short
    short : (Searched x.answer → ⊥) → Searched y.answer → Refusal 7 0 0 0 x.answer
    short h i = go (judged chart rules x) (searched_passes chart rules y promise' i).2.files
      where
        go : {c : Chart} {d : Diagram} → Judged chart rules x → Files chart rules c d → Refusal 7 0 0 0 x.answer
        go (chart_bad p e) g = absurd (p g.chart_passes)
        go (rules_bad p u e) g = absurd (u g.rules_pass)
        go (too_short f s e) g = (demand_1 chart rules x promise).space_refused _ _ f s
        go (all_pass a e) g = absurd (h ((demand_1 chart rules x promise).passed _ _ a))

  module _ (x y : Call) (promise : Promised (load_of chart rules x) x) (promise' : Promised (load_of chart rules y) y) where
    pub agreed : (Searched x.answer → Searched y.answer → y.answer.count ≤ x.answer.count) → Agree x.answer y.answer
    agreed few = record {
      number = λ h i. (together x y promise promise' h i).0;
      cost = λ h i. (together x y promise promise' h i).1;
      fewer = few;
      refused = both_refused x y promise promise' (judged chart rules x) (judged chart rules y);
      sweep_short = short x y promise promise';
      guided_short = λ h i. short y x promise' promise i h;
    }
