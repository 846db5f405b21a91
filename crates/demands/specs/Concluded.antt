-- What a caller of both searches concludes, by the clauses of the demands that follow from the others and that `Converse` has no need of: `Agree` (`Alike`, proved in
-- proofs/Concluded.antt), that a plan is given where one is legal, and that 8 comes where none is. And that costs are whole ticks.
-- Assumes nothing.
use Rattle.std.specs.Prelude.{ℕ, ◌%◌, ◌≤◌, ◌≡◌, List, ◌↔◌}
use Rattle.std.proofs.Common.{◌∙◌, ap}
use Rattle.definitions.specs.Charts.{Chart}
use Rattle.definitions.specs.Diagrams.{Diagram}
use Rattle.definitions.specs.Plans.{graph, Legal}
use Rattle.definitions.specs.declared.Answer.{Answer}
use Rattle.theory.specs.Ways.{way_ticked}
use Rattle.demands.specs.Demands.{Call, Passes, NoPlan, Demand2, Cheapest}
use Rattle.demands.specs.Checked.{ticked, held_alike}

-- two answers that differ in the length of the plan and the count alone, and the second counts no more
pub record Alike (r q : Answer) : Type 0 where
  pub number : r.number ≡ q.number
  pub file : r.file ≡ q.file
  pub place : r.place ≡ q.place
  pub cost : r.cost ≡ q.cost
  pub fewer : q.count ≤ r.count

-- ---- one call, and two on the same files

module _ (chart rules : List ℕ) where
  -- a plan is given exactly where all checks pass and some plan is legal
  pub plan_exactly : (x : Call) → Demand2 chart rules x → ((c : Chart) (d : Diagram) → Passes chart rules x c d → Cheapest c d x.answer)
      → (x.answer.number ≡ 0) ↔ ((c : Chart) × (d : Diagram) × Passes chart rules x c d × (w : List ℕ) × Legal c d w)
  plan_exactly x two cheap = (
    λ z. let g = two.given z in (g.0, g.1, g.2, g.3.steps, g.3.legal),
    λ t. (cheap t.0 t.1 t.2 t.3 t.4).0,
  )

  -- what a plan costs is whole ticks
  pub whole_ticks : (x : Call) → Demand2 chart rules x → x.answer.number ≡ 0 → x.answer.cost % 50 ≡ 0
  whole_ticks x two z =
      let g = two.given z in
      ap (λ (k : ℕ). k % 50) g.3.cost ∙ way_ticked (graph g.0) (ticked chart rules g.0 g.1 g.2.files) g.3.steps g.0.start g.3.legal.0.0

  -- where one call is 8, each that passes all checks is
  pub eight_alike : (x y : Call) → Demand2 chart rules x → Demand2 chart rules y → (c : Chart) (d : Diagram) → Passes chart rules y c d
      → x.answer.number ≡ 8 → y.answer.number ≡ 8
  eight_alike x y two two' c d a z =
      let g = two.exactly.0 z in
      two'.exactly.1 (c, d, a, held_alike chart rules _ _ _ _ g.2.files a.files NoPlan g.3)
