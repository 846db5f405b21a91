-- Laws of the estimates (heuristics): the chart estimate, the diagram estimate and the larger of both are consistent, 0 at goal pairs, admissible and bounded.
-- Assumes nothing.
use Rattle.std.specs.Prelude.{ℕ, zero, suc, ◌+◌, ◌*◌, ◌≤◌, ◌<◌, max, ◌≡◌, true, ◌⊎◌, length}
use Rattle.std.proofs.Math.Path.{refl, ap}
use Rattle.std.proofs.Common.{sym, ◌∙◌, ap₂, inl, inr, arith}
use mathlib.Core.List.{List, [], ◌∷◌}
use Rattle.std.proofs.Math.Option.{Option, none, some}
use Rattle.std.proofs.Math.Dec.{eqb}
use borrow.Author.Tests.{eqb-true, eq-eqb}
use Rattle.definitions.specs.Basics.{smaller, larger, sum_of}
use Rattle.definitions.specs.Charts.{Chart, group_count}
use Rattle.definitions.specs.Diagrams.{Diagram, size, inner, advance, finish}
use Rattle.definitions.specs.Ways.{Graph, IsWay, end_of, way_cost}
use Rattle.definitions.specs.Pairs.{Automaton, stands, goal, to_end, Estimate}
use Rattle.definitions.specs.Plans.{graph, automaton, variable, variable_cost, chart_estimate, leaf_estimate, diagram_estimate, estimate}
use Rattle.theory.specs.Limits.{Small, Valid, Ordered, Sound}
use Rattle.theory.specs.Basics.{Order, less, same, more, order, AtMost, none_not_some, some_inj, at_most_zero, weaken, smaller_left, smaller_right, smaller_cases, sum_of_at_most, sum_of_parts, larger_at_most, larger_left, larger_right, larger_parts, larger_none_right}
use Rattle.theory.specs.Diagrams.{induction, descend_leaf, descend_inner, advance_leaf, advance_below, advance_at, advance_above, finish_leaf, finish_inner}
use Rattle.theory.specs.Variables.{gap_cost, variable_cost_at_most, variable_cost_cheap}
use Rattle.theory.specs.Pairs.{goal_parts}
use Rattle.theory.specs.Ways.{way_climbs, way_cheap, least_way_lower, least_way_attained}

-- ---- any estimate

-- a step lowers the estimate by at most its cost, and the estimate is the same number, `base`, wherever a way may end
pub record ConsistentEstimate (base : ℕ) (g : Graph) (a : Automaton) (h : Estimate) : Type 0 where
  pub step : (e n m : ℕ) → e < g.count → AtMost (h (g.to e) (a.next e n)) m → AtMost (h (g.from e) n) (g.cost e + m)
  pub goal : (n : ℕ) → a.accepts n ≡ true → h g.end n ≡ some base

-- then it is admissible: above `base`, at most what any way costs that leads on to the end and to a node that accepts
pub admissible : (base : ℕ) (g : Graph) (a : Automaton) (h : Estimate) → ConsistentEstimate base g a h → (w : List ℕ) (s n : ℕ) → IsWay g s w → end_of g s w ≡ g.end
    → a.accepts (stands a n w) ≡ true → AtMost (h s n) (way_cost g w + base)
unfolding stands
admissible base g a h c [] s n i q t = (base, rw q (c.goal n t), omega arith)
admissible base g a h c (e ∷ w) s n i q t =
    rw (← i.1) (weaken _ _ _ (c.step e n (way_cost g w + base) i.0 (admissible base g a h c w (g.to e) (a.next e n) i.2 q t)) (omega arith))

-- and it is `base` at every goal pair
pub goal_estimate : (base : ℕ) (g : Graph) (a : Automaton) (h : Estimate) → ConsistentEstimate base g a h → (s n : ℕ) → goal g a s n ≡ true → h s n ≡ some base
goal_estimate base g a h c s n t = let p = goal_parts g a s n t in rw p.1 (c.goal n p.2)

-- the larger of two consistent estimates is consistent
pub larger_consistent : (base : ℕ) (g : Graph) (a : Automaton) (h i : Estimate) → ConsistentEstimate base g a h → ConsistentEstimate base g a i
    → ConsistentEstimate base g a (λ s n. larger (h s n) (i s n))
unfolding larger
larger_consistent base g a h i c b = record {
  step = λ e n m l t. larger_at_most _ _ _ (c.step e n m l (larger_left _ _ m t)) (b.step e n m l (larger_right (h (g.to e) (a.next e n)) _ m t));
  goal = λ n t. let q : max base base ≡ base = omega arith in ap₂ larger (c.goal n t) (b.goal n t) ∙ ap (λ (m : ℕ). some m) q;
}

-- ---- the chart estimate

module _ (g : Graph) (v : Valid g) where
  pub to_end_step : (e m : ℕ) → e < g.count → AtMost (to_end g (g.to e)) m → AtMost (to_end g (g.from e)) (g.cost e + m)
  unfolding to_end
  to_end_step e m h t =
      let u = least_way_attained g (g.to e) _ t.0 t.1 in
      weaken _ _ _
      (least_way_lower g v (g.from e) (omega (arith, v.forward e h, v.inside e h)) (λ w. eqb (end_of g (g.from e) w) g.end) (e ∷ u.0) (h, refl, u.1) u.2)
      (omega arith)

  pub to_end_end : to_end g g.end ≡ some 0
  unfolding to_end
  to_end_end = at_most_zero _ (least_way_lower g v g.end v.end_inside _ [] tt (eq-eqb g.end g.end refl))

  pub to_end_bounded : (s m : ℕ) → to_end g s ≡ some m → m ≤ 510000000
  unfolding to_end
  to_end_bounded s m e =
      let u = least_way_attained g s _ m e in
      let q : end_of g s u.0 ≡ g.end = eqb-true _ _ u.2 in
      omega (arith, way_climbs g v u.0 s u.1, way_cheap g v u.0 s u.1, v.end_inside, v.few_stages, u.3)

pub chart_consistent : (c : Chart) (a : Automaton) → Valid (graph c) → ConsistentEstimate 0 (graph c) a (λ s n. chart_estimate c s)
unfolding chart_estimate
chart_consistent c a v = record { step = λ e n m h t. to_end_step (graph c) v e m h t; goal = λ n t. to_end_end (graph c) v }

pub chart_admissible : (c : Chart) → Valid (graph c) → (w : List ℕ) (s : ℕ) → IsWay (graph c) s w → end_of (graph c) s w ≡ c.end
    → AtMost (chart_estimate c s) (way_cost (graph c) w)
unfolding chart_estimate to_end
chart_admissible c v w s i q =
    least_way_lower (graph c) v s (omega (arith, way_climbs (graph c) v w s i, v.end_inside)) _ w i (eq-eqb _ _ q)

pub chart_bounded : (c : Chart) → Valid (graph c) → (s m : ℕ) → chart_estimate c s ≡ some m → m ≤ 510000000
unfolding chart_estimate
chart_bounded c v s m e = to_end_bounded (graph c) v s m e

-- ---- the diagram estimate

module _ (c : Chart) (d : Diagram) (o : Ordered d) where
  pub diagram_estimate_leaf : (n : ℕ) → n < 2 → diagram_estimate c d n ≡ leaf_estimate n
  unfolding diagram_estimate
  diagram_estimate_leaf n h = descend_leaf d o _ _ n h

  pub diagram_estimate_inner : (n : ℕ) → 2 ≤ n
      → diagram_estimate c d n ≡ smaller (diagram_estimate c d (inner d n).lo) (sum_of (variable_cost c (inner d n).step) (diagram_estimate c d (inner d n).hi))
  unfolding diagram_estimate
  diagram_estimate_inner n h = descend_inner d o _ _ n h

  -- the hi of a node that asks for a group without steps is ignored, also where lo has no estimate
  pub diagram_estimate_gap : (n : ℕ) → 2 ≤ n → ((e : ℕ) → e < (graph c).count → (graph c).group e ≡ (inner d n).step → ⊥) → diagram_estimate c d n ≡ diagram_estimate c d (inner d n).lo
  unfolding smaller sum_of
  diagram_estimate_gap n h gap =
      diagram_estimate_inner n h ∙ ap (λ (o : Option ℕ). smaller (diagram_estimate c d (inner d n).lo) (sum_of o (diagram_estimate c d (inner d n).hi))) (gap_cost c (inner d n).step gap)
      ∙ smaller_none (diagram_estimate c d (inner d n).lo)
    where
      smaller_none : (o : Option ℕ) → smaller o none ≡ o
      smaller_none none = refl
      smaller_none (some x) = refl

  -- a variable's cost at most j, the estimate after it at most m: before it at most j + m
  pub diagram_step : (k j m n : ℕ) → AtMost (variable_cost c k) j → AtMost (diagram_estimate c d (advance d k n)) m → AtMost (diagram_estimate c d n) (j + m)
  diagram_step k j m n u =
      induction d o (λ n. AtMost (diagram_estimate c d (advance d k n)) m → AtMost (diagram_estimate c d n) (j + m))
      (λ n h t. weaken _ _ _ (rw (advance_leaf d o k n h) at t) (omega arith))
      (λ n h l r. node n h l (order (inner d n).step k)) n
    where
      node : (n : ℕ) → 2 ≤ n
          → (AtMost (diagram_estimate c d (advance d k (inner d n).lo)) m → AtMost (diagram_estimate c d (inner d n).lo) (j + m))
          → Order (inner d n).step k → AtMost (diagram_estimate c d (advance d k n)) m → AtMost (diagram_estimate c d n) (j + m)
      node n h l (less q) t = rw (diagram_estimate_inner n h) (smaller_left _ _ _ (l (rw (advance_below d o k n h q) at t)))
      node n h l (same q) t =
          rw (diagram_estimate_inner n h, q) (smaller_right _ _ _ (sum_of_at_most (variable_cost c k) _ j m u (rw (advance_at d o k n h q) at t)))
      node n h l (more q) t = weaken (diagram_estimate c d n) m (j + m) (rw (advance_above d o k n h q) at t) (omega arith)

  pub diagram_goal : (n : ℕ) → finish d n ≡ 1 → AtMost (diagram_estimate c d n) 0
  diagram_goal =
      induction d o (λ n. finish d n ≡ 1 → AtMost (diagram_estimate c d n) 0)
      (λ n h e. let q : n ≡ 1 = sym (finish_leaf d o n h) ∙ e in rw q (0, diagram_estimate_leaf 1 (omega arith), omega arith))
      (λ n h l r e. rw (diagram_estimate_inner n h) (smaller_left _ _ _ (l (sym (finish_inner d o n h) ∙ e))))

  pub diagram_consistent : ConsistentEstimate 0 (graph c) (automaton c d) (λ s n. diagram_estimate c d n)
  diagram_consistent = record {
    step = λ e n m h t. diagram_step (variable c e) ((graph c).cost e) m n (variable_cost_at_most c e h) t;
    goal = λ n t. at_most_zero _ (diagram_goal n (eqb-true _ _ t));
  }

  pub diagram_admissible : (w : List ℕ) (s n : ℕ) → IsWay (graph c) s w → end_of (graph c) s w ≡ c.end
      → (automaton c d).accepts (stands (automaton c d) n w) ≡ true → AtMost (diagram_estimate c d n) (way_cost (graph c) w)
  diagram_admissible w s n i q t = weaken _ _ _ (admissible 0 (graph c) (automaton c d) (λ s n. diagram_estimate c d n) diagram_consistent w s n i q t) (omega arith)

  -- the estimate of a pair
  pub pair_consistent : Valid (graph c) → ConsistentEstimate 0 (graph c) (automaton c d) (estimate c d)
  unfolding estimate
  pair_consistent v = larger_consistent 0 (graph c) (automaton c d) _ _ (chart_consistent c (automaton c d) v) diagram_consistent

  pub pair_admissible : Valid (graph c) → (w : List ℕ) (s n : ℕ) → IsWay (graph c) s w → end_of (graph c) s w ≡ c.end
      → (automaton c d).accepts (stands (automaton c d) n w) ≡ true → AtMost (estimate c d s n) (way_cost (graph c) w)
  pair_admissible v w s n i q t = weaken _ _ _ (admissible 0 (graph c) (automaton c d) (estimate c d) (pair_consistent v) w s n i q t) (omega arith)

  pub estimate_dead : (s : ℕ) → estimate c d s 0 ≡ none
  unfolding estimate
  estimate_dead s = ap (larger (chart_estimate c s)) (diagram_estimate_leaf 0 (omega arith)) ∙ larger_none_right (chart_estimate c s)

-- ---- bounds

module _ (c : Chart) (d : Diagram) (v : Valid (graph c)) (small : Small c) (s : Sound (group_count c) d) where
  -- each inner node below adds at most one step's cost
  abbrev Bounded : ℕ → Type 0
  Bounded n = n < size d → (m : ℕ) → diagram_estimate c d n ≡ some m → m + 1000000 ≤ n * 1000000

  by_depth : (n : ℕ) → Bounded n
  by_depth = induction d s.ordered Bounded leaf node
    where
      leaf : (n : ℕ) → n < 2 → Bounded n
      leaf zero h i m e = absurd (none_not_some m (sym (diagram_estimate_leaf c d s.ordered 0 h) ∙ e))
      leaf (suc n) h i m e = omega (arith, some_inj 0 m (sym (diagram_estimate_leaf c d s.ordered (suc n) h) ∙ e))

      node : (n : ℕ) → 2 ≤ n → Bounded (inner d n).lo → Bounded (inner d n).hi → Bounded n
      node n h l r i m e =
          let b = s.ordered.lo_below n h in
          let t = s.ordered.hi_below n h in
          let x = smaller_cases _ _ m (sym (diagram_estimate_inner c d s.ordered n h) ∙ e) in
          go b t x
        where
          go : (inner d n).lo < n → (inner d n).hi < n
              → (diagram_estimate c d (inner d n).lo ≡ some m) ⊎ (sum_of (variable_cost c (inner d n).step) (diagram_estimate c d (inner d n).hi) ≡ some m)
              → m + 1000000 ≤ n * 1000000
          go b t (inl q) = omega (arith, l (omega arith) m q)
          go b t (inr q) =
              let x = sum_of_parts _ _ m q in
              omega (arith, r (omega arith) x.1 x.3, variable_cost_cheap c (inner d n).step small x.0 x.2, x.4)

  pub diagram_bounded : (n m : ℕ) → n < size d → diagram_estimate c d n ≡ some m → m ≤ 510000000
  diagram_bounded n m h e = omega (arith, by_depth n h m e, s.few)

  pub estimate_bounded : (t n m : ℕ) → n < size d → estimate c d t n ≡ some m → m ≤ 510000000
  unfolding estimate
  estimate_bounded t n m h e =
      let x = larger_parts _ _ m e in
      omega (arith, x.4, chart_bounded c v t x.0 x.2, diagram_bounded n x.1 h x.3)
