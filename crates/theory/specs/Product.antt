-- The graph of pairs that the searches walk, on the numbers of pairs: its edges are the chart's steps. Its ways are the ways from the start with the nodes at
-- which they stand, so the best-first lemmas speak of least costs and estimates of pairs.
-- Assumes nothing.
use Rattle.std.specs.Prelude.{ℕ, ◌+◌, ◌<◌, ◌≡◌, refl}
use Rattle.std.proofs.Common.{sym, ◌∙◌, ap, ap₂, subst, subst₂}
use mathlib.Core.List.{List, [], ◌∷◌}
use Rattle.std.proofs.Math.Option.{Option, some}
use native.Mathlib.Omega.{arith}
use Rattle.definitions.specs.Ways.{Graph, IsWay, end_of, way_cost}
use Rattle.definitions.specs.Pairs.{Automaton, stands, least_cost, pair, stage_of, node_of, pairs, Estimate}
use Rattle.theory.specs.Limits.{Valid}
use Rattle.theory.specs.Basics.{at_most}
use Rattle.theory.specs.Pairs.{Lawful, WayTo, way_start, way_next, way_inside, stage_of_pair, node_of_pair, pair_of, pair_inside, node_of_inside, cost_alive, cost_attained, cost_lower}
use Rattle.theory.specs.Estimates.{ConsistentEstimate}
use Rattle.theory.specs.BestFirst.{Reach, here, then, Least, Consistent}

-- a step from the pair p to the pair q, at its cost
pub record Edge (g : Graph) (a : Automaton) (p q k : ℕ) : Type 0 where
  pub step : ℕ
  pub exists : step < g.count
  pub leaves : g.from step ≡ stage_of a p
  pub enters : q ≡ pair a (g.to step) (a.next step (node_of a p))
  pub costs : g.cost step ≡ k

-- the pair of start and root
abbrev pub start_pair : Graph → Automaton → ℕ
start_pair g a = pair a g.start a.root

abbrev pub Reaches : Graph → Automaton → ℕ → ℕ → Type 0
Reaches g a = Reach ℕ (Edge g a) (start_pair g a)

-- a way of least cost to a pair costs m
abbrev pub LeastTo : Graph → Automaton → ℕ → ℕ → Type 0
LeastTo g a = Least ℕ (Edge g a) (start_pair g a)

-- the estimate of a pair's number
abbrev pub estimate_at : Automaton → Estimate → ℕ → Option ℕ
estimate_at a h p = h (stage_of a p) (node_of a p)

module _ (g : Graph) (a : Automaton) where
  -- the steps from a pair given by its stage and node
  pub edge_to : (s n e : ℕ) → n < a.size → e < g.count → g.from e ≡ s → Edge g a (pair a s n) (pair a (g.to e) (a.next e n)) (g.cost e)
  edge_to s n e h i q = record {
    step = e;
    exists = i;
    leaves = q ∙ sym (stage_of_pair a s n h);
    enters = ap (λ (m : ℕ). pair a (g.to e) (a.next e m)) (sym (node_of_pair a s n h));
    costs = refl;
  }

  pub edge_from : (s n q k : ℕ) → n < a.size → Edge g a (pair a s n) q k
      → (e : ℕ) × (e < g.count) × (g.from e ≡ s) × (q ≡ pair a (g.to e) (a.next e n)) × (g.cost e ≡ k)
  edge_from s n q k h x = (
    x.step,
    x.exists,
    x.leaves ∙ stage_of_pair a s n h,
    x.enters ∙ ap (λ (m : ℕ). pair a (g.to x.step) (a.next x.step m)) (node_of_pair a s n h),
    x.costs,
  )

  module _ (l : Lawful g a) where
    -- the ways of this graph are the ways from the start
    pub reach_way : {p k : ℕ} → Reaches g a p k → WayTo g a (stage_of a p) (node_of a p) k
    reach_way here =
        subst₂ (λ (s n : ℕ). WayTo g a s n 0) (sym (stage_of_pair a g.start a.root l.root_inside)) (sym (node_of_pair a g.start a.root l.root_inside))
        (way_start g a)
    reach_way (then {x} {y} {k} {c} r d) =
        let e = d.step in
        let n = a.next e (node_of a x) in
        let i = l.next_inside e (node_of a x) d.exists (node_of_inside a x (omega (arith, l.root_inside))) in
        let w = way_next g a (stage_of a x) (node_of a x) k e (reach_way r) d.exists d.leaves in
        subst₂ (λ (z j : ℕ). WayTo g a (stage_of a z) (node_of a z) (k + j)) (sym d.enters) d.costs
        (subst₂ (λ (s m : ℕ). WayTo g a s m (k + g.cost e)) (sym (stage_of_pair a (g.to e) n i)) (sym (node_of_pair a (g.to e) n i)) w)

    on : (w : List ℕ) (s n k : ℕ) → n < a.size → IsWay g s w → Reaches g a (pair a s n) k → Reaches g a (pair a (end_of g s w) (stands a n w)) (k + way_cost g w)
    unfolding stands
    on [] s n k h i r = let q : k + 0 ≡ k = omega arith in rw q r
    on (e ∷ w) s n k h i r =
        let q : k + (g.cost e + way_cost g w) ≡ k + g.cost e + way_cost g w = omega arith in
        rw q (on w (g.to e) (a.next e n) (k + g.cost e) (l.next_inside e n i.0 h) i.2 (then r (edge_to s n e h i.0 i.1)))

    pub way_reach : (s n k : ℕ) → WayTo g a s n k → Reaches g a (pair a s n) k
    way_reach s n k w =
        let r = on w.steps g.start a.root 0 l.root_inside w.way here in
        let q : 0 + way_cost g w.steps ≡ k = omega (arith, w.costs) in
        rw (w.ends, w.stand, q) at r

    -- what is reached is a pair
    pub reach_inside : Valid g → (p k : ℕ) → Reaches g a p k → p < pairs g a
    reach_inside v p k r =
        let w = way_inside g a v l (stage_of a p) (node_of a p) k (reach_way r) in
        omega (arith, pair_inside g a (stage_of a p) (node_of a p) w.0 w.1, pair_of a p)

    -- the two definitions of a least cost agree: over the ways from the start, and over this graph
    pub least_is_cost : Valid g → (p m : ℕ) → (node_of a p ≡ 0 → ⊥) → LeastTo g a p m → least_cost g a (stage_of a p) (node_of a p) ≡ some m
    least_is_cost v p m h x =
        let t = cost_lower g a v (stage_of a p) (node_of a p) m h (reach_way x.attained) in
        let r = way_reach (stage_of a p) (node_of a p) t.0 (cost_attained g a (stage_of a p) (node_of a p) t.0 t.1) in
        let b = x.lower t.0 (subst (λ (q : ℕ). Reaches g a q t.0) (pair_of a p) r) in
        let q : t.0 ≡ m = omega arith in
        t.1 ∙ ap (λ (x : ℕ). some x) q

    pub cost_is_least : Valid g → (p m : ℕ) → least_cost g a (stage_of a p) (node_of a p) ≡ some m → LeastTo g a p m
    cost_is_least v p m e = record {
      attained = subst (λ (q : ℕ). Reaches g a q m) (pair_of a p) (way_reach (stage_of a p) (node_of a p) m (cost_attained g a (stage_of a p) (node_of a p) m e));
      lower = λ k r. at_most _ m k e (cost_lower g a v (stage_of a p) (node_of a p) k (cost_alive g a (stage_of a p) (node_of a p) m e) (reach_way r));
    }

    -- an estimate that is consistent on the steps is consistent on this graph
    pub consistent : (base : ℕ) (h : Estimate) → ConsistentEstimate base g a h → Consistent ℕ (Edge g a) (estimate_at a h)
    consistent base h c = record {
      step = λ p q k x hq eq.
          let e = x.step in
          let i = l.next_inside e (node_of a p) x.exists (node_of_inside a p (omega (arith, l.root_inside))) in
          let there : h (g.to e) (a.next e (node_of a p)) ≡ some hq
          = ap₂ h (sym (stage_of_pair a (g.to e) (a.next e (node_of a p)) i)) (sym (node_of_pair a (g.to e) (a.next e (node_of a p)) i))
          ∙ ap (λ (y : ℕ). h (stage_of a y) (node_of a y)) (sym x.enters) ∙ eq in
          let t = c.step e (node_of a p) hq x.exists (hq, there, omega arith) in
          (t.0, ap (λ (s : ℕ). h s (node_of a p)) (sym x.leaves) ∙ t.1, omega (arith, x.costs, t.2));
    }
