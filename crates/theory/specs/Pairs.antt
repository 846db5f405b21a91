-- Laws of pairs: their numbers, the ways to them, and their least costs, over any graph and any automaton that meets `Lawful`.
-- Assumes nothing.
use Rattle.std.specs.Prelude.{ℕ, ◌+◌, ◌≤◌, ◌<◌, ◌≡◌, Bool, true, false, ◌&&◌, length}
use Rattle.std.proofs.Math.Path.{refl, ap, ap₂}
use Rattle.std.proofs.Common.{sym, ◌∙◌, arith, div-lt_iff_lt-mul, div-mul-le_self}
use mathlib.Core.List.{List, [], ◌∷◌, ◌++◌, Memᴰ}
use Rattle.std.proofs.Math.Option.{Option, none, some}
use Rattle.std.proofs.Math.Nat.{mod-eq-sub-div-mul, lt-div-mul-add}
use Rattle.std.proofs.Math.Arith.{digits_lt, digits_div, digits_mod}
use Rattle.std.proofs.Math.Dec.{eqb}
use borrow.Author.Tests.{eqb-true, eq-eqb, ne_eqb}
use Rattle.definitions.specs.Basics.{is_some, sum_of, upto}
use Rattle.definitions.specs.Charts.{Chart, group_count}
use Rattle.definitions.specs.Diagrams.{Diagram, finish}
use Rattle.definitions.specs.Ways.{Graph, IsWay, end_of, way_cost, least_way}
use Rattle.definitions.specs.Pairs.{Automaton, stands, least_cost, reached, goal, pair, stage_of, node_of, pairs, reached_pairs, Estimate, sum}
use Rattle.definitions.specs.Plans.{graph, automaton, variable}
use Rattle.theory.specs.Limits.{Valid, Sound}
use Rattle.theory.specs.Basics.{both, pick_true, pick_false, AtMost, none_not_some, sum_of_some, sum_of_parts, keep_in, run_in}
use Rattle.theory.specs.Least.{IsLeast, least_of}
use Rattle.theory.specs.Diagrams.{advance_leaf, advance_le, finish_leaf}
use Rattle.theory.specs.Ways.{end_inside, way_bounded, least_way_lower, least_way_attained, snoc_way, snoc_end, snoc_cost, snoc_stands}

-- ---- what is asked of an automaton over a graph

pub record Lawful (g : Graph) (a : Automaton) : Type 0 where
  pub root_inside : a.root < a.size
  pub next_inside : (e n : ℕ) → e < g.count → n < a.size → a.next e n < a.size
  pub next_dead : (e : ℕ) → e < g.count → a.next e 0 ≡ 0
  pub dead : a.accepts 0 ≡ false

-- every sound diagram gives such an automaton
pub lawful : (c : Chart) (d : Diagram) → Sound (group_count c) d → Lawful (graph c) (automaton c d)
lawful c d s = record {
  root_inside = s.root_inside;
  next_inside = λ e n h i. omega (arith, advance_le d s.ordered (variable c e) n);
  next_dead = λ e h. advance_leaf d s.ordered (variable c e) 0 (omega arith);
  dead = ne_eqb (finish d 0) 1 (λ q. omega (arith, finish_leaf d s.ordered 0 (omega arith)));
}

module _ (g : Graph) (a : Automaton) (l : Lawful g a) where
  pub stands_inside : (w : List ℕ) (s n : ℕ) → IsWay g s w → n < a.size → stands a n w < a.size
  unfolding stands
  stands_inside [] s n i h = h
  stands_inside (e ∷ w) s n i h = stands_inside w (g.to e) (a.next e n) i.2 (l.next_inside e n i.0 h)

  -- no way leads on from node 0
  pub stands_dead : (w : List ℕ) (s : ℕ) → IsWay g s w → stands a 0 w ≡ 0
  unfolding stands
  stands_dead [] s i = refl
  stands_dead (e ∷ w) s i = rw (l.next_dead e i.0) (stands_dead w (g.to e) i.2)

-- ---- the numbers of pairs

module _ (a : Automaton) where
  pub stage_of_pair : (s n : ℕ) → n < a.size → stage_of a (pair a s n) ≡ s
  stage_of_pair s n h = digits_div s h

  pub node_of_pair : (s n : ℕ) → n < a.size → node_of a (pair a s n) ≡ n
  node_of_pair s n h = digits_mod s h

  -- pairs of different numbers differ
  pub pair_apart : (s n t m : ℕ) → n < a.size → m < a.size → pair a s n ≡ pair a t m → (s ≡ t) × (n ≡ m)
  pair_apart s n t m h i q = (
    sym (stage_of_pair s n h) ∙ ap (λ (p : ℕ). stage_of a p) q ∙ stage_of_pair t m i,
    sym (node_of_pair s n h) ∙ ap (λ (p : ℕ). node_of a p) q ∙ node_of_pair t m i,
  )

  -- every number is that of a pair
  pub pair_of : (p : ℕ) → pair a (stage_of a p) (node_of a p) ≡ p
  pair_of p = omega (arith, mod-eq-sub-div-mul p a.size, div-mul-le_self p a.size)

  pub node_of_inside : (p : ℕ) → 0 < a.size → node_of a p < a.size
  node_of_inside p h = omega (arith, mod-eq-sub-div-mul p a.size, lt-div-mul-add {a = p} h)

module _ (g : Graph) (a : Automaton) where
  pub pair_inside : (s n : ℕ) → s < g.stages → n < a.size → pair a s n < pairs g a
  pair_inside s n h i = digits_lt h i

  pub stage_of_inside : (p : ℕ) → 0 < a.size → p < pairs g a → stage_of a p < g.stages
  stage_of_inside p h i = (div-lt_iff_lt-mul h).1 i

-- ---- the ways to a pair

-- a way from the start to a pair, of a cost
pub record WayTo (g : Graph) (a : Automaton) (s n k : ℕ) : Type 0 where
  pub steps : List ℕ
  pub way : IsWay g g.start steps
  pub ends : end_of g g.start steps ≡ s
  pub stand : stands a a.root steps ≡ n
  pub costs : way_cost g steps ≡ k

module _ (g : Graph) (a : Automaton) where
  -- the empty way
  unfoldable pub way_start : WayTo g a g.start a.root 0
  unfolding stands
  way_start = record { steps = []; way = tt; ends = refl; stand = refl; costs = refl }

  -- a way and one step more
  unfoldable pub way_next : (s n k e : ℕ) → WayTo g a s n k → e < g.count → g.from e ≡ s → WayTo g a (g.to e) (a.next e n) (k + g.cost e)
  way_next s n k e w h q = record {
    steps = w.steps ++ e ∷ [];
    way = snoc_way g e w.steps g.start w.way h (q ∙ sym w.ends);
    ends = snoc_end g e w.steps g.start;
    stand = snoc_stands a e w.steps a.root ∙ ap (a.next e) w.stand;
    costs = omega (arith, snoc_cost g e w.steps, w.costs);
  }

  -- where a way leads, and what it costs at most
  pub way_inside : Valid g → Lawful g a → (s n k : ℕ) → WayTo g a s n k → (s < g.stages) × (n < a.size) × (k ≤ 510000000)
  way_inside v l s n k w = (
    omega (arith, end_inside g v w.steps g.start v.start_inside w.way, w.ends),
    omega (arith, stands_inside g a l w.steps g.start a.root w.way l.root_inside, w.stand),
    omega (arith, way_bounded g v w.steps g.start v.start_inside w.way, w.costs),
  )

  -- ---- least costs

  abbrev passes : ℕ → ℕ → List ℕ → Bool
  passes s n w = eqb (end_of g g.start w) s && eqb (stands a a.root w) n

  least_cost_is : (s n : ℕ) → (n ≡ 0 → ⊥) → least_cost g a s n ≡ least_way g g.start (passes s n)
  unfolding least_cost
  least_cost_is s n h = pick_false _ _ _ (ne_eqb n 0 h)

  pub least_cost_zero : (s : ℕ) → least_cost g a s 0 ≡ none
  unfolding least_cost
  least_cost_zero s = pick_true _ _ _ (eq-eqb 0 0 refl)

  -- node 0 has no least cost
  pub cost_alive : (s n m : ℕ) → least_cost g a s n ≡ some m → n ≡ 0 → ⊥
  cost_alive s n m e q = none_not_some m (sym (least_cost_zero s) ∙ ap (least_cost g a s) (sym q) ∙ e)

  -- the least cost is that of a way
  pub cost_attained : (s n m : ℕ) → least_cost g a s n ≡ some m → WayTo g a s n m
  cost_attained s n m e =
      let u = least_way_attained g g.start (passes s n) m (sym (least_cost_is s n (cost_alive s n m e)) ∙ e) in
      let p = both (eqb (end_of g g.start u.0) s) (eqb (stands a a.root u.0) n) u.2 in
      record { steps = u.0; way = u.1; ends = eqb-true _ _ p.0; stand = eqb-true _ _ p.1; costs = u.3 }

  module _ (v : Valid g) where
    -- and at most that of each way
    pub cost_lower : (s n k : ℕ) → (n ≡ 0 → ⊥) → WayTo g a s n k → AtMost (least_cost g a s n) k
    cost_lower s n k h w =
        rw (least_cost_is s n h, ← w.costs)
        (least_way_lower g v g.start v.start_inside (passes s n) w.steps w.way (simp (eq-eqb _ _ w.ends, eq-eqb _ _ w.stand)))

    pub least_cost_least : (s n : ℕ) → (n ≡ 0 → ⊥) → IsLeast (WayTo g a s n) (least_cost g a s n)
    least_cost_least s n h = least_of (WayTo g a s n) (least_cost g a s n) (cost_attained s n) (λ k w. cost_lower s n k h w)

    -- ---- reached pairs

    pub way_reached : (s n k : ℕ) → (n ≡ 0 → ⊥) → WayTo g a s n k → reached g a s n ≡ true
    unfolding reached
    way_reached s n k h w = let t = cost_lower s n k h w in ap (λ (o : Option ℕ). is_some o) t.1

  pub cost_reached : (s n m : ℕ) → least_cost g a s n ≡ some m → reached g a s n ≡ true
  unfolding reached
  cost_reached s n m e = ap (λ (o : Option ℕ). is_some o) e

  -- the members of the list of reached pairs
  pub reached_pairs_in : (p : ℕ) → p < pairs g a → reached g a (stage_of a p) (node_of a p) ≡ true → Memᴰ p (reached_pairs g a)
  unfolding reached_pairs
  reached_pairs_in p h t =
      keep_in (λ p. reached g a (stage_of a p) (node_of a p)) (upto (pairs g a)) (run_in 0 (pairs g a) p (omega arith) (omega arith)) t

  -- ---- goals and sums

  pub goal_parts : (s n : ℕ) → goal g a s n ≡ true → (reached g a s n ≡ true) × (s ≡ g.end) × (a.accepts n ≡ true)
  unfolding goal
  goal_parts s n t =
      let u = both (reached g a s n && eqb s g.end) (a.accepts n) t in
      let x = both (reached g a s n) (eqb s g.end) u.0 in
      (x.0, eqb-true _ _ x.1, u.1)

  pub is_goal : (n : ℕ) → reached g a g.end n ≡ true → a.accepts n ≡ true → goal g a g.end n ≡ true
  unfolding goal
  is_goal n r t = simp (r, eq-eqb g.end g.end refl, t)

  pub sum_some : (h : Estimate) (s n x y : ℕ) → least_cost g a s n ≡ some x → h s n ≡ some y → sum g a h s n ≡ some (x + y)
  unfolding sum
  sum_some h s n x y p q = ap₂ (λ (u w : Option ℕ). sum_of u w) p q ∙ sum_of_some x y

  pub sum_parts : (h : Estimate) (s n k : ℕ) → sum g a h s n ≡ some k
      → (x y : ℕ) × (least_cost g a s n ≡ some x) × (h s n ≡ some y) × (k ≡ x + y)
  unfolding sum
  sum_parts h s n k e = sum_of_parts (least_cost g a s n) (h s n) k e
