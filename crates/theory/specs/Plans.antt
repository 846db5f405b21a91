-- Laws of legal plans: they are the ways to goal pairs, and the cost of a cheapest legal plan is the least of the goal pairs' least costs.
-- Assumes nothing.
use Rattle.std.specs.Prelude.{ℕ, suc, ◌≤◌, ◌<◌, ◌≡◌, refl, true, List, [], ◌∷◌, map}
use Rattle.std.proofs.Common.{sym, ◌∙◌, arith}
use Rattle.std.proofs.Math.Path.{ap}
use Rattle.std.proofs.Math.Option.{Option, none, some}
use Rattle.std.proofs.Math.Dec.{eqb}
use borrow.Author.Tests.{eqb-true, eq-eqb}
use Rattle.definitions.specs.Charts.{Chart}
use Rattle.definitions.specs.Diagrams.{Diagram, advance, finish}
use Rattle.definitions.specs.Ways.{Graph, IsWay, is_way, end_of, way_cost}
use Rattle.definitions.specs.Pairs.{Automaton, stands, least_cost, goal}
use Rattle.definitions.specs.Plans.{graph, variable, automaton, says_yes, Legal, legal_way, legal, cheapest}
use Rattle.theory.specs.Limits.{Valid, Ordered}
use Rattle.theory.specs.Basics.{both}
use Rattle.theory.specs.Least.{IsLeast, least_same, least_unique}
use Rattle.theory.specs.Diagrams.{Sorted, advance_once, advance_all, finish_leaf, verdict_stands}
use Rattle.theory.specs.Ways.{Rising, way_rising, Passing, least_way_least, is_way_is, is_is_way}
use Rattle.theory.specs.Variables.{variable_rises}
use Rattle.theory.specs.Pairs.{WayTo, cost_attained, cost_lower, way_reached, goal_parts, is_goal}

-- ---- the variables of a way

rising_sorted : (c : Chart) → Valid (graph c) → (w : List ℕ) (s k j : ℕ) → IsWay (graph c) s w → Rising k w
    → ((e : ℕ) → k ≤ e → e < (graph c).count → j ≤ variable c e) → Sorted j (map (variable c) w)
rising_sorted c v [] s k j i r h = tt
rising_sorted c v (e ∷ w) s k j i r h =
    (h e r.0 i.0, rising_sorted c v w ((graph c).to e) (suc e) (variable c e) i.2 r.1 (λ f l i. variable_rises c v e f (omega arith) i))

pub variables_sorted : (c : Chart) → Valid (graph c) → (w : List ℕ) (s : ℕ) → IsWay (graph c) s w → Sorted 0 (map (variable c) w)
variables_sorted c v w s i = rising_sorted c v w s 0 0 i (way_rising (graph c) v w s i) (λ e l i. omega arith)

-- two steps of one group in turn advance a node once
pub next_once : (c : Chart) (d : Diagram) → Ordered d → (e f n : ℕ) → variable c f ≡ variable c e → (automaton c d).next f ((automaton c d).next e n) ≡ (automaton c d).next e n
next_once c d o e f n q = ap (λ (k : ℕ). advance d k (advance d (variable c e) n)) q ∙ advance_once d o (variable c e) n

-- a way stands where the list of its variables stands
pub stands_variables : (c : Chart) (d : Diagram) (w : List ℕ) (n : ℕ) → stands (automaton c d) n w ≡ advance_all d n (map (variable c) w)
unfolding stands
stands_variables c d [] n = refl
stands_variables c d (e ∷ w) n = stands_variables c d w (advance d (variable c e) n)

-- ---- legal plans

-- the test that the marked table computes and the statement of the promises agree
pub legal_is : (c : Chart) (d : Diagram) (w : List ℕ) → legal c d w ≡ true → Legal c d w
unfolding legal
legal_is c d w t =
    let u = both (is_way (graph c) c.start w) (legal_way c d w) t in
    let x = both (eqb (end_of (graph c) c.start w) c.end) (says_yes c d w) u.1 in
    ((is_way_is (graph c) c.start w u.0, eqb-true _ _ x.0), x.1)

pub is_legal : (c : Chart) (d : Diagram) (w : List ℕ) → Legal c d w → legal c d w ≡ true
unfolding legal
is_legal c d w t = simp (is_is_way (graph c) c.start w t.0.0, eq-eqb _ _ t.0.1, t.1)

-- a legal plan of cost k
abbrev pub LegalCost : Chart → Diagram → ℕ → Type 0
LegalCost c d k = (w : List ℕ) × Legal c d w × (way_cost (graph c) w ≡ k)

-- a goal pair of least cost k
abbrev pub GoalCost : Graph → Automaton → ℕ → Type 0
GoalCost g a k = (n : ℕ) × (goal g a g.end n ≡ true) × (least_cost g a g.end n ≡ some k)

module _ (c : Chart) (d : Diagram) (v : Valid (graph c)) where
  -- cheapest is the least cost of a legal plan
  pub cheapest_least : IsLeast (LegalCost c d) (cheapest c d)
  unfolding cheapest
  cheapest_least =
      least_same (Passing (graph c) c.start (legal_way c d)) (LegalCost c d) (cheapest c d)
      (λ k t. let p = both (eqb (end_of (graph c) c.start t.0) c.end) (says_yes c d t.0) t.2 in
      (t.0, ((t.1, eqb-true _ _ p.0), p.1), t.3))
      (λ k t. (t.0, t.1.0.0, simp (eq-eqb _ _ t.1.0.1, t.1.1), t.2))
      (least_way_least (graph c) v c.start v.start_inside (legal_way c d))

  module _ (o : Ordered d) where
    -- a way is legal exactly where it ends at a node that finishes at 1
    pub says_yes_stands : (w : List ℕ) (s : ℕ) → IsWay (graph c) s w → says_yes c d w ≡ (automaton c d).accepts (stands (automaton c d) d.root w)
    unfolding says_yes
    says_yes_stands w s i =
        ap (λ (n : ℕ). eqb n 1) (verdict_stands d o (map (variable c) w) 0 d.root (variables_sorted c v w s i) ∙ ap (finish d) (sym (stands_variables c d w d.root)))

    -- legal plans are the ways to goal pairs
    pub goal_legal : (n k : ℕ) → (automaton c d).accepts n ≡ true → (w : WayTo (graph c) (automaton c d) c.end n k) → Legal c d w.steps
    goal_legal n k t w =
        ((w.way, w.ends), says_yes_stands w.steps c.start w.way ∙ ap (λ (m : ℕ). eqb (finish d m) 1) w.stand ∙ t)

    pub legal_goal : (w : List ℕ) → Legal c d w
        → (n : ℕ) × ((automaton c d).accepts n ≡ true) × WayTo (graph c) (automaton c d) c.end n (way_cost (graph c) w)
    legal_goal w t = (
      stands (automaton c d) d.root w,
      sym (says_yes_stands w c.start t.0.0) ∙ t.1,
      record { steps = w; way = t.0.0; ends = t.0.1; stand = refl; costs = refl },
    )

    accepts_alive : (n : ℕ) → (automaton c d).accepts n ≡ true → n ≡ 0 → ⊥
    accepts_alive n t q =
        let e : finish d n ≡ 1 = eqb-true _ _ t in omega (arith, finish_leaf d o 0 (omega arith), ap (finish d) q)

    -- the least of the goal pairs' least costs
    pub cheapest_goals : IsLeast (GoalCost (graph c) (automaton c d)) (cheapest c d)
    cheapest_goals = go (cheapest c d) cheapest_least
      where
        -- a legal plan leads to a goal pair of no higher least cost
        down : (k : ℕ) → LegalCost c d k → (j : ℕ) × GoalCost (graph c) (automaton c d) j × (j ≤ k)
        down k t =
            let x = legal_goal t.0 t.1 in
            let z = accepts_alive x.0 x.1 in
            let a = cost_lower (graph c) (automaton c d) v c.end x.0 (way_cost (graph c) t.0) z x.2 in (
              a.0,
              (x.0, is_goal (graph c) (automaton c d) x.0 (way_reached (graph c) (automaton c d) v c.end x.0 _ z x.2) x.1, a.1),
              omega (arith, t.2),
            )

        -- a goal pair's least cost is that of a legal plan
        up : (k : ℕ) → GoalCost (graph c) (automaton c d) k → LegalCost c d k
        up k t =
            let w = cost_attained (graph c) (automaton c d) c.end t.0 k t.2 in
            let p = goal_parts (graph c) (automaton c d) c.end t.0 t.1 in
            (w.steps, goal_legal t.0 k p.2 w, w.costs)

        go : (best : Option ℕ) → IsLeast (LegalCost c d) best → IsLeast (GoalCost (graph c) (automaton c d)) best
        go none l = λ k t. l k (up k t)
        go (some m) l =
            let x = down m l.0 in
            let q : x.0 ≡ m = omega (arith, l.1 x.0 (up x.0 x.1), x.2) in
            (rw q at x.1, λ k t. l.1 k (up k t))

    -- a goal pair of the least cost m, none lower: a cheapest legal plan costs m
    pub cheapest_some : (n m : ℕ) → goal (graph c) (automaton c d) c.end n ≡ true → least_cost (graph c) (automaton c d) c.end n ≡ some m
        → ((k : ℕ) → GoalCost (graph c) (automaton c d) k → m ≤ k) → cheapest c d ≡ some m
    cheapest_some n m t e low = least_unique (GoalCost (graph c) (automaton c d)) (cheapest c d) (some m) cheapest_goals ((n, t, e), low)

    -- no goal pair: no legal plan
    pub cheapest_none : ((k : ℕ) → GoalCost (graph c) (automaton c d) k → ⊥) → cheapest c d ≡ none
    cheapest_none f = least_unique (GoalCost (graph c) (automaton c d)) (cheapest c d) none cheapest_goals f
