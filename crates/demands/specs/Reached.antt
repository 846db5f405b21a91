-- Reached pairs, sums, goal pairs and steps between them: what the promises compute (`least_cost`, `sum`, `goal`) says what the demands say over ways.
-- Assumes nothing.
use Rattle.std.specs.Prelude.{ℕ, ◌+◌, ◌/◌, ◌%◌, ◌<◌, ◌≡◌, refl, true, List}
use Rattle.std.proofs.Common.{sym, ◌∙◌, ap, arith, div-lt_iff_lt-mul, eqb-true, eq-eqb}
use Rattle.std.proofs.Math.Option.{Option, none, some}
use Rattle.definitions.specs.Basics.{is_some}
use Rattle.definitions.specs.Charts.{Chart}
use Rattle.definitions.specs.Diagrams.{Diagram, size, finish}
use Rattle.definitions.specs.Ways.{way_cost}
use Rattle.definitions.specs.Pairs.{least_cost, reached, goal}
use Rattle.definitions.specs.Plans.{graph, automaton, estimate}
use Rattle.definitions.specs.Promises as promises
use Rattle.definitions.specs.Promises.{sum_at, goal_at}
use Rattle.theory.specs.Basics.{at_most, true_not_false}
use Rattle.theory.specs.Least.{least_unique}
use Rattle.theory.specs.Limits.{Valid}
use Rattle.theory.specs.Ways.{end_inside}
use Rattle.theory.specs.Pairs.{WayTo, cost_alive, cost_attained, cost_lower, cost_reached, least_cost_least, goal_parts, is_goal, sum_some, sum_parts}
use Rattle.demands.specs.Demands.{need, LeadsTo, Reached, Sum, Goal, Follows}

-- a number where the test says so
some_of : (o : Option ℕ) → is_some o ≡ true → (m : ℕ) × (o ≡ some m)
some_of none e = absurd (true_not_false (sym e))
some_of (some m) e = (m, refl)

module _ (c : Chart) (d : Diagram) (v : Valid (graph c)) where
  -- ---- least costs

  way_to : (p : ℕ) (w : List ℕ) → LeadsTo c d p w → WayTo (graph c) (automaton c d) (p / size d) (p % size d) (way_cost (graph c) w)
  way_to p w t = record { steps = w; way = t.0; ends = t.1; stand = t.2; costs = refl }

  pub is_reached : (p m : ℕ) → least_cost (graph c) (automaton c d) (p / size d) (p % size d) ≡ some m → Reached c d p m
  is_reached p m e =
      let z = cost_alive (graph c) (automaton c d) (p / size d) (p % size d) m e in
      let w = cost_attained (graph c) (automaton c d) (p / size d) (p % size d) m e in
      record {
        alive = z;
        way = (w.steps, (w.way, w.ends, w.stand), w.costs);
        least = λ u t. at_most _ m _ e (cost_lower (graph c) (automaton c d) v (p / size d) (p % size d) _ z (way_to p u t));
      }

  pub reached_is : (p m : ℕ) → Reached c d p m → least_cost (graph c) (automaton c d) (p / size d) (p % size d) ≡ some m
  reached_is p m r =
      let way : WayTo (graph c) (automaton c d) (p / size d) (p % size d) m = record {
        steps = r.way.0;
        way = r.way.1.0;
        ends = r.way.1.1;
        stand = r.way.1.2;
        costs = r.way.2;
      } in
      least_unique (WayTo (graph c) (automaton c d) (p / size d) (p % size d)) _ (some m)
      (least_cost_least (graph c) (automaton c d) v (p / size d) (p % size d) r.alive)
      (way, λ k w. omega (arith, r.least w.steps (w.way, w.ends, w.stand), w.costs))

  -- a reached pair is one of the stage count × N
  pub reached_inside : (p m : ℕ) → Reached c d p m → p < need c d
  reached_inside p m r =
      let t = r.way.1 in
      let l : p / size d < c.stages = omega (arith, end_inside (graph c) v r.way.0 c.start v.start_inside t.0, t.1) in
      let z : 0 < size d = omega arith in
      (div-lt_iff_lt-mul z).0 l

  -- ---- sums

  pub is_sum : (p k : ℕ) → sum_at (graph c) (automaton c d) (estimate c d) p ≡ some k → Sum c d p k
  is_sum p k e =
      let t = sum_parts (graph c) (automaton c d) (estimate c d) (p / size d) (p % size d) k e in
      record { cost = t.0; reached = is_reached p t.0 t.2; left = t.1; estimated = t.3; adds = t.4 }

  pub sum_is : (p k : ℕ) → Sum c d p k → sum_at (graph c) (automaton c d) (estimate c d) p ≡ some k
  sum_is p k s =
      sum_some (graph c) (automaton c d) (estimate c d) (p / size d) (p % size d) s.cost s.left (reached_is p s.cost s.reached) s.estimated
      ∙ ap (λ (n : ℕ). some n) (sym s.adds)

  pub sum_inside : (p k : ℕ) → Sum c d p k → p < need c d
  sum_inside p k s = reached_inside p s.cost s.reached

  -- ---- goal pairs

  pub reached_cost : (p : ℕ) → reached (graph c) (automaton c d) (p / size d) (p % size d) ≡ true → (m : ℕ) × Reached c d p m
  unfolding reached
  reached_cost p t = let s = some_of _ t in (s.0, is_reached p s.0 s.1)

  pub is_goal_pair : (p : ℕ) → goal_at (graph c) (automaton c d) (estimate c d) p ≡ true → Goal c d p
  is_goal_pair p t =
      let u = goal_parts (graph c) (automaton c d) (p / size d) (p % size d) t in
      let m = reached_cost p u.0 in
      record { cost = m.0; reached = m.1; ends = u.1; finishes = eqb-true (finish d (p % size d)) 1 u.2 }

  pub goal_pair_is : (p : ℕ) → Goal c d p → goal_at (graph c) (automaton c d) (estimate c d) p ≡ true
  goal_pair_is p t =
      let e = ap (λ (s : ℕ). least_cost (graph c) (automaton c d) s (p % size d)) (sym t.ends) ∙ reached_is p t.cost t.reached in
      ap (λ (s : ℕ). goal (graph c) (automaton c d) s (p % size d)) t.ends
      ∙ is_goal (graph c) (automaton c d) (p % size d) (cost_reached (graph c) (automaton c d) c.end (p % size d) t.cost e)
      (eq-eqb (finish d (p % size d)) 1 t.finishes)

  -- ---- one step

  pub is_next : (p q : ℕ) → promises.Follows (graph c) (automaton c d) (estimate c d) p q → Follows c d p q
  is_next p q f = record {
    step = f.step;
    exists = f.exists;
    leaves = f.leaves;
    enters = f.enters;
    cost = f.before;
    reached = is_reached p f.before f.least_before;
    least = is_reached q (f.before + (graph c).cost f.step) f.least;
  }

  pub next_is : (p q : ℕ) → Follows c d p q → promises.Follows (graph c) (automaton c d) (estimate c d) p q
  next_is p q f = record {
    step = f.step;
    exists = f.exists;
    leaves = f.leaves;
    enters = f.enters;
    before = f.cost;
    least_before = reached_is p f.cost f.reached;
    least = reached_is q (f.cost + (graph c).cost f.step) f.least;
  }
