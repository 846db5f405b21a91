-- Laws of `conclude`: the cheapest goal pair of the end stage's row is that of a cheapest legal plan, and its trail is such a plan.
-- Assumes nothing.
use Prim.Native.Nat.{ℕ, ◌+◌, ◌*◌, ◌≤◌, ◌<◌}
use mathlib.Core.Path.{◌≡◌, refl, sym, ◌∙◌, ap, ap₂, subst}
use mathlib.Core.Bool.{Bool, true, false}
use mathlib.Core.List.{List, ◌++◌}
use mathlib.Core.Option.{Option, none, some}
use native.Mathlib.Omega.{arith}
use lib.ListN.{length, get_or, take, drop, length-append, length-drop}
use lib.Seq.{take-append_seam, drop-append_seam}
use Rattle.std.specs.Prelude.{None}
use Rattle.definitions.specs.Basics.{NONE}
use Rattle.definitions.specs.Charts.{Chart}
use Rattle.definitions.specs.Diagrams.{Diagram, size}
use Rattle.definitions.specs.Ways.{Graph, way_cost}
use Rattle.definitions.specs.Pairs.{Automaton, least_cost}
use Rattle.definitions.specs.Plans.{Legal, cheapest}
use Rattle.definitions.specs.Answers.{refusal, accepted}
use Rattle.definitions.specs.Promises.{shown}
use Rattle.definitions.specs.declared.Answer.{Answer}
use Rattle.definitions.specs.declared.Shape.{Shape}
use Rattle.theory.specs.Basics.{true_not_false}
use Rattle.theory.specs.Limits.{Valid, Ordered}
use Rattle.theory.specs.Pairs.{Lawful, way_inside, cost_attained, cost_reached, is_goal, goal_parts, pair_inside}
use Rattle.theory.specs.Plans.{GoalCost, cheapest_some, cheapest_none, goal_legal}
use Rattle.diagram.specs.Held.{length_held}
use Rattle.nodes.specs.Walks.{Falls, Finishing}
use Rattle.nodes.specs.Falling.{lo_falls}
use Rattle.rows.specs.Rows.{row_at}
use Rattle.trace.specs.Trails.{Trail, Traceable}
use Rattle.sweep_model.specs.Model.{Rows, cost_at, node_at, count_at}
use Rattle.sweep_model.specs.Rows.{Table, count_fits}
use Rattle.sweep_model.specs.Totals.{total}
use Rattle.sweep_model.specs.Paths.{Traced, traced}
use Rattle.checks.specs.Tables.{Read, chart_in, diagram_in}
use Rattle.checks.specs.Ready.{graph_in, automaton_in, count_is, width_is, few_stages, few_nodes, from_at, lawful_in}
use Rattle.sweep_rows.specs.Standing.{at}
use Rattle.sweep_ends.specs.Goals.{Listed, Cheapest, Chosen}
use Rattle.sweep.specs.Runs.{Final, Concludes}
use Rattle.sweep_ends.specs.declared.goals.Best.{Best}

shown_some : (o : Option ℕ) (m : ℕ) → m ≡ shown o → m < NONE → o ≡ some m
shown_some none m e h = absurd (omega arith)
shown_some (some x) m e h = ap (λ (k : ℕ). some k) (sym e)

module _ {z : Shape} {t : Read} {row : List ℕ} {r : Rows} (f : Final z t row r) where
  abbrev c : Chart
  c = chart_in z t

  abbrev d : Diagram
  d = diagram_in z t

  abbrev g : Graph
  g = graph_in z t

  abbrev a : Automaton
  a = automaton_in z t

  abbrev end : ℕ
  end = z.end.0

  abbrev valid : Valid g
  valid = f.tables.valid

  abbrev ordered : Ordered d
  ordered = f.tables.sound.ordered

  abbrev l : Lawful g a
  l = lawful_in z t f.tables

  abbrev table : Table g a g.stages r
  table = f.finished.table

  abbrev size_is : a.size ≡ z.nodes + 2
  size_is = width_is z t f.tables

  pub end_falls : Falls t.inner.lo (z.nodes + 1)
  end_falls = lo_falls d t.inner.step t.inner.lo t.inner.hi f.tables.held (z.nodes + 1) (omega (arith, length_held z.nodes t.inner.step t.inner.lo t.inner.hi))

  -- where the end stage's row starts, and how many of its nodes are listed
  abbrev base : ℕ
  base = get_or row end 0

  abbrev listed : ℕ
  listed = count_at r end

  base_is : base ≡ end * a.size
  base_is =
      ap (λ (x : List ℕ). get_or x end 0) f.rows_are ∙ row_at z.stages (z.nodes + 2) end (few_stages z t f.tables) valid.end_inside
      ∙ ap (λ (w : ℕ). end * w) (sym size_is)

  node_is : (k : ℕ) → get_or r.nodes (base + k) 0 ≡ node_at a.size r end k
  node_is k = ap (λ (i : ℕ). get_or r.nodes (i + k) 0) base_is

  pub end_listed : Listed base listed r.cost r.nodes
  end_listed = record {
    place = λ k h.
        let few = count_fits g a g.stages r table end valid.end_inside in
        omega (arith, base_is, table.nodes_fits, pair_inside g a end k valid.end_inside (omega arith));
    small = λ k h. omega (arith, node_is k, table.lists end k valid.end_inside (omega arith), size_is, few_nodes z t f.tables);
    pair = λ k h.
        let inside = (table.lists end k valid.end_inside (omega arith)).0 in
        omega (arith, base_is, node_is k, table.cost_fits, pair_inside g a end (node_at a.size r end k) valid.end_inside inside);
  }

  -- which nodes are goals
  module _ {goals : List Bool} (fin : Finishing t.inner.lo z.nodes goals) where
    goal_is : (n : ℕ) → n < size d → get_or goals n false ≡ a.accepts n
    goal_is n h = fin.is d t.inner.step t.inner.hi f.tables.held (omega (arith, length_held z.nodes t.inner.step t.inner.lo t.inner.hi)) n h

    -- each cost of a goal is that of a listed one
    record GoalListed (k : ℕ) : Type 0 where
      pub place : ℕ
      pub inside : place < listed
      pub goal : get_or goals (get_or r.nodes (base + place) 0) false ≡ true
      pub costs : get_or r.cost (base + get_or r.nodes (base + place) 0) 0 ≡ k

    goal_listed : (k : ℕ) → GoalCost g a k → GoalListed k
    goal_listed k x =
        let n = x.0 in
        let few = way_inside g a valid l end n k (cost_attained g a end n k x.2) in
        let cost : cost_at a.size r end n ≡ k = f.finished.cost_is end n valid.end_inside few.1 ∙ ap shown x.2 in
        let j = table.listed end n valid.end_inside few.1 (omega (arith, few)) in
        let node : get_or r.nodes (base + j.0) 0 ≡ n = node_is j.0 ∙ j.2 in
        record {
          place = j.0;
          inside = j.1;
          goal = ap (λ (m : ℕ). get_or goals m false) node ∙ goal_is n few.1 ∙ (goal_parts g a end n x.1).2;
          costs = ap₂ (λ (b m : ℕ). get_or r.cost (b + m) 0) base_is node ∙ cost;
        }

    -- no listed node is a goal
    module _ (no_goal : Chosen base listed r.cost r.nodes goals None) where
      none_found : cheapest c d ≡ none
      none_found =
          cheapest_none c d valid ordered
          (λ k x. let y = goal_listed k x in absurd (true_not_false (sym y.goal ∙ no_goal y.place y.inside)))

      pub concludes_none : {count : ℕ} {plan : List ℕ} {ans : Answer} → count ≡ total (at r.counts) z.stages → ans ≡ refusal 8 0 0 count
          → Concludes z t plan plan ans
      concludes_none en e = record { outcome = rw none_found (e ∙ ap (λ (k : ℕ). refusal 8 0 0 k) (en ∙ f.finished.count_is), refl) }

    -- the best of the row's goal pairs
    module _ {best : Best} (ch : Cheapest base listed r.cost r.nodes goals best) where
      -- no goal pair is cheaper than it
      low : (k : ℕ) → GoalCost g a k → best.cost ≤ k
      low k x = let y = goal_listed k x in omega (arith, ch.least y.place y.inside y.goal, y.costs)

      abbrev node : ℕ
      node = best.node.0

      abbrev found : (k : ℕ) × (k < listed) × (get_or r.nodes (base + k) 0 ≡ node) × (get_or goals node false ≡ true) × (get_or r.cost (base + node) 0 ≡ best.cost)
      found = ch.one

      at_node : node_at a.size r end found.0 ≡ node
      at_node = sym (node_is found.0) ∙ found.2

      inside : node < a.size
      inside = omega (arith, table.lists end found.0 valid.end_inside (omega (arith, found.1)), at_node)

      accepts : a.accepts node ≡ true
      accepts = sym (goal_is node inside) ∙ found.3

      best_cost : cost_at a.size r end node ≡ best.cost
      best_cost = ap (λ (b : ℕ). get_or r.cost (b + node) 0) (sym base_is) ∙ found.4

      cheap : best.cost < NONE
      cheap = omega (arith, (table.lists end found.0 valid.end_inside (omega (arith, found.1))).1, ap (cost_at a.size r end) at_node, best_cost)

      least_is : least_cost g a end node ≡ some best.cost
      least_is = shown_some _ best.cost (sym best_cost ∙ f.finished.cost_is end node valid.end_inside inside) cheap

      some_found : cheapest c d ≡ some best.cost
      some_found = cheapest_some c d valid ordered node best.cost (is_goal g a node (cost_reached g a end node best.cost least_is) accepts) least_is low

      abbrev from : List ℕ
      from = t.steps.from

      best_traced : Traced g a r.via from end node best.cost
      best_traced =
          subst (Traced g a r.via from end node) best_cost
          (traced g a valid g.stages r table from (λ e i. from_at z t f.tables e (omega (arith, count_is z t f.tables))) end node valid.end_inside inside (omega (arith, best_cost, cheap)))

      pub end_traceable : Traceable r.via from row z.start.0 end node
      end_traceable = record {
        stages = z.stages;
        width = z.nodes + 2;
        rows = f.rows_are;
        few = few_stages z t f.tables;
        narrow = omega (arith, few_nodes z t f.tables);
        fits = omega (arith, table.via_fits, ap (λ (w : ℕ). z.stages * w) size_is);
        stage = valid.end_inside;
        node = omega (arith, size_is, inside);
        steps = best_traced.way.steps;
        trail = subst (λ (w : ℕ). Trail r.via from w z.start.0 end node best_traced.way.steps) size_is best_traced.trail;
      }

      -- the trail written to the plan slice is the promised plan
      pub concludes_some : {count k : ℕ} {plan plan' : List ℕ} {ans : Answer} → count ≡ total (at r.counts) z.stages
          → (k ≡ length end_traceable.steps) × (plan' ≡ end_traceable.steps ++ drop k plan) → length plan' ≡ length plan
          → ans ≡ accepted best.cost k count → Concludes z t plan plan' ans
      unfolding end_traceable
      concludes_some {count} {k} {plan} {plan'} {ans} en written long ea =
          let w = best_traced.way in
          let q : ans.length ≡ length w.steps = ap (λ (x : Answer). x.length) ea ∙ written.0 in
          let taken : take ans.length plan' ≡ w.steps = ap₂ (λ (i : ℕ) (x : List ℕ). take i x) q written.1 ∙ take-append_seam w.steps (drop k plan) in
          record {
            outcome = rw some_found (
              ea ∙ ap₂ (λ (i n : ℕ). accepted best.cost i n) (written.0 ∙ sym q) (en ∙ f.finished.count_is),
              record {
                fits = omega (arith, ap length written.1, length-append w.steps (drop k plan), length-drop k plan);
                legal = subst (Legal c d) (sym taken) (goal_legal c d valid ordered node best.cost accepts w);
                costs = ap (way_cost g) taken ∙ w.costs;
                long = long;
                rest = ap₂ (λ (i : ℕ) (x : List ℕ). drop i x) q written.1 ∙ drop-append_seam w.steps (drop k plan) ∙ ap (λ (i : ℕ). drop i plan) (written.0 ∙ sym q);
              },
            );
          }
