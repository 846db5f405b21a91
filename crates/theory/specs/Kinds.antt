-- Charts of one graph and as many groups: all that is said of one is said of the other. So it is of a chart whose steps name no groups, and the chart of the same
-- steps that name the groups 0, 1, 2 ...
-- Assumes nothing.
use Prim.Native.Nat.{ℕ, zero, suc, ◌*◌, ◌<◌}
use Rattle.std.specs.Prelude.{◌≡◌, refl, Bool, true, false, ◌&&◌, List, [], ◌∷◌, map, ltb, length, get_or, take}
use Rattle.std.proofs.Common.{sym, ◌∙◌, subst}
use Rattle.std.proofs.Math.Path.{ap}
use Rattle.std.proofs.Math.Option.{Option, none, some}
use Rattle.std.proofs.Math.Dec.{eqb}
use Rattle.definitions.specs.Basics.{smaller, larger, sum_of, above, has, keep, least, upto}
use Rattle.definitions.specs.Charts.{Chart, ChartStep, plain, grouped, no_step, headed, group_count}
use Rattle.definitions.specs.Diagrams.{Diagram, size, descend, advance, finish, verdict}
use Rattle.definitions.specs.Ways.{Graph, IsWay, end_of, least_way, way_cost}
use Rattle.definitions.specs.Pairs.{Automaton, to_end}
use Rattle.definitions.specs.Plans.{graph, variable, variable_cost, automaton, says_yes, Legal, cheapest, chart_estimate, leaf_estimate, diagram_estimate, estimate}
use Rattle.definitions.specs.Answers.{ready, ready_two, work_need}
use Rattle.definitions.specs.Promises.{Planned, Outcome, Scratch, SweepSlices, SweepPromise, GuidedSlices, Logged, GuidedPromise, CycleSearched, CycledIf, on_chart, no_cycle, EachCycled, CycleSlices, CyclesPromise, ConjoinSlices, ConjoinPromise, ReducePromise}
use Rattle.definitions.specs.declared.Answer.{Answer}
use Rattle.definitions.specs.declared.Cycle.{Cycle}
use Rattle.theory.specs.Limits.{OneKind}

-- ---- all that a definition asks of a chart is its graph

module _ (c c' : Chart) (same : graph c ≡ graph c') where
  -- the same variables, at the same costs
  pub same_variable : (e : ℕ) → variable c e ≡ variable c' e
  unfolding variable
  same_variable e = ap (λ (g : Graph). g.group e) same

  pub same_cost : (k : ℕ) → variable_cost c k ≡ variable_cost c' k
  unfolding variable_cost variable
  same_cost k = ap (λ (g : Graph). least (map g.cost (keep (λ e. eqb (g.group e) k) (upto g.count)))) same

  module _ (d : Diagram) where
    -- the same automaton
    pub same_automaton : automaton c d ≡ automaton c' d
    unfolding variable
    same_automaton = ap by same
      where
        by : Graph → Automaton
        by g = record { size = size d; root = d.root; next = λ e n. advance d (g.group e) n; accepts = λ n. eqb (finish d n) 1 }

    -- the same verdicts, legal plans and cheapest ones
    pub same_says : (w : List ℕ) → says_yes c d w ≡ says_yes c' d w
    unfolding says_yes variable
    same_says w = ap (λ (g : Graph). eqb (verdict d (has (map g.group w)) d.root) 1) same

    pub same_legal : (w : List ℕ) → Legal c d w → Legal c' d w
    same_legal w x = (subst (λ (g : Graph). IsWay g g.start w × (end_of g g.start w ≡ g.end)) same x.0, sym (same_says w) ∙ x.1)

    pub same_cheapest : cheapest c d ≡ cheapest c' d
    unfolding cheapest says_yes variable
    same_cheapest =
        ap (λ (g : Graph). least_way g g.start (λ w. eqb (end_of g g.start w) g.end && eqb (verdict d (has (map g.group w)) d.root) 1)) same

    -- the same estimates
    pub same_stage : (s : ℕ) → chart_estimate c s ≡ chart_estimate c' s
    unfolding chart_estimate
    same_stage s = ap (λ (g : Graph). to_end g s) same

    pub same_node : (n : ℕ) → diagram_estimate c d n ≡ diagram_estimate c' d n
    unfolding diagram_estimate
    same_node n = ap (λ (cost : ℕ → Option ℕ). descend d leaf_estimate (λ n x lo hi. smaller lo (sum_of (cost x.step) hi)) n) (λ i k. same_cost k i)

    pub same_estimate : estimate c d ≡ estimate c' d
    unfolding estimate
    same_estimate = λ i s n. larger (same_stage s i) (same_node n i)

    same_need : work_need c d ≡ work_need c' d
    same_need = ap (λ (g : Graph). g.stages * size d) same

    -- ---- so every promise says the same of both

    same_outcome : (o : Option ℕ) (k : ℕ) (plan plan' : List ℕ) (r : Answer) → Outcome o c d k plan plan' r → Outcome o c' d k plan plan' r
    same_outcome none k plan plan' r x = x
    same_outcome (some m) k plan plan' r x = (
      x.0,
      record {
        fits = x.1.fits;
        legal = same_legal (take r.length plan') x.1.legal;
        costs = subst (λ (g : Graph). way_cost g (take r.length plan') ≡ m) same x.1.costs;
        long = x.1.long;
        rest = x.1.rest;
      },
    )

    same_scratch : (work work' : List ℕ) → Scratch (ready c d) work work' → Scratch (ready c' d) work work'
    same_scratch work work' x = rw (← same_need) x

    same_logged : (count : ℕ) (log log' : List ℕ) → Logged (graph c) (automaton c d) (estimate c d) (cheapest c d) count log log'
        → Logged (graph c') (automaton c' d) (estimate c' d) (cheapest c' d) count log log'
    same_logged count log log' x = rw (← same, ← same_automaton, ← same_estimate, ← same_cheapest) x

    pub same_sweep : (before after : SweepSlices) (r : Answer) → SweepPromise (ready c d) before after r → SweepPromise (ready c' d) before after r
    same_sweep before after r x = record {
      swept = (
        rw (← same_cheapest, ← same, ← same_automaton) (same_outcome (cheapest c d) _ before.plan after.plan r x.swept.0),
        rw (← same, ← same_automaton, ← same_need) x.swept.1,
      );
      via = same_scratch _ _ x.via;
      nodes = same_scratch _ _ x.nodes;
    }

    pub same_guided : (before after : GuidedSlices) (r : Answer) → GuidedPromise (ready c d) before after r → GuidedPromise (ready c' d) before after r
    same_guided before after r x = record {
      guided = (
        rw (← same_cheapest) (same_outcome (cheapest c d) r.count before.plan after.plan r x.guided.0),
        same_logged r.count before.log after.log x.guided.1,
      );
      keys = same_scratch _ _ x.keys;
      via = same_scratch _ _ x.via;
      heap = same_scratch _ _ x.heap;
      pos = same_scratch _ _ x.pos;
      stack = same_scratch _ _ x.stack;
    }

    same_searched : (x x' : Cycle) → CycleSearched c d x x' → CycleSearched c' d x x'
    same_searched x x' y = record {
      log = y.log;
      logged = same_logged (length y.log) y.log y.log y.logged;
      answered = rw (← same_cheapest) y.answered;
    }

-- a list asks for the graph with another start and end
same_headed : (c c' : Chart) (start end : ℕ) → graph c ≡ graph c' → graph (headed c start end) ≡ graph (headed c' start end)
same_headed c c' start end same = ap by same
  where
    by : Graph → Graph
    by g = record { stages = g.stages; start = start; end = end; count = g.count; from = g.from; to = g.to; cost = g.cost; group = g.group }

module _ (c c' : Chart) (same : graph c ≡ graph c') (d : Diagram) where
  same_cycled : (b : Bool) (x x' : Cycle) → CycledIf b c d x x' → CycledIf b c' d x x'
  same_cycled false x x' y = y
  same_cycled true x x' y = same_searched (headed c x.start x.end) (headed c' x.start x.end) (same_headed c c' x.start x.end same) d x x' y

  pub same_cycles : (before after : CycleSlices) (list list' : List Cycle) (r : Answer) → CyclesPromise (ready c d) before after list list' r
      → CyclesPromise (ready c' d) before after list list' r
  same_cycles before after list list' r x = record {
    listed = (
      x.listed.0,
      record {
        long = x.listed.1.long;
        each = λ i h.
            let y = get_or list i no_cycle in
            let y' = get_or list' i no_cycle in
            subst (λ (b : Bool). CycledIf b c' d y y') (on y) (same_cycled (on_chart c y) y y' (x.listed.1.each i h));
      },
    );
    keys = same_scratch c c' same d _ _ x.keys;
    via = same_scratch c c' same d _ _ x.via;
    heap = same_scratch c c' same d _ _ x.heap;
    pos = same_scratch c c' same d _ _ x.pos;
    stack = same_scratch c c' same d _ _ x.stack;
    log = same_scratch c c' same d _ _ x.log;
  }
    where
      on : (x : Cycle) → on_chart c x ≡ on_chart c' x
      on x = ap (λ (g : Graph). ltb x.start g.stages && ltb x.end g.stages) same

-- conjunction and reduction ask only for the number of groups
module _ (c c' : Chart) (same : group_count c ≡ group_count c') (d : Diagram) where
  pub same_conjoin : (e : Diagram) (before after : ConjoinSlices) (r : Answer) → ConjoinPromise (ready_two c d e) before after r → ConjoinPromise (ready_two c' d e) before after r
  same_conjoin e before after r x = rw (← same) x

  pub same_reduce : (out out' : List ℕ) (r : Answer) → ReducePromise (ready c d) out out' r → ReducePromise (ready c' d) out out' r
  same_reduce out out' r x = rw (← same) x

-- ---- the chart of the same steps with their groups named

abbrev pub named : ChartStep → ChartStep
named x = record { tag = grouped; from = x.from; to = x.to; cost = x.cost; group = x.group }

abbrev pub named_chart : Chart → Chart
named_chart c = record { stages = c.stages; start = c.start; end = c.end; steps = map named c.steps }

-- all but the kind of a step stays, past the last one too
module _ {A : Type 0} (of : ChartStep → A) (same : (x : ChartStep) → of (named x) ≡ of x) where
  stays : (l : List ChartStep) (e : ℕ) → of (get_or (map named l) e no_step) ≡ of (get_or l e no_step)
  stays [] e = refl
  stays (x ∷ l) zero = same x
  stays (x ∷ l) (suc e) = stays l e

same_length : (l : List ChartStep) → length (map named l) ≡ length l
same_length [] = refl
same_length (x ∷ l) = ap suc (same_length l)

same_groups : (l : List ChartStep) → map (λ (x : ChartStep). x.group) (map named l) ≡ map (λ (x : ChartStep). x.group) l
same_groups [] = refl
same_groups (x ∷ l) = ap (λ (r : List ℕ). x.group ∷ r) (same_groups l)

module _ (c : Chart) where
  pub named_graph : graph (named_chart c) ≡ graph c
  named_graph = λ i. record {
    stages = c.stages;
    start = c.start;
    end = c.end;
    count = same_length c.steps i;
    from = λ e. stays (λ x. x.from) (λ x. refl) c.steps e i;
    to = λ e. stays (λ x. x.to) (λ x. refl) c.steps e i;
    cost = λ e. stays (λ x. x.cost) (λ x. refl) c.steps e i;
    group = λ e. stays (λ x. x.group) (λ x. refl) c.steps e i;
  }

  -- a diagram over one is a diagram over the other
  pub named_groups : group_count (named_chart c) ≡ group_count c
  unfolding group_count
  named_groups = ap above (same_groups c.steps)

  -- where no step names a group, as read from a file, the names are 0, 1, 2 ..
  pub named_own : OneKind c → (e : ℕ) → e < (graph c).count → (get_or c.steps e no_step).tag ≡ plain → (graph (named_chart c)).group e ≡ e
  named_own kinds e h q = ap (λ (g : Graph). g.group e) named_graph ∙ kinds.alone e h q
