-- The tables of the search, from those of the chart and the diagram; the larger of both estimates guides it.
-- Assumes nothing.
use Prim.Native.Nat.{ℕ, ◌+◌, ◌≤◌, ◌<◌, max}
use mathlib.Core.Path.{◌≡◌, refl, sym, ◌∙◌, subst}
use mathlib.Core.List.{List}
use mathlib.Core.Option.{Option, none, some}
use mathlib.Core.Logic.{◌⊎◌, inl, inr}
use native.Mathlib.Omega.{arith}
use native.Mathlib.Decide.{dec_lt}
use lib.ListN.{get_or}
use Rattle.definitions.specs.Basics.{NONE, larger}
use Rattle.definitions.specs.Charts.{Chart, no_step, plain, group_count}
use Rattle.definitions.specs.Diagrams.{Diagram, size}
use Rattle.definitions.specs.Ways.{Graph}
use Rattle.definitions.specs.Pairs.{Automaton}
use Rattle.definitions.specs.Plans.{chart_estimate, diagram_estimate, estimate}
use Rattle.definitions.specs.Promises.{shown}
use Rattle.definitions.specs.declared.Shape.{Shape}
use Rattle.std.specs.Prelude.{None}
use Rattle.std.proofs.lemmas.Option.{none-some}
use Rattle.theory.specs.Basics.{either}
use Rattle.theory.specs.Limits.{Sound}
use Rattle.theory.specs.Estimates.{chart_bounded, diagram_bounded}
use Rattle.chart_stages.specs.FirstSteps.{SortedTable}
use Rattle.chart_stages.specs.HeldGraph.{held_sorted}
use Rattle.chart_stages.specs.Estimates.{EstimateTable}
use Rattle.nodes.specs.Walks.{Falls}
use Rattle.nodes.specs.Falling.{lo_falls, hi_falls}
use Rattle.node_estimates.specs.Estimates.{Priced, Costs}
use Rattle.node_estimates.specs.Prices.{costs_of, priced}
use Rattle.chart.specs.Held.{held_tag}
use Rattle.checks.specs.Tables.{Read, Named, chart_in, diagram_in, Tables}
use Rattle.checks.specs.Ready.{Walk, graph_in, automaton_in, count_is, width_is, few_stages, few_nodes, cost_at_lem}
use Rattle.guided_model.specs.State.{Guide}
use Rattle.guided_model.specs.Guides.{guide, estimate_until}
use Rattle.guided_model.specs.Bounds.{estimate_none, estimate_some}
use Rattle.guided_model.specs.Charts.{NoneSettled, none_begun}
use Rattle.guided_expand.specs.Guides.{Guides}
use Rattle.guided_offers.specs.Estimates.{estimates, paired, Holds}
use Rattle.guided_offers.specs.Work.{Work, past_same}
use Rattle.guided_loop.specs.Search.{Space, Start, Searched}
use Rattle.guided_ends.specs.declared.Ended.{Ended}
use Rattle.guided_seek.specs.Seeks.{estimate_in, Prepared, Sought}

-- the larger of two entries is that of the larger estimate, since none is shown by the largest number
larger_shown : (a b : Option ℕ) (x y : ℕ) → x ≡ shown a → y ≡ shown b → ((m : ℕ) → a ≡ some m → m ≤ 510000000) → ((m : ℕ) → b ≡ some m → m ≤ 510000000)
    → max x y ≡ shown (larger a b)
unfolding larger
larger_shown none none x y p q i j = omega arith
larger_shown none (some m) x y p q i j = omega (arith, j m refl)
larger_shown (some k) none x y p q i j = omega (arith, i k refl)
larger_shown (some k) (some m) x y p q i j = omega arith

module _ {z : Shape} {t : Read} (in_tables : Tables z t) where
  abbrev C : Chart
  C = chart_in z t

  abbrev D : Diagram
  D = diagram_in z t

  abbrev g : Graph
  g = graph_in z t

  abbrev a : Automaton
  a = automaton_in z t

  pub sound : Sound (group_count C) D
  sound = in_tables.sound

  width : size D ≡ z.nodes + 2
  width = width_is z t in_tables

  -- where the first step is not grouped, the column of costs has what each group costs
  pub plain_costs : (Named t → ⊥) → Costs C t.steps.cost
  plain_costs n = costs_of C t.steps.cost in_tables.kinds (go (dec_lt 0 z.steps)) (λ e h. cost_at_lem z t in_tables e (omega (arith, count_is z t in_tables)))
    where
      go : Dec (0 < z.steps) → ((get_or C.steps 0 no_step).tag ≡ plain) ⊎ (g.count ≡ 0)
      go (no h) = inr (omega (arith, count_is z t in_tables))
      go (yes h) =
          either (in_tables.kinds.tags 0 (omega (arith, count_is z t in_tables))) (λ q. inl q)
          (λ q. absurd (n (sym (held_tag z.steps t.steps 0 h) ∙ q)))

  -- what the calls that fill tables ask
  pub run_lo : Falls t.inner.lo (z.nodes + 1)
  run_lo = lo_falls D t.inner.step t.inner.lo t.inner.hi in_tables.held (z.nodes + 1) (omega (arith, width))

  pub run_nodes : (prices : List ℕ) → Costs C prices → Falls t.inner.lo (z.nodes + 1) × Falls t.inner.hi (z.nodes + 1) × Priced t.inner.step prices z.nodes
  run_nodes prices costs = (
    run_lo,
    hi_falls D t.inner.step t.inner.lo t.inner.hi in_tables.held (z.nodes + 1) (omega (arith, width)),
    priced C D t.inner.step t.inner.lo t.inner.hi prices z.nodes costs in_tables.held in_tables.valid in_tables.small sound (omega (arith, width)),
  )

  pub run_sorted : SortedTable z.steps t.steps.from × (z.stages ≤ 256)
  run_sorted = (held_sorted z t.steps in_tables.valid, few_stages z t in_tables)

  pub run_narrow : (z.stages ≤ 256) × (z.nodes + 2 ≤ 512)
  run_narrow = (few_stages z t in_tables, omega (arith, few_nodes z t in_tables))

  pub run_root : (z.start.0 < 256) × (z.root.0 < 512)
  run_root = (omega (arith, in_tables.valid.start_inside, run_narrow), omega (arith, sound.root_inside, width, run_narrow))

  abbrev pub run_guide : Guide g a (estimate_in z t)
  run_guide = guide C D in_tables.valid in_tables.small sound

-- the chart estimates are filled too: both tables hold the estimate that guides the search
module _ {z : Shape} {on : Walk} {byNode : List ℕ} (p : Prepared z on byNode) {byStage : List ℕ} (es : EstimateTable (chart_in z on.read) byStage) where
  abbrev t : Read
  t = on.read

  abbrev in_tables : Tables z t
  in_tables = p.ready.tables

  pub run_holds : Holds z.start.0 (estimate_in z t) (z.nodes + 2) (estimates byStage byNode)
  unfolding estimate
  run_holds s n late h i =
      larger_shown (chart_estimate (chart_in z t) s) (diagram_estimate (chart_in z t) (diagram_in z t) n) (get_or byStage s 0) (get_or byNode n 0) (es.at s late h)
      (p.nodes.by.is (chart_in z t) (diagram_in z t) (in_tables.small, p.nodes.costs) in_tables.held (sound in_tables) (omega (arith, width in_tables)) n (omega (arith, width in_tables)))
      (λ m e. chart_bounded (chart_in z t) in_tables.valid s m e)
      (λ m e. diagram_bounded (chart_in z t) (diagram_in z t) in_tables.valid in_tables.small (sound in_tables) n m (omega (arith, width in_tables)) e)

  abbrev pub run_guides : Guides z on (estimates byStage byNode)
  run_guides = record { ready = p.ready; h = estimate_in z t; guide = run_guide in_tables; holds = run_holds }

  -- what the search leaves
  pub sought_some : {x y : Work} {log log' : List ℕ} {r : Ended} → Searched run_guides x log y log' r → Sought z t x log y log' r
  sought_some s = record { goal = s.goal; no_goal = s.no_goal; past = s.past }

  -- what is read for the pair of start and root
  module _ {rest : ℕ} (er : rest ≡ paired (estimates byStage byNode) z.start.0 z.root.0) where
    run_shown : rest ≡ shown (estimate_in z t z.start.0 z.root.0)
    run_shown = er ∙ run_holds z.start.0 z.root.0 (omega arith) (run_root in_tables).0 (omega (arith, (sound in_tables).root_inside, width in_tables))

    -- it has no estimate: nothing is settled
    pub sought_none : rest ≡ NONE → {x : Work} {log : List ℕ} {r : Ended} → r.goal ≡ None → r.count ≡ 0 → Sought z t x log x log r
    sought_none q {x} {log} {r} f c = record {
      goal = λ g e. absurd (none-some g (sym f ∙ e));
      no_goal = λ g. subst (λ (k : ℕ). NoneSettled (chart_in z t) (diagram_in z t) (estimate_in z t) 0 k log log) (sym c)
          (none_begun (chart_in z t) (diagram_in z t) (sound in_tables) (run_guide in_tables) log
          (estimate_none (run_guide in_tables) z.start.0 z.root.0 rest (sound in_tables).root_inside run_shown q));
      past = past_same;
    }

    -- it has one: what the search asks
    module _ (q : rest ≡ NONE → ⊥) {x : Work} {log : List ℕ} (space : Space z x log) where
      pub has_estimate : estimate_in z t z.start.0 z.root.0 ≡ some rest
      has_estimate = estimate_some (run_guide in_tables) z.start.0 z.root.0 rest run_shown q

      abbrev pub run_start : Start z on (estimates byStage byNode) rest x log
      run_start = record {
        by = run_guides;
        space = space;
        has = has_estimate;
        inside = λ s n m e. omega (arith, estimate_until (chart_in z t) (diagram_in z t) in_tables.valid s n m e, in_tables.valid.end_inside);
      }
