-- Laws of `run` and `sweep`: the parts together give the promise.
-- Assumes nothing.
use Prim.Native.Nat.{ℕ, ◌+◌, ◌*◌, ◌≤◌, min}
use mathlib.Core.Path.{◌≡◌, refl, sym, ◌∙◌, ap, subst}
use mathlib.Core.List.{List, [], ◌∷◌, ◌++◌}
use native.Mathlib.Omega.{arith}
use lib.ListN.{length, drop, replicate, length-replicate, get_or-replicate}
use lib.Seq.{drop-append_seam}
use Rattle.definitions.specs.Basics.{NONE}
use Rattle.definitions.specs.Ways.{Graph}
use Rattle.definitions.specs.Pairs.{Automaton, row_starts, pairs}
use Rattle.definitions.specs.Answers.{Load, ready, load, work_need, refusal}
use Rattle.definitions.specs.Refusals.{number}
use Rattle.definitions.specs.Promises.{least_costs, SweepSlices, sweep_slices, sweep_load, SweepPromise, SweepCall}
use Rattle.definitions.specs.declared.Answer.{Answer}
use Rattle.definitions.specs.declared.Shape.{Shape}
use Rattle.chart_stages.specs.FirstSteps.{SortedTable, FirstTable}
use Rattle.chart_stages.specs.HeldGraph.{held_sorted}
use Rattle.diagram.specs.Held.{length_held}
use Rattle.sweep_model.specs.Model.{Rows, rows, swept}
use Rattle.sweep_model.specs.Rows.{Past}
use Rattle.sweep_model.specs.Result.{Fresh, Finished, finished, final_past, final_costs}
use Rattle.sweep_model.specs.Sweeps.{FirstSteps}
use Rattle.checks.specs.Outcome.{load_shortest, ready_space}
use Rattle.checks.specs.Tables.{Read, Tables, chart_in, diagram_in, pairs_in}
use Rattle.checks.specs.Ready.{walk, Ready, graph_in, automaton_in, lawful_in, few_stages, few_nodes}
use Rattle.checks.specs.declared.answers.Refused.{Refused}
use Rattle.checks.specs.Refusing.{file_mark, refused_as}
use Rattle.sweep_rows.specs.Standing.{at}
use Rattle.sweep_rows.specs.Leaving.{first_steps}
use Rattle.sweep.specs.Runs.{Space, Blank, cleared_costs, cleared, Final, Concludes}
use Rattle.sweep.proofs.Beginning.{pairs_is, cleared_fresh}

-- the space that the pairs need
need : (z : Shape) (t : Read) → work_need (chart_in z t) (diagram_in z t) ≡ pairs_in z
need z t = ap (λ (k : ℕ). z.stages * (k + 2)) (length_held z.nodes t.inner.step t.inner.lo t.inner.hi)

module _ {z : Shape} {t : Read} (in_tables : Tables z t) where
  pub run_sorted : SortedTable z.steps t.steps.from × (z.stages ≤ 256)
  run_sorted = (held_sorted z t.steps in_tables.valid, few_stages z t in_tables)

  pub run_narrow : (z.stages ≤ 256) × (z.nodes + 2 ≤ 512)
  run_narrow = (few_stages z t in_tables, omega (arith, few_nodes z t in_tables))

  module _ {first row : List ℕ} (firsts : FirstTable z.steps z.stages t.steps.from first) (starts : row ≡ row_starts z.stages (z.nodes + 2)) where
    pub run_ready : Ready z (walk t first row)
    run_ready = record { tables = in_tables; firsts = firsts; rows = starts }

    abbrev g : Graph
    g = graph_in z t

    abbrev a : Automaton
    a = automaton_in z t

    module _ {before : SweepSlices} (space : Space z before) where
      -- the tables before the sweep
      abbrev pub lent : Rows
      lent = rows before.cost before.via before.nodes (replicate 256 0)

      lent_blank : Blank z lent
      lent_blank = record {
        cost_fits = space.cost_fits;
        via_fits = space.via_fits;
        nodes_fits = space.nodes_fits;
        counts_long = length-replicate {A = ℕ} 256 0;
        no_node = λ s h. get_or-replicate {A = ℕ} 256 s 0 0 h;
      }

      fresh : Fresh g a (cleared z lent)
      fresh = cleared_fresh run_ready lent_blank

      leaving : FirstSteps g (at first)
      leaving = first_steps z (walk t first row) run_ready

      -- the costs are cleared
      module _ {costs : List ℕ} (clears : costs ≡ cleared_costs z before.cost) where
        abbrev pub blank : Rows
        blank = rows costs before.via before.nodes (replicate 256 0)

        blank_is : blank ≡ cleared z lent
        blank_is = ap (λ (l : List ℕ). rows l before.via before.nodes (replicate 256 0)) clears

        pub run_fresh : Fresh g a blank
        run_fresh = subst (Fresh g a) (sym blank_is) fresh

      -- the tables after it
      module _ {costs : List ℕ} (clears : costs ≡ cleared_costs z before.cost) {r' : Rows} (sweeps : r' ≡ swept g a (at first) (blank clears)) where
        is_swept : r' ≡ swept g a (at first) (cleared z lent)
        is_swept = sweeps ∙ ap (swept g a (at first)) (blank_is clears)

        pub run_final : Final z t row r'
        run_final = record {
          tables = in_tables;
          rows_are = starts;
          finished = subst (Finished g a) (sym is_swept) (finished g a in_tables.valid (lawful_in z t in_tables) (cleared z lent) fresh (at first) leaving);
        }

        past : Past g a (cleared z lent) r'
        past = subst (Past g a (cleared z lent)) (sym is_swept) (final_past g a in_tables.valid (lawful_in z t in_tables) (cleared z lent) fresh (at first) leaving)

        same : pairs g a ≡ pairs_in z
        same = pairs_is run_ready

        -- what was cleared does not matter past the pairs
        cleared_past : drop (pairs g a) (cleared_costs z before.cost) ≡ drop (pairs_in z) before.cost
        cleared_past =
            ap (λ (k : ℕ). drop k (cleared_costs z before.cost)) (same ∙ sym (length-replicate (pairs_in z) NONE))
            ∙ drop-append_seam (replicate (pairs_in z) NONE) (drop (pairs_in z) before.cost)

        -- a slice is left as it was past the space that the pairs need
        untouched : (x x' : List ℕ) → drop (pairs g a) x' ≡ drop (pairs g a) x → drop (work_need (chart_in z t) (diagram_in z t)) x' ≡ drop (work_need (chart_in z t) (diagram_in z t)) x
        untouched x x' e =
            let q = need z t ∙ sym same in
            ap (λ (k : ℕ). drop k x') q ∙ e ∙ ap (λ (k : ℕ). drop k x) (sym q)

        pub run_promised : {costs' via' nodes' plan' : List ℕ} {ans : Answer} → costs' ≡ r'.cost → via' ≡ r'.via → nodes' ≡ r'.nodes → Concludes z t before.plan plan' ans
            → SweepPromise (ready (chart_in z t) (diagram_in z t)) before (sweep_slices costs' via' nodes' plan') ans
        run_promised ec ev en x = rw (ec, ev, en) (record {
          swept = (
            x.outcome,
            ap (λ (y : Rows). y.cost) is_swept
                ∙ final_costs g a in_tables.valid (lawful_in z t in_tables) (cleared z lent) fresh (at first) leaving
                ∙ ap (λ (l : List ℕ). least_costs g a ++ l) (cleared_past ∙ ap (λ (k : ℕ). drop k before.cost) (sym (need z t))),
          );
          via = (past.via_long, untouched before.via r'.via past.via_past);
          nodes = (past.nodes_long, untouched before.nodes r'.nodes past.nodes_past);
        })

-- the call on the files s and u: the checks are made with the shortest work slice
module _ (s u : List ℕ) (before : SweepSlices) {work : ℕ} (ew : work ≡ min (min (length before.cost) (length before.via)) (length before.nodes)) where
  abbrev loaded : Load
  loaded = load s u (work ∷ []) (length before.plan)

  checked : sweep_load s u before ≡ loaded
  checked =
      load_shortest s u (length before.cost) (length before.via ∷ length before.nodes ∷ []) (length before.plan)
      ∙ ap (λ (k : ℕ). load s u (k ∷ []) (length before.plan)) (sym ew)

  -- a refusal leaves everything
  pub call_refused : (x : Refused) {r : Answer} → loaded ≡ refused_as x → r ≡ refusal (number x.refusal) (file_mark x.file) x.place 0 → SweepCall s u before before r
  call_refused x {r} h e = subst (λ (o : Load). SweepPromise o before before r) (sym (checked ∙ h)) (record { swept = (e, refl, refl); via = refl; nodes = refl })

  -- where all checks pass, the chart and the diagram stand in the tables
  module _ (z : Shape) (t : Read) (h : loaded ≡ ready (chart_in z t) (diagram_in z t)) where
    pub call_space : Space z before
    call_space =
        let enough = ready_space s u work (length before.plan) (chart_in z t) (diagram_in z t) h in
        record {
          cost_fits = omega (arith, need z t, enough);
          via_fits = omega (arith, need z t, enough);
          nodes_fits = omega (arith, need z t, enough);
          plan_fits = enough.1;
        }

    pub call_ready : {after : SweepSlices} {r : Answer} → SweepPromise (ready (chart_in z t) (diagram_in z t)) before after r → SweepCall s u before after r
    call_ready {after} {r} p = subst (λ (o : Load). SweepPromise o before after r) (sym (checked ∙ h)) p
