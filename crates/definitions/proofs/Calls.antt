-- Whole calls on the files of case (g), one stage and root 1, whose N is 2: slices that meet the promises, and for each work slice one that does not.
-- Assumes nothing.
use Rattle.std.specs.Prelude.{ℕ, suc, ◌≤◌, ◌<◌, ◌≡◌, refl, true, List, [], ◌∷◌, eqb, get_or}
use Rattle.std.proofs.Common.{sym, ◌∙◌, ap, arith}
use Rattle.std.proofs.Math.Option.{some}
use Rattle.definitions.specs.Basics.{pick, smaller, larger, sum_of}
use Rattle.definitions.specs.Fields.{only, or_remark, field_at, first_field, on_field, scan}
use Rattle.definitions.specs.Charts.{head_fault, read_chart, group_count}
use Rattle.definitions.specs.Diagrams.{read_diagram, descend, descend_in, advance, finish, verdict}
use Rattle.definitions.specs.Ways.{Graph, ways_in, ways, least_way}
use Rattle.definitions.specs.Pairs.{Automaton, Estimate, stands, least_cost, reached, goal, reached_pairs, to_end, sum}
use Rattle.definitions.specs.Plans.{graph, variable, variable_cost, automaton, says_yes, cheapest, chart_estimate, diagram_estimate, estimate}
use Rattle.definitions.specs.Answers.{read_files, load, accepted}
use Rattle.definitions.specs.Promises.{least_costs, least_cost_at, sum_at, goal_at, Settled, Found, sweep_slices, sweep_load, SweepCall, guided_slices, guided_load, GuidedCall}
use Rattle.definitions.specs.Marked.{single, leaf}
use Rattle.definitions.specs.Bytes.{chart_bytes, diagram_bytes}
use Rattle.definitions.proofs.Examples.{load_refusal}
use Rattle.definitions.proofs.Logs.{◌also◌, each, some_same}
use Rattle.definitions.proofs.Slices.{differ}

abbrev pub chart_file : List ℕ
chart_file = chart_bytes single

abbrev pub rules_file : List ℕ
rules_file = diagram_bytes (leaf 1)

-- a work slice before a call; after it with its two free entries written, and with the entry past them changed
abbrev pub w : List ℕ
w = 5 ∷ 5 ∷ 6 ∷ []

abbrev pub w' : List ℕ
w' = 1 ∷ 2 ∷ 6 ∷ []

abbrev pub bad : List ℕ
bad = 1 ∷ 2 ∷ 7 ∷ []

abbrev pub short : List ℕ
short = 5 ∷ []

-- ---- the space: every work slice is asked for, in both searches

pub spaces : List (List ℕ)
spaces =
    load_refusal (sweep_load chart_file rules_file (sweep_slices w w w []))
    ∷ load_refusal (sweep_load chart_file rules_file (sweep_slices short w w []))
    ∷ load_refusal (sweep_load chart_file rules_file (sweep_slices w short w []))
    ∷ load_refusal (sweep_load chart_file rules_file (sweep_slices w w short []))
    ∷ load_refusal (guided_load chart_file rules_file (guided_slices w w w w w w []))
    ∷ load_refusal (guided_load chart_file rules_file (guided_slices short w w w w w []))
    ∷ load_refusal (guided_load chart_file rules_file (guided_slices w short w w w w []))
    ∷ load_refusal (guided_load chart_file rules_file (guided_slices w w short w w w []))
    ∷ load_refusal (guided_load chart_file rules_file (guided_slices w w w short w w []))
    ∷ load_refusal (guided_load chart_file rules_file (guided_slices w w w w short w []))
    ∷ load_refusal (guided_load chart_file rules_file (guided_slices w w w w w short []))
    ∷ []

abbrev pub seven : List ℕ
seven = 7 ∷ 0 ∷ 0 ∷ []

pub spaces_hold : spaces ≡ [] ∷ seven ∷ seven ∷ seven ∷ [] ∷ seven ∷ seven ∷ seven ∷ seven ∷ seven ∷ seven ∷ []
unfolding spaces pick only or_remark field_at first_field on_field scan head_fault read_chart read_diagram group_count read_files load
spaces_hold = refl

-- ---- the sweep

pub sweep_holds : SweepCall chart_file rules_file (sweep_slices w w w []) (sweep_slices (4294967295 ∷ 0 ∷ 6 ∷ []) w' w' []) (accepted 0 0 1)
unfolding pick only or_remark field_at first_field on_field scan head_fault read_chart read_diagram group_count read_files load smaller descend descend_in advance verdict says_yes ways_in ways least_way stands least_cost reached reached_pairs cheapest least_costs variable
sweep_holds = record {
  swept = ((refl, record { fits = omega arith; legal = ((tt, refl), refl); costs = refl; long = refl; rest = refl }), refl);
  via = (refl, refl);
  nodes = (refl, refl);
}

-- a call whose cost slice, via or nodes is written past its need
pub sweep_cost : SweepCall chart_file rules_file (sweep_slices w w w []) (sweep_slices (4294967295 ∷ 0 ∷ 7 ∷ []) w' w' []) (accepted 0 0 1) → ⊥
unfolding pick only or_remark field_at first_field on_field scan head_fault read_chart read_diagram group_count read_files load smaller descend descend_in advance ways_in ways least_way stands least_cost least_costs variable
sweep_cost s = let e = differ s.swept.1 2 in omega arith

pub sweep_via : SweepCall chart_file rules_file (sweep_slices w w w []) (sweep_slices (4294967295 ∷ 0 ∷ 6 ∷ []) bad w' []) (accepted 0 0 1) → ⊥
unfolding pick only or_remark field_at first_field on_field scan head_fault read_chart read_diagram group_count read_files load
sweep_via s = let e = differ s.via.1 0 in omega arith

pub sweep_nodes : SweepCall chart_file rules_file (sweep_slices w w w []) (sweep_slices (4294967295 ∷ 0 ∷ 6 ∷ []) w' bad []) (accepted 0 0 1) → ⊥
unfolding pick only or_remark field_at first_field on_field scan head_fault read_chart read_diagram group_count read_files load
sweep_nodes s = let e = differ s.nodes.1 0 in omega arith

-- ---- the guided search: one pair is settled, pair 1

abbrev g : Graph
g = graph single

abbrev a : Automaton
a = automaton single (leaf 1)

abbrev h : Estimate
h = estimate single (leaf 1)

-- its sum and its least cost are 0, and it is the goal pair
one : (sum_at g a h 1 ≡ some 0) × (least_cost_at g a h 1 ≡ some 0) × (goal_at g a h 1 ≡ true)
unfolding pick smaller larger sum_of descend descend_in advance finish ways_in ways least_way stands least_cost reached goal to_end sum chart_estimate diagram_estimate estimate variable variable_cost
one = (refl, refl, refl)

pub one_settled : Settled g a h (1 ∷ [])
one_settled = record {
  first = λ l. refl;
  inside = each 1 (λ i. get_or (1 ∷ []) i 0 < 2) (omega arith also tt);
  sums = each 1 (λ i. (k : ℕ) × (sum_at g a h (get_or (1 ∷ []) i 0) ≡ some k)) ((0, one.0) also tt);
  rises = λ i j k m l u s t.
      let q : i ≡ j = omega arith in
      let e = some_same (sym s ∙ ap (λ (n : ℕ). sum_at g a h (get_or (1 ∷ []) n 0)) q ∙ t) in
      omega arith;
  once = λ i j l u e. omega arith;
  follows = λ j l u. absurd (omega arith);
}

pub one_found : Found g a h 0 (1 ∷ [])
one_found = record {
  some_entry = omega arith;
  only_goal = each 1 (λ i. goal_at g a h (get_or (1 ∷ []) i 0) ≡ eqb (suc i) 1) (one.2 also tt);
  goal_cost = one.1;
  below = λ p l k e u. absurd (omega arith);
  none_above = λ i k l e. each 1 (λ i. sum_at g a h (get_or (1 ∷ []) i 0) ≡ some k → k ≤ 0) ((λ e. omega (arith, some_same (sym one.0 ∙ e))) also tt) i l e;
}

abbrev After : List ℕ → List ℕ → List ℕ → List ℕ → List ℕ → List ℕ → Type 0
After keys via heap pos stack log =
    GuidedCall chart_file rules_file (guided_slices w w w w w w []) (guided_slices keys via heap pos stack log []) (accepted 0 0 1)

pub guided_holds : After w' w' w' w' w' (1 ∷ 5 ∷ 6 ∷ [])
unfolding pick only or_remark field_at first_field on_field scan head_fault read_chart read_diagram group_count read_files load smaller descend descend_in advance verdict says_yes ways_in ways least_way stands least_cost reached reached_pairs cheapest variable
guided_holds = record {
  guided = (
    (refl, record { fits = omega arith; legal = ((tt, refl), refl); costs = refl; long = refl; rest = refl }),
    record { fits = omega arith; settled = one_settled; ended = one_found; few = omega arith; long = refl; rest = refl },
  );
  keys = (refl, refl);
  via = (refl, refl);
  heap = (refl, refl);
  pos = (refl, refl);
  stack = (refl, refl);
}

pub guided_keys : After bad w' w' w' w' (1 ∷ 5 ∷ 6 ∷ []) → ⊥
unfolding pick only or_remark field_at first_field on_field scan head_fault read_chart read_diagram group_count read_files load
guided_keys s = let e = differ s.keys.1 0 in omega arith

pub guided_via : After w' bad w' w' w' (1 ∷ 5 ∷ 6 ∷ []) → ⊥
unfolding pick only or_remark field_at first_field on_field scan head_fault read_chart read_diagram group_count read_files load
guided_via s = let e = differ s.via.1 0 in omega arith

pub guided_heap : After w' w' bad w' w' (1 ∷ 5 ∷ 6 ∷ []) → ⊥
unfolding pick only or_remark field_at first_field on_field scan head_fault read_chart read_diagram group_count read_files load
guided_heap s = let e = differ s.heap.1 0 in omega arith

pub guided_pos : After w' w' w' bad w' (1 ∷ 5 ∷ 6 ∷ []) → ⊥
unfolding pick only or_remark field_at first_field on_field scan head_fault read_chart read_diagram group_count read_files load
guided_pos s = let e = differ s.pos.1 0 in omega arith

pub guided_stack : After w' w' w' w' bad (1 ∷ 5 ∷ 6 ∷ []) → ⊥
unfolding pick only or_remark field_at first_field on_field scan head_fault read_chart read_diagram group_count read_files load
guided_stack s = let e = differ s.stack.1 0 in omega arith

-- the log slice past the count, though within stage count × N
pub guided_log : After w' w' w' w' w' (1 ∷ 2 ∷ 6 ∷ []) → ⊥
unfolding pick only or_remark field_at first_field on_field scan head_fault read_chart read_diagram group_count read_files load
guided_log s = let e = differ s.guided.1.rest 0 in omega arith

-- the plan slice past the plan, which has no step
pub sweep_plan : SweepCall chart_file rules_file (sweep_slices w w w (7 ∷ [])) (sweep_slices (4294967295 ∷ 0 ∷ 6 ∷ []) w' w' (8 ∷ [])) (accepted 0 0 1) → ⊥
unfolding pick only or_remark field_at first_field on_field scan head_fault read_chart read_diagram group_count read_files load smaller descend descend_in advance verdict says_yes ways_in ways least_way cheapest variable
sweep_plan s = let e = differ s.swept.0.1.rest 0 in omega arith

pub guided_plan : GuidedCall chart_file rules_file (guided_slices w w w w w w (7 ∷ [])) (guided_slices w' w' w' w' w' (1 ∷ 5 ∷ 6 ∷ []) (8 ∷ [])) (accepted 0 0 1) → ⊥
unfolding pick only or_remark field_at first_field on_field scan head_fault read_chart read_diagram group_count read_files load smaller descend descend_in advance verdict says_yes ways_in ways least_way cheapest variable
guided_plan s = let e = differ s.guided.0.1.rest 0 in omega arith

-- two stages need a plan entry
abbrev pub two_file : List ℕ
two_file = chart_bytes (record { stages = 2; start = 0; end = 1; steps = [] })

abbrev pub v : List ℕ
v = 5 ∷ 5 ∷ 5 ∷ 5 ∷ []

pub plan_spaces : List (List ℕ)
plan_spaces =
    load_refusal (sweep_load two_file rules_file (sweep_slices v v v (7 ∷ [])))
    ∷ load_refusal (sweep_load two_file rules_file (sweep_slices v v v []))
    ∷ load_refusal (guided_load two_file rules_file (guided_slices v v v v v v (7 ∷ [])))
    ∷ load_refusal (guided_load two_file rules_file (guided_slices v v v v v v []))
    ∷ []

pub plan_spaces_hold : plan_spaces ≡ [] ∷ seven ∷ [] ∷ seven ∷ []
unfolding plan_spaces pick only or_remark field_at first_field on_field scan head_fault read_chart read_diagram group_count read_files load
plan_spaces_hold = refl
