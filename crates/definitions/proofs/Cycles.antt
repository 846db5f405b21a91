-- A list of starts and ends: the costs from each stage to each of the chart of REFERENCE 14, and on the files of case (g), one stage and root 1, lists that meet the promise and
-- lists, slices and answers that do not.
-- Assumes nothing.
use Rattle.std.specs.Prelude.{ℕ, ◌≡◌, refl, List, [], ◌∷◌, ◌++◌, map, length, get_or}
use Rattle.std.proofs.Common.{ap, arith, length-take}
use Rattle.definitions.specs.Basics.{pick, smaller, upto}
use Rattle.definitions.specs.Fields.{only, or_remark, field_at, first_field, on_field, scan}
use Rattle.definitions.specs.Charts.{headed, head_fault, step_fault, read_chart, group_count, group_fault, step_kind}
use Rattle.definitions.specs.Diagrams.{node_fault, padding, node_fault_after, read_diagram, descend, descend_in, advance, verdict}
use Rattle.definitions.specs.Ways.{ways_in, ways, least_way}
use Rattle.definitions.specs.Pairs.{stands, least_cost, reached, reached_pairs}
use Rattle.definitions.specs.Plans.{graph, variable, automaton, says_yes, cheapest, estimate}
use Rattle.definitions.specs.Answers.{ready, refused, read_files, load_work, refusal, accepted}
use Rattle.definitions.specs.Promises.{Logged, found_number, found_cost, no_cycle, Cycled, Listed, CycleSlices, cycle_slices, cycles_load, CyclesPromise, CyclesCall}
use Rattle.definitions.specs.declared.Answer.{Answer}
use Rattle.definitions.specs.declared.Cycle.{Cycle}
use Rattle.definitions.specs.Marked.{st, nd, chart, rules, single, backward, leaf}
use Rattle.definitions.specs.Bytes.{chart_bytes, diagram_bytes}
use Rattle.definitions.proofs.Examples.{load_refusal}
use Rattle.definitions.proofs.Logs.{◌also◌, each}
use Rattle.definitions.proofs.Slices.{differ}
use Rattle.definitions.proofs.Calls.{w, w', bad, short, chart_file, rules_file, two_file, v, seven, one_settled, one_found}

-- ---- from each stage to each: a row for each start, number and cost for each end

pub found : List (List ℕ)
found = map (λ s. map (λ e. found_cost (cheapest (headed chart s e) rules)) (upto 5)) (upto 5)

pub found_holds : found ≡
    (0 ∷ 100 ∷ 250 ∷ 150 ∷ 200 ∷ [])
    ∷ (0 ∷ 0 ∷ 200 ∷ 50 ∷ 100 ∷ [])
    ∷ (0 ∷ 0 ∷ 0 ∷ 50 ∷ 100 ∷ [])
    ∷ (0 ∷ 0 ∷ 0 ∷ 0 ∷ 50 ∷ [])
    ∷ (0 ∷ 0 ∷ 0 ∷ 0 ∷ 0 ∷ [])
    ∷ []
unfolding found pick smaller descend descend_in verdict says_yes ways_in ways least_way cheapest variable
found_holds = refl

pub numbers : List (List ℕ)
numbers = map (λ s. map (λ e. found_number (cheapest (headed chart s e) rules)) (upto 5)) (upto 5)

pub numbers_hold : numbers ≡
    (0 ∷ 0 ∷ 0 ∷ 0 ∷ 0 ∷ [])
    ∷ (8 ∷ 0 ∷ 0 ∷ 0 ∷ 0 ∷ [])
    ∷ (8 ∷ 8 ∷ 0 ∷ 0 ∷ 0 ∷ [])
    ∷ (8 ∷ 8 ∷ 8 ∷ 0 ∷ 0 ∷ [])
    ∷ (8 ∷ 8 ∷ 8 ∷ 8 ∷ 0 ∷ [])
    ∷ []
unfolding numbers pick smaller descend descend_in verdict says_yes ways_in ways least_way cheapest variable
numbers_hold = refl

-- ---- the space: every work slice is asked for, and no plan slice: two stages pass without one

abbrev all : List ℕ → CycleSlices
all l = cycle_slices l l l l l l

pub spaces : List (List ℕ)
spaces =
    load_refusal (cycles_load chart_file rules_file (all w))
    ∷ load_refusal (cycles_load chart_file rules_file (cycle_slices short w w w w w))
    ∷ load_refusal (cycles_load chart_file rules_file (cycle_slices w short w w w w))
    ∷ load_refusal (cycles_load chart_file rules_file (cycle_slices w w short w w w))
    ∷ load_refusal (cycles_load chart_file rules_file (cycle_slices w w w short w w))
    ∷ load_refusal (cycles_load chart_file rules_file (cycle_slices w w w w short w))
    ∷ load_refusal (cycles_load chart_file rules_file (cycle_slices w w w w w short))
    ∷ load_refusal (cycles_load two_file rules_file (all v))
    ∷ []

pub spaces_hold : spaces ≡ [] ∷ seven ∷ seven ∷ seven ∷ seven ∷ seven ∷ seven ∷ [] ∷ []
unfolding spaces pick only or_remark field_at first_field on_field scan head_fault read_chart read_diagram group_count read_files load_work
spaces_hold = refl

-- the files, whatever the list: the chart's own start is no stage; the diagram is cut; its node has lo equal to hi, in a chart of one step
abbrev one_step : List ℕ
one_step = chart_bytes (record { stages = 2; start = 0; end = 1; steps = st 0 1 50 ∷ [] })

pub refusals : List (List ℕ)
refusals =
    load_refusal (cycles_load (chart_bytes (headed single 1 0)) rules_file (all w))
    ∷ load_refusal (cycles_load one_step (diagram_bytes (record { root = 1; nodes = nd 0 0 1 ∷ [] }) ++ 18 ∷ []) (all v))
    ∷ load_refusal (cycles_load one_step (diagram_bytes (record { root = 2; nodes = nd 0 1 1 ∷ [] })) (all v))
    ∷ []

pub refusals_hold : refusals ≡ (4 ∷ 1 ∷ 0 ∷ []) ∷ (1 ∷ 2 ∷ 14 ∷ []) ∷ (13 ∷ 2 ∷ 5 ∷ []) ∷ []
unfolding refusals pick only or_remark field_at first_field on_field scan head_fault step_fault group_fault step_kind node_fault node_fault_after padding read_chart read_diagram group_count read_files load_work
refusals_hold = refl

-- ---- whole calls

-- from stage 0 to itself, and a start and an end that are no stages; each with a number, cost and count that stand there before
abbrev asked : ℕ → ℕ → Cycle
asked start end = record { start = start; end = end; number = 9; cost = 9; count = 9 }

abbrev told : ℕ → ℕ → ℕ → ℕ → ℕ → Cycle
told start end number cost count = record { start = start; end = end; number = number; cost = cost; count = count }

abbrev list : List Cycle
list = asked 1 0 ∷ asked 0 0 ∷ asked 0 1 ∷ []

-- after the call, whose checks pass
abbrev After : List Cycle → CycleSlices → Answer → Type 0
After list' x r = CyclesPromise (ready single (leaf 1)) (all w) x list list' r

abbrev answers : List Cycle
answers = told 1 0 4 0 0 ∷ told 0 0 0 0 1 ∷ told 0 1 4 0 0 ∷ []

-- the log of the search from stage 0 to itself
one_logged : Logged (graph single) (automaton single (leaf 1)) (estimate single (leaf 1)) (cheapest single (leaf 1)) 1 (1 ∷ []) (1 ∷ [])
unfolding pick smaller descend descend_in advance verdict says_yes ways_in ways least_way stands least_cost reached reached_pairs cheapest variable
one_logged = record { fits = omega arith; settled = one_settled; ended = one_found; few = omega arith; long = refl; rest = refl }

pub list_holds : After answers (all w') (accepted 0 0 0)
unfolding pick smaller descend descend_in verdict says_yes ways_in ways least_way cheapest variable
list_holds = record {
  listed = (refl, record { long = refl; each = λ i l. each 3 (λ i. Cycled single (leaf 1) (get_or list i no_cycle) (get_or answers i no_cycle)) (refl also record { log = 1 ∷ []; logged = one_logged; answered = refl } also refl also tt) i (omega arith) });
  keys = (refl, refl);
  via = (refl, refl);
  heap = (refl, refl);
  pos = (refl, refl);
  stack = (refl, refl);
  log = (refl, refl);
}

-- the empty list, by the files
pub empty_holds : CyclesCall chart_file rules_file (all w) (all w') [] [] (accepted 0 0 0)
unfolding pick only or_remark field_at first_field on_field scan head_fault read_chart read_diagram group_count read_files load_work
empty_holds = record {
  listed = (refl, record { long = refl; each = λ i l. absurd (omega arith) });
  keys = (refl, refl);
  via = (refl, refl);
  heap = (refl, refl);
  pos = (refl, refl);
  stack = (refl, refl);
  log = (refl, refl);
}

-- ---- what an accepted call answers; a list that has lost its last entry

abbrev fields : Answer → List ℕ
fields r = r.number ∷ r.file ∷ r.place ∷ r.cost ∷ r.length ∷ r.count ∷ []

-- all six are 0
pub answer_fields : (r : Answer) → After answers (all w') r → fields r ≡ 0 ∷ 0 ∷ 0 ∷ 0 ∷ 0 ∷ 0 ∷ []
answer_fields r s = ap fields s.listed.0

pub list_cut : After (told 1 0 4 0 0 ∷ told 0 0 0 0 1 ∷ []) (all w') (accepted 0 0 0) → ⊥
list_cut s = let e = s.listed.1.long in omega arith

-- ---- an entry outside the chart; the last entry is left out

abbrev entry_fields : Cycle → List ℕ
entry_fields x = x.start ∷ x.end ∷ x.number ∷ x.cost ∷ x.count ∷ []

pub outside_fields : (x : Cycle) → Cycled single (leaf 1) (asked 1 0) x → entry_fields x ≡ 1 ∷ 0 ∷ 4 ∷ 0 ∷ 0 ∷ []
outside_fields x s = ap entry_fields s

pub last_left : After (told 1 0 4 0 0 ∷ told 0 0 0 0 1 ∷ asked 0 1 ∷ []) (all w') (accepted 0 0 0) → ⊥
last_left s = let e = ap (λ (x : Cycle). x.number) (s.listed.1.each 2 (omega arith)) in omega arith

-- ---- an entry on the chart: it gets 4, a cost, no settled pair; a settled pair more (in a chart without steps none follows)

abbrev Inside : Cycle → Type 0
Inside x = After (told 1 0 4 0 0 ∷ x ∷ told 0 1 4 0 0 ∷ []) (all w') (accepted 0 0 0)

pub inside_number : Inside (told 0 0 4 0 1) → ⊥
unfolding pick smaller descend descend_in verdict says_yes ways_in ways least_way cheapest variable
inside_number s = let e = ap (λ (x : Cycle). x.number) (s.listed.1.each 1 (omega arith)).answered in omega arith

pub inside_cost : Inside (told 0 0 0 50 1) → ⊥
unfolding pick smaller descend descend_in verdict says_yes ways_in ways least_way cheapest variable
inside_cost s = let e = ap (λ (x : Cycle). x.cost) (s.listed.1.each 1 (omega arith)).answered in omega arith

pub inside_none : Inside (told 0 0 0 0 0) → ⊥
unfolding pick smaller descend descend_in verdict says_yes ways_in ways least_way cheapest variable
inside_none s =
    let x = s.listed.1.each 1 (omega arith) in
    let e = ap (λ (x : Cycle). x.count) x.answered in
    omega (arith, x.logged.ended.some_entry, length-take (length x.log) x.log)

pub inside_more : Inside (told 0 0 0 0 2) → ⊥
inside_more s =
    let x = s.listed.1.each 1 (omega arith) in
    let e = ap (λ (x : Cycle). x.count) x.answered in
    let f = x.logged.settled.follows 1 (omega arith) (omega (arith, length-take (length x.log) x.log)) in
    omega (arith, f.2.exists)

-- its start and end stay
pub inside_ends : (x : Cycle) → Cycled single (leaf 1) (asked 0 0) x → (x.start ≡ 0) × (x.end ≡ 0)
inside_ends x s = (ap (λ (x : Cycle). x.start) s.answered, ap (λ (x : Cycle). x.end) s.answered)

-- ---- each entry has its own start and end, whatever the chart's head says: here from stage 1 to stage 0, to which no way leads, while one leads from each stage to itself

pub own_start : Cycled backward (leaf 1) (asked 0 0) (told 0 0 8 0 0) → ⊥
unfolding pick smaller descend descend_in verdict says_yes ways_in ways least_way cheapest variable
own_start s = let e = ap (λ (x : Cycle). x.number) s.answered in omega arith

pub own_end : Cycled backward (leaf 1) (asked 1 1) (told 1 1 8 0 0) → ⊥
unfolding pick smaller descend descend_in verdict says_yes ways_in ways least_way cheapest variable
own_end s = let e = ap (λ (x : Cycle). x.number) s.answered in omega arith

-- the start is the start: on the chart of REFERENCE 14 a way leads from 0 to 4, and none back
pub own_order : Cycled chart rules (asked 0 4) (told 0 4 8 0 0) → ⊥
unfolding pick smaller descend descend_in verdict says_yes ways_in ways least_way cheapest variable
own_order s = let e = ap (λ (x : Cycle). x.number) s.answered in omega arith

pub own_back : Cycled chart rules (asked 4 0) (told 4 0 0 0 1) → ⊥
unfolding pick smaller descend descend_in verdict says_yes ways_in ways least_way cheapest variable
own_back s = let e = ap (λ (x : Cycle). x.number) s.answered in omega arith

-- ---- a slice past its need, the log too

pub past_keys : After answers (cycle_slices bad w' w' w' w' w') (accepted 0 0 0) → ⊥
past_keys s = let e = differ s.keys.1 0 in omega arith

pub past_via : After answers (cycle_slices w' bad w' w' w' w') (accepted 0 0 0) → ⊥
past_via s = let e = differ s.via.1 0 in omega arith

pub past_heap : After answers (cycle_slices w' w' bad w' w' w') (accepted 0 0 0) → ⊥
past_heap s = let e = differ s.heap.1 0 in omega arith

pub past_pos : After answers (cycle_slices w' w' w' bad w' w') (accepted 0 0 0) → ⊥
past_pos s = let e = differ s.pos.1 0 in omega arith

pub past_stack : After answers (cycle_slices w' w' w' w' bad w') (accepted 0 0 0) → ⊥
past_stack s = let e = differ s.stack.1 0 in omega arith

pub past_log : After answers (cycle_slices w' w' w' w' w' bad) (accepted 0 0 0) → ⊥
past_log s = let e = differ s.log.1 0 in omega arith

-- ---- a refusal leaves every entry and every slice: here 7, for the log

abbrev Refused : List Cycle → CycleSlices → Answer → Type 0
Refused list' x r = CyclesPromise (refused 7 0 0) (cycle_slices w w w w w short) x list list' r

pub refused_holds : Refused list (cycle_slices w w w w w short) (refusal 7 0 0 0)
refused_holds = record { listed = (refl, refl); keys = refl; via = refl; heap = refl; pos = refl; stack = refl; log = refl }

pub refused_entry : Refused answers (cycle_slices w w w w w short) (refusal 7 0 0 0) → ⊥
refused_entry s = let e = ap (λ (l : List Cycle). (get_or l 0 no_cycle).number) s.listed.1 in omega arith

pub refused_slice : Refused list (cycle_slices w' w w w w short) (refusal 7 0 0 0) → ⊥
refused_slice s = let e = differ s.keys 0 in omega arith

-- the answer has the refusal's number, file and place, and 0 otherwise
pub refused_fields : (number file place : ℕ) (r : Answer) → Listed (refused number file place) list list r → fields r ≡ number ∷ file ∷ place ∷ 0 ∷ 0 ∷ 0 ∷ []
refused_fields number file place r s = ap fields s.0
