-- Steps that mean the same (REFERENCE 2.2, 2.4, 4, 6.2): charts whose steps name groups, computed from the definitions, and mistakes refuted.
-- Assumes nothing.
use Rattle.std.specs.Prelude.{ℕ, ◌≡◌, refl, Bool, false, cond, List, [], ◌∷◌, ◌++◌, map, eqb, take}
use Rattle.std.proofs.Math.Option.{Option, none, some}
use Rattle.definitions.specs.Basics.{pick, smaller, larger, sum_of, upto}
use Rattle.definitions.specs.Fields.{only, or_remark, field_at, first_field, on_field, scan}
use Rattle.definitions.specs.Charts.{Chart, ChartStep, plain, grouped, group_count, head_fault, group_fault, step_fault, step_kind, read_chart}
use Rattle.definitions.specs.Diagrams.{Diagram, descend, descend_in, advance, finish, verdict, node_fault, node_fault_after, padding, strict, lenient, read_diagram}
use Rattle.definitions.specs.Bytes.{body_of_step, field, head_bytes, step_bytes, chart_bytes, chart_back, diagram_bytes}
use Rattle.definitions.specs.Ways.{ways_in, ways, least_way}
use Rattle.definitions.specs.Pairs.{stage_of, node_of, stands, least_cost, reached, goal, reached_pairs, goal_pairs, to_end, sum}
use Rattle.definitions.specs.Plans.{graph, variable, variable_cost, automaton, says_yes, legal, cheapest, chart_estimate, diagram_estimate, estimate}
use Rattle.definitions.specs.Answers.{ready, accepted, read_files, LoadTwo, ready_two, refused_two, load_two, file_answer, file_buffer}
use Rattle.definitions.specs.Promises.{ReducePromise, ConjoinPromise, conjoin_slices, written_answer, written_buffer}
use Rattle.definitions.specs.Reductions.{accepts, alike, mk, tree_of, member, position, postorder, ref, numbered, nodes_of, diagram_of, reduced_of, conjunction, reduction}
use Rattle.definitions.specs.Marked.{st, nd, chart, leaf}
use Rattle.definitions.proofs.Examples.{rooted, steps, chart_refusal, load_refusal}

-- a step that names its group
abbrev pub gr : ℕ → ℕ → ℕ → ℕ → ChartStep
gr from to cost group = record { tag = grouped; from = from; to = to; cost = cost; group = group }

-- ---- the file

-- what a chart with these steps is refused for, and where
pub files : List (List ℕ)
files =
    -- one kind or the other, equal groups, a gap, both limits
    chart_refusal (steps (gr 0 1 7 0 ∷ gr 0 1 7 0 ∷ gr 1 2 7 5 ∷ gr 1 2 7 1023 ∷ gr 2 3 1000000 1023 ∷ []))
    ∷ chart_refusal (steps (st 0 1 7 ∷ st 0 1 7 ∷ []))
    -- the other kind after the first step: whole, of a wrong length, with its body cut, and with its header cut; then a step of the first kind
    ∷ chart_refusal (steps (st 0 1 7 ∷ gr 0 1 7 0 ∷ st 0 1 7 ∷ []))
    ∷ chart_refusal (steps (gr 0 1 7 0 ∷ st 0 1 7 ∷ gr 0 1 7 0 ∷ []))
    ∷ chart_refusal (steps (gr 0 1 7 0 ∷ gr 0 1 7 0 ∷ st 0 1 7 ∷ []))
    ∷ chart_refusal (steps (st 0 1 7 ∷ []) ++ field grouped (body_of_step (st 0 1 7)))
    ∷ chart_refusal (steps (gr 0 1 7 0 ∷ []) ++ field plain (body_of_step (gr 0 1 7 0)))
    ∷ chart_refusal (steps (st 0 1 7 ∷ []) ++ take 9 (step_bytes (gr 0 1 7 0)))
    ∷ chart_refusal (steps (st 0 1 7 ∷ []) ++ take 2 (step_bytes (gr 0 1 7 0)))
    -- a wrong length of the kind that is due, and a cut body
    ∷ chart_refusal (head_bytes 5 0 4 ++ field grouped (body_of_step (st 0 1 7)))
    ∷ chart_refusal (head_bytes 5 0 4 ++ field plain (body_of_step (gr 0 1 7 0)))
    ∷ chart_refusal (steps (gr 0 1 7 0 ∷ []) ++ field grouped (body_of_step (st 0 1 7)))
    ∷ chart_refusal (head_bytes 5 0 4 ++ take 12 (step_bytes (gr 0 1 7 0)))
    -- a remark fixes no kind
    ∷ chart_refusal (head_bytes 5 0 4 ++ field 130 (1 ∷ []) ++ step_bytes (gr 0 1 7 0) ++ field 131 [] ++ step_bytes (gr 0 1 7 0))
    ∷ chart_refusal (head_bytes 5 0 4 ++ field 131 (1 ∷ []) ++ step_bytes (st 0 1 7) ++ step_bytes (gr 0 1 7 0))
    -- a group below that of the step before, which is not the first
    ∷ chart_refusal (steps (gr 0 1 7 0 ∷ gr 0 1 7 5 ∷ gr 0 1 7 4 ∷ []))
    -- no tag of a step
    ∷ chart_refusal (head_bytes 5 0 4 ++ field 4 (body_of_step (gr 0 1 7 0)))
    ∷ []

pub files_hold : files
    ≡ (0 ∷ 0 ∷ []) ∷ (0 ∷ 0 ∷ []) ∷ (2 ∷ 20 ∷ []) ∷ (2 ∷ 22 ∷ []) ∷ (2 ∷ 35 ∷ []) ∷ (2 ∷ 20 ∷ []) ∷ (2 ∷ 22 ∷ []) ∷ (2 ∷ 20 ∷ []) ∷ (1 ∷ 20 ∷ []) ∷ (3 ∷ 9 ∷ [])
    ∷ (3 ∷ 9 ∷ []) ∷ (3 ∷ 22 ∷ []) ∷ (1 ∷ 9 ∷ []) ∷ (0 ∷ 0 ∷ []) ∷ (2 ∷ 24 ∷ []) ∷ (14 ∷ 35 ∷ []) ∷ (2 ∷ 9 ∷ []) ∷ []
unfolding files pick only or_remark field_at first_field on_field scan head_fault step_fault group_fault step_kind read_chart
files_hold = refl

-- what a step is refused for in a chart of five stages, after one step that leaves stage 2 and is of group 7
abbrev judged : ChartStep → ℕ
judged x = step_fault 5 x.tag 2 7 1 (body_of_step x)

pub group_faults : List (ℕ × ℕ)
group_faults =
    -- none
    (judged (gr 2 3 1000000 7), 0)
    ∷ (judged (gr 2 3 7 1023), 0)
    -- above 1,023, in either byte; below that of the step before
    ∷ (judged (gr 2 3 7 1024), 14)
    ∷ (judged (gr 2 3 7 65535), 14)
    ∷ (judged (gr 2 3 7 6), 14)
    ∷ (judged (gr 2 3 7 0), 14)
    ∷ (step_fault 5 grouped 2 1023 1 (body_of_step (gr 2 3 7 1022)), 14)
    -- with each other fault, which comes first
    ∷ (judged (gr 2 3 1000001 1024), 11)
    ∷ (judged (gr 2 3 1000001 6), 11)
    ∷ (judged (gr 1 3 7 1024), 5)
    ∷ (judged (gr 3 3 7 1024), 10)
    ∷ (judged (gr 2 5 7 6), 10)
    ∷ (step_fault 5 grouped 2 7 1024 (body_of_step (gr 2 3 7 1024)), 5)
    -- a plain step names none: its bytes past the value are not looked at
    ∷ (step_fault 5 plain 2 7 1 (body_of_step (gr 2 3 7 1024)), 0)
    ∷ []

pub group_faults_hold : map (λ x. x.0) group_faults ≡ map (λ x. x.1) group_faults
unfolding group_faults pick step_fault group_fault
group_faults_hold = refl

-- mistakes: 1,023 refused, 1,024 taken, an equal group refused, a falling one taken, 14 before 11, before 5 and before 10, 5 for a group
pub group_mistakes : List (ℕ × ℕ)
group_mistakes =
    (judged (gr 2 3 7 1023), 14) ∷ (judged (gr 2 3 7 1024), 0) ∷ (judged (gr 2 3 7 7), 14) ∷ (judged (gr 2 3 7 6), 0) ∷ (judged (gr 2 3 1000001 1024), 14)
    ∷ (judged (gr 1 3 7 6), 14) ∷ (judged (gr 3 3 7 1024), 14) ∷ (judged (gr 2 3 7 6), 5) ∷ (judged (gr 2 3 7 256), 14) ∷ []

pub group_mistakes_refuted : map (λ x. eqb x.0 x.1) group_mistakes ≡ map (λ x. false) group_mistakes
unfolding group_mistakes pick step_fault group_fault
group_mistakes_refuted = refl

-- ---- the chart of REFERENCE 14 with groups: both ways to raise A13 are group 0, and groups 3 to 6 have no step. Group 0 needs group 1, which settles

abbrev raised : Chart
raised = record {
  stages = 5;
  start = 0;
  end = 4;
  steps = gr 0 1 90 0 ∷ gr 0 1 40 0 ∷ gr 1 2 200 1 ∷ gr 1 3 30 2 ∷ gr 2 3 20 2 ∷ gr 3 4 50 7 ∷ [];
}

abbrev needs : Diagram
needs = rooted 3 (nd 1 0 1 ∷ nd 0 1 2 ∷ [])

-- as it is read
abbrev c : Chart
c = chart_back raised

pub whole_groups : read_chart (chart_bytes raised) ≡ record { number = 0; place = 0; chart = c }
unfolding pick only or_remark field_at first_field on_field scan head_fault step_fault group_fault step_kind read_chart
whole_groups = refl

-- how many groups a diagram may name: to the highest, also where there is one step alone; without steps none; as many as steps where none is named
pub counts : List ℕ
counts =
    group_count c ∷ group_count chart ∷ group_count (record { stages = 5; start = 0; end = 4; steps = [] })
    ∷ group_count (record { stages = 5; start = 0; end = 4; steps = gr 0 1 7 1023 ∷ [] }) ∷ group_count (record { stages = 5; start = 0; end = 4; steps = gr 0 1 7 0 ∷ gr 0 1 7 0 ∷ [] }) ∷ []

pub counts_hold : counts ≡ 8 ∷ 6 ∷ 0 ∷ 1024 ∷ 1 ∷ []
unfolding counts pick group_count
counts_hold = refl

-- a node may name the highest group and one in a gap, and none above; in a chart without steps none
abbrev one : ℕ → List ℕ
one k = diagram_bytes (rooted 2 (nd k 0 1 ∷ []))

pub named : List (List ℕ)
named =
    load_refusal (read_files strict (chart_bytes raised) (one 7))
    ∷ load_refusal (read_files strict (chart_bytes raised) (one 3))
    ∷ load_refusal (read_files strict (chart_bytes raised) (one 8))
    ∷ load_refusal (read_files strict (chart_bytes raised) (one 1023))
    ∷ load_refusal (read_files strict (head_bytes 5 0 4) (one 0))
    ∷ load_refusal (read_files strict (steps (gr 0 1 7 1023 ∷ [])) (one 1023))
    ∷ load_refusal (read_files lenient (steps (gr 0 1 7 1023 ∷ [])) (one 1023))
    ∷ load_refusal (read_files lenient (chart_bytes raised) (one 8))
    ∷ []

pub named_holds : named ≡ [] ∷ [] ∷ (6 ∷ 2 ∷ 5 ∷ []) ∷ (6 ∷ 2 ∷ 5 ∷ []) ∷ (6 ∷ 2 ∷ 5 ∷ []) ∷ [] ∷ [] ∷ (6 ∷ 2 ∷ 5 ∷ []) ∷ []
unfolding named pick only or_remark field_at first_field on_field scan head_fault step_fault group_fault step_kind read_chart group_count node_fault node_fault_after padding read_diagram read_files
named_holds = refl

-- so may a node of a second diagram
abbrev two_refusal : LoadTwo → List ℕ
two_refusal (ready_two c d e) = []
two_refusal (refused_two number file place) = number ∷ file ∷ place ∷ []

pub named_more : List (List ℕ)
named_more = two_refusal (load_two (steps (gr 0 1 7 1023 ∷ [])) (one 1023) (one 1023) 9) ∷ two_refusal (load_two (chart_bytes raised) (one 7) (one 8) 9) ∷ []

pub named_more_holds : named_more ≡ [] ∷ (6 ∷ 3 ∷ 5 ∷ []) ∷ []
unfolding named_more pick only or_remark field_at first_field on_field scan head_fault step_fault group_fault step_kind read_chart group_count node_fault node_fault_after padding read_diagram read_files load_two
named_more_holds = refl

-- a test is 1 or 0
abbrev flag : Bool → Option ℕ
flag b = some (cond b 1 0)

abbrev sums : List ℕ → List (Option ℕ)
sums ps = map (λ p. sum (graph c) (automaton c needs) (estimate c needs) (stage_of (automaton c needs) p) (node_of (automaton c needs) p)) ps

-- a rule alone, over groups: its node's estimate
abbrev asked : ℕ → ℕ → ℕ → Option ℕ
asked group lo hi = diagram_estimate c (rooted 2 (nd group lo hi ∷ [])) 2

pub computed : List (List (Option ℕ))
computed =
    -- what each group costs, the cheapest of its steps, rounded, though it is not the first; none without steps, and past the highest
    map (variable_cost c) (upto 9)
    -- the cheapest plan; the reached pairs; estimates of stages and of both nodes; sums
    ∷ (cheapest c needs ∷ [])
    ∷ map some (reached_pairs (graph c) (automaton c needs))
    ∷ (map (chart_estimate c) (upto 5) ++ map (diagram_estimate c needs) (2 ∷ 3 ∷ []))
    ∷ sums (3 ∷ 6 ∷ 9 ∷ 13 ∷ 17 ∷ [])
    -- both raises need the settling, since either sets group 0
    ∷ (flag (legal c needs (0 ∷ 3 ∷ 5 ∷ [])) ∷ flag (legal c needs (1 ∷ 3 ∷ 5 ∷ [])) ∷ flag (legal c needs (1 ∷ 2 ∷ 4 ∷ 5 ∷ [])) ∷ flag (legal c needs (0 ∷ 2 ∷ 4 ∷ 5 ∷ [])) ∷ [])
    -- nodes that ask for group 0, for group 2, and for group 3, which is never present: its hi is ignored, also where lo has no estimate
    ∷ (asked 0 0 1 ∷ asked 2 0 1 ∷ asked 3 0 1 ∷ asked 3 1 0 ∷ [])
    ∷ (cheapest c (rooted 2 (nd 3 0 1 ∷ [])) ∷ cheapest c (rooted 2 (nd 3 1 0 ∷ [])) ∷ [])
    ∷ []

pub expected : List (List (Option ℕ))
expected =
    (some 50 ∷ some 200 ∷ some 50 ∷ none ∷ none ∷ none ∷ none ∷ some 50 ∷ none ∷ [])
    ∷ (some 350 ∷ [])
    ∷ (some 3 ∷ some 6 ∷ some 9 ∷ some 13 ∷ some 17 ∷ [])
    ∷ (some 150 ∷ some 100 ∷ some 100 ∷ some 50 ∷ some 0 ∷ some 200 ∷ some 0 ∷ [])
    ∷ (some 150 ∷ some 250 ∷ some 350 ∷ some 350 ∷ some 350 ∷ [])
    ∷ (some 0 ∷ some 0 ∷ some 1 ∷ some 1 ∷ [])
    ∷ (some 50 ∷ some 50 ∷ none ∷ some 0 ∷ [])
    ∷ (none ∷ some 150 ∷ [])
    ∷ []

pub groups_hold : computed ≡ expected
unfolding computed expected pick smaller larger sum_of descend descend_in advance finish verdict ways_in ways least_way stands least_cost reached goal reached_pairs goal_pairs to_end sum variable variable_cost says_yes legal cheapest chart_estimate diagram_estimate estimate
groups_hold = refl

-- ---- two steps of one group on one way set it once. Steps 0 and 1 are group 0, step 2 is group 1; the rule asks for group 0 without group 1

abbrev twice : Chart
twice = record { stages = 3; start = 0; end = 2; steps = gr 0 1 50 0 ∷ gr 1 2 50 0 ∷ gr 1 2 50 1 ∷ [] }

abbrev without : Diagram
without = rooted 3 (nd 1 1 0 ∷ nd 0 0 2 ∷ [])

-- where each of both ways stands, and whether the diagram says yes: after 0 and 1 it stands at node 2, which asks for group 1; after 0 and 2 at 0
pub twice_set : List ℕ
twice_set =
    stands (automaton twice without) 3 (0 ∷ 1 ∷ [])
    ∷ stands (automaton twice without) 3 (0 ∷ 2 ∷ [])
    ∷ cond (says_yes twice without (0 ∷ 1 ∷ [])) 1 0
    ∷ cond (says_yes twice without (0 ∷ 2 ∷ [])) 1 0
    ∷ []

pub twice_holds : twice_set ≡ 2 ∷ 0 ∷ 1 ∷ 0 ∷ []
unfolding twice_set pick descend descend_in advance verdict stands says_yes variable
twice_holds = refl

-- ---- sets of groups, those without steps too: a diagram that asks for group 3, which has no step, is its own reduction, and has a part in a conjunction

abbrev asked_for : ℕ → Diagram
asked_for group = rooted 2 (nd group 0 1 ∷ [])

pub joined : List Diagram
joined = reduction (group_count c) (asked_for 3) ∷ conjunction (group_count c) (asked_for 3) (asked_for 5) ∷ []

pub joined_holds : joined ≡ asked_for 3 ∷ rooted 3 (nd 5 0 1 ∷ nd 3 0 2 ∷ []) ∷ []
unfolding joined group_count reduction conjunction reduced_of tree_of accepts verdict descend descend_in mk alike pick diagram_of postorder member position ref numbered nodes_of
joined_holds = refl

-- and the calls write just that, also where a group has a number that no step has
pub reduce_written : ReducePromise (ready c (asked_for 7)) (diagram_bytes (leaf 0) ++ diagram_bytes (leaf 0) ++ diagram_bytes (leaf 0)) (diagram_bytes (asked_for 7) ++ 0 ∷ []) (accepted 0 14 0)
unfolding group_count reduction reduced_of tree_of accepts verdict descend descend_in mk alike pick diagram_of postorder member position ref numbered nodes_of file_answer file_buffer
reduce_written = record { answer = refl; buffer = refl }

abbrev both : Diagram
both = rooted 3 (nd 7 0 1 ∷ nd 3 0 2 ∷ [])

pub conjoin_written : ConjoinPromise (ready_two c (asked_for 7) (asked_for 3)) (conjoin_slices [] (diagram_bytes (rooted 0 (nd 0 0 0 ∷ nd 0 0 0 ∷ [])))) (conjoin_slices [] (diagram_bytes both)) (accepted 0 23 0)
unfolding group_count conjunction reduced_of tree_of accepts verdict descend descend_in mk alike pick diagram_of postorder member position ref numbered nodes_of written_answer written_buffer file_answer file_buffer
conjoin_written = (refl, refl, refl, refl)

-- mistakes: the largest cost of a group, its first step's, the unrounded one; a group without steps that costs 0; its hi where lo has no estimate; a raise that is
-- taken for another variable; the second step of a group that leads on to the hi of a later node
pub mistakes : List (Option ℕ × Option ℕ)
mistakes =
    (variable_cost c 0, some 100) ∷ (variable_cost c 0, some 90) ∷ (variable_cost c 0, some 40) ∷ (variable_cost c 3, some 0) ∷ (asked 3 0 1, some 0)
    ∷ (cheapest c needs, some 200) ∷ (some (stands (automaton twice without) 3 (0 ∷ 1 ∷ [])), some 0) ∷ []

abbrev same : Option ℕ → Option ℕ → Bool
same none none = eqb 0 0
same none (some y) = false
same (some x) none = false
same (some x) (some y) = eqb x y

pub mistakes_refuted : map (λ x. same x.0 x.1) mistakes ≡ map (λ x. false) mistakes
unfolding mistakes pick smaller larger sum_of descend descend_in advance finish verdict ways_in ways least_way stands variable variable_cost says_yes cheapest diagram_estimate
mistakes_refuted = refl
