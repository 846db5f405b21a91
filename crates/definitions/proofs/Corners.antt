-- Corners of the definitions: an estimate that is none on one side, the last step and the last node that pass, two faults in one step, a diagram head's fault, a refusal's file and place, row starts.
-- Assumes nothing.
use Rattle.std.specs.Prelude.{ℕ, ◌≡◌, refl, false, List, [], ◌∷◌, ◌++◌, map, eqb, length, get_or, take, drop, replicate}
use Rattle.std.proofs.Math.Option.{Option, none, some}
use Rattle.definitions.specs.Basics.{pick, smaller, larger, sum_of}
use Rattle.definitions.specs.Fields.{only, or_remark, field_at, first_field, on_field, scan}
use Rattle.definitions.specs.Charts.{ChartStep, head_fault, step_fault, read_chart, group_fault, step_kind, group_count, plain}
use Rattle.definitions.specs.Diagrams.{node_fault, padding, node_fault_after, read_diagram}
use Rattle.definitions.specs.Bytes.{field, body_of_step, body_of_node, head_bytes, step_bytes, chart_bytes, diagram_bytes}
use Rattle.definitions.specs.Answers.{read_files, load}
use Rattle.definitions.specs.Pairs.{row_start, row_starts}
use Rattle.definitions.specs.Marked.{st, nd, values, rules}
use Rattle.definitions.proofs.Examples.{rooted, steps, chart_refusal, rules_refusal, load_refusal}

-- the smaller, the larger and the sum, where one is none
pub options : List (Option ℕ)
options =
    smaller none (some 5) ∷ smaller (some 5) none ∷ smaller (some 5) (some 7) ∷ larger none (some 5) ∷ larger (some 5) none ∷ larger (some 5) (some 7)
    ∷ sum_of none (some 5) ∷ sum_of (some 5) none ∷ sum_of (some 5) (some 7) ∷ []

pub options_hold : options ≡ some 5 ∷ some 5 ∷ some 5 ∷ none ∷ none ∷ some 7 ∷ none ∷ none ∷ some 12 ∷ []
unfolding options smaller larger sum_of
options_hold = refl

-- a node after 509 and after 510 nodes
pub node_counts : List ℕ
node_counts =
    let node = body_of_node (nd 0 0 1) in
    node_fault 1 (λ r. 0) 509 node ∷ node_fault 1 (λ r. 0) 510 node ∷ []

pub node_counts_hold : node_counts ≡ 0 ∷ 6 ∷ []
unfolding node_counts pick node_fault
node_counts_hold = refl

-- what a step is refused for in a chart of five stages, after `count` steps of which the last leaves stage 2 and is of group 7
abbrev judged : ℕ → ChartStep → ℕ
judged count x = step_fault 5 x.tag 2 7 count (body_of_step x)

pub step_faults : List (ℕ × ℕ)
step_faults =
    -- none, at each limit
    (judged 1023 (st 2 4 1000000), 0)
    ∷ (judged 0 (st 2 3 0), 0)
    -- one: the 1,025th; its own stages; the stage count; the step before it; its value
    ∷ (judged 1024 (st 2 4 1000000), 5)
    ∷ (judged 1025 (st 2 3 7), 5)
    ∷ (judged 1 (st 3 3 7), 10)
    ∷ (judged 1 (st 4 1 7), 10)
    ∷ (judged 1 (st 257 4 7), 10)
    ∷ (judged 1 (st 2 5 7), 10)
    ∷ (judged 1 (st 2 259 7), 10)
    ∷ (step_fault 4 plain 2 7 1 (body_of_step (st 2 4 7)), 10)
    ∷ (judged 1 (st 1 2 7), 5)
    ∷ (judged 1 (st 0 2 7), 5)
    ∷ (judged 1 (st 2 3 1000001), 11)
    ∷ (judged 1 (st 2 3 16777216), 11)
    ∷ (judged 1 (st 2 3 4294967295), 11)
    -- two: the 1,025th with each other fault
    ∷ (judged 1024 (st 3 3 7), 5)
    ∷ (judged 1024 (st 2 5 7), 5)
    ∷ (judged 1024 (st 1 2 7), 5)
    ∷ (judged 1024 (st 2 3 1000001), 5)
    -- its own stages with the stage count, the step before it, its value
    ∷ (judged 1 (st 6 5 7), 10)
    ∷ (judged 1 (st 1 1 7), 10)
    ∷ (judged 1 (st 3 3 1000001), 10)
    -- the stage count with the step before it, its value
    ∷ (judged 1 (st 1 5 7), 10)
    ∷ (judged 1 (st 2 5 1000001), 10)
    -- the step before it with its value
    ∷ (judged 1 (st 1 2 1000001), 5)
    -- three and four
    ∷ (judged 1 (st 1 1 1000001), 10)
    ∷ (judged 1 (st 1 5 4294967295), 10)
    ∷ (judged 1024 (st 1 1 1000001), 5)
    ∷ []

pub step_faults_hold : map (λ x. x.0) step_faults ≡ map (λ x. x.1) step_faults
unfolding step_faults pick step_fault group_fault step_kind
step_faults_hold = refl

-- mistakes: its stages after the step before it, 10 and 11 exchanged, the value before its stages and before the step before it, 5 for a value and for its stages,
-- the 1,025th after its stages and after its value
pub step_mistakes : List (ℕ × ℕ)
step_mistakes =
    (judged 1 (st 1 1 7), 5)
    ∷ (judged 1 (st 1 5 7), 5)
    ∷ (judged 1 (st 3 3 7), 11)
    ∷ (judged 1 (st 2 3 1000001), 10)
    ∷ (judged 1 (st 3 3 1000001), 11)
    ∷ (judged 1 (st 2 5 1000001), 11)
    ∷ (judged 1 (st 1 2 1000001), 11)
    ∷ (judged 1 (st 2 3 1000001), 5)
    ∷ (judged 1 (st 2 5 7), 5)
    ∷ (judged 1024 (st 3 3 7), 10)
    ∷ (judged 1024 (st 2 3 1000001), 11)
    ∷ []

pub step_mistakes_refuted : map (λ x. eqb x.0 x.1) step_mistakes ≡ map (λ x. false) step_mistakes
unfolding step_mistakes pick step_fault group_fault step_kind
step_mistakes_refuted = refl

-- such a step in its file: of length 9 it is 3, cut it is 1, whole it is told at its own place
pub bad_steps : List (List ℕ)
bad_steps =
    let first = step_bytes (st 2 3 7) in
    let bad = body_of_step (st 1 1 1000001) in
    chart_refusal (head_bytes 5 0 4 ++ first ++ field 2 (bad ++ 0 ∷ []))
    ∷ chart_refusal (head_bytes 5 0 4 ++ first ++ take 10 (field 2 bad))
    ∷ chart_refusal (head_bytes 5 0 4 ++ first ++ field 2 bad)
    ∷ []

pub bad_steps_hold : bad_steps ≡ (3 ∷ 20 ∷ []) ∷ (1 ∷ 20 ∷ []) ∷ (10 ∷ 20 ∷ []) ∷ []
unfolding bad_steps pick only or_remark field_at first_field on_field scan head_fault step_fault group_fault step_kind read_chart
bad_steps_hold = refl

-- a diagram's head that is cut, of another tag, of another length, with a cut body; a node in its place; a second head
pub heads : List (List ℕ)
heads =
    rules_refusal (17 ∷ 2 ∷ []) 6
    ∷ rules_refusal (1 ∷ 2 ∷ 0 ∷ 0 ∷ 0 ∷ []) 6
    ∷ rules_refusal (17 ∷ 3 ∷ 0 ∷ 0 ∷ 0 ∷ 0 ∷ []) 6
    ∷ rules_refusal (17 ∷ 2 ∷ 0 ∷ 0 ∷ []) 6
    ∷ rules_refusal (18 ∷ 6 ∷ 0 ∷ 2 ∷ 0 ∷ 0 ∷ 0 ∷ 1 ∷ 0 ∷ []) 6
    ∷ rules_refusal (diagram_bytes (rooted 1 []) ++ diagram_bytes (rooted 1 [])) 6
    ∷ []

pub heads_hold : heads ≡ (1 ∷ 0 ∷ []) ∷ (2 ∷ 0 ∷ []) ∷ (3 ∷ 0 ∷ []) ∷ (1 ∷ 0 ∷ []) ∷ (2 ∷ 0 ∷ []) ∷ (2 ∷ 5 ∷ []) ∷ []
unfolding heads pick only or_remark field_at first_field on_field scan node_fault node_fault_after padding read_diagram
heads_hold = refl

-- number, file and place: the chart's second step cut, the diagram's second node cut, its second node beyond a limit; a faulty chart before a faulty diagram
pub places : List (List ℕ)
places =
    load_refusal (load (take 25 (chart_bytes values)) (diagram_bytes rules) (20 ∷ []) 4)
    ∷ load_refusal (load (chart_bytes values) (take 22 (diagram_bytes rules)) (20 ∷ []) 4)
    ∷ load_refusal (load (chart_bytes values) (diagram_bytes (rooted 3 (nd 2 0 1 ∷ nd 2 1 2 ∷ []))) (20 ∷ []) 4)
    ∷ load_refusal (load (take 25 (chart_bytes values)) (take 22 (diagram_bytes rules)) [] 0)
    ∷ []

pub places_hold : places ≡ (1 ∷ 1 ∷ 20 ∷ []) ∷ (1 ∷ 2 ∷ 14 ∷ []) ∷ (6 ∷ 2 ∷ 14 ∷ []) ∷ (1 ∷ 1 ∷ 20 ∷ []) ∷ []
unfolding places pick only or_remark field_at first_field on_field scan head_fault step_fault group_fault step_kind read_chart node_fault node_fault_after padding read_diagram group_count read_files load
places_hold = refl

-- a child that is the node itself, at lo and at hi; a child that does not test a later step, and one that does; a third step that leaves a stage below the second's
pub neighbours : List (List ℕ)
neighbours =
    rules_refusal (diagram_bytes (rooted 2 (nd 2 2 0 ∷ []))) 6
    ∷ rules_refusal (diagram_bytes (rooted 2 (nd 2 0 2 ∷ []))) 6
    ∷ rules_refusal (diagram_bytes (rooted 4 (nd 4 0 1 ∷ nd 3 0 1 ∷ nd 3 3 1 ∷ []))) 6
    ∷ rules_refusal (diagram_bytes (rooted 4 (nd 4 0 1 ∷ nd 3 0 1 ∷ nd 2 3 1 ∷ []))) 6
    ∷ chart_refusal (steps (st 0 1 7 ∷ st 2 3 7 ∷ st 1 2 7 ∷ []))
    ∷ []

pub neighbours_hold : neighbours ≡ (6 ∷ 5 ∷ []) ∷ (6 ∷ 5 ∷ []) ∷ (6 ∷ 23 ∷ []) ∷ (0 ∷ 0 ∷ []) ∷ (5 ∷ 31 ∷ []) ∷ []
unfolding neighbours pick only or_remark field_at first_field on_field scan head_fault step_fault group_fault step_kind read_chart node_fault node_fault_after padding read_diagram
neighbours_hold = refl

-- row starts: the first of five stages with three nodes, and of one stage; the last of 256 stages, and of 255; two in between; all tables are as long
pub row_tables : List (List ℕ)
row_tables =
    take 7 (row_starts 5 3)
    ∷ take 3 (row_starts 1 2)
    ∷ drop 253 (row_starts 256 512)
    ∷ drop 253 (row_starts 255 512)
    ∷ map (λ s. get_or (row_starts 256 512) s 0) (128 ∷ 200 ∷ [])
    ∷ map length (row_starts 1 2 ∷ row_starts 5 3 ∷ row_starts 256 512 ∷ [])
    ∷ []

pub row_tables_hold : row_tables ≡ (0 ∷ 3 ∷ 6 ∷ 9 ∷ 12 ∷ 0 ∷ 0 ∷ []) ∷ (0 ∷ 0 ∷ 0 ∷ []) ∷ (129536 ∷ 130048 ∷ 130560 ∷ []) ∷ (129536 ∷ 130048 ∷ 0 ∷ []) ∷ (65536 ∷ 102400 ∷ []) ∷ (256 ∷ 256 ∷ 256 ∷ []) ∷ []
unfolding row_tables pick row_start row_starts
row_tables_hold = refl

-- past the five stages all are 0
pub rows_past : drop 5 (row_starts 5 3) ≡ replicate 251 0
unfolding pick row_start row_starts
rows_past = refl

-- mistakes: one row off, one stage short, a row past the stages, stages for nodes
pub row_mistakes : List (ℕ × ℕ)
row_mistakes =
    let entry : ℕ → ℕ = λ s. get_or (row_starts 5 3) s 0 in
    (entry 0, 3) ∷ (entry 1, 0) ∷ (entry 4, 0) ∷ (entry 5, 15) ∷ (entry 1, 5) ∷ []

pub row_mistakes_refuted : map (λ x. eqb x.0 x.1) row_mistakes ≡ map (λ x. false) row_mistakes
unfolding row_mistakes pick row_start row_starts
row_mistakes_refuted = refl
