-- Padding and reductions, computed: nodes that are padding and nodes that are not, where 13 comes among the other faults, both ways of reading, small diagrams with their
-- reductions, whole calls; and that what they must not be is refuted.
-- Assumes nothing.
use Rattle.std.specs.Prelude.{ℕ, ◌≡◌, refl, Bool, true, false, List, [], ◌∷◌, ◌++◌, map, length, take, replicate}
use Rattle.std.proofs.Common.{ap, arith}
use Rattle.definitions.specs.Basics.{pick, smaller}
use Rattle.definitions.specs.Fields.{only, or_remark, field_at, first_field, on_field, scan}
use Rattle.definitions.specs.Charts.{head_fault, step_fault, read_chart, group_fault, step_kind, group_count}
use Rattle.definitions.specs.Diagrams.{Diagram, InnerNode, descend, descend_in, advance, verdict, node_fault, strict, lenient, padding, node_fault_after, read_diagram}
use Rattle.definitions.specs.Ways.{ways_in, ways, least_way}
use Rattle.definitions.specs.Pairs.{stands, least_cost, reached, reached_pairs}
use Rattle.definitions.specs.Plans.{graph, variable, automaton}
use Rattle.definitions.specs.Bytes.{chart_bytes, body_of_node, root_bytes, node_bytes, diagram_bytes}
use Rattle.definitions.specs.Reductions.{accepts, alike, mk, tree_of, member, position, postorder, ref, numbered, nodes_of, diagram_of, reduced_of, reduction}
use Rattle.definitions.specs.Answers.{read_files, load, load_two, file_answer, file_buffer, refusal, accepted}
use Rattle.definitions.specs.Promises.{ReduceCall}
use Rattle.definitions.specs.Marked.{nd, rules, values, leaf, chart as exampleChart}
use Rattle.definitions.proofs.Examples.{rooted, load_refusal}
use Rattle.definitions.proofs.Conjunctions.{shown, padded, crossed, uncrossed}
use Rattle.definitions.proofs.Slices.{differ}
use Rattle.definitions.specs.declared.Answer.{Answer}

-- ---- one node behind others

-- four nodes that are no padding
abbrev before : List InnerNode
before = nd 5 0 1 ∷ nd 4 2 1 ∷ nd 4 1 2 ∷ nd 1 3 4 ∷ []

-- alike to the first, to the second, to the third and to the last; lo equal to hi, with 0, with 1 and with an inner node; another step, another lo, another hi than the
-- second; lo and hi exchanged; the first node of all, of any step
pub paddings : List Bool
paddings =
    padding before (nd 5 0 1)
    ∷ padding before (nd 4 2 1)
    ∷ padding before (nd 4 1 2)
    ∷ padding before (nd 1 3 4)
    ∷ padding before (nd 3 0 0)
    ∷ padding before (nd 3 1 1)
    ∷ padding before (nd 3 2 2)
    ∷ padding before (nd 3 2 1)
    ∷ padding before (nd 4 0 1)
    ∷ padding before (nd 4 2 0)
    ∷ padding before (nd 5 1 0)
    ∷ padding [] (nd 5 0 1)
    ∷ padding [] (nd 5 1 1)
    ∷ padding (nd 1023 509 510 ∷ []) (nd 1023 509 510)
    ∷ padding (nd 1023 509 510 ∷ []) (nd 1022 509 510)
    ∷ []

pub paddings_hold : paddings ≡ true ∷ true ∷ true ∷ true ∷ true ∷ true ∷ true ∷ false ∷ false ∷ false ∷ false ∷ false ∷ true ∷ true ∷ false ∷ []
unfolding paddings padding
paddings_hold = refl

-- what is wrong with a node behind these, over a chart of six steps
abbrev fault : Bool → InnerNode → ℕ
fault mode x = node_fault_after mode 6 before (body_of_node x)

-- read strictly: padding; padding that also names no step, that is its own child, whose child tests no later step: 6 comes first; no padding
pub strict_faults : List ℕ
strict_faults =
    fault strict (nd 5 0 1)
    ∷ fault strict (nd 3 2 2)
    ∷ fault strict (nd 6 1 1)
    ∷ fault strict (nd 3 6 6)
    ∷ fault strict (nd 5 2 2)
    ∷ fault strict (nd 3 2 1)
    ∷ []

-- and with padding taken
pub lenient_faults : List ℕ
lenient_faults =
    fault lenient (nd 5 0 1)
    ∷ fault lenient (nd 3 2 2)
    ∷ fault lenient (nd 6 1 1)
    ∷ fault lenient (nd 3 6 6)
    ∷ fault lenient (nd 5 2 2)
    ∷ fault lenient (nd 3 2 1)
    ∷ []

pub faults_hold : strict_faults ∷ lenient_faults ∷ [] ≡ (13 ∷ 13 ∷ 6 ∷ 6 ∷ 6 ∷ 0 ∷ []) ∷ (0 ∷ 0 ∷ 6 ∷ 6 ∷ 6 ∷ 0 ∷ []) ∷ []
unfolding strict_faults lenient_faults pick node_fault node_fault_after padding
faults_hold = refl

-- the 510th node that is alike to the first, and the 511th
pub last_faults : node_fault_after strict 6 (replicate 509 (nd 5 0 1)) (body_of_node (nd 5 0 1)) ∷ node_fault_after strict 6 (replicate 510 (nd 5 0 1)) (body_of_node (nd 5 0 1)) ∷ []
    ≡ 13 ∷ 6 ∷ []
unfolding pick node_fault node_fault_after padding
last_faults = refl

-- ---- 13 among the faults of a file

-- a remark of one byte
abbrev remark : List ℕ
remark = 128 ∷ 1 ∷ 0 ∷ 7 ∷ []

-- number and place, read in both ways
abbrev read_as : Bool → List ℕ → List ℕ
read_as mode s = (read_diagram mode s 6).number ∷ (read_diagram mode s 6).place ∷ []

abbrev doubled : List InnerNode
doubled = nd 2 0 1 ∷ nd 1 0 1 ∷ nd 2 0 1 ∷ []

-- the later of two alike nodes, at its own place; with a remark between; lo equal to hi before a double; 13 before a later 6 and before a file that ends inside the next
-- field; a 6 before it; before the root; a node that is not arrived at is no padding
pub padded_files : List (List ℕ)
padded_files =
    diagram_bytes (rooted 4 doubled)
    ∷ (root_bytes 4 ++ node_bytes (nd 2 0 1) ++ remark ++ node_bytes (nd 1 0 1) ++ remark ++ node_bytes (nd 2 0 1))
    ∷ diagram_bytes (rooted 4 (nd 2 1 1 ∷ doubled))
    ∷ diagram_bytes (rooted 4 (doubled ++ nd 9 0 1 ∷ []))
    ∷ (diagram_bytes (rooted 4 doubled) ++ 18 ∷ [])
    ∷ diagram_bytes (rooted 4 (nd 9 0 1 ∷ doubled))
    ∷ diagram_bytes (rooted 99 doubled)
    ∷ diagram_bytes (rooted 2 (nd 2 0 1 ∷ nd 1 0 1 ∷ []))
    ∷ []

pub padded_files_hold : map (read_as strict) padded_files ∷ map (read_as lenient) padded_files ∷ []
    ≡ ((13 ∷ 23 ∷ []) ∷ (13 ∷ 31 ∷ []) ∷ (13 ∷ 5 ∷ []) ∷ (13 ∷ 23 ∷ []) ∷ (13 ∷ 23 ∷ []) ∷ (6 ∷ 5 ∷ []) ∷ (13 ∷ 23 ∷ []) ∷ (0 ∷ 0 ∷ []) ∷ [])
    ∷ ((0 ∷ 0 ∷ []) ∷ (0 ∷ 0 ∷ []) ∷ (0 ∷ 0 ∷ []) ∷ (6 ∷ 32 ∷ []) ∷ (1 ∷ 32 ∷ []) ∷ (6 ∷ 5 ∷ []) ∷ (6 ∷ 0 ∷ []) ∷ (0 ∷ 0 ∷ []) ∷ []) ∷ []
unfolding padded_files pick only or_remark field_at first_field on_field scan node_fault node_fault_after padding read_diagram
padded_files_hold = refl

-- not at the place of the earlier of two alike nodes, and not the fault of a later field
not_earlier : read_as strict (diagram_bytes (rooted 4 doubled)) ≡ 13 ∷ 5 ∷ [] → ⊥
unfolding pick only or_remark field_at first_field on_field scan node_fault node_fault_after padding read_diagram
not_earlier e = let z = differ e 1 in omega arith

not_later : read_as strict (diagram_bytes (rooted 4 (doubled ++ nd 9 0 1 ∷ []))) ≡ 6 ∷ 32 ∷ [] → ⊥
unfolding pick only or_remark field_at first_field on_field scan node_fault node_fault_after padding read_diagram
not_later e = let z = differ e 0 in omega arith

abbrev chart : List ℕ
chart = chart_bytes values

abbrev doubles : List ℕ
doubles = diagram_bytes (rooted 4 doubled)

-- a search, and a conjunction with such a file 2 and such a file 3: before the space; a faulty chart before all; both ways of reading the files
pub padded_loads : List (List ℕ)
padded_loads =
    load_refusal (load chart doubles (0 ∷ []) 0)
    ∷ shown (load_two chart doubles doubles 0)
    ∷ shown (load_two chart (diagram_bytes rules) doubles 0)
    ∷ load_refusal (load (9 ∷ []) doubles [] 0)
    ∷ load_refusal (read_files strict chart doubles)
    ∷ load_refusal (read_files lenient chart doubles)
    ∷ load_refusal (read_files lenient (9 ∷ []) doubles)
    ∷ []

pub padded_loads_hold : padded_loads ≡ (13 ∷ 2 ∷ 23 ∷ []) ∷ (13 ∷ 2 ∷ 23 ∷ []) ∷ (13 ∷ 3 ∷ 23 ∷ []) ∷ (1 ∷ 1 ∷ 0 ∷ []) ∷ (13 ∷ 2 ∷ 23 ∷ []) ∷ [] ∷ (1 ∷ 1 ∷ 0 ∷ []) ∷ []
unfolding padded_loads pick only or_remark field_at first_field on_field scan head_fault step_fault group_fault step_kind read_chart node_fault node_fault_after padding read_diagram group_count read_files load load_two
padded_loads_hold = refl

-- ---- reductions

-- the rule of REFERENCE 14, as it is and padded; a double, and three nodes in a row with lo equal to hi; constants; a node that is not arrived at, behind the root and before
-- it; nodes in another order than a walk leaves them
pub reductions : List Diagram
reductions =
    reduction 6 rules
    ∷ reduction 6 padded
    ∷ reduction 3 (rooted 4 doubled)
    ∷ reduction 6 (rooted 4 (nd 5 1 1 ∷ nd 4 2 2 ∷ nd 3 3 3 ∷ []))
    ∷ reduction 6 (rooted 3 (nd 5 0 1 ∷ nd 4 0 0 ∷ []))
    ∷ reduction 6 (leaf 0)
    ∷ reduction 0 (leaf 1)
    ∷ reduction 6 (rooted 2 (nd 5 0 1 ∷ nd 4 2 1 ∷ []))
    ∷ reduction 6 (rooted 3 (nd 5 1 0 ∷ nd 5 0 1 ∷ []))
    ∷ reduction 3 crossed
    ∷ reduction 3 uncrossed
    ∷ []

pub reductions_hold : reductions
    ≡ rules
    ∷ rules
    ∷ rooted 2 (nd 2 0 1 ∷ [])
    ∷ leaf 1
    ∷ leaf 0
    ∷ leaf 0
    ∷ leaf 1
    ∷ rooted 2 (nd 5 0 1 ∷ [])
    ∷ rooted 2 (nd 5 0 1 ∷ [])
    ∷ uncrossed
    ∷ uncrossed
    ∷ []
unfolding reductions reduction reduced_of tree_of accepts verdict descend descend_in mk alike pick diagram_of postorder member position ref numbered nodes_of
reductions_hold = refl

-- ---- whole calls

-- root 2, with lo equal to hi: yes always
abbrev flat : List ℕ
flat = diagram_bytes (rooted 2 (nd 5 1 1 ∷ []))

-- a buffer of six bytes, what it must hold then, and one of four
abbrev out : List ℕ
out = 9 ∷ 9 ∷ 9 ∷ 9 ∷ 9 ∷ 8 ∷ []

abbrev out' : List ℕ
out' = 17 ∷ 2 ∷ 0 ∷ 1 ∷ 0 ∷ 8 ∷ []

abbrev short : List ℕ
short = 9 ∷ 9 ∷ 9 ∷ 9 ∷ []

pub call_holds : ReduceCall chart flat out out' (accepted 0 5 0)
unfolding pick only or_remark field_at first_field on_field scan head_fault step_fault group_fault step_kind read_chart node_fault node_fault_after padding read_diagram group_count read_files reduction reduced_of tree_of accepts verdict descend descend_in mk alike diagram_of postorder member position ref numbered nodes_of file_answer file_buffer
call_holds = record { answer = refl; buffer = refl }

pub short_holds : ReduceCall chart flat short short (refusal 7 0 0 0)
unfolding pick only or_remark field_at first_field on_field scan head_fault step_fault group_fault step_kind read_chart node_fault node_fault_after padding read_diagram group_count read_files reduction reduced_of tree_of accepts verdict descend descend_in mk alike diagram_of postorder member position ref numbered nodes_of file_answer file_buffer
short_holds = record { answer = refl; buffer = refl }

-- a refused diagram, also where the buffer is too short
pub refused_holds : ReduceCall chart (take 13 flat) short short (refusal 1 2 5 0)
unfolding pick only or_remark field_at first_field on_field scan head_fault step_fault group_fault step_kind read_chart node_fault node_fault_after padding read_diagram group_count read_files
refused_holds = (refl, refl)

-- the padded rule of REFERENCE 17.5: 13 at its second node of two that are alike, and its reduction, the rule itself
pub padded_refused : read_as strict (diagram_bytes padded) ≡ 13 ∷ 23 ∷ []
unfolding pick only or_remark field_at first_field on_field scan node_fault node_fault_after padding read_diagram
padded_refused = refl

pub padded_call : ReduceCall chart (diagram_bytes padded) (replicate 24 9) (diagram_bytes rules ++ 9 ∷ []) (accepted 0 23 0)
unfolding pick only or_remark field_at first_field on_field scan head_fault step_fault group_fault step_kind read_chart node_fault node_fault_after padding read_diagram group_count read_files reduction reduced_of tree_of accepts verdict descend descend_in mk alike diagram_of postorder member position ref numbered nodes_of file_answer file_buffer
padded_call = record { answer = refl; buffer = refl }

-- with padding the count of reached pairs may be another, though it means the same, here that step 2 is taken: 6 in place of 5
abbrev twice : Diagram
twice = rooted 4 (nd 2 0 1 ∷ nd 2 0 1 ∷ nd 0 2 3 ∷ [])

abbrev once : Diagram
once = rooted 2 (nd 2 0 1 ∷ [])

pub counts : length (reached_pairs (graph exampleChart) (automaton exampleChart twice)) ∷ length (reached_pairs (graph exampleChart) (automaton exampleChart once)) ∷ [] ≡ 6 ∷ 5 ∷ []
unfolding pick smaller descend descend_in advance ways_in ways least_way stands least_cost reached reached_pairs variable
counts = refl

-- a byte behind the file; a byte of the file; a count; a cost; the padded node left in; 13; a buffer that is written under 7, and under a refusal; 7 before the file's refusal; another place, another file, a count under it
call_behind : ReduceCall chart flat out (17 ∷ 2 ∷ 0 ∷ 1 ∷ 0 ∷ 0 ∷ []) (accepted 0 5 0) → ⊥
unfolding pick only or_remark field_at first_field on_field scan head_fault step_fault group_fault step_kind read_chart node_fault node_fault_after padding read_diagram group_count read_files reduction reduced_of tree_of accepts verdict descend descend_in mk alike diagram_of postorder member position ref numbered nodes_of file_buffer
call_behind s = let e = differ s.buffer 5 in omega arith

call_root : ReduceCall chart flat out (17 ∷ 2 ∷ 0 ∷ 0 ∷ 0 ∷ 8 ∷ []) (accepted 0 5 0) → ⊥
unfolding pick only or_remark field_at first_field on_field scan head_fault step_fault group_fault step_kind read_chart node_fault node_fault_after padding read_diagram group_count read_files reduction reduced_of tree_of accepts verdict descend descend_in mk alike diagram_of postorder member position ref numbered nodes_of file_buffer
call_root s = let e = differ s.buffer 3 in omega arith

call_count : ReduceCall chart flat out out' (accepted 0 5 1) → ⊥
unfolding pick only or_remark field_at first_field on_field scan head_fault step_fault group_fault step_kind read_chart node_fault node_fault_after padding read_diagram group_count read_files reduction reduced_of tree_of accepts verdict descend descend_in mk alike diagram_of postorder member position ref numbered nodes_of file_answer
call_count s = let e = ap (λ (a : Answer). a.count) s.answer in omega arith

call_cost : ReduceCall chart flat out out' (accepted 50 5 0) → ⊥
unfolding pick only or_remark field_at first_field on_field scan head_fault step_fault group_fault step_kind read_chart node_fault node_fault_after padding read_diagram group_count read_files reduction reduced_of tree_of accepts verdict descend descend_in mk alike diagram_of postorder member position ref numbered nodes_of file_answer
call_cost s = let e = ap (λ (a : Answer). a.cost) s.answer in omega arith

call_padded : ReduceCall chart flat (flat ++ 8 ∷ []) (flat ++ 8 ∷ []) (accepted 0 14 0) → ⊥
unfolding pick only or_remark field_at first_field on_field scan head_fault step_fault group_fault step_kind read_chart node_fault node_fault_after padding read_diagram group_count read_files reduction reduced_of tree_of accepts verdict descend descend_in mk alike diagram_of postorder member position ref numbered nodes_of file_answer
call_padded s = let e = ap (λ (a : Answer). a.length) s.answer in omega arith

call_thirteen : ReduceCall chart flat out out (refusal 13 2 5 0) → ⊥
unfolding pick only or_remark field_at first_field on_field scan head_fault step_fault group_fault step_kind read_chart node_fault node_fault_after padding read_diagram group_count read_files reduction reduced_of tree_of accepts verdict descend descend_in mk alike diagram_of postorder member position ref numbered nodes_of file_answer
call_thirteen s = let e = ap (λ (a : Answer). a.number) s.answer in omega arith

short_written : ReduceCall chart flat short (17 ∷ 2 ∷ 0 ∷ 1 ∷ []) (refusal 7 0 0 0) → ⊥
unfolding pick only or_remark field_at first_field on_field scan head_fault step_fault group_fault step_kind read_chart node_fault node_fault_after padding read_diagram group_count read_files reduction reduced_of tree_of accepts verdict descend descend_in mk alike diagram_of postorder member position ref numbered nodes_of file_buffer
short_written s = let e = differ s.buffer 0 in omega arith

refused_written : ReduceCall chart (take 13 flat) out out' (refusal 1 2 5 0) → ⊥
unfolding pick only or_remark field_at first_field on_field scan head_fault step_fault group_fault step_kind read_chart node_fault node_fault_after padding read_diagram group_count read_files
refused_written s = let e = differ s.1 0 in omega arith

refused_seven : ReduceCall chart (take 13 flat) short short (refusal 7 0 0 0) → ⊥
unfolding pick only or_remark field_at first_field on_field scan head_fault step_fault group_fault step_kind read_chart node_fault node_fault_after padding read_diagram group_count read_files
refused_seven s = let e = ap (λ (a : Answer). a.number) s.0 in omega arith

refused_place : ReduceCall chart (take 13 flat) short short (refusal 1 2 14 0) → ⊥
unfolding pick only or_remark field_at first_field on_field scan head_fault step_fault group_fault step_kind read_chart node_fault node_fault_after padding read_diagram group_count read_files
refused_place s = let e = ap (λ (a : Answer). a.place) s.0 in omega arith

refused_mark : ReduceCall chart (take 13 flat) short short (refusal 1 3 5 0) → ⊥
unfolding pick only or_remark field_at first_field on_field scan head_fault step_fault group_fault step_kind read_chart node_fault node_fault_after padding read_diagram group_count read_files
refused_mark s = let e = ap (λ (a : Answer). a.file) s.0 in omega arith

refused_count : ReduceCall chart (take 13 flat) short short (refusal 1 2 5 1) → ⊥
unfolding pick only or_remark field_at first_field on_field scan head_fault step_fault group_fault step_kind read_chart node_fault node_fault_after padding read_diagram group_count read_files
refused_count s = let e = ap (λ (a : Answer). a.count) s.0 in omega arith
