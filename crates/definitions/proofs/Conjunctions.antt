-- Conjunctions and reduced diagrams, computed: small diagrams with their walks and files, the checks in their order, whole calls; and that what they must not be is
-- refuted.
-- Assumes nothing.
use Rattle.std.specs.Prelude.{ℕ, zero, suc, ◌-◌, ◌≤◌, ◌≡◌, refl, true, not, ◌&&◌, ◌||◌, List, [], ◌∷◌, ◌++◌, map, take, replicate}
use Rattle.std.proofs.Common.{ap, arith}
use Rattle.std.proofs.Math.ListN.{get_or-eq_default}
use Rattle.definitions.specs.Basics.{pick, upto}
use Rattle.definitions.specs.Fields.{only, or_remark, field_at, first_field, on_field, scan}
use Rattle.definitions.specs.Charts.{head_fault, step_fault, read_chart, group_fault, step_kind, group_count}
use Rattle.definitions.specs.Diagrams.{Diagram, InnerNode, no_node, inner, descend, descend_in, verdict, node_fault, padding, node_fault_after, read_diagram}
use Rattle.definitions.specs.Bytes.{chart_bytes, diagram_bytes}
use Rattle.definitions.specs.Reductions.{accepts, walk, Reduced, Arrives, at_root, at_lo, at_hi, alike, mk, tree_of, member, position, postorder, ref, numbered, nodes_of, diagram_of, reduced_of, conjunction}
use Rattle.definitions.specs.Answers.{LoadTwo, ready_two, refused_two, read_files, load_two, file_answer, file_buffer, refusal, accepted}
use Rattle.definitions.specs.Promises.{written_answer, written_buffer, conjoin_slices, ConjoinCall}
use Rattle.definitions.specs.Marked.{nd, rules, values, leaf}
use Rattle.definitions.proofs.Slices.{differ}
use Rattle.definitions.specs.declared.Answer.{Answer}

abbrev diagram : ℕ → List InnerNode → Diagram
diagram root nodes = record { root = root; nodes = nodes }

-- ---- conjunctions

-- the rule of REFERENCE 14 with a double, a node that leads to either of the two and one that is not arrived at; and in another order
abbrev pub padded : Diagram
padded = diagram 6 (nd 5 1 0 ∷ nd 2 0 1 ∷ nd 2 0 1 ∷ nd 1 3 4 ∷ nd 0 1 5 ∷ [])

-- step 5 is never taken; step 5 is always taken
abbrev no_five : Diagram
no_five = diagram 2 (nd 5 1 0 ∷ [])

abbrev only_five : Diagram
only_five = diagram 2 (nd 5 0 1 ∷ [])

-- node 3 tests step 1 and stands before node 2, which tests step 2, in a walk; the same as it is written
abbrev pub crossed : Diagram
crossed = diagram 4 (nd 2 0 1 ∷ nd 1 0 1 ∷ nd 0 3 2 ∷ [])

abbrev pub uncrossed : Diagram
uncrossed = diagram 4 (nd 1 0 1 ∷ nd 2 0 1 ∷ nd 0 2 3 ∷ [])

-- two nodes lead to node 2
abbrev shared : Diagram
shared = diagram 4 (nd 2 0 1 ∷ nd 1 0 2 ∷ nd 0 3 2 ∷ [])

pub conjunctions : List Diagram
conjunctions =
    conjunction 6 rules (leaf 1)
    ∷ conjunction 6 rules (leaf 0)
    ∷ conjunction 6 (leaf 1) (leaf 1)
    ∷ conjunction 6 rules rules
    ∷ conjunction 6 padded (leaf 1)
    ∷ conjunction 6 rules no_five
    ∷ conjunction 6 no_five rules
    ∷ conjunction 6 no_five only_five
    ∷ conjunction 3 crossed (leaf 1)
    ∷ []

pub conjunctions_hold : conjunctions
    ≡ rules
    ∷ leaf 0
    ∷ leaf 1
    ∷ rules
    ∷ rules
    ∷ diagram 4 (nd 5 1 0 ∷ nd 2 0 2 ∷ nd 0 2 3 ∷ [])
    ∷ diagram 4 (nd 5 1 0 ∷ nd 2 0 2 ∷ nd 0 2 3 ∷ [])
    ∷ leaf 0
    ∷ uncrossed
    ∷ []
unfolding conjunctions conjunction reduced_of tree_of accepts verdict descend descend_in mk alike pick diagram_of postorder member position ref numbered nodes_of
conjunctions_hold = refl

-- one of two steps, and both; a property of one step, and of none; a node that two others lead to stands once
pub properties : List Diagram
properties =
    reduced_of 2 (λ set. set 0 || set 1)
    ∷ reduced_of 2 (λ set. set 0 && set 1)
    ∷ reduced_of 2 (λ set. set 1)
    ∷ reduced_of 0 (λ set. true)
    ∷ reduced_of 3 (λ set. (set 0 || set 1) && set 2)
    ∷ reduced_of 2 (λ set. not (set 0) && set 1)
    ∷ reduced_of 3 (λ set. set 1 && (set 0 || set 2))
    ∷ reduced_of 3 (λ set. set 1 || (set 0 && set 2))
    ∷ reduced_of 3 (λ set. pick (set 0 || set 1) (set 2) (not (set 2)))
    ∷ []

pub properties_hold : properties
    ≡ diagram 3 (nd 1 0 1 ∷ nd 0 2 1 ∷ [])
    ∷ diagram 3 (nd 1 0 1 ∷ nd 0 0 2 ∷ [])
    ∷ diagram 2 (nd 1 0 1 ∷ [])
    ∷ leaf 1
    ∷ diagram 4 (nd 2 0 1 ∷ nd 1 0 2 ∷ nd 0 3 2 ∷ [])
    ∷ diagram 3 (nd 1 0 1 ∷ nd 0 2 0 ∷ [])
    ∷ diagram 5 (nd 2 0 1 ∷ nd 1 0 2 ∷ nd 1 0 1 ∷ nd 0 3 4 ∷ [])
    ∷ diagram 5 (nd 1 0 1 ∷ nd 2 0 1 ∷ nd 1 3 1 ∷ nd 0 2 4 ∷ [])
    ∷ diagram 5 (nd 2 1 0 ∷ nd 2 0 1 ∷ nd 1 2 3 ∷ nd 0 4 3 ∷ [])
    ∷ []
unfolding properties reduced_of tree_of mk alike pick diagram_of postorder member position ref numbered nodes_of
properties_hold = refl

-- the file of one
pub joined_file : diagram_bytes (diagram 4 (nd 5 1 0 ∷ nd 2 0 2 ∷ nd 0 2 3 ∷ []))
    ≡ 17 ∷ 2 ∷ 0 ∷ 4 ∷ 0
    ∷ 18 ∷ 6 ∷ 0 ∷ 5 ∷ 0 ∷ 1 ∷ 0 ∷ 0 ∷ 0
    ∷ 18 ∷ 6 ∷ 0 ∷ 2 ∷ 0 ∷ 0 ∷ 0 ∷ 2 ∷ 0
    ∷ 18 ∷ 6 ∷ 0 ∷ 0 ∷ 0 ∷ 2 ∷ 0 ∷ 3 ∷ 0 ∷ []
joined_file = refl

-- ---- what a reduced diagram is not

-- walks of these diagrams
pub walks : walk padded 6 [] ∷ walk crossed 4 [] ∷ walk uncrossed 4 [] ∷ walk shared 4 [] ∷ walk (leaf 1) 1 [] ∷ []
    ≡ (3 ∷ 4 ∷ 5 ∷ 6 ∷ []) ∷ (3 ∷ 2 ∷ 4 ∷ []) ∷ (2 ∷ 3 ∷ 4 ∷ []) ∷ (2 ∷ 3 ∷ 4 ∷ []) ∷ [] ∷ []
unfolding walk descend descend_in pick
walks = refl

-- a double; lo equal to hi; a node that is not arrived at; hi before lo; a root that is no node
not_double : Reduced (diagram 4 (nd 1 0 1 ∷ nd 1 0 1 ∷ nd 0 2 3 ∷ [])) → ⊥
not_double r = let e = r.unlike 2 3 (omega arith) (omega arith) (omega arith) (omega arith) refl in omega arith

not_forked : Reduced (diagram 3 (nd 1 0 1 ∷ nd 0 2 2 ∷ [])) → ⊥
not_forked r = r.forked 3 (omega arith) (omega arith) refl

not_left_out : Reduced (diagram 3 (nd 1 0 1 ∷ nd 1 1 0 ∷ [])) → ⊥
unfolding walk descend descend_in pick
not_left_out r = let e = differ r.walked 0 in omega arith

-- also where it stands behind the root
not_behind : Reduced (diagram 2 (nd 1 0 1 ∷ nd 1 1 0 ∷ [])) → ⊥
unfolding walk descend descend_in pick
not_behind r = let e = differ r.walked 1 in omega arith

not_crossed : Reduced crossed → ⊥
unfolding walk descend descend_in pick
not_crossed r = let e = differ r.walked 0 in omega arith

not_rooted : Reduced (diagram 2 []) → ⊥
not_rooted r = let h = r.root_inside in omega arith

-- and that node can't be arrived at
left_out : Diagram
left_out = diagram 3 (nd 1 0 1 ∷ nd 1 1 0 ∷ [])

children : (n : ℕ) → 2 ≤ n → (n ≡ 2 → ⊥) → ((inner left_out n).lo ≡ 2 → ⊥) × ((inner left_out n).hi ≡ 2 → ⊥)
unfolding left_out
children zero h f = absurd (omega arith)
children (suc zero) h f = absurd (omega arith)
children (suc (suc zero)) h f = absurd (f refl)
children (suc (suc (suc zero))) h f = (λ e. omega arith, λ e. omega arith)
children (suc (suc (suc (suc n)))) h f =
    let past : inner left_out (suc (suc (suc (suc n)))) ≡ no_node = get_or-eq_default left_out.nodes no_node {n = suc (suc (suc (suc n))) - 2} (omega arith) in
    (λ e. omega (arith, ap (λ (x : InnerNode). x.lo) past), λ e. omega (arith, ap (λ (x : InnerNode). x.hi) past))

not_arrived : {n : ℕ} → Arrives left_out n → n ≡ 2 → ⊥
unfolding left_out
not_arrived at_root e = omega arith
not_arrived (at_lo {n} a h) e = (children n h (λ z. not_arrived a z)).0 e
not_arrived (at_hi {n} a h) e = (children n h (λ z. not_arrived a z)).1 e

-- ---- the checks, in their order

abbrev chart : List ℕ
chart = chart_bytes values

abbrev file : Diagram → List ℕ
file d = diagram_bytes d

abbrev pub shown : LoadTwo → List ℕ
shown (ready_two c d e) = []
shown (refused_two number at place) = number ∷ at ∷ place ∷ []

-- 4 × 3 work entries, and one less; the roots of both, of the second; a third file that is empty, that is cut, whose node tests no step of the chart, that is too
-- long, and one with a remark; faults of the second file and of the first, each before all behind it
pub loads : List (List ℕ)
loads =
    shown (load_two chart (file rules) (file no_five) 12)
    ∷ shown (load_two chart (file rules) (file no_five) 11)
    ∷ shown (load_two chart (file (leaf 2)) (file (leaf 3)) 0)
    ∷ shown (load_two chart (file rules) (file (leaf 2)) 0)
    ∷ shown (load_two chart (file rules) [] 0)
    ∷ shown (load_two chart (file rules) (take 13 (file no_five)) 0)
    ∷ shown (load_two chart (file rules) (file (diagram 2 (nd 6 0 1 ∷ []))) 0)
    ∷ shown (load_two chart (file rules) (replicate 32769 17) 0)
    ∷ shown (load_two chart (file rules) (file no_five ++ 128 ∷ 1 ∷ 0 ∷ 7 ∷ []) 12)
    ∷ shown (load_two chart (take 13 (file no_five)) [] 0)
    ∷ shown (load_two (take 30 chart) [] [] 0)
    ∷ shown (load_two chart [] [] 0)
    ∷ shown (load_two [] [] [] 0)
    ∷ []

pub loads_hold : loads
    ≡ []
    ∷ (7 ∷ 0 ∷ 0 ∷ [])
    ∷ (6 ∷ 2 ∷ 0 ∷ [])
    ∷ (6 ∷ 3 ∷ 0 ∷ [])
    ∷ (2 ∷ 3 ∷ 0 ∷ [])
    ∷ (1 ∷ 3 ∷ 5 ∷ [])
    ∷ (6 ∷ 3 ∷ 5 ∷ [])
    ∷ (9 ∷ 3 ∷ 32768 ∷ [])
    ∷ []
    ∷ (1 ∷ 2 ∷ 5 ∷ [])
    ∷ (1 ∷ 1 ∷ 20 ∷ [])
    ∷ (2 ∷ 2 ∷ 0 ∷ [])
    ∷ (2 ∷ 1 ∷ 0 ∷ [])
    ∷ []
unfolding loads pick only or_remark field_at first_field on_field scan head_fault step_fault group_fault step_kind read_chart node_fault node_fault_after padding read_diagram group_count read_files load_two
loads_hold = refl

-- ---- 12 before 7 for the buffer: a diagram of 511 nodes, and of 510

abbrev many : ℕ → Diagram
many n = diagram 1 (map (λ i. nd 0 0 1) (upto n))

pub limits : written_answer (many 511) 4604 ∷ written_answer (many 511) 0 ∷ written_answer (many 510) 4595 ∷ written_answer (many 510) 4594 ∷ []
    ≡ refusal 12 0 0 0 ∷ refusal 12 0 0 0 ∷ accepted 0 4595 0 ∷ refusal 7 0 0 0 ∷ []
unfolding written_answer file_answer pick
limits = refl

pub limit_buffers : map (take 1) (written_buffer (many 511) (replicate 4604 5) ∷ written_buffer (many 510) (replicate 4595 5) ∷ written_buffer (many 510) (5 ∷ []) ∷ [])
    ≡ (5 ∷ []) ∷ (17 ∷ []) ∷ (5 ∷ []) ∷ []
unfolding written_buffer file_buffer pick
limit_buffers = refl

-- ---- whole calls: root 1 and root 0, two nodes each, so four work entries

abbrev yes : List ℕ
yes = file (leaf 1)

abbrev no : List ℕ
no = file (leaf 0)

-- a work slice of five entries before a call; after it with its four free entries written, and with the entry past them changed
abbrev w : List ℕ
w = 5 ∷ 5 ∷ 5 ∷ 5 ∷ 6 ∷ []

abbrev w' : List ℕ
w' = 1 ∷ 2 ∷ 3 ∷ 4 ∷ 6 ∷ []

abbrev bad : List ℕ
bad = 1 ∷ 2 ∷ 3 ∷ 4 ∷ 7 ∷ []

-- a buffer of six bytes, and of four
abbrev out : List ℕ
out = 9 ∷ 9 ∷ 9 ∷ 9 ∷ 9 ∷ 8 ∷ []

abbrev out' : List ℕ
out' = 17 ∷ 2 ∷ 0 ∷ 0 ∷ 0 ∷ 8 ∷ []

abbrev short : List ℕ
short = 9 ∷ 9 ∷ 9 ∷ 9 ∷ []

pub call_holds : ConjoinCall chart yes no (conjoin_slices w out) (conjoin_slices w' out') (accepted 0 5 0)
unfolding pick only or_remark field_at first_field on_field scan head_fault step_fault group_fault step_kind read_chart node_fault node_fault_after padding read_diagram group_count read_files load_two conjunction reduced_of tree_of accepts verdict descend descend_in mk alike diagram_of postorder member position ref numbered nodes_of written_answer written_buffer file_answer file_buffer
call_holds = (refl, refl, refl, refl)

pub short_holds : ConjoinCall chart yes no (conjoin_slices w short) (conjoin_slices w' short) (refusal 7 0 0 0)
unfolding pick only or_remark field_at first_field on_field scan head_fault step_fault group_fault step_kind read_chart node_fault node_fault_after padding read_diagram group_count read_files load_two conjunction reduced_of tree_of accepts verdict descend descend_in mk alike diagram_of postorder member position ref numbered nodes_of written_answer written_buffer file_answer file_buffer
short_holds = (refl, refl, refl, refl)

pub refused_holds : ConjoinCall chart yes [] (conjoin_slices w out) (conjoin_slices w out) (refusal 2 3 0 0)
unfolding pick only or_remark field_at first_field on_field scan head_fault step_fault group_fault step_kind read_chart node_fault node_fault_after padding read_diagram group_count read_files load_two
refused_holds = (refl, refl, refl)

-- an entry past the need is changed; a byte behind the file; a byte of the file; a count; the work slice under a refusal of a file
call_past : ConjoinCall chart yes no (conjoin_slices w out) (conjoin_slices bad out') (accepted 0 5 0) → ⊥
unfolding pick only or_remark field_at first_field on_field scan head_fault step_fault group_fault step_kind read_chart node_fault node_fault_after padding read_diagram group_count read_files load_two
call_past s = let e = differ s.3 0 in omega arith

call_behind : ConjoinCall chart yes no (conjoin_slices w out) (conjoin_slices w' (17 ∷ 2 ∷ 0 ∷ 0 ∷ 0 ∷ 0 ∷ [])) (accepted 0 5 0) → ⊥
unfolding pick only or_remark field_at first_field on_field scan head_fault step_fault group_fault step_kind read_chart node_fault node_fault_after padding read_diagram group_count read_files load_two conjunction reduced_of tree_of accepts verdict descend descend_in mk alike diagram_of postorder member position ref numbered nodes_of written_buffer file_buffer
call_behind s = let e = differ s.1 5 in omega arith

call_root : ConjoinCall chart yes no (conjoin_slices w out) (conjoin_slices w' (17 ∷ 2 ∷ 0 ∷ 1 ∷ 0 ∷ 8 ∷ [])) (accepted 0 5 0) → ⊥
unfolding pick only or_remark field_at first_field on_field scan head_fault step_fault group_fault step_kind read_chart node_fault node_fault_after padding read_diagram group_count read_files load_two conjunction reduced_of tree_of accepts verdict descend descend_in mk alike diagram_of postorder member position ref numbered nodes_of written_buffer file_buffer
call_root s = let e = differ s.1 3 in omega arith

call_count : ConjoinCall chart yes no (conjoin_slices w out) (conjoin_slices w' out') (accepted 0 5 1) → ⊥
unfolding pick only or_remark field_at first_field on_field scan head_fault step_fault group_fault step_kind read_chart node_fault node_fault_after padding read_diagram group_count read_files load_two conjunction reduced_of tree_of accepts verdict descend descend_in mk alike diagram_of postorder member position ref numbered nodes_of written_answer file_answer
call_count s = let e = ap (λ (a : Answer). a.count) s.0 in omega arith

refused_work : ConjoinCall chart yes [] (conjoin_slices w out) (conjoin_slices w' out) (refusal 2 3 0 0) → ⊥
unfolding pick only or_remark field_at first_field on_field scan head_fault step_fault group_fault step_kind read_chart node_fault node_fault_after padding read_diagram group_count read_files load_two
refused_work s = let e = differ s.2 0 in omega arith

refused_file : ConjoinCall chart yes [] (conjoin_slices w out) (conjoin_slices w out') (refusal 2 3 0 0) → ⊥
unfolding pick only or_remark field_at first_field on_field scan head_fault step_fault group_fault step_kind read_chart node_fault node_fault_after padding read_diagram group_count read_files load_two
refused_file s = let e = differ s.1 0 in omega arith

refused_number : ConjoinCall chart yes [] (conjoin_slices w out) (conjoin_slices w out) (refusal 7 0 0 0) → ⊥
unfolding pick only or_remark field_at first_field on_field scan head_fault step_fault group_fault step_kind read_chart node_fault node_fault_after padding read_diagram group_count read_files load_two
refused_number s = let e = ap (λ (a : Answer). a.number) s.0 in omega arith

call_shorter : ConjoinCall chart yes no (conjoin_slices (5 ∷ 5 ∷ 5 ∷ 5 ∷ []) out) (conjoin_slices (1 ∷ 2 ∷ 3 ∷ []) out') (accepted 0 5 0) → ⊥
unfolding pick only or_remark field_at first_field on_field scan head_fault step_fault group_fault step_kind read_chart node_fault node_fault_after padding read_diagram group_count read_files load_two
call_shorter s = let e = s.2 in omega arith

-- a work slice that is too short, and a buffer that is long enough
pub work_short_holds : ConjoinCall chart yes no (conjoin_slices (5 ∷ 5 ∷ 5 ∷ []) out) (conjoin_slices (5 ∷ 5 ∷ 5 ∷ []) out) (refusal 7 0 0 0)
unfolding pick only or_remark field_at first_field on_field scan head_fault step_fault group_fault step_kind read_chart node_fault node_fault_after padding read_diagram group_count read_files load_two
work_short_holds = (refl, refl, refl)
