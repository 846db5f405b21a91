-- Some files, and what reading them gives, computed from the definitions: the chart and the diagram of REFERENCE 14, and refusals in their order.
-- Assumes nothing.
use Rattle.std.specs.Prelude.{ℕ, ◌%◌, ◌≡◌, refl, Bool, true, false, ◌&&◌, List, [], ◌∷◌, ◌++◌, map, eqb, length, get_or, take}
use Rattle.definitions.specs.Basics.{pick, each}
use Rattle.definitions.specs.Fields.{Kind, foreign, exactly, at_least, only, or_remark, field_at, first_field, on_field, Grammar, scan, field_bytes, refused_field}
use Rattle.definitions.specs.Charts.{ChartStep, head_fault, step_fault, read_chart, group_fault, step_kind, group_count}
use Rattle.definitions.specs.Diagrams.{Diagram, InnerNode, node_fault, strict, padding, node_fault_after, read_diagram}
use Rattle.definitions.specs.Bytes.{head_bytes, step_bytes, chart_bytes, diagram_bytes}
use Rattle.definitions.specs.Answers.{Load, ready, refused, read_files, load}
use Rattle.definitions.specs.Marked.{st, nd, values, chart, rules}

abbrev pub rooted : ℕ → List InnerNode → Diagram
rooted root nodes = record { root = root; nodes = nodes }

-- a chart of five stages with these steps
abbrev pub steps : List ChartStep → List ℕ
steps ss = head_bytes 5 0 4 ++ each step_bytes ss

abbrev pub chart_refusal : List ℕ → List ℕ
chart_refusal s = (read_chart s).number ∷ (read_chart s).place ∷ []

abbrev pub rules_refusal : List ℕ → ℕ → List ℕ
rules_refusal s count = (read_diagram strict s count).number ∷ (read_diagram strict s count).place ∷ []

abbrev pub load_refusal : Load → List ℕ
load_refusal (ready c d) = []
load_refusal (refused number file place) = number ∷ file ∷ place ∷ []

pub whole_chart : read_chart (chart_bytes values) ≡ record { number = 0; place = 0; chart = chart }
unfolding pick only or_remark field_at first_field on_field scan head_fault step_fault group_fault step_kind read_chart
whole_chart = refl

pub whole_diagram : read_diagram strict (diagram_bytes rules) 6 ≡ record { number = 0; place = 0; diagram = rules }
unfolding pick only or_remark field_at first_field on_field scan node_fault node_fault_after padding read_diagram
whole_diagram = refl

pub computed : List (List ℕ)
computed =
    chart_refusal []
    ∷ chart_refusal (9 ∷ [])
    ∷ chart_refusal (9 ∷ 6 ∷ 0 ∷ [])
    ∷ chart_refusal (1 ∷ 7 ∷ 0 ∷ [])
    ∷ chart_refusal (1 ∷ 6 ∷ 0 ∷ [])
    ∷ chart_refusal (head_bytes 256 255 255)
    ∷ chart_refusal (head_bytes 257 0 0)
    ∷ chart_refusal (head_bytes 0 0 0)
    ∷ chart_refusal (head_bytes 5 5 0)
    ∷ chart_refusal (head_bytes 5 0 5)
    ∷ chart_refusal (head_bytes 5 0 0 ++ head_bytes 5 0 0)
    ∷ chart_refusal (steps (st 0 1 1000000 ∷ []))
    ∷ chart_refusal (steps (st 0 1 7 ∷ st 0 1 1000001 ∷ []))
    ∷ chart_refusal (steps (st 1 1 7 ∷ []))
    ∷ chart_refusal (steps (st 3 5 7 ∷ []))
    ∷ chart_refusal (steps (st 1 2 7 ∷ st 0 1 7 ∷ []))
    ∷ rules_refusal [] 6
    ∷ rules_refusal (take 22 (diagram_bytes rules)) 6
    ∷ rules_refusal (diagram_bytes (rooted 4 rules.nodes)) 6
    ∷ rules_refusal (diagram_bytes rules) 2
    ∷ rules_refusal (diagram_bytes (rooted 9 (nd 2 0 1 ∷ nd 2 1 2 ∷ []))) 6
    ∷ rules_refusal (diagram_bytes (rooted 2 (nd 2 0 2 ∷ []))) 6
    ∷ refused_field (chart_bytes values) (diagram_bytes rules) 2 5
    ∷ refused_field (chart_bytes values) (diagram_bytes rules) 1 73
    ∷ refused_field (chart_bytes values) (diagram_bytes rules) 3 0
    ∷ []

pub expected : List (List ℕ)
expected =
    (2 ∷ 0 ∷ [])
    ∷ (1 ∷ 0 ∷ [])
    ∷ (2 ∷ 0 ∷ [])
    ∷ (3 ∷ 0 ∷ [])
    ∷ (1 ∷ 0 ∷ [])
    ∷ (0 ∷ 0 ∷ [])
    ∷ (4 ∷ 0 ∷ [])
    ∷ (4 ∷ 0 ∷ [])
    ∷ (4 ∷ 0 ∷ [])
    ∷ (4 ∷ 0 ∷ [])
    ∷ (2 ∷ 9 ∷ [])
    ∷ (0 ∷ 0 ∷ [])
    ∷ (11 ∷ 20 ∷ [])
    ∷ (10 ∷ 9 ∷ [])
    ∷ (10 ∷ 9 ∷ [])
    ∷ (5 ∷ 20 ∷ [])
    ∷ (2 ∷ 0 ∷ [])
    ∷ (1 ∷ 14 ∷ [])
    ∷ (6 ∷ 0 ∷ [])
    ∷ (6 ∷ 5 ∷ [])
    ∷ (6 ∷ 14 ∷ [])
    ∷ (6 ∷ 5 ∷ [])
    ∷ (18 ∷ 6 ∷ 0 ∷ 2 ∷ 0 ∷ 0 ∷ 0 ∷ 1 ∷ 0 ∷ [])
    ∷ (0 ∷ 0 ∷ [])
    ∷ []
    ∷ []

pub refusals_hold : computed ≡ expected
unfolding computed expected pick only or_remark field_at first_field on_field scan head_fault step_fault group_fault step_kind read_chart node_fault node_fault_after padding read_diagram field_bytes refused_field
refusals_hold = refl

-- the space: 5 × 4 entries for each work slice and 4 for the plan
pub loads : List (List ℕ)
loads =
    load_refusal (load (chart_bytes values) (diagram_bytes rules) (20 ∷ 20 ∷ []) 4)
    ∷ load_refusal (load (chart_bytes values) (diagram_bytes rules) (20 ∷ 19 ∷ []) 4)
    ∷ load_refusal (load (chart_bytes values) (diagram_bytes rules) (20 ∷ 20 ∷ []) 3)
    ∷ load_refusal (load (chart_bytes values) (diagram_bytes (rooted 4 rules.nodes)) (0 ∷ []) 0)
    ∷ load_refusal (load (9 ∷ []) [] [] 0)
    ∷ []

pub loads_hold : loads ≡ [] ∷ (7 ∷ 0 ∷ 0 ∷ []) ∷ (7 ∷ 0 ∷ 0 ∷ []) ∷ (6 ∷ 2 ∷ 0 ∷ []) ∷ (1 ∷ 1 ∷ 0 ∷ []) ∷ []
unfolding loads pick only or_remark field_at first_field on_field scan head_fault step_fault group_fault step_kind read_chart node_fault node_fault_after padding read_diagram group_count read_files load
loads_hold = refl

-- ---- each kind of field. Of a small file, remarks aside: 34 has at least 4 bytes, and an even number of them; another tag has as many bytes as its number
-- says, and the first such field fixes which one it is. A body may not begin with 0 (6)
abbrev small_kind : List (List ℕ) → ℕ → Kind
small_kind before tag =
    pick (eqb tag 34) (at_least 4)
    (pick (eqb tag (get_or (get_or before 0 (tag ∷ [])) 0 0)) (exactly tag)
    foreign)

abbrev small_fault : ℕ → List ℕ → ℕ
small_fault tag body = pick (eqb (get_or body 0 0) 0) 6 (pick (eqb tag 34 && eqb (length body % 2) 1) 3 0)

-- an element is a tag and a body
abbrev small : Grammar (List ℕ)
small = record { kind = small_kind; fault = λ before tag body. small_fault tag body; holds = λ before tag body. tag ∷ body }

-- number, place, and the elements joined
abbrev small_read : List ℕ → List ℕ
small_read s =
    let x = scan s small (length s) 0 [] in
    x.number ∷ x.place ∷ each (λ e. e) x.passed

-- a file, and what it reads as
pub small_files : List (List ℕ × List ℕ)
small_files =
    -- exactly: as many bytes; another length, also where the body is cut; a cut body; another tag than the first
    (1 ∷ 1 ∷ 0 ∷ 9 ∷ 1 ∷ 1 ∷ 0 ∷ 8 ∷ [], 0 ∷ 0 ∷ 1 ∷ 9 ∷ 1 ∷ 8 ∷ [])
    ∷ (2 ∷ 2 ∷ 0 ∷ 5 ∷ 5 ∷ [], 0 ∷ 0 ∷ 2 ∷ 5 ∷ 5 ∷ [])
    ∷ (1 ∷ 2 ∷ 0 ∷ [], 3 ∷ 0 ∷ [])
    ∷ (2 ∷ 2 ∷ 0 ∷ 5 ∷ [], 1 ∷ 0 ∷ [])
    ∷ (1 ∷ 1 ∷ 0 ∷ 9 ∷ 2 ∷ 2 ∷ 0 ∷ [], 2 ∷ 4 ∷ 1 ∷ 9 ∷ [])
    -- at least: as many bytes or more; fewer, also where the body is cut; a cut body; content, then length
    ∷ (34 ∷ 4 ∷ 0 ∷ 5 ∷ 6 ∷ 7 ∷ 8 ∷ [], 0 ∷ 0 ∷ 34 ∷ 5 ∷ 6 ∷ 7 ∷ 8 ∷ [])
    ∷ (34 ∷ 6 ∷ 0 ∷ 5 ∷ 6 ∷ 7 ∷ 8 ∷ 5 ∷ 5 ∷ [], 0 ∷ 0 ∷ 34 ∷ 5 ∷ 6 ∷ 7 ∷ 8 ∷ 5 ∷ 5 ∷ [])
    ∷ (34 ∷ 3 ∷ 0 ∷ [], 3 ∷ 0 ∷ [])
    ∷ (34 ∷ 5 ∷ 0 ∷ 5 ∷ [], 1 ∷ 0 ∷ [])
    ∷ (34 ∷ 5 ∷ 0 ∷ 0 ∷ 6 ∷ 7 ∷ 8 ∷ 9 ∷ [], 6 ∷ 0 ∷ [])
    ∷ (34 ∷ 5 ∷ 0 ∷ 5 ∷ 6 ∷ 7 ∷ 8 ∷ 9 ∷ [], 3 ∷ 0 ∷ [])
    -- remarks: any length, no element, the content is not looked at; a cut header and a cut body
    ∷ (128 ∷ 0 ∷ 0 ∷ 255 ∷ 2 ∷ 0 ∷ 0 ∷ 7 ∷ 1 ∷ 1 ∷ 0 ∷ 9 ∷ 200 ∷ 1 ∷ 0 ∷ 7 ∷ [], 0 ∷ 0 ∷ 1 ∷ 9 ∷ [])
    ∷ (200 ∷ 1 ∷ 0 ∷ 7 ∷ 1 ∷ 1 ∷ 0 ∷ 0 ∷ [], 6 ∷ 4 ∷ [])
    ∷ (1 ∷ 1 ∷ 0 ∷ 9 ∷ 200 ∷ 2 ∷ [], 1 ∷ 4 ∷ 1 ∷ 9 ∷ [])
    ∷ (200 ∷ 2 ∷ 0 ∷ 7 ∷ [], 1 ∷ 0 ∷ [])
    ∷ []

pub small_files_hold : map (λ x. small_read x.0) small_files ≡ map (λ x. x.1) small_files
unfolding small_files pick only or_remark field_at first_field on_field scan
small_files_hold = refl

-- and what it does not read as: an element of a remark, a second kind let through, the body's cut before the length, the length before the content, 1 for a
-- remark that ends with the file, a place without the remarks before it
pub small_mistakes : List (List ℕ × List ℕ)
small_mistakes =
    (200 ∷ 1 ∷ 0 ∷ 7 ∷ [], 0 ∷ 0 ∷ 200 ∷ 7 ∷ [])
    ∷ (1 ∷ 1 ∷ 0 ∷ 9 ∷ 2 ∷ 2 ∷ 0 ∷ 5 ∷ 5 ∷ [], 0 ∷ 0 ∷ 1 ∷ 9 ∷ 2 ∷ 5 ∷ 5 ∷ [])
    ∷ (34 ∷ 3 ∷ 0 ∷ [], 1 ∷ 0 ∷ [])
    ∷ (34 ∷ 5 ∷ 0 ∷ 0 ∷ 6 ∷ 7 ∷ 8 ∷ 9 ∷ [], 3 ∷ 0 ∷ [])
    ∷ (200 ∷ 1 ∷ 0 ∷ 7 ∷ [], 1 ∷ 0 ∷ [])
    ∷ (200 ∷ 1 ∷ 0 ∷ 7 ∷ 1 ∷ 1 ∷ 0 ∷ 0 ∷ [], 6 ∷ 0 ∷ [])
    ∷ []

abbrev pub alike : List ℕ → List ℕ → Bool
alike [] [] = true
alike [] (y ∷ ys) = false
alike (x ∷ xs) [] = false
alike (x ∷ xs) (y ∷ ys) = eqb x y && alike xs ys

pub small_mistakes_refuted : map (λ x. alike (small_read x.0) x.1) small_mistakes ≡ map (λ x. false) small_mistakes
unfolding small_mistakes pick only or_remark field_at first_field on_field scan
small_mistakes_refuted = refl
