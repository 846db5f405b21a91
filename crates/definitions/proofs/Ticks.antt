-- What steps cost (REFERENCE 2.2): computed from values of files, mistakes refuted, and the law that fixes it.
-- Assumes nothing.
use Rattle.std.specs.Prelude.{ℕ, ◌%◌, ◌≤◌, ◌≡◌, refl, false, List, [], ◌∷◌, map, eqb}
use Rattle.std.proofs.Math.Option.{Option, some}
use Rattle.std.proofs.Common.{arith}
use Rattle.definitions.specs.Basics.{pick, smaller, sum_of}
use Rattle.definitions.specs.Fields.{only, or_remark, field_at, first_field, on_field, scan, field_bytes, refused_field}
use Rattle.definitions.specs.Charts.{Chart, ChartStep, plain, rounded, step_of, head_fault, step_fault, group_fault, step_kind, read_chart}
use Rattle.definitions.specs.Diagrams.{Diagram, descend, descend_in, verdict}
use Rattle.definitions.specs.Bytes.{body_of_step, chart_bytes}
use Rattle.definitions.specs.Ways.{ways_in, ways, least_way}
use Rattle.definitions.specs.Pairs.{to_end}
use Rattle.definitions.specs.Plans.{variable, variable_cost, says_yes, cheapest, chart_estimate, diagram_estimate}
use Rattle.definitions.specs.Marked.{st, nd, leaf}
use Rattle.definitions.proofs.Examples.{rooted, steps, chart_refusal}

-- a value, and what a step costs that has it
pub ticks : List (ℕ × ℕ)
ticks =
    (0, 0) ∷ (1, 50) ∷ (24, 50) ∷ (25, 50) ∷ (26, 50) ∷ (49, 50) ∷ (50, 50) ∷ (51, 100) ∷ (99, 100) ∷ (100, 100) ∷ (101, 150)
    ∷ (255, 300) ∷ (256, 300) ∷ (65535, 65550) ∷ (65536, 65550) ∷ (999949, 999950) ∷ (999950, 999950) ∷ (999951, 1000000) ∷ (999999, 1000000) ∷ (1000000, 1000000) ∷ []

abbrev cost_read : ℕ → ℕ
cost_read value = (step_of plain 0 (body_of_step (st 3 4 value))).cost

pub ticks_hold : map (λ x. cost_read x.0) ticks ≡ map (λ x. x.1) ticks
unfolding ticks
ticks_hold = refl

-- mistakes: down, to the nearest, one tick more for whole ticks, the value itself
pub tick_mistakes : List (ℕ × ℕ)
tick_mistakes = (1, 0) ∷ (49, 0) ∷ (99, 50) ∷ (999951, 999950) ∷ (24, 0) ∷ (51, 50) ∷ (0, 50) ∷ (50, 100) ∷ (1000000, 1000050) ∷ (1, 1) ∷ (999951, 999951) ∷ []

pub tick_mistakes_refuted : map (λ x. eqb (cost_read x.0) x.1) tick_mistakes ≡ map (λ x. false) tick_mistakes
unfolding tick_mistakes
tick_mistakes_refuted = refl

-- it is the least multiple of 50 that is no less than the value
module _ (value : ℕ) where
  pub rounded_whole : rounded value % 50 ≡ 0
  rounded_whole = omega arith

  pub rounded_no_less : value ≤ rounded value
  rounded_no_less = omega arith

  pub rounded_least : (m : ℕ) → m % 50 ≡ 0 → value ≤ m → rounded value ≤ m
  rounded_least m whole h = omega arith

-- the limit judges the value: 1,000,049 and 1,000,001 are refused, though rounded down they would pass, and so is the largest value; the refused field has the bytes of the file
pub limits : List (List ℕ)
limits =
    chart_refusal (steps (st 0 1 999951 ∷ st 0 1 1000000 ∷ []))
    ∷ chart_refusal (steps (st 0 1 1000001 ∷ []))
    ∷ chart_refusal (steps (st 0 1 0 ∷ st 0 1 1000049 ∷ []))
    ∷ chart_refusal (steps (st 0 1 4294967295 ∷ []))
    ∷ refused_field (steps (st 0 1 1000001 ∷ [])) [] 1 9
    ∷ []

pub limits_hold : limits ≡ (0 ∷ 0 ∷ []) ∷ (11 ∷ 9 ∷ []) ∷ (11 ∷ 20 ∷ []) ∷ (11 ∷ 9 ∷ []) ∷ (2 ∷ 8 ∷ 0 ∷ 0 ∷ 0 ∷ 1 ∷ 0 ∷ 65 ∷ 66 ∷ 15 ∷ 0 ∷ []) ∷ []
unfolding limits pick only or_remark field_at first_field on_field scan head_fault step_fault group_fault step_kind read_chart field_bytes refused_field
limits_hold = refl

-- Three short steps or a long one. By their values the short ones are cheaper, 30 against 90; each takes a tick, so they cost 150 against 100
abbrev detour : Chart
detour = (read_chart (chart_bytes (record { stages = 4; start = 0; end = 3; steps = st 0 1 10 ∷ st 0 3 90 ∷ st 1 2 10 ∷ st 2 3 10 ∷ [] }))).chart

abbrev cost_of : ChartStep → ℕ
cost_of x = x.cost

pub costs_hold : map cost_of detour.steps ≡ 50 ∷ 100 ∷ 50 ∷ 50 ∷ []
unfolding pick only or_remark field_at first_field on_field scan head_fault step_fault group_fault step_kind read_chart
costs_hold = refl

-- the rule: the long step is not taken
abbrev short : Diagram
short = rooted 2 (nd 1 1 0 ∷ [])

-- the cheapest plan, under no rule and under that one; the chart estimates; the diagram estimate where step 2 must be taken
pub sums : List (Option ℕ)
sums =
    cheapest detour (leaf 1) ∷ cheapest detour short ∷ chart_estimate detour 0 ∷ chart_estimate detour 1 ∷ chart_estimate detour 2
    ∷ diagram_estimate detour (rooted 2 (nd 2 0 1 ∷ [])) 2 ∷ []

pub sums_hold : sums ≡ some 100 ∷ some 150 ∷ some 100 ∷ some 100 ∷ some 50 ∷ some 50 ∷ []
unfolding sums pick only or_remark field_at first_field on_field scan head_fault step_fault group_fault step_kind read_chart smaller sum_of descend descend_in verdict ways_in ways least_way to_end variable variable_cost says_yes cheapest chart_estimate diagram_estimate
sums_hold = refl
