-- The chart that stands in a table: by step the kind, the group and the two stages in one number, and the cost, a column for each.
-- Assumes nothing.
use Rattle.std.specs.Prelude.{ℕ, ◌≡◌, List, Result, Ok, Err, map, length, get_or, drop}
use Rattle.definitions.specs.Basics.{upto}
use Rattle.definitions.specs.Charts.{ChartStep, Chart, ChartRead, group_count}
use Rattle.definitions.specs.Refusals.{number}
use Rattle.definitions.specs.declared.Shape.{Shape}
use Rattle.chart_fields.specs.Ends.{froms, tos, tags, groups}
use Rattle.chart.specs.declared.reader.StepsRead.{StepsRead}
use Rattle.chart.specs.declared.sizes.ChartSizes.{ChartSizes}
use Rattle.chart.specs.Kinds.{groups_to}
use Rattle.chart_fields.specs.declared.bodies.HeadBody.{HeadBody}
use Rattle.fields.specs.declared.fault.Stopped.{Stopped}
use Rattle.chart_fields.specs.declared.table.StepTable.{StepTable}

-- the columns of the table
abbrev pub ends_in : StepTable → List ℕ
ends_in packed = packed.ends

abbrev pub costs_in : StepTable → List ℕ
costs_in packed = packed.costs

-- the steps in it: the kind of each, where it leaves and leads to, its cost and its group
pub record Steps : Type 0 where
  pub tag : List ℕ
  pub from : List ℕ
  pub to : List ℕ
  pub cost : List ℕ
  pub group : List ℕ

abbrev pub steps_in : StepTable → Steps
steps_in packed = record { tag = tags (ends_in packed); from = froms (ends_in packed); to = tos (ends_in packed); cost = costs_in packed; group = groups (ends_in packed) }

-- the step of a number
abbrev pub held_step : Steps → ℕ → ChartStep
held_step t e = record { tag = get_or t.tag e 0; from = get_or t.from e 0; to = get_or t.to e 0; cost = get_or t.cost e 0; group = get_or t.group e 0 }

-- the first `count` steps
unfoldable pub held_steps : ℕ → Steps → List ChartStep
held_steps count t = map (held_step t) (upto count)

-- the chart of some sizes, with the steps of a table
abbrev pub chart_in : Shape → Steps → Chart
chart_in z t = record { stages = z.stages; start = z.start.0; end = z.end.0; steps = held_steps z.steps t }

-- each column has 1,024 entries, as its type says.
pub record Room (packed : StepTable) : Type 0 where
  pub ends : length (ends_in packed) ≡ 1024
  pub costs : length (costs_in packed) ≡ 1024

-- the table before and after reading (packed'): it begins with the steps that passed, its further entries stay
pub record Filled (passed : List ChartStep) (packed packed' : StepTable) : Type 0 where
  pub held : held_steps (length passed) (steps_in packed') ≡ passed
  pub ends_rest : drop (length passed) (ends_in packed') ≡ drop (length passed) (ends_in packed)
  pub costs_rest : drop (length passed) (costs_in packed') ≡ drop (length passed) (costs_in packed)
  pub room : Room packed'

-- ---- the readers' answers, from what the definitions give

-- with this head, and the steps read so far
abbrev pub sizes_so_far : HeadBody → StepsRead → ChartSizes
sizes_so_far h r = record { stages = h.stages; start = h.start; end = h.end; steps = r.steps; groups = groups_to r.steps r.group }

-- where no head passed
abbrev pub no_sizes : ChartSizes
no_sizes = record { stages = 0; start = 0; end = 0; steps = 0; groups = 0 }

abbrev pub sizes_of : Chart → ChartSizes
sizes_of c = record { stages = c.stages; start = c.start; end = c.end; steps = length c.steps; groups = group_count c }

-- the sizes, or the fault with the sizes as far as the fields passed
abbrev pub ChartAnswer : ChartRead → Result ChartSizes (Stopped ChartSizes) → Type 0
ChartAnswer x (Ok z) = (x.number ≡ 0) × (x.place ≡ 0) × (z ≡ sizes_of x.chart)
ChartAnswer x (Err e) = (x.number ≡ number e.fault.refusal) × (x.place ≡ e.fault.place) × (e.passed ≡ sizes_of x.chart)
