-- A chart and a diagram that stand in tables, and what the checks say of them.
-- Assumes nothing.
use Rattle.std.specs.Prelude.{ℕ, ◌+◌, ◌*◌, ◌≡◌, List, get_or, Result, Ok, Err}
use Rattle.definitions.specs.Charts.{Chart, grouped, group_count}
use Rattle.definitions.specs.Diagrams.{Diagram}
use Rattle.definitions.specs.Plans.{graph}
use Rattle.theory.specs.Limits.{Small, OneKind, Valid, Sound}
use Rattle.definitions.specs.Answers.{Load, ready}
use Rattle.chart.specs.Tables as chart
use Rattle.diagram_fields.specs.Words.{Nodes, nodes_in}
use Rattle.diagram.specs.Tables as diagram
use Rattle.diagram.specs.Files as files
use Rattle.definitions.specs.declared.Shape.{Shape}
use Rattle.chart_fields.specs.declared.table.StepTable.{StepTable}
use Rattle.checks.specs.declared.answers.Refused.{Refused}
use Rattle.checks.specs.Refusing.{refused_as}

-- what the two files are read into: the table of steps and the table of inner nodes
pub record Read : Type 0 where
  pub steps : chart.Steps
  pub inner : Nodes

abbrev pub read : StepTable → List ℕ → Read
read steps inner = record { steps = chart.steps_in steps; inner = nodes_in inner }

-- the first step names its group
abbrev pub Named : Read → Type 0
Named t = get_or t.steps.tag 0 0 ≡ grouped

-- the chart and the diagram of some sizes that stand in tables
abbrev pub chart_in : Shape → Read → Chart
chart_in z t = chart.chart_in z t.steps

abbrev pub diagram_in : Shape → Read → Diagram
diagram_in z t = diagram.held_diagram z.root.0 z.nodes t.inner.step t.inner.lo t.inner.hi

-- how many pairs there are, by the sizes
abbrev pub pairs_in : Shape → ℕ
pairs_in z = z.stages * (z.nodes + 2)

-- each table has as many entries as its type says.
pub record Room (steps : StepTable) (inner : List ℕ) : Type 0 where
  pub of_steps : chart.Room steps
  pub of_nodes : files.Room inner

-- a chart within its limits and a diagram within its limits stand in the tables
pub record Tables (z : Shape) (t : Read) : Type 0 where
  pub valid : Valid (graph (chart_in z t))
  pub small : Small (chart_in z t)
  pub kinds : OneKind (chart_in z t)
  pub sound : Sound (group_count (chart_in z t)) (diagram_in z t)
  pub held : diagram.Held (diagram_in z t) t.inner.step t.inner.lo t.inner.hi

-- what the checks give: the sizes of what they read, or the refusal
abbrev pub LoadsAs : Load → Read → Result Shape Refused → Type 0
LoadsAs o t (Ok z) = (o ≡ ready (chart_in z t) (diagram_in z t)) × Tables z t
LoadsAs o t (Err r) = o ≡ refused_as r
