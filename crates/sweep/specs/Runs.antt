-- What the parts of the sweep ask of each other.
-- Assumes nothing.
use Rattle.std.specs.Prelude.{ℕ, ◌+◌, ◌-◌, ◌≤◌, ◌<◌, ◌≡◌, List, ◌++◌, length, get_or, drop, replicate}
use Rattle.definitions.specs.Basics.{NONE}
use Rattle.definitions.specs.Pairs.{row_starts, reached_pairs}
use Rattle.definitions.specs.Plans.{cheapest}
use Rattle.definitions.specs.Promises.{Outcome, SweepSlices}
use Rattle.definitions.specs.declared.Answer.{Answer}
use Rattle.definitions.specs.declared.Shape.{Shape}
use Rattle.sweep_model.specs.Model.{Rows, rows}
use Rattle.sweep_model.specs.Result.{Finished}
use Rattle.checks.specs.Tables.{Read, Tables, chart_in, diagram_in, pairs_in}
use Rattle.checks.specs.Ready.{graph_in, automaton_in}

-- each work slice has an entry for each pair, the plan slice one for each step of a plan
pub record Space (z : Shape) (x : SweepSlices) : Type 0 where
  pub cost_fits : pairs_in z ≤ length x.cost
  pub via_fits : pairs_in z ≤ length x.via
  pub nodes_fits : pairs_in z ≤ length x.nodes
  pub plan_fits : z.stages - 1 ≤ length x.plan

-- the tables before the sweep: there is room for each pair, and no row has a node yet
pub record Blank (z : Shape) (r : Rows) : Type 0 where
  pub cost_fits : pairs_in z ≤ length r.cost
  pub via_fits : pairs_in z ≤ length r.via
  pub nodes_fits : pairs_in z ≤ length r.nodes
  pub counts_long : length r.counts ≡ 256
  pub no_node : (s : ℕ) → s < 256 → get_or r.counts s 0 ≡ 0

-- the costs with no pair reached, and the tables with them
abbrev pub cleared_costs : Shape → List ℕ → List ℕ
cleared_costs z costs = replicate (pairs_in z) NONE ++ drop (pairs_in z) costs

abbrev pub cleared : Shape → Rows → Rows
cleared z r = rows (cleared_costs z r.cost) r.via r.nodes r.counts

-- the tables are those of a finished sweep of the chart and the diagram
pub record Final (z : Shape) (t : Read) (row : List ℕ) (r : Rows) : Type 0 where
  pub tables : Tables z t
  pub rows_are : row ≡ row_starts z.stages (z.nodes + 2)
  pub finished : Finished (graph_in z t) (automaton_in z t) r

-- the answer and the plan slice are as promised
pub record Concludes (z : Shape) (t : Read) (plan plan' : List ℕ) (r : Answer) : Type 0 where
  pub outcome : Outcome (cheapest (chart_in z t) (diagram_in z t)) (chart_in z t) (diagram_in z t) (length (reached_pairs (graph_in z t) (automaton_in z t))) plan plan' r
