-- What a guided search rests on once both files stand in tables, and what it leaves.
-- Assumes nothing.
use Rattle.std.specs.Prelude.{ℕ, ◌≡◌, Some, None, List}
use Rattle.definitions.specs.Pairs.{Estimate}
use Rattle.definitions.specs.Plans.{estimate}
use Rattle.definitions.specs.declared.Shape.{Shape}
use Rattle.node_estimates.specs.Estimates.{Costs, Estimated}
use Rattle.checks.specs.Tables.{Read, chart_in, diagram_in, pairs_in}
use Rattle.checks.specs.Ready.{Walk, Ready}
use Rattle.guided_model.specs.Charts.{GoalSettled, NoneSettled}
use Rattle.guided_offers.specs.Work.{Work, Past}
use Rattle.guided_loop.specs.Search.{Space}
use Rattle.guided_ends.specs.declared.Goal.{Goal}
use Rattle.guided_ends.specs.declared.Ended.{Ended}

-- the estimate that guides the search
abbrev pub estimate_in : Shape → Read → Estimate
estimate_in z t = estimate (chart_in z t) (diagram_in z t)

-- the table has the estimate of each node, by a table of what the groups of the chart cost
pub record NodeEstimates (z : Shape) (t : Read) (byNode : List ℕ) : Type 0 where
  pub prices : List ℕ
  pub costs : Costs (chart_in z t) prices
  pub by : Estimated t.inner.step t.inner.lo t.inner.hi prices z.nodes byNode

-- all tables that do not depend on start and end are filled
pub record Prepared (z : Shape) (on : Walk) (byNode : List ℕ) : Type 0 where
  pub ready : Ready z on
  pub nodes : NodeEstimates z on.read byNode

-- and the slices are long enough
pub record Seeking (z : Shape) (on : Walk) (byNode : List ℕ) (x : Work) (log : List ℕ) : Type 0 where
  pub prepared : Prepared z on byNode
  pub space : Space z x log

-- what the search leaves, also where it was not begun since the start has no estimate
pub record Sought (z : Shape) (t : Read) (x : Work) (log : List ℕ) (x' : Work) (log' : List ℕ) (r : Ended) : Type 0 where
  pub goal : (g : Goal) → r.goal ≡ Some g → GoalSettled (chart_in z t) (diagram_in z t) (estimate_in z t) 0 x'.via t.steps.from g.node.0 g.cost r.count log log'
  pub no_goal : r.goal ≡ None → NoneSettled (chart_in z t) (diagram_in z t) (estimate_in z t) 0 r.count log log'
  pub past : Past (pairs_in z) x x'
