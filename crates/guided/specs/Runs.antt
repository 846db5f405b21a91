-- What the parts of the guided search ask of each other once both files stand in tables.
-- Assumes nothing.
use Rattle.std.specs.Prelude.{ℕ, ◌-◌, ◌≤◌, List, length}
use Rattle.definitions.specs.Plans.{cheapest}
use Rattle.definitions.specs.Promises.{Outcome, Logged, GuidedSlices, guided_slices}
use Rattle.definitions.specs.declared.Answer.{Answer}
use Rattle.definitions.specs.declared.Shape.{Shape}
use Rattle.checks.specs.Tables.{Read, chart_in, diagram_in, pairs_in}
use Rattle.checks.specs.Ready.{graph_in, automaton_in}
use Rattle.guided_offers.specs.Work.{Work, work, Past}
use Rattle.guided_loop.specs.declared.turns.Slices.{Slices}
use Rattle.guided_loop.specs.Search.{Space}
use Rattle.guided_seek.specs.Seeks.{estimate_in}

-- the work slices among all slices
abbrev pub work_of : GuidedSlices → Work
work_of x = work x.keys x.via x.heap x.pos x.stack

-- what stands in the lent slices and in that for the plan
abbrev pub with_plan : Slices → List ℕ → GuidedSlices
with_plan s plan = guided_slices s.keys.now s.via.now s.heap.now s.pos.now s.stack.now s.log.now plan

-- the slices are long enough
pub record Room (z : Shape) (x : GuidedSlices) : Type 0 where
  pub space : Space z (work_of x) x.log
  pub plan_fits : z.stages - 1 ≤ length x.plan

-- the answer and all slices are as promised
pub record Runs (z : Shape) (t : Read) (before after : GuidedSlices) (r : Answer) : Type 0 where
  pub outcome : Outcome (cheapest (chart_in z t) (diagram_in z t)) (chart_in z t) (diagram_in z t) r.count before.plan after.plan r
  pub logged : Logged (graph_in z t) (automaton_in z t) (estimate_in z t) (cheapest (chart_in z t) (diagram_in z t)) r.count before.log after.log
  pub past : Past (pairs_in z) (work_of before) (work_of after)
