-- What is asked and left by the parts of the call that fills a list of starts and ends.
-- Assumes nothing.
use Rattle.std.specs.Prelude.{ℕ, ◌≡◌, List, Result, Ok, Err, replicate, drop}
use Rattle.definitions.specs.Answers.{Load, ready}
use Rattle.definitions.specs.Promises.{CycleSlices, cycle_slices, Cycled}
use Rattle.definitions.specs.declared.Cycle.{Cycle}
use Rattle.definitions.specs.declared.Shape.{Shape}
use Rattle.chart_fields.specs.declared.table.StepTable.{StepTable}
use Rattle.checks.specs.declared.answers.Refused.{Refused}
use Rattle.checks.specs.Refusing.{refused_as}
use Rattle.checks.specs.Tables.{Read, Room, chart_in, diagram_in, pairs_in}
use Rattle.checks.specs.Ready.{Walk}
use Rattle.guided_offers.specs.Work.{Work, work, Past}
use Rattle.guided_loop.specs.declared.turns.Slices.{Slices}
use Rattle.guided_loop.specs.Search.{Space}
use Rattle.guided_seek.specs.Seeks.{Prepared}

-- what stands in the slices that each search is lent
abbrev pub lent : Slices → CycleSlices
lent s = cycle_slices s.keys.now s.via.now s.heap.now s.pos.now s.stack.now s.log.now

-- the work slices among those that are lent, but for the log
abbrev pub work_of : CycleSlices → Work
work_of x = work x.keys x.via x.heap x.pos x.stack

-- the tables before they are filled
pub record Blank (steps : StepTable) (inner first row byNode : List ℕ) : Type 0 where
  pub room : Room steps inner
  pub no_first : first ≡ replicate 257 0
  pub no_row : row ≡ replicate 256 0
  pub no_node : byNode ≡ replicate 512 0

-- what the checks say, and the tables that are filled where they pass
abbrev pub PreparesAs : Load → Walk → List ℕ → Result Shape Refused → Type 0
PreparesAs o on byNode (Ok z) = (o ≡ ready (chart_in z on.read) (diagram_in z on.read)) × Prepared z on byNode
PreparesAs o on byNode (Err r) = o ≡ refused_as r

-- an entry can be answered
pub record Asking (z : Shape) (on : Walk) (byNode : List ℕ) (x : CycleSlices) : Type 0 where
  pub prepared : Prepared z on byNode
  pub space : Space z (work_of x) x.log

-- of each slice the entries past the first p are as they were
pub record Pasts (p : ℕ) (x x' : CycleSlices) : Type 0 where
  pub work_past : Past p (work_of x) (work_of x')
  pub log_past : drop p x'.log ≡ drop p x.log

-- an entry and the slices before and after
pub record Answered (z : Shape) (t : Read) (x x' : CycleSlices) (c c' : Cycle) : Type 0 where
  pub cycled : Cycled (chart_in z t) (diagram_in z t) c c'
  pub past : Pasts (pairs_in z) x x'
