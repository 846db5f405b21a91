-- What the search rests on, what holds at each turn, and what it leaves.
-- Assumes nothing.
use Rattle.std.specs.Prelude.{ℕ, ◌≤◌, ◌<◌, ◌≡◌, Option, Some, None, List, length}
use Rattle.std.proofs.Math.Option.{some}
use Rattle.definitions.specs.declared.Shape.{Shape}
use Rattle.theory.specs.Product.{start_pair}
use Rattle.queue.specs.Queue.{Queue}
use Rattle.checks.specs.Tables.{chart_in, diagram_in, pairs_in}
use Rattle.checks.specs.Ready.{Walk, graph_in, automaton_in}
use Rattle.guided_model.specs.Charts.{Running, GoalSettled, NoneSettled}
use Rattle.guided_offers.specs.Estimates.{Estimates}
use Rattle.guided_offers.specs.Work.{Work, Past}
use Rattle.guided_expand.specs.Progress.{Progress, queue_of, seen_in}
use Rattle.guided_expand.specs.Guides.{Guides}
use Rattle.guided_ends.specs.declared.Goal.{Goal}
use Rattle.guided_ends.specs.declared.Ended.{Ended}

-- each slice has an entry for each pair
pub record Space (z : Shape) (x : Work) (log : List ℕ) : Type 0 where
  pub keys_fit : pairs_in z ≤ length x.keys
  pub via_fits : pairs_in z ≤ length x.via
  pub heap_fits : pairs_in z ≤ length x.heap
  pub pos_fits : pairs_in z ≤ length x.pos
  pub stack_fits : pairs_in z ≤ length x.stack
  pub log_fits : pairs_in z ≤ length log

-- the pair of start and root has the estimate `rest`, and only pairs of the chart's stages have one
pub record Start (z : Shape) (on : Walk) (t : Estimates) (rest : ℕ) (x : Work) (log : List ℕ) : Type 0 where
  pub by : Guides z on t
  pub space : Space z x log
  pub has : by.h z.start.0 z.root.0 ≡ some rest
  pub inside : (s n m : ℕ) → by.h s n ≡ some m → s < z.stages

module _ {z : Shape} {on : Walk} {t : Estimates} (by : Guides z on t) where
  -- between two turns: from the slices x₀ and log₀ it came to x and log, in which `count` pairs are settled, the last one at the key `floor`, and those of the queue are open
  pub record Turning (x₀ : Work) (log₀ : List ℕ) (x : Progress) (log : List ℕ) (floor count : ℕ) : Type 0 where
    pub queue : Queue (pairs_in z) floor (queue_of x)
    pub fits : pairs_in z ≤ length x.slices.via
    pub blocks : length x.filled ≡ 1024
    pub running : Running (chart_in z on.read) (diagram_in z on.read) by.h (seen_in (pairs_in z) x) log₀ log count floor
    pub past : Past (pairs_in z) x₀ x.slices

  -- what the search leaves
  pub record Searched (x : Work) (log : List ℕ) (x' : Work) (log' : List ℕ) (r : Ended) : Type 0 where
    pub goal : (g : Goal) → r.goal ≡ Some g → GoalSettled (chart_in z on.read) (diagram_in z on.read) by.h by.guide.base
        x'.via on.read.steps.from g.node.0 g.cost r.count log log'
    pub no_goal : r.goal ≡ None → NoneSettled (chart_in z on.read) (diagram_in z on.read) by.h by.guide.base r.count log log'
    pub past : Past (pairs_in z) x x'

-- so many pairs are settled and in the log, the pairs of the queue are open, and `begin` is the pair of start and root
pub record Begun (z : Shape) (on : Walk) (t : Estimates) (begin : ℕ) (x : Progress) (log : List ℕ) (count : ℕ) : Type 0 where
  pub by : Guides z on t
  pub begins : begin ≡ start_pair (graph_in z on.read) (automaton_in z on.read)
  pub turning : Turning by x.slices log x log 0 count

-- how a search ended that settled a goal pair, or none, and so many pairs
abbrev pub ended : Option Goal → ℕ → Ended
ended goal count = record { goal = goal; count = count }
