-- How far a search has come.
-- Assumes nothing.
use Rattle.std.specs.Prelude.{ℕ, Bool, List}
use Rattle.queue.specs.declared.Counts.{Counts}
use Rattle.queue.specs.Queue.{State, Contains}
use Rattle.guided_model.specs.State.{Marks, marks}
use Rattle.guided_keys.specs.Seen.{seen}
use Rattle.guided_offers.specs.Work.{Work, queue_in}
use Rattle.guided_offers.specs.Views as work
use Rattle.guided_offers.specs.declared.Work as declared

-- the slices, which blocks of keys are filled, and the counts of the queue
pub record Progress : Type 0 where
  pub slices : Work
  pub filled : List Bool
  pub counts : Counts

abbrev pub progress : Work → List Bool → Counts → Progress
progress x filled c = record { slices = x; filled = filled; counts = c }

abbrev pub queue_of : Progress → State
queue_of x = queue_in x.slices x.counts

-- that of the code's work space
abbrev pub progress_of : declared.Work → List Bool → Progress
progress_of x filled = progress (work.work_of x) filled (work.counts_of x)

-- as `marks_in`, of p pairs, where those in blocks that are not filled were never opened
abbrev pub seen_in : ℕ → Progress → Marks
seen_in p x = marks (seen p x.filled x.slices.keys) x.slices.via (Contains (queue_of x))
