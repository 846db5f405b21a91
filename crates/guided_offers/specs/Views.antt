-- What the work space of a search and its estimates show: the lists in their slices, and that the slices themselves stay.
-- Assumes nothing.
use Rattle.std.specs.Prelude.{◌≡◌}
use Rattle.heap.specs.Views.{SameSlice}
use Rattle.queue.specs.declared.Counts.{Counts}
use Rattle.queue.specs.Views as queues
use Rattle.guided_offers.specs.Estimates as tables
use Rattle.guided_offers.specs.Work as slices
use Rattle.guided_offers.specs.declared.Estimates.{Estimates}
use Rattle.guided_offers.specs.declared.Work.{Work}

abbrev pub estimates_of : Estimates → tables.Estimates
estimates_of t = tables.estimates t.by_stage.now t.by_node.now

abbrev pub work_of : Work → slices.Work
work_of x = slices.work x.queue.now.keys.now x.via.now x.queue.now.heap.now x.queue.now.pos.now x.queue.now.stack.now

abbrev pub counts_of : Work → Counts
counts_of x = queues.counts_of x.queue.now

-- the same slices are lent, whatever stands in them
abbrev pub SameSlices : Work → Work → Type 0
SameSlices x x' =
    (x'.queue.ghost_name ≡ x.queue.ghost_name)
    × SameSlice x.via x'.via
    × queues.SameSlices x.queue.now x'.queue.now
