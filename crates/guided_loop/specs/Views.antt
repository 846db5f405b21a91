-- What stands in the slices that a search is lent, and that the slices themselves stay.
-- Assumes nothing.
use Rattle.heap.specs.Views.{SameSlice}
use Rattle.guided_offers.specs.Work.{Work, work}
use Rattle.guided_loop.specs.declared.turns.Slices.{Slices}

-- the work space among them
abbrev pub lent_work : Slices → Work
lent_work s = work s.keys.now s.via.now s.heap.now s.pos.now s.stack.now

-- the same slices are lent, whatever stands in them
abbrev pub SameLent : Slices → Slices → Type 0
SameLent s s' =
    SameSlice s.keys s'.keys
    × SameSlice s.via s'.via
    × SameSlice s.heap s'.heap
    × SameSlice s.pos s'.pos
    × SameSlice s.stack s'.stack
    × SameSlice s.log s'.log
