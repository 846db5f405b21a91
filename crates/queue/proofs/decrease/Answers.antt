-- `decrease` meets its contract. A pair whose key is above the floor is in the heap.
-- Assumes nothing.
use Rattle.queue.proofs.Decreasing.{decrease_heaped, decrease_done}
use Rattle.queue.proofs.decrease.Goals as goal

pub decrease_key-requires : goal.decrease_key-requires
decrease_key-requires c =
    decrease_heaped c.requires.2

pub returns : goal.returns
returns c =
    λ stack counts a. decrease_done a (c.decrease_key.ensures (decrease_heaped a))
