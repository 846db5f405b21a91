-- What a heap shows: the lists in its slices, when these are in order, and that the slices themselves stay.
-- Assumes nothing.
use Rattle.std.specs.Prelude.{ℕ, ◌≡◌, List, length}
use Rattle.std.specs.Borrow.{MutBor}
use Rattle.heap_sift.specs.Heap as order
use Rattle.heap_sift.specs.Heap.{Slices, slices}
use Rattle.heap.specs.declared.Heap.{Heap}

-- what stands in the slices of a heap
abbrev pub slices_of : Heap → Slices
slices_of h = slices h.keys.now h.heap.now h.pos.now

-- in order, over the pairs 0 to p - 1
abbrev pub IsHeap : ℕ → Heap → Type 0
IsHeap p h = order.Heap (slices_of h) p h.held

-- the same slice is lent, whatever stands in it
abbrev pub SameSlice : MutBor (List ℕ) → MutBor (List ℕ) → Type 0
SameSlice s s' = (s'.ghost_name ≡ s.ghost_name) × (length s'.now ≡ length s.now)

abbrev pub SameSlices : Heap → Heap → Type 0
SameSlices h h' = SameSlice h.keys h'.keys × SameSlice h.heap h'.heap × SameSlice h.pos h'.pos
