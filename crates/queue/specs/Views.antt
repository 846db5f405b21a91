-- What a queue shows: its pairs, and that its slices themselves stay; and what `take` answers.
-- Assumes nothing.
use Rattle.std.specs.Prelude.{ℕ, ◌<◌, ◌≡◌, List, Option, Some, None}
use Rattle.heap.specs.Views.{SameSlice}
use Rattle.queue.specs.Queue as order
use Rattle.queue.specs.declared.Counts.{Counts}
use Rattle.queue.specs.Queue.{held, State, state, Taken}
use Rattle.queue.specs.declared.Next.{Next}
use Rattle.queue.specs.declared.Queue.{Queue}

abbrev pub counts_of : Queue → Counts
counts_of x = record { heaped = x.heaped; top = x.top }

-- the slices of the heap, with any stack and counts
abbrev pub state_with : Queue → List ℕ → Counts → State
state_with x stack c = state x.keys.now x.heap.now x.pos.now stack c

abbrev pub state_of : Queue → State
state_of x = state_with x x.stack.now (counts_of x)

-- the key last taken is `floor`
abbrev pub IsQueue : (p floor : ℕ) → Queue → Type 0
IsQueue p floor x = order.Queue p floor (state_of x)

-- the same slices are lent, whatever stands in them
abbrev pub SameSlices : Queue → Queue → Type 0
SameSlices x x' = SameSlice x.keys x'.keys × SameSlice x.heap x'.heap × SameSlice x.pos x'.pos × SameSlice x.stack x'.stack

-- what `take` answers: a pair that it took, with the counts after that, or none, exactly where nothing is held
abbrev pub Takes : (p floor : ℕ) → State → State → Option Next → Type 0
Takes p floor x x' (Some next) = (0 < held x.counts) × Taken p floor next.pair next.key x x' × (next.counts ≡ x'.counts)
Takes p floor x x' None = (held x.counts ≡ 0) × (x' ≡ x)
