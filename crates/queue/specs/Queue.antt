-- A queue of the pairs 0 to p - 1, smallest key first: what is in it, and what each call leaves.
-- No call reads p: what a call leaves holds for every p that fits what it asks.
-- A caller passes `Queue` and `Contains` on as they are, and learns of them from the fields of `Inserted`, `Decreased` and `Taken` and from the laws of proofs/Facts.antt.
-- Assumes nothing.
use Rattle.std.specs.Prelude.{ℕ, zero, suc, ◌+◌, ◌≤◌, ◌<◌, ◌≡◌, ◌≢◌, List, [], ◌∷◌, length, get_or, set, drop}
use Rattle.heap_sift.specs.Heap.{slices, In, Heap}
use Rattle.theory.specs.Counting.{Distinct}
use Rattle.queue.specs.declared.Counts.{Counts}

-- how many pairs there are
abbrev pub held : Counts → ℕ
held c = c.heaped + c.top

-- the slices that hold a queue, and its counts
pub record State : Type 0 where
  pub keys : List ℕ
  pub heap : List ℕ
  pub pos : List ℕ
  pub stack : List ℕ
  pub counts : Counts

abbrev pub state : List ℕ → List ℕ → List ℕ → List ℕ → Counts → State
state keys heap pos stack c = record { keys = keys; heap = heap; pos = pos; stack = stack; counts = c }

-- pair q is in the queue
pub data Contains (x : State) (q : ℕ) : Type 0 where
  in_heap : In x.heap x.pos x.counts.heaped q → Contains x q
  on_stack : (i : ℕ) → i < x.counts.top → get_or x.stack i 0 ≡ q → Contains x q

-- the pairs on the stack are distinct, have the key `floor` and are not in the heap, where no key is below `floor`
pub record Queue (p floor : ℕ) (x : State) : Type 0 where
  pub ordered : Heap (slices x.keys x.heap x.pos) p x.counts.heaped
  pub stack_fits : p ≤ length x.stack
  pub pairs : (i : ℕ) → i < x.counts.top → get_or x.stack i 0 < p
  pub distinct : Distinct (λ (i : ℕ). get_or x.stack i 0) x.counts.top
  pub level : (i : ℕ) → i < x.counts.top → get_or x.keys (get_or x.stack i 0) 0 ≡ floor
  pub apart : (i : ℕ) → i < x.counts.top → In x.heap x.pos x.counts.heaped (get_or x.stack i 0) → ⊥
  pub above : (q : ℕ) → In x.heap x.pos x.counts.heaped q → floor ≤ get_or x.keys q 0

-- the first n entries, last one first
unfoldable pub backwards : List ℕ → ℕ → List ℕ
backwards stack zero = []
backwards stack (suc n) = get_or stack n 0 ∷ backwards stack n

-- the pairs that were inserted at the key just taken and are still in the queue, newest first
unfoldable pub recent : List ℕ → Counts → List ℕ
recent stack c = backwards stack c.top

-- nothing from p on has changed
pub record Past (p : ℕ) (x x' : State) : Type 0 where
  pub heap_past : drop p x'.heap ≡ drop p x.heap
  pub pos_past : drop p x'.pos ≡ drop p x.pos
  pub stack_past : drop p x'.stack ≡ drop p x.stack

-- the counts of a queue that holds nothing
pub record Empty (c : Counts) : Type 0 where
  pub none_held : held c ≡ 0
  pub none_stacked : c.top ≡ 0

-- what `insert` asks: q is not in the queue, and v is not below the floor
pub record Inserting (floor q v : ℕ) (x : State) : Type 0 where
  pub p : ℕ
  pub queue : Queue p floor x
  pub pair : q < p
  pub at_least : floor ≤ v
  pub outside : Contains x q → ⊥

-- what `insert` leaves: the same pairs and q, which has the key v
pub record Inserted (p floor q v : ℕ) (x x' : State) : Type 0 where
  pub stored : x'.keys ≡ set x.keys q v
  pub queue : Queue p floor x'
  pub one_more : held x'.counts ≡ held x.counts + 1
  pub here : Contains x' q
  pub kept : (k : ℕ) → Contains x k → Contains x' k
  pub only : (k : ℕ) → Contains x' k → k ≢ q → Contains x k
  pub newest : v ≡ floor → recent x'.stack x'.counts ≡ q ∷ recent x.stack x.counts
  pub not_recent : v ≢ floor → recent x'.stack x'.counts ≡ recent x.stack x.counts
  pub past : Past p x x'

-- what `decrease` asks: q is in a queue, and v is below its key and not below the floor
pub record Decreasing (q v : ℕ) (x : State) : Type 0 where
  pub p : ℕ
  pub floor : ℕ
  pub queue : Queue p floor x
  pub here : Contains x q
  pub above : floor ≤ v
  pub lower : v < get_or x.keys q 0

-- what `decrease` leaves: the same pairs, of which q has the key v; the counts and the stack stay
pub record Decreased (p floor q v : ℕ) (x x' : State) : Type 0 where
  pub stored : x'.keys ≡ set x.keys q v
  pub queue : Queue p floor x'
  pub kept : (k : ℕ) → Contains x k → Contains x' k
  pub only : (k : ℕ) → Contains x' k → Contains x k
  pub past : Past p x x'

-- what `take` leaves: the same pairs without r, which had the least key, now the floor; of recent ones r is the last in; the keys and the stack stay
pub record Taken (p floor r key : ℕ) (x x' : State) : Type 0 where
  pub was : Contains x r
  pub pair : r < p
  pub least : (k : ℕ) → Contains x k → get_or x.keys r 0 ≤ get_or x.keys k 0
  pub queue : Queue p key x'
  pub one_fewer : held x'.counts + 1 ≡ held x.counts
  pub its_key : key ≡ get_or x.keys r 0
  pub rises : floor ≤ key
  pub gone : Contains x' r → ⊥
  pub kept : (k : ℕ) → Contains x k → k ≢ r → Contains x' k
  pub only : (k : ℕ) → Contains x' k → Contains x k
  pub last_in : (q : ℕ) (rest : List ℕ) → recent x.stack x.counts ≡ q ∷ rest → (r ≡ q) × (recent x'.stack x'.counts ≡ rest)
  pub none_recent : recent x.stack x.counts ≡ [] → recent x'.stack x'.counts ≡ []
  pub past : Past p x x'
