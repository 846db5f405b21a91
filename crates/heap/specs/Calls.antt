-- What the calls of the heap ask and leave. The pairs are 0 to p - 1, for any p: no call reads it, and nothing from p on is touched.
-- Assumes nothing.
use Rattle.std.specs.Prelude.{ℕ, ◌+◌, ◌-◌, ◌≤◌, ◌<◌, ◌≡◌, ◌≢◌, get_or, set, Option, Some, None}
use Rattle.heap_sift.specs.Heap.{Slices, In, Heap, Past}
use Rattle.heap.specs.declared.Heap as declared
use Rattle.heap.specs.Views.{slices_of}

-- what `push` asks: a heap of n pairs, and q, which is not among them
pub record Pushing (n q : ℕ) (x : Slices) : Type 0 where
  pub p : ℕ
  pub ordered : Heap x p n
  pub pair : q < p
  pub outside : In x.heap x.pos n q → ⊥

-- what `push` leaves: the same pairs and q, which has the key v
pub record Pushed (p n q v : ℕ) (x x' : Slices) : Type 0 where
  pub stored : x'.keys ≡ set x.keys q v
  pub ordered : Heap x' p (n + 1)
  pub here : In x'.heap x'.pos (n + 1) q
  pub kept : (k : ℕ) → In x.heap x.pos n k → In x'.heap x'.pos (n + 1) k
  pub only : (k : ℕ) → In x'.heap x'.pos (n + 1) k → k ≢ q → In x.heap x.pos n k
  pub past : Past p x.heap x.pos x'.heap x'.pos

-- what `decrease_key` asks: q is in a heap, and v is at most its key
pub record Decreasing (q v : ℕ) (x : Slices) : Type 0 where
  pub p : ℕ
  pub n : ℕ
  pub ordered : Heap x p n
  pub inside : In x.heap x.pos n q
  pub lower : v ≤ get_or x.keys q 0

-- what `decrease_key` leaves: the same pairs, of which q has the key v
pub record Decreased (p n q v : ℕ) (x x' : Slices) : Type 0 where
  pub stored : x'.keys ≡ set x.keys q v
  pub ordered : Heap x' p n
  pub kept : (k : ℕ) → In x.heap x.pos n k → In x'.heap x'.pos n k
  pub only : (k : ℕ) → In x'.heap x'.pos n k → In x.heap x.pos n k
  pub past : Past p x.heap x.pos x'.heap x'.pos

-- what `pop_min` leaves: the same pairs without r, which had the least key; the keys stay
pub record Popped (p n r : ℕ) (x x' : Slices) : Type 0 where
  pub was : In x.heap x.pos n r
  pub pair : r < p
  pub least : (k : ℕ) → In x.heap x.pos n k → get_or x.keys r 0 ≤ get_or x.keys k 0
  pub ordered : Heap x' p (n - 1)
  pub gone : In x'.heap x'.pos (n - 1) r → ⊥
  pub kept : (k : ℕ) → In x.heap x.pos n k → k ≢ r → In x'.heap x'.pos (n - 1) k
  pub only : (k : ℕ) → In x'.heap x'.pos (n - 1) k → In x.heap x.pos n k
  pub past : Past p x.heap x.pos x'.heap x'.pos

-- what `pop_min` answers: such a pair, one fewer being left, or none, exactly where the heap has none
abbrev pub Pops : ℕ → declared.Heap → declared.Heap → Option ℕ → Type 0
Pops p h h' (Some r) = (0 < h.held) × (h'.held ≡ h.held - 1) × Popped p h.held r (slices_of h) (slices_of h')
Pops p h h' None = (h.held ≡ 0) × (h'.held ≡ h.held) × (slices_of h' ≡ slices_of h)
