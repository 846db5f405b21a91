-- A binary min-heap with positions, over the pairs 0 to p - 1: what is in it, and when it is in order.
-- `keys` has the key of each pair, the first n entries of `heap` are the pairs of the heap, and `pos` has the place of each of them.
-- Assumes nothing.
use Rattle.std.specs.Prelude.{ℕ, ◌-◌, ◌/◌, ◌≤◌, ◌<◌, ◌≡◌, List, length, get_or, drop}

-- the slices that hold a heap
pub record Slices : Type 0 where
  pub keys : List ℕ
  pub heap : List ℕ
  pub pos : List ℕ

abbrev pub slices : List ℕ → List ℕ → List ℕ → Slices
slices keys heap pos = record { keys = keys; heap = heap; pos = pos }

-- pair q is in the heap
pub record In (heap pos : List ℕ) (n q : ℕ) : Type 0 where
  pub place : get_or pos q 0 < n
  pub held : get_or heap (get_or pos q 0) 0 ≡ q

-- the first n entries of `heap` are pairs, and `pos` has the place of each
pub record Indexed (heap pos : List ℕ) (p n : ℕ) : Type 0 where
  pub small : p ≤ 4294967296
  pub count : n ≤ p
  pub heap_fits : p ≤ length heap
  pub pos_fits : p ≤ length pos
  pub pair : (i : ℕ) → i < n → get_or heap i 0 < p
  pub back : (i : ℕ) → i < n → get_or pos (get_or heap i 0) 0 ≡ i

-- the key of the pair at place i
unfoldable pub key : List ℕ → List ℕ → ℕ → ℕ
key keys heap i = get_or keys (get_or heap i 0) 0

-- the place above place i
abbrev pub parent : ℕ → ℕ
parent i = (i - 1) / 2

-- no place has a key below that of its parent
abbrev pub Order : (ℕ → ℕ) → ℕ → Type 0
Order k n = (i : ℕ) → 0 < i → i < n → k (parent i) ≤ k i

pub record Heap (x : Slices) (p n : ℕ) : Type 0 where
  pub indexed : Indexed x.heap x.pos p n
  pub keys_fit : p ≤ length x.keys
  pub order : Order (key x.keys x.heap) n

-- nothing from p on has changed
pub record Past (p : ℕ) (heap pos heap' pos' : List ℕ) : Type 0 where
  pub heap_past : drop p heap' ≡ drop p heap
  pub pos_past : drop p pos' ≡ drop p pos
