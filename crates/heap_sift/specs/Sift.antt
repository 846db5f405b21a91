-- What the steps inside a call ask and leave: a swap of two places, and a pair that is moved to where its key belongs.
-- Assumes nothing.
use Rattle.std.specs.Prelude.{ℕ, ◌≤◌, ◌<◌, ◌≡◌, ◌≢◌, List, length, get_or, set}
use Rattle.heap_sift.specs.Heap.{Slices, parent, In, Indexed, key, Order, Past}

-- place i is in `heap` and its pair in `pos`, and i fits 32 bits
pub record Entry (heap pos : List ℕ) (i : ℕ) : Type 0 where
  pub place : i < length heap
  pub small : i < 4294967296
  pub pair : get_or heap i 0 < length pos

abbrev pub swapped : List ℕ → ℕ → ℕ → List ℕ
swapped heap i j = set (set heap i (get_or heap j 0)) j (get_or heap i 0)

-- what `swap` leaves
pub record Swapped (i j : ℕ) (heap pos heap' pos' : List ℕ) : Type 0 where
  pub places : heap' ≡ swapped heap i j
  pub positions : pos' ≡ set (set pos (get_or heap i 0) j) (get_or heap j 0) i

-- the same pairs are in the heap, at other places
pub record Moved (p n : ℕ) (heap pos heap' pos' : List ℕ) : Type 0 where
  pub indexed : Indexed heap' pos' p n
  pub kept : (q : ℕ) → In heap pos n q → In heap' pos' n q
  pub only : (q : ℕ) → In heap' pos' n q → In heap pos n q
  pub past : Past p heap pos heap' pos'

-- in order but between x and its parent
pub record Rising (k : ℕ → ℕ) (n x : ℕ) : Type 0 where
  pub place : x < n
  pub order : (i : ℕ) → 0 < i → i < n → i ≢ x → k (parent i) ≤ k i
  pub over : 0 < x → (i : ℕ) → 0 < i → i < n → parent i ≡ x → k (parent x) ≤ k i

-- in order but between x and its children
pub record Sinking (k : ℕ → ℕ) (n x : ℕ) : Type 0 where
  pub order : (i : ℕ) → 0 < i → i < n → parent i ≢ x → k (parent i) ≤ k i
  pub over : 0 < x → (i : ℕ) → 0 < i → i < n → parent i ≡ x → k (parent x) ≤ k i

-- c is the child of x with the least key
pub record LeastChild (k : ℕ → ℕ) (n x c : ℕ) : Type 0 where
  pub place : c < n
  pub first : 0 < c
  pub child : parent c ≡ x
  pub least : (i : ℕ) → 0 < i → i < n → parent i ≡ x → k c ≤ k i

-- what `sift_up` asks: only the pair at place `at`, whose key is v, may stand too low
pub record SiftingUp (at v : ℕ) (x : Slices) : Type 0 where
  pub p : ℕ
  pub n : ℕ
  pub indexed : Indexed x.heap x.pos p n
  pub keys_fit : p ≤ length x.keys
  pub moving : v ≡ key x.keys x.heap at
  pub rising : Rising (key x.keys x.heap) n at

-- what `sift_down` asks: only the pair at place `at`, whose key is v, may stand too high
pub record SiftingDown (n at v : ℕ) (x : Slices) : Type 0 where
  pub p : ℕ
  pub indexed : Indexed x.heap x.pos p n
  pub keys_fit : p ≤ length x.keys
  pub place : at ≤ n
  pub moving : v ≡ key x.keys x.heap at
  pub sinking : Sinking (key x.keys x.heap) n at

-- what `sift_up` and `sift_down` leave; the keys stay
pub record Sifted (p n : ℕ) (x x' : Slices) : Type 0 where
  pub moved : Moved p n x.heap x.pos x'.heap x'.pos
  pub order : Order (key x.keys x'.heap) n
