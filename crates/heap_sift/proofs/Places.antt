-- The places of the heap on plain lists: what stands where after two stores, and that a swap leaves the same pairs in the heap.
-- Assumes nothing.
use mathlib.Core.Path.{◌≡◌, refl, sym, ap, ◌∙◌}
use mathlib.Core.Logic.{◌≢◌}
use mathlib.Core.List.{List}
use Prim.Native.Nat.{ℕ, ◌≤◌, ◌<◌}
use native.Mathlib.Decide.{ℕ_discrete}
use native.Mathlib.Omega.{arith}
use lib.ListN.{length, get_or, set, length-set}
use lib.Seq.{get_or-set_same, get_or-set_other, drop-set-lt}
use Rattle.heap_sift.specs.Heap.{In, Indexed, Past}
use Rattle.heap_sift.specs.Sift.{Entry, Moved, swapped, Swapped}

-- what stands at m after the stores of v at i and then of w at j
pub data Two (s : List ℕ) (t : List ℕ) (i v j w m : ℕ) : Type 0 where
  later : m ≡ j → get_or t m 0 ≡ w → Two s t i v j w m
  sooner : m ≢ j → m ≡ i → get_or t m 0 ≡ v → Two s t i v j w m
  never : m ≢ j → m ≢ i → get_or t m 0 ≡ get_or s m 0 → Two s t i v j w m

pub two : (s : List ℕ) (i v j w m : ℕ) → i < length s → j < length s → Two s (set (set s i v) j w) i v j w m
two s i v j w m hi hj = go (ℕ_discrete m j) (ℕ_discrete m i)
  where
    go : Dec (m ≡ j) → Dec (m ≡ i) → Two s (set (set s i v) j w) i v j w m
    go (yes e) d = later e (rw e (get_or-set_same (set s i v) j w 0 (simp length-set hj)))
    go (no a) (yes e) = sooner a e (get_or-set_other (set s i v) j m w 0 a ∙ rw e (get_or-set_same s i v 0 hi))
    go (no a) (no b) = never a b (get_or-set_other (set s i v) j m w 0 a ∙ get_or-set_other s i m v 0 b)

module _ {heap pos : List ℕ} {p n : ℕ} (x : Indexed heap pos p n) where
  -- whatever stands at a place is in the heap
  pub stands : (i q : ℕ) → i < n → get_or heap i 0 ≡ q → In heap pos n q
  stands i q h e =
      let b : get_or pos q 0 ≡ i = rw e at (x.back i h) in
      record { place = omega arith; held = rw b e }

  -- what is in the heap is a pair
  pub in_pair : (q : ℕ) → In heap pos n q → q < p
  in_pair q w = omega (arith, x.pair (get_or pos q 0) w.place, w.held)

  -- a place below n can be swapped, and its key read
  pub entry : (i : ℕ) → i < n → Entry heap pos i
  entry i h = record { place = omega (arith, x.heap_fits, x.count); small = omega (arith, x.small, x.count); pair = omega (arith, x.pair i h, x.pos_fits) }

  pub key_within : (keys : List ℕ) → p ≤ length keys → (i : ℕ) → i < n → (i < length heap) × (get_or heap i 0 < length keys)
  key_within keys f i h = (omega (arith, x.heap_fits, x.count), omega (arith, x.pair i h))

  -- a pair stands at one place only
  pub one_place : (i j : ℕ) → i < n → j < n → get_or heap i 0 ≡ get_or heap j 0 → i ≡ j
  one_place i j hi hj e = omega (arith, x.back i hi, x.back j hj, ap (λ (q : ℕ). get_or pos q 0) e)

-- two heaps hold the same where each entry of each stands in the other
same_held : {heap pos heap' pos' : List ℕ} {p n : ℕ} → Indexed heap' pos' p n
    → ((i : ℕ) → i < n → (j : ℕ) × (j < n) × (get_or heap' j 0 ≡ get_or heap i 0))
    → (q : ℕ) → In heap pos n q → In heap' pos' n q
same_held {heap} {pos} x' f q w =
    let t = f (get_or pos q 0) w.place in
    stands x' t.0 q t.1 (t.2 ∙ w.held)

module _ {heap pos : List ℕ} {p n i j : ℕ} (x : Indexed heap pos p n) (hi : i < n) (hj : j < n) where
  pos₂ : List ℕ
  pos₂ = set (set pos (get_or heap i 0) j) (get_or heap j 0) i

  -- what stands at a place of `heap` after the swap
  abbrev Place : ℕ → Type 0
  Place m = Two heap (swapped heap i j) i (get_or heap j 0) j (get_or heap i 0) m

  at : (m : ℕ) → Place m
  at m = two heap i (get_or heap j 0) j (get_or heap i 0) m (omega (arith, x.heap_fits, x.count)) (omega (arith, x.heap_fits, x.count))

  -- and what stands in `pos` then
  abbrev PosPlace : ℕ → Type 0
  PosPlace q = Two pos pos₂ (get_or heap i 0) j (get_or heap j 0) i q

  pos_at : (q : ℕ) → PosPlace q
  unfolding pos₂
  pos_at q = two pos (get_or heap i 0) j (get_or heap j 0) i q (omega (arith, x.pos_fits, x.pair i hi)) (omega (arith, x.pos_fits, x.pair j hj))

  swap_pair : (m : ℕ) → m < n → get_or (swapped heap i j) m 0 < p
  swap_pair m h = go (at m)
    where
      go : Place m → get_or (swapped heap i j) m 0 < p
      go (later a e) = omega (arith, x.pair i hi)
      go (sooner a b e) = omega (arith, x.pair j hj)
      go (never a b e) = omega (arith, x.pair m h)

  swap_back : (m : ℕ) → m < n → get_or pos₂ (get_or (swapped heap i j) m 0) 0 ≡ m
  swap_back m h = go (at m)
    where
      first : (t : ℕ) → t ≡ get_or heap i 0 → PosPlace t → get_or pos₂ t 0 ≡ j
      first t e (later a b) = omega (arith, one_place x i j hi hj (sym e ∙ a))
      first t e (sooner a b c) = c
      first t e (never a b c) = absurd (b e)

      second : (t : ℕ) → t ≡ get_or heap j 0 → PosPlace t → get_or pos₂ t 0 ≡ i
      second t e (later a b) = b
      second t e (sooner a b c) = absurd (a e)
      second t e (never a b c) = absurd (a e)

      third : (t : ℕ) → t ≡ get_or heap m 0 → m ≢ j → m ≢ i → PosPlace t → get_or pos₂ t 0 ≡ m
      third t e mj mi (later a b) = absurd (mj (one_place x m j h hj (sym e ∙ a)))
      third t e mj mi (sooner a b c) = absurd (mi (one_place x m i h hi (sym e ∙ b)))
      third t e mj mi (never a b c) = c ∙ ap (λ (q : ℕ). get_or pos q 0) e ∙ x.back m h

      go : Place m → get_or pos₂ (get_or (swapped heap i j) m 0) 0 ≡ m
      go (later a e) = first _ e (pos_at _) ∙ sym a
      go (sooner a b e) = second _ e (pos_at _) ∙ sym b
      go (never a b e) = third _ e a b (pos_at _)

  swap_indexed : Indexed (swapped heap i j) pos₂ p n
  unfolding pos₂
  swap_indexed = record {
    small = x.small;
    count = x.count;
    heap_fits = simp length-set x.heap_fits;
    pos_fits = simp length-set x.pos_fits;
    pair = swap_pair;
    back = swap_back;
  }

  -- each pair stands in the other heap too
  there : (m : ℕ) → m < n → (k : ℕ) × (k < n) × (get_or (swapped heap i j) k 0 ≡ get_or heap m 0)
  there m h = go (ℕ_discrete m i) (ℕ_discrete m j) (at m) (at i) (at j)
    where
      to_j : Place j → get_or (swapped heap i j) j 0 ≡ get_or heap i 0
      to_j (later a e) = e
      to_j (sooner a b e) = absurd (a refl)
      to_j (never a b e) = absurd (a refl)

      to_i : Place i → get_or (swapped heap i j) i 0 ≡ get_or heap j 0
      to_i (later a e) = e ∙ ap (λ (k : ℕ). get_or heap k 0) a
      to_i (sooner a b e) = e
      to_i (never a b e) = absurd (b refl)

      go : Dec (m ≡ i) → Dec (m ≡ j) → Place m → Place i → Place j → (k : ℕ) × (k < n) × (get_or (swapped heap i j) k 0 ≡ get_or heap m 0)
      go (yes e) d u v w = (j, hj, to_j w ∙ ap (λ (k : ℕ). get_or heap k 0) (sym e))
      go (no a) (yes e) u v w = (i, hi, to_i v ∙ ap (λ (k : ℕ). get_or heap k 0) (sym e))
      go (no a) (no b) (later c e) v w = absurd (b c)
      go (no a) (no b) (sooner c d e) v w = absurd (a d)
      go (no a) (no b) (never c d e) v w = (m, h, e)

  here : (m : ℕ) → m < n → (k : ℕ) × (k < n) × (get_or heap k 0 ≡ get_or (swapped heap i j) m 0)
  here m h = go (at m)
    where
      go : Place m → (k : ℕ) × (k < n) × (get_or heap k 0 ≡ get_or (swapped heap i j) m 0)
      go (later a e) = (i, hi, sym e)
      go (sooner a b e) = (j, hj, sym e)
      go (never a b e) = (m, h, sym e)

  swap_same : Moved p n heap pos (swapped heap i j) (set (set pos (get_or heap i 0) j) (get_or heap j 0) i)
  unfolding pos₂
  swap_same = record {
    indexed = swap_indexed;
    kept = same_held swap_indexed there;
    only = same_held x here;
    past = record {
      heap_past = drop-set-lt p (set heap i (get_or heap j 0)) j (get_or heap i 0) (omega (arith, x.count)) ∙ drop-set-lt p heap i (get_or heap j 0) (omega (arith, x.count));
      pos_past = drop-set-lt p (set pos (get_or heap i 0) j) (get_or heap j 0) i (x.pair j hj) ∙ drop-set-lt p pos (get_or heap i 0) j (x.pair i hi);
    };
  }

  pub swap_moved : {heap' pos' : List ℕ} → Swapped i j heap pos heap' pos' → Moved p n heap pos heap' pos'
  swap_moved s = rw (s.places, s.positions) swap_same

-- ---- one after the other
past_none : {p : ℕ} {heap pos : List ℕ} → Past p heap pos heap pos
past_none = record { heap_past = refl; pos_past = refl }

pub past_more : {p : ℕ} {heap pos heap' pos' heap'' pos'' : List ℕ} → Past p heap pos heap' pos' → Past p heap' pos' heap'' pos'' → Past p heap pos heap'' pos''
past_more a b = record { heap_past = b.heap_past ∙ a.heap_past; pos_past = b.pos_past ∙ a.pos_past }

pub moved_none : {p n : ℕ} {heap pos : List ℕ} → Indexed heap pos p n → Moved p n heap pos heap pos
moved_none x = record { indexed = x; kept = λ q w. w; only = λ q w. w; past = past_none }

pub moved_more : {p n : ℕ} {heap pos heap' pos' heap'' pos'' : List ℕ} → Moved p n heap pos heap' pos' → Moved p n heap' pos' heap'' pos'' → Moved p n heap pos heap'' pos''
moved_more a b = record {
  indexed = b.indexed;
  kept = λ q w. b.kept q (a.kept q w);
  only = λ q w. a.only q (b.only q w);
  past = past_more a.past b.past;
}
