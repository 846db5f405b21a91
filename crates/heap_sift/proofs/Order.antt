-- The order of the heap, over any function k that gives a place its key.
-- Assumes nothing.
use mathlib.Core.Path.{◌≡◌, refl, ap, ◌∙◌}
use mathlib.Core.Logic.{◌≢◌}
use Prim.Native.Nat.{ℕ, zero, suc, ◌+◌, ◌≤◌, ◌<◌}
use native.Mathlib.Decide.{ℕ_discrete}
use native.Mathlib.Omega.{arith}
use Rattle.heap_sift.specs.Heap.{parent, Order}
use Rattle.heap_sift.specs.Sift.{Rising, Sinking, LeastChild}

-- k' is k with the places i and j exchanged, at place m
pub data At (k k' : ℕ → ℕ) (i j m : ℕ) : Type 0 where
  first : m ≡ i → k' m ≡ k j → At k k' i j m
  second : m ≡ j → k' m ≡ k i → At k k' i j m
  other : m ≢ i → m ≢ j → k' m ≡ k m → At k k' i j m

-- each of the two has the key of the other
pub at_first : {k k' : ℕ → ℕ} {i j : ℕ} → At k k' i j i → k' i ≡ k j
at_first (first a e) = e
at_first {k} (second a e) = e ∙ ap k a
at_first (other a b e) = absurd (a refl)

pub at_second : {k k' : ℕ → ℕ} {i j : ℕ} → At k k' i j j → k' j ≡ k i
at_second {k} (first a e) = e ∙ ap k a
at_second (second a e) = e
at_second (other a b e) = absurd (b refl)

-- a step up
module _ (k k' : ℕ → ℕ) (n x : ℕ) (r : Rising k n x) (low : 0 < x) (less : k x ≤ k (parent x)) (s : (m : ℕ) → At k k' (parent x) x m) where
  rise_order : (i : ℕ) → 0 < i → i < n → i ≢ parent x → k' (parent i) ≤ k' i
  rise_order i z l ne = go (s (parent i)) (s i)
    where
      go : At k k' (parent x) x (parent i) → At k k' (parent x) x i → k' (parent i) ≤ k' i
      go u (first b e) = absurd (ne b)
      go (first c f) (second b e) = omega arith
      go (first c f) (other a b e) = omega (arith, ap k c, r.order i z l b)
      go (second d f) (second b e) = absurd (omega arith)
      go (second d f) (other a b e) = omega (arith, r.over low i z l d)
      go (other c d f) (second b e) = absurd (c (ap (λ (j : ℕ). parent j) b))
      go (other c d f) (other a b e) = omega (arith, r.order i z l b)

  rise_over : 0 < parent x → (i : ℕ) → 0 < i → i < n → parent i ≡ parent x → k' (parent (parent x)) ≤ k' i
  rise_over z i a l e = go (s (parent (parent x))) (s i) (r.order (parent x) z (omega (arith, r.place)) (omega arith))
    where
      go : At k k' (parent x) x (parent (parent x)) → At k k' (parent x) x i → k (parent (parent x)) ≤ k (parent x) → k' (parent (parent x)) ≤ k' i
      go (first c f) v o = absurd (omega arith)
      go (second d f) v o = absurd (omega arith)
      go (other c d f) (first b g) o = absurd (omega arith)
      go (other c d f) (second h g) o = omega arith
      go (other c d f) (other b h g) o = omega (arith, ap k e, r.order i a l h)

  pub rise : Rising k' n (parent x)
  rise = record { place = omega (arith, r.place); order = rise_order; over = rise_over }

-- no further step up
module _ (k : ℕ → ℕ) (n x : ℕ) (r : Rising k n x) where
  pub rise_stop : k (parent x) ≤ k x → Order k n
  rise_stop h i a l = go (ℕ_discrete i x)
    where
      go : Dec (i ≡ x) → k (parent i) ≤ k i
      go (yes e) = omega (arith, ap k e, ap (λ (j : ℕ). k (parent j)) e)
      go (no ne) = r.order i a l ne

  pub rise_top : x ≤ 0 → Order k n
  rise_top h i a l = r.order i a l (omega arith)

-- a step down
module _ (k k' : ℕ → ℕ) (n x c : ℕ) (r : Sinking k n x) (d : LeastChild k n x c) (less : k c ≤ k x) (s : (m : ℕ) → At k k' x c m) where
  sink_order : (i : ℕ) → 0 < i → i < n → parent i ≢ c → k' (parent i) ≤ k' i
  sink_order i a l ne = go (s (parent i)) (s i)
    where
      go : At k k' x c (parent i) → At k k' x c i → k' (parent i) ≤ k' i
      go (first b e) (first f g) = absurd (omega arith)
      go (first b e) (second h g) = omega arith
      go (first b e) (other f h g) = omega (arith, d.least i a l b)
      go (second o e) v = absurd (ne o)
      go (other b o e) (first f g) = omega (arith, ap (λ (j : ℕ). k (parent j)) f, r.over (omega arith) c d.first d.place d.child)
      go (other b o e) (second h g) = absurd (omega (arith, d.child))
      go (other b o e) (other f h g) = omega (arith, r.order i a l b)

  sink_over : 0 < c → (i : ℕ) → 0 < i → i < n → parent i ≡ c → k' (parent c) ≤ k' i
  sink_over z i a l e = go (s (parent c)) (s i)
    where
      go : At k k' x c (parent c) → At k k' x c i → k' (parent c) ≤ k' i
      go (first b f) (first g h) = absurd (omega (arith, d.child))
      go (first b f) (second o h) = absurd (omega arith)
      go (first b f) (other g o h) = omega (arith, ap k e, r.order i a l (omega (arith, d.child)))
      go (second o f) v = absurd (omega (arith, d.first))
      go (other b o f) v = absurd (b d.child)

  pub sink : Sinking k' n c
  sink = record { order = sink_order; over = sink_over }

-- no further step down
module _ (k : ℕ → ℕ) (n x : ℕ) (r : Sinking k n x) where
  pub sink_stop : (c : ℕ) → LeastChild k n x c → k x ≤ k c → Order k n
  sink_stop c d h i a l = go (ℕ_discrete (parent i) x)
    where
      go : Dec (parent i ≡ x) → k (parent i) ≤ k i
      go (yes e) = omega (arith, ap k e, d.least i a l e)
      go (no ne) = r.order i a l ne

  pub sink_end : n ≤ x + x + 1 → Order k n
  sink_end h i a l = r.order i a l (omega arith)

-- the top is at most every place
pub top_least : (k : ℕ → ℕ) (n : ℕ) → Order k n → (bound i : ℕ) → i ≤ bound → i < n → k 0 ≤ k i
top_least k n o zero i h l = let e : i ≡ 0 = omega arith in omega (arith, ap k e)
top_least k n o (suc bound) i h l = go (ℕ_discrete i 0) (λ (g : 0 < i). top_least k n o bound (parent i) (omega arith) (omega arith))
  where
    go : Dec (i ≡ 0) → (0 < i → k 0 ≤ k (parent i)) → k 0 ≤ k i
    go (yes e) f = omega (arith, ap k e)
    go (no ne) f = omega (arith, f (omega arith), o i (omega arith) l)
