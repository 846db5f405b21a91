-- What `decrease_key` asks of `sift_up`, and what it leaves, on plain lists.
-- Assumes nothing.
use mathlib.Core.Path.{◌≡◌, refl, sym, ap, ◌∙◌}
use mathlib.Core.Logic.{◌≢◌}
use mathlib.Core.List.{List}
use Prim.Native.Nat.{ℕ, ◌≤◌, ◌<◌}
use native.Mathlib.Decide.{ℕ_discrete}
use native.Mathlib.Omega.{arith}
use lib.ListN.{get_or, set, length-set}
use Rattle.heap_sift.specs.Heap.{slices, parent, In, key, Heap}
use Rattle.heap_sift.specs.Sift.{Rising, SiftingUp, Sifted}
use Rattle.heap_sift.proofs.Places.{in_pair, one_place}
use Rattle.heap.specs.Calls.{Decreasing, Decreased}
use Rattle.heap.proofs.Facts.{key_of, key_other, key_same}

module _ {keys heap pos : List ℕ} {q v : ℕ} (a : Decreasing q v (slices keys heap pos)) where
  abbrev p : ℕ
  p = a.p

  abbrev n : ℕ
  n = a.n

  abbrev h : Heap (slices keys heap pos) p n
  h = a.ordered

  abbrev w : In heap pos n q
  w = a.inside

  pub decrease_pair : q < p
  decrease_pair = in_pair h.indexed q w

  same : key (set keys q v) heap (get_or pos q 0) ≡ v
  same = key_same keys heap q v (get_or pos q 0) (omega (arith, decrease_pair, h.keys_fit)) w.held

  other : (i : ℕ) → i < n → i ≢ get_or pos q 0 → key (set keys q v) heap i ≡ key keys heap i
  other i g ne = key_other keys heap q v i (λ e. ne (one_place h.indexed i (get_or pos q 0) g w.place (e ∙ sym w.held)))

  -- no key rises
  no_higher : (i : ℕ) → i < n → key (set keys q v) heap i ≤ key keys heap i
  no_higher i g = go (ℕ_discrete i (get_or pos q 0))
    where
      go : Dec (i ≡ get_or pos q 0) → key (set keys q v) heap i ≤ key keys heap i
      go (yes e) = rw e (omega (arith, same, key_of keys heap (get_or pos q 0) q w.held, a.lower))
      go (no ne) = omega (arith, other i g ne)

  at_place : Rising (key (set keys q v) heap) n (get_or pos q 0)
  at_place = record {
    place = w.place;
    order = λ i z g ne. omega (arith, other i g ne, no_higher (parent i) (omega arith), h.order i z g);
    over = λ z i y g e.
        omega (arith, no_higher (parent (get_or pos q 0)) (omega (arith, w.place)), h.order (get_or pos q 0) z w.place, ap (key keys heap) e, h.order i y g, other i g (omega arith));
  }

  -- where `at` is the place that the code read
  pub decrease_moving : {at : ℕ} → at ≡ get_or pos q 0 → v ≡ key (set keys q v) heap at
  decrease_moving e = rw e (sym same)

  pub decrease_rising : {at : ℕ} → at ≡ get_or pos q 0 → Rising (key (set keys q v) heap) n at
  decrease_rising e = rw e at_place

  -- what `sift_up` asks
  abbrev pub decrease_sifting : {at : ℕ} → at ≡ get_or pos q 0 → SiftingUp at v (slices (set keys q v) heap pos)
  decrease_sifting e = record {
    p = p;
    n = n;
    indexed = h.indexed;
    keys_fit = simp length-set h.keys_fit;
    moving = decrease_moving e;
    rising = decrease_rising e;
  }

  pub decrease_done : {heap' pos' : List ℕ} → Sifted p n (slices (set keys q v) heap pos) (slices (set keys q v) heap' pos')
      → Decreased p n q v (slices keys heap pos) (slices (set keys q v) heap' pos')
  decrease_done s = record {
    stored = refl;
    ordered = record { indexed = s.moved.indexed; keys_fit = simp length-set h.keys_fit; order = s.order };
    kept = s.moved.kept;
    only = s.moved.only;
    past = s.moved.past;
  }
