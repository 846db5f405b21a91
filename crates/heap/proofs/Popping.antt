-- What `pop_min` asks of `sift_down`, and what it leaves, on plain lists.
-- Assumes nothing.
use mathlib.Core.Path.{◌≡◌, sym, ap, ◌∙◌}
use mathlib.Core.Logic.{◌≢◌}
use mathlib.Core.List.{List}
use Prim.Native.Nat.{ℕ, ◌-◌, ◌≤◌, ◌<◌}
use native.Mathlib.Decide.{ℕ_discrete}
use native.Mathlib.Omega.{arith}
use lib.ListN.{get_or, set, length-set}
use lib.Seq.{get_or-set_same}
use Rattle.heap_sift.specs.Heap.{slices, parent, In, Indexed, key, Heap}
use Rattle.heap_sift.specs.Sift.{Swapped, Moved, Sinking, SiftingDown, Sifted}
use Rattle.heap_sift.proofs.Places.{stands, swap_moved, past_more}
use Rattle.heap_sift.proofs.Order.{At, at_first, top_least}
use Rattle.heap_sift.proofs.Loops.{key_swap}
use Rattle.heap.specs.Calls.{Popped}
use Rattle.heap.proofs.Facts.{key_of}

module _ {keys heap pos : List ℕ} {p n : ℕ} (h : Heap (slices keys heap pos) p n) (z : 0 < n) {heap₁ pos₁ : List ℕ} (s : Swapped 0 (n - 1) heap pos heap₁ pos₁) where
  moved : Moved p n heap pos heap₁ pos₁
  moved = swap_moved h.indexed z (omega arith) s

  swap_keys : (m : ℕ) → At (key keys heap) (key keys heap₁) 0 (n - 1) m
  swap_keys = key_swap keys heap heap₁ 0 (n - 1) (omega (arith, h.indexed.count, h.indexed.heap_fits)) (omega (arith, h.indexed.count, h.indexed.heap_fits)) s.places

  pub pop_indexed : Indexed heap₁ pos₁ p (n - 1)
  pop_indexed =
      let x : Indexed heap₁ pos₁ p n = moved.indexed in
      record {
        small = x.small;
        count = omega (arith, x.count);
        heap_fits = x.heap_fits;
        pos_fits = x.pos_fits;
        pair = λ i g. x.pair i (omega arith);
        back = λ i g. x.back i (omega arith);
      }

  inner : (m : ℕ) → 0 < m → m < n - 1 → key keys heap₁ m ≡ key keys heap m
  inner m a b = go (swap_keys m)
    where
      go : At (key keys heap) (key keys heap₁) 0 (n - 1) m → key keys heap₁ m ≡ key keys heap m
      go (At.first c e) = absurd (omega arith)
      go (At.second c e) = absurd (omega arith)
      go (At.other c d e) = e

  pub pop_sinking : Sinking (key keys heap₁) (n - 1) 0
  pop_sinking = record {
    order = λ i a g ne. omega (arith, inner i a g, inner (parent i) (omega arith) (omega arith), h.order i a (omega arith));
    over = λ a i b g e. absurd (omega arith);
  }

  -- where v is the key that the code read
  pub pop_moving : {v : ℕ} → v ≡ key keys heap (n - 1) → v ≡ key keys heap₁ 0
  pop_moving e = e ∙ sym (at_first (swap_keys 0))

  -- what `sift_down` asks
  abbrev pub pop_sifting : {v : ℕ} → v ≡ key keys heap (n - 1) → SiftingDown (n - 1) 0 v (slices keys heap₁ pos₁)
  pop_sifting e = record {
    p = p;
    indexed = pop_indexed;
    keys_fit = h.keys_fit;
    place = omega arith;
    moving = pop_moving e;
    sinking = pop_sinking;
  }

  module _ {r : ℕ} (er : r ≡ get_or heap 0 0) where
    -- where the pair that is taken stands after the swap
    last : get_or heap₁ (n - 1) 0 ≡ r
    last = rw s.places (get_or-set_same (set heap 0 (get_or heap (n - 1) 0)) (n - 1) (get_or heap 0 0) 0 (simp length-set (omega (arith, h.indexed.count, h.indexed.heap_fits))) ∙ sym er)

    least : (k : ℕ) → In heap pos n k → get_or keys r 0 ≤ get_or keys k 0
    least k w =
        omega (arith, key_of keys heap 0 r (sym er), key_of keys heap (get_or pos k 0) k w.held, top_least (key keys heap) n h.order (get_or pos k 0) (get_or pos k 0) (omega arith) w.place)

    gone : In heap₁ pos₁ (n - 1) r → ⊥
    gone w = omega (arith, w.place, rw last at (moved.indexed.back (n - 1) (omega arith)))

    kept : (k : ℕ) → In heap₁ pos₁ n k → k ≢ r → In heap₁ pos₁ (n - 1) k
    kept k w ne = go (ℕ_discrete (get_or pos₁ k 0) (n - 1))
      where
        go : Dec (get_or pos₁ k 0 ≡ n - 1) → In heap₁ pos₁ (n - 1) k
        go (yes e) = absurd (ne (sym w.held ∙ ap (λ (i : ℕ). get_or heap₁ i 0) e ∙ last))
        go (no d) = record { place = omega (arith, w.place); held = w.held }

    pub pop_done : {heap' pos' : List ℕ} → Sifted p (n - 1) (slices keys heap₁ pos₁) (slices keys heap' pos') → Popped p n r (slices keys heap pos) (slices keys heap' pos')
    pop_done {heap'} {pos'} t = record {
      was = stands h.indexed 0 r z (sym er);
      pair = omega (arith, h.indexed.pair 0 z);
      least = least;
      ordered = record { indexed = t.moved.indexed; keys_fit = h.keys_fit; order = t.order };
      gone = λ w. gone (t.moved.only r w);
      kept = λ k w ne. t.moved.kept k (kept k (moved.kept k w) ne);
      only = λ k w. wider k (t.moved.only k w);
      past = past_more moved.past t.moved.past;
    }
      where
        wider : (k : ℕ) → In heap₁ pos₁ (n - 1) k → In heap pos n k
        wider k w = moved.only k (record { place = omega (arith, w.place); held = w.held })
