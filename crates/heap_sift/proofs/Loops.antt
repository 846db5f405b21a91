-- The loops of `sift_up` and `sift_down` on plain lists: what holds at the head, that a turn keeps it, and what it comes to.
-- Assumes nothing.
use mathlib.Core.Path.{◌≡◌, sym, ap, ◌∙◌}
use mathlib.Core.List.{List}
use Prim.Native.Nat.{ℕ, ◌+◌, ◌≤◌, ◌<◌}
use native.Mathlib.Omega.{arith}
use lib.ListN.{length, get_or}
use Rattle.heap_sift.specs.Heap.{slices, parent, key}
use Rattle.heap_sift.specs.Sift.{Moved, swapped, Swapped, Rising, Sinking, LeastChild, SiftingUp, SiftingDown, Sifted}
use Rattle.heap_sift.proofs.Places.{Two, two, swap_moved, moved_none, moved_more}
use Rattle.heap_sift.proofs.Order.{At, at_first, at_second, rise, rise_stop, rise_top, sink, sink_stop, sink_end}

-- the keys after a swap
pub key_swap : (keys heap heap' : List ℕ) (i j : ℕ) → i < length heap → j < length heap → heap' ≡ swapped heap i j → (m : ℕ) → At (key keys heap) (key keys heap') i j m
unfolding key
key_swap keys heap heap' i j hi hj s m = rw s (go (two heap i (get_or heap j 0) j (get_or heap i 0) m hi hj))
  where
    go : Two heap (swapped heap i j) i (get_or heap j 0) j (get_or heap i 0) m → At (key keys heap) (key keys (swapped heap i j)) i j m
    go (Two.later a e) = At.second a (ap (λ (q : ℕ). get_or keys q 0) e)
    go (Two.sooner a b e) = At.first b (ap (λ (q : ℕ). get_or keys q 0) e)
    go (Two.never a b e) = At.other b a (ap (λ (q : ℕ). get_or keys q 0) e)

-- ---- `sift_up`: the pair of the key v stands at x
pub record Lifting (keys : List ℕ) (p n v : ℕ) (heap₀ pos₀ heap pos : List ℕ) (x : ℕ) : Type 0 where
  pub moved : Moved p n heap₀ pos₀ heap pos
  pub rising : Rising (key keys heap) n x
  pub moving : v ≡ key keys heap x

pub lift_start : {keys heap pos : List ℕ} {v x : ℕ} (a : SiftingUp x v (slices keys heap pos)) → Lifting keys a.p a.n v heap pos heap pos x
lift_start a = record { moved = moved_none a.indexed; rising = a.rising; moving = a.moving }

module _ {keys : List ℕ} {p n v : ℕ} {heap₀ pos₀ heap pos : List ℕ} {x : ℕ} (t : Lifting keys p n v heap₀ pos₀ heap pos x) where
  pub lift_top : x ≤ 0 → Sifted p n (slices keys heap₀ pos₀) (slices keys heap pos)
  lift_top h = record { moved = t.moved; order = rise_top (key keys heap) n x t.rising h }

  module _ {y a : ℕ} (ey : y ≡ parent x) (ea : a ≡ key keys heap y) where
    at_parent : a ≡ key keys heap (parent x)
    at_parent = ea ∙ ap (key keys heap) ey

    pub lift_stop : a < v → Sifted p n (slices keys heap₀ pos₀) (slices keys heap pos)
    lift_stop h = record { moved = t.moved; order = rise_stop (key keys heap) n x t.rising (omega (arith, at_parent, t.moving)) }

    pub lift_turn : {heap' pos' : List ℕ} → 0 < x → v ≤ a → Swapped y x heap pos heap' pos' → Lifting keys p n v heap₀ pos₀ heap' pos' y
    lift_turn {heap'} {pos'} z h s = rw ey (turn (rw ey at s))
      where
        inside : x < length heap
        inside = omega (arith, t.moved.indexed.heap_fits, t.moved.indexed.count, t.rising.place)

        turn : Swapped (parent x) x heap pos heap' pos' → Lifting keys p n v heap₀ pos₀ heap' pos' (parent x)
        turn u = record {
          moved = moved_more t.moved (swap_moved t.moved.indexed (omega (arith, t.rising.place)) t.rising.place u);
          rising = rise (key keys heap) (key keys heap') n x t.rising z (omega (arith, at_parent, t.moving)) keys_after;
          moving = t.moving ∙ sym (at_first (keys_after (parent x)));
        }
          where
            keys_after : (m : ℕ) → At (key keys heap) (key keys heap') (parent x) x m
            keys_after = key_swap keys heap heap' (parent x) x (omega (arith, inside)) inside u.places

-- ---- `sift_down`: the pair of the key v stands at x
pub record Dropping (keys : List ℕ) (p n v : ℕ) (heap₀ pos₀ heap pos : List ℕ) (x : ℕ) : Type 0 where
  pub moved : Moved p n heap₀ pos₀ heap pos
  pub sinking : Sinking (key keys heap) n x
  pub moving : v ≡ key keys heap x

pub drop_start : {keys heap pos : List ℕ} {n v x : ℕ} (a : SiftingDown n x v (slices keys heap pos)) → Dropping keys a.p n v heap pos heap pos x
drop_start a = record { moved = moved_none a.indexed; sinking = a.sinking; moving = a.moving }

module _ {keys : List ℕ} {p n v : ℕ} {heap₀ pos₀ heap pos : List ℕ} {x : ℕ} (t : Dropping keys p n v heap₀ pos₀ heap pos x) where
  pub drop_end : n ≤ x + x + 1 → Sifted p n (slices keys heap₀ pos₀) (slices keys heap pos)
  drop_end h = record { moved = t.moved; order = sink_end (key keys heap) n x t.sinking h }

  module _ {c b : ℕ} (d : LeastChild (key keys heap) n x c) (eb : b ≡ key keys heap c) where
    pub drop_stop : v ≤ b → Sifted p n (slices keys heap₀ pos₀) (slices keys heap pos)
    drop_stop h = record { moved = t.moved; order = sink_stop (key keys heap) n x t.sinking c d (omega (arith, t.moving)) }

    pub drop_turn : {heap' pos' : List ℕ} → b < v → Swapped x c heap pos heap' pos' → Dropping keys p n v heap₀ pos₀ heap' pos' c
    drop_turn {heap'} h s = record {
      moved = moved_more t.moved (swap_moved t.moved.indexed (omega (arith, d.place, d.first, d.child)) d.place s);
      sinking = sink (key keys heap) (key keys heap') n x c t.sinking d (omega (arith, t.moving)) swap_keys;
      moving = t.moving ∙ sym (at_second (swap_keys c));
    }
      where
        inside : c < length heap
        inside = omega (arith, t.moved.indexed.heap_fits, t.moved.indexed.count, d.place)

        swap_keys : (m : ℕ) → At (key keys heap) (key keys heap') x c m
        swap_keys = key_swap keys heap heap' x c (omega (arith, inside, d.first, d.child)) inside s.places
