-- The key at a place after a store, and what a caller may cite of the heap: a key outside it may change, and it may be empty.
-- Assumes nothing.
use mathlib.Core.Path.{◌≡◌, ap, ◌∙◌}
use mathlib.Core.Logic.{◌≢◌}
use mathlib.Core.List.{List}
use Prim.Native.Nat.{ℕ, ◌≤◌, ◌<◌}
use native.Mathlib.Omega.{arith}
use lib.ListN.{length, get_or, set, length-set}
use lib.Seq.{get_or-set_same, get_or-set_other}
use Rattle.heap_sift.specs.Heap.{slices, parent, In, key, Heap}
use Rattle.heap_sift.proofs.Places.{stands}

-- the key at a place where q stands, and that at any other place after a store to the key of q
pub key_of : (keys heap : List ℕ) (i q : ℕ) → get_or heap i 0 ≡ q → key keys heap i ≡ get_or keys q 0
unfolding key
key_of keys heap i q e = ap (λ (k : ℕ). get_or keys k 0) e

pub key_other : (keys heap : List ℕ) (q v i : ℕ) → get_or heap i 0 ≢ q → key (set keys q v) heap i ≡ key keys heap i
unfolding key
key_other keys heap q v i ne = get_or-set_other keys q (get_or heap i 0) v 0 ne

pub key_same : (keys heap : List ℕ) (q v i : ℕ) → q < length keys → get_or heap i 0 ≡ q → key (set keys q v) heap i ≡ v
key_same keys heap q v i l e = key_of (set keys q v) heap i q e ∙ get_or-set_same keys q v 0 l

-- the key at any other place after a store to place j
pub key_elsewhere : (keys heap : List ℕ) (j q i : ℕ) → i ≢ j → key keys (set heap j q) i ≡ key keys heap i
unfolding key
key_elsewhere keys heap j q i ne = ap (λ (k : ℕ). get_or keys k 0) (get_or-set_other heap j i q 0 ne)

-- a heap does not depend on the key of a pair that is not in it
pub heap_other : {keys heap pos : List ℕ} {p n : ℕ} → Heap (slices keys heap pos) p n → (q v : ℕ) → (In heap pos n q → ⊥) → Heap (slices (set keys q v) heap pos) p n
heap_other {keys} {heap} {pos} {p} {n} h q v out = record {
  indexed = h.indexed;
  keys_fit = simp length-set h.keys_fit;
  order = λ i z l. omega (arith, h.order i z l, same i l, same (parent i) (omega arith));
}
  where
    same : (i : ℕ) → i < n → key (set keys q v) heap i ≡ key keys heap i
    same i l = key_other keys heap q v i (λ e. out (stands h.indexed i q l e))

-- the empty heap, whatever stands in the slices
pub heap_empty : {keys heap pos : List ℕ} {p : ℕ} → p ≤ 4294967296 → p ≤ length keys → p ≤ length heap → p ≤ length pos → Heap (slices keys heap pos) p 0
heap_empty s a b c = record {
  indexed = record {
    small = s;
    count = omega arith;
    heap_fits = b;
    pos_fits = c;
    pair = λ i l. absurd (omega arith);
    back = λ i l. absurd (omega arith);
  };
  keys_fit = a;
  order = λ i z l. absurd (omega arith);
}
