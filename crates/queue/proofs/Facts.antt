-- What a caller may cite of the queue: the empty queue, what is known of a pair that is in it, and that other keys do not matter.
-- Assumes nothing.
use mathlib.Core.Path.{◌≡◌, refl, ◌∙◌, ap}
use mathlib.Core.List.{List}
use Prim.Native.Nat.{ℕ, ◌≤◌, ◌<◌}
use native.Mathlib.Omega.{arith}
use lib.ListN.{length, get_or}
use Rattle.heap_sift.specs.Heap.{slices, key, parent, Heap}
use Rattle.heap_sift.proofs.Places.{in_pair, stands}
use Rattle.heap.proofs.Facts.{heap_empty}
use Rattle.queue.specs.declared.Counts.{Counts}
use Rattle.queue.specs.Queue.{held, State, state, Contains, Queue, Empty}

-- a queue that is made with no pair in its heap and none on its stack is empty
pub empty_counts : Empty (record { heaped = 0; top = 0 })
empty_counts = record { none_held = refl; none_stacked = refl }

-- the empty queue, whatever stands in the slices and whatever the floor is
pub queue_empty : {keys heap pos stack : List ℕ} {p floor : ℕ} {c : Counts} → Empty c
    → p ≤ 4294967296 → p ≤ length keys → p ≤ length heap → p ≤ length pos → p ≤ length stack
    → Queue p floor (state keys heap pos stack c)
queue_empty {keys} {heap} {pos} {stack} {p} {floor} {c} x s a b d e = record {
  ordered = let n : 0 ≡ c.heaped = omega (arith, x.none_held) in rw n at h;
  stack_fits = e;
  pairs = λ i l. absurd (omega (arith, x.none_stacked));
  distinct = λ i j l m q. absurd (omega (arith, x.none_stacked));
  level = λ i l. absurd (omega (arith, x.none_stacked));
  apart = λ i l w. omega (arith, x.none_stacked);
  above = λ q w. absurd (omega (arith, x.none_held, w.place));
}
  where
    h : Heap (slices keys heap pos) p 0
    h = heap_empty s a b d

module _ {p floor : ℕ} {x : State} (y : Queue p floor x) where
  -- each pair has a key
  pub keys_fit : p ≤ length x.keys
  keys_fit = y.ordered.keys_fit

  -- a queue that holds no pair contains none
  pub contains_none : {q : ℕ} → held x.counts ≡ 0 → Contains x q → ⊥
  contains_none e (Contains.in_heap w) = omega (arith, w.place)
  contains_none e (Contains.on_stack i l d) = omega arith

  -- what is in the queue is a pair
  pub contains_pair : {q : ℕ} → Contains x q → q < p
  contains_pair {q} (Contains.in_heap w) = in_pair y.ordered.indexed q w
  contains_pair (Contains.on_stack i l d) = omega (arith, y.pairs i l)

  -- and its key is at least the one last taken
  pub floor_le : {q : ℕ} → Contains x q → floor ≤ get_or x.keys q 0
  floor_le {q} (Contains.in_heap w) = y.above q w
  floor_le (Contains.on_stack i l d) = omega (arith, y.level i l, ap (λ (k : ℕ). get_or x.keys k 0) d)

-- the keys of pairs that are not in the queue may change
module _ {keys heap pos stack : List ℕ} {c : Counts} (keys' : List ℕ) where
  pub contains_keys : {q : ℕ} → Contains (state keys heap pos stack c) q → Contains (state keys' heap pos stack c) q
  contains_keys (Contains.in_heap w) = Contains.in_heap w
  contains_keys (Contains.on_stack i l d) = Contains.on_stack i l d

  module _ {p floor : ℕ} (y : Queue p floor (state keys heap pos stack c)) (fits : p ≤ length keys')
      (same : (q : ℕ) → Contains (state keys heap pos stack c) q → get_or keys' q 0 ≡ get_or keys q 0) where
    same_key : (i : ℕ) → i < c.heaped → key keys' heap i ≡ key keys heap i
    unfolding key
    same_key i l = same (get_or heap i 0) (Contains.in_heap (stands y.ordered.indexed i (get_or heap i 0) l refl))

    pub queue_keys : Queue p floor (state keys' heap pos stack c)
    queue_keys = record {
      ordered = record {
        indexed = y.ordered.indexed;
        keys_fit = fits;
        order = λ i z l. omega (arith, y.ordered.order i z l, same_key i l, same_key (parent i) (omega arith));
      };
      stack_fits = y.stack_fits;
      pairs = y.pairs;
      distinct = y.distinct;
      level = λ i l. same (get_or stack i 0) (Contains.on_stack i l refl) ∙ y.level i l;
      apart = y.apart;
      above = λ q w. omega (arith, y.above q w, same q (Contains.in_heap w));
    }
