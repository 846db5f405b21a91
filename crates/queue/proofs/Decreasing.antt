-- What `decrease` asks of the heap, and what it leaves, on plain lists.
-- Assumes nothing.
use mathlib.Core.Path.{◌≡◌, refl, ap, ◌∙◌}
use mathlib.Core.List.{List}
use Prim.Native.Nat.{ℕ, ◌≤◌}
use native.Mathlib.Decide.{ℕ_discrete}
use native.Mathlib.Omega.{arith}
use lib.ListN.{get_or}
use lib.Seq.{get_or-set_same, get_or-set_other}
use Rattle.heap_sift.specs.Heap.{slices, In}
use Rattle.heap.specs.Calls as calls
use Rattle.queue.specs.declared.Counts.{Counts}
use Rattle.queue.specs.Queue.{state, Contains, Queue, Decreasing, Decreased}
use Rattle.queue.proofs.Facts.{contains_pair}

module _ {keys heap pos stack : List ℕ} {c : Counts} {q v : ℕ} (d : Decreasing q v (state keys heap pos stack c)) where
  abbrev p : ℕ
  p = d.p

  abbrev floor : ℕ
  floor = d.floor

  abbrev x : Queue p floor (state keys heap pos stack c)
  x = d.queue

  -- a pair whose key is above the floor is in the heap
  pub in_the_heap : In heap pos c.heaped q
  in_the_heap = go d.here
    where
      go : Contains (state keys heap pos stack c) q → In heap pos c.heaped q
      go (Contains.in_heap i) = i
      go (Contains.on_stack i h e) = absurd (omega (arith, x.level i h, ap (λ (k : ℕ). get_or keys k 0) e, d.above, d.lower))

  -- what `decrease_key` asks
  abbrev pub decrease_heaped : calls.Decreasing q v (slices keys heap pos)
  decrease_heaped = record { p = p; n = c.heaped; ordered = x.ordered; inside = in_the_heap; lower = omega (arith, d.lower) }

  module _ {keys' heap' pos' : List ℕ} (u : calls.Decreased p c.heaped q v (slices keys heap pos) (slices keys' heap' pos')) where
    lower_queue : Queue p floor (state keys' heap' pos' stack c)
    lower_queue = record {
      ordered = u.ordered;
      stack_fits = x.stack_fits;
      pairs = x.pairs;
      distinct = x.distinct;
      level = λ i h. rw u.stored (get_or-set_other keys q (get_or stack i 0) v 0 (λ e. x.apart i h (rw e in_the_heap)) ∙ x.level i h);
      apart = λ i h a. x.apart i h (u.only (get_or stack i 0) a);
      above = λ k a. above k a (ℕ_discrete k q);
    }
      where
        above : (k : ℕ) → In heap' pos' c.heaped k → Dec (k ≡ q) → floor ≤ get_or keys' k 0
        above k a (yes e) = rw (u.stored, e) (omega (arith, d.above, get_or-set_same keys q v 0 (omega (arith, contains_pair x d.here, x.ordered.keys_fit))))
        above k a (no nd) = rw u.stored (omega (arith, get_or-set_other keys q k v 0 nd, x.above k (u.only k a)))

    pub decrease_done : Decreased p floor q v (state keys heap pos stack c) (state keys' heap' pos' stack c)
    decrease_done = record {
      stored = u.stored;
      queue = lower_queue;
      kept = kept;
      only = only;
      past = record { heap_past = u.past.heap_past; pos_past = u.past.pos_past; stack_past = refl };
    }
      where
        kept : (k : ℕ) → Contains (state keys heap pos stack c) k → Contains (state keys' heap' pos' stack c) k
        kept k (Contains.in_heap i) = Contains.in_heap (u.kept k i)
        kept k (Contains.on_stack i h e) = Contains.on_stack i h e

        only : (k : ℕ) → Contains (state keys' heap' pos' stack c) k → Contains (state keys heap pos stack c) k
        only k (Contains.in_heap i) = Contains.in_heap (u.only k i)
        only k (Contains.on_stack i h e) = Contains.on_stack i h e
