-- What `take` asks of the heap, and what it leaves, on plain lists.
-- Assumes nothing.
use mathlib.Core.Path.{◌≡◌, refl, sym, ap, ◌∙◌}
use mathlib.Core.Logic.{◌≢◌}
use mathlib.Core.List.{List, [], ◌∷◌}
use Prim.Native.Nat.{ℕ, ◌-◌, ◌≤◌, ◌<◌}
use native.Mathlib.Decide.{ℕ_discrete}
use native.Mathlib.Omega.{arith}
use lib.ListN.{length, get_or}
use Rattle.theory.specs.Counting.{pigeons}
use Rattle.heap_sift.specs.Heap.{slices}
use Rattle.heap.specs.Calls.{Popped}
use Rattle.queue.specs.declared.Counts.{Counts}
use Rattle.queue.specs.Queue.{state, Contains, Queue, recent, Taken}
use Rattle.queue.proofs.Facts.{contains_pair, floor_le}
use Rattle.queue.proofs.Recent.{recent_last, recent_none}

module _ {keys heap pos stack : List ℕ} {p floor : ℕ} {c : Counts} (x : Queue p floor (state keys heap pos stack c)) where
  -- the stack is within its slice
  pub stack_within : c.top ≤ length stack
  stack_within = omega (arith, pigeons p c.top (λ (i : ℕ). get_or stack i 0) x.pairs x.distinct, x.stack_fits)

  -- ---- `take` from the stack
  abbrev popped : Counts
  popped = record { heaped = c.heaped; top = c.top - 1 }

  module _ {r : ℕ} (z : 0 < c.top) (e : r ≡ get_or stack (c.top - 1) 0) where
    level : get_or keys r 0 ≡ floor
    level = ap (λ (k : ℕ). get_or keys k 0) e ∙ x.level (c.top - 1) (omega arith)

    was : Contains (state keys heap pos stack c) r
    was = Contains.on_stack (c.top - 1) (omega arith) (sym e)

    gone : Contains (state keys heap pos stack popped) r → ⊥
    gone (Contains.in_heap w) = x.apart (c.top - 1) (omega arith) (rw e at w)
    gone (Contains.on_stack i h d) = omega (arith, x.distinct i (c.top - 1) (omega arith) (omega arith) (d ∙ e))

    kept : (k : ℕ) → Contains (state keys heap pos stack c) k → k ≢ r → Contains (state keys heap pos stack popped) k
    kept k (Contains.in_heap w) ne = Contains.in_heap w
    kept k (Contains.on_stack i h d) ne = go (ℕ_discrete i (c.top - 1))
      where
        go : Dec (i ≡ c.top - 1) → Contains (state keys heap pos stack popped) k
        go (yes a) = absurd (ne (sym d ∙ ap (λ (j : ℕ). get_or stack j 0) a ∙ sym e))
        go (no a) = Contains.on_stack i (omega arith) d

    only : (k : ℕ) → Contains (state keys heap pos stack popped) k → Contains (state keys heap pos stack c) k
    only k (Contains.in_heap w) = Contains.in_heap w
    only k (Contains.on_stack i h d) = Contains.on_stack i (omega arith) d

    list : recent stack c ≡ r ∷ recent stack popped
    list = rw e (recent_last stack c popped (omega arith))

    pub take_stack : Taken p floor r floor (state keys heap pos stack c) (state keys heap pos stack popped)
    take_stack = record {
      was = was;
      pair = contains_pair x was;
      least = λ k w. omega (arith, level, floor_le x w);
      queue = record {
        ordered = x.ordered;
        stack_fits = x.stack_fits;
        pairs = λ i h. x.pairs i (omega arith);
        distinct = λ i j h g d. x.distinct i j (omega arith) (omega arith) d;
        level = λ i h. x.level i (omega arith);
        apart = λ i h w. x.apart i (omega arith) w;
        above = λ k w. x.above k w;
      };
      one_fewer = omega arith;
      its_key = sym level;
      rises = omega arith;
      gone = gone;
      kept = kept;
      only = only;
      last_in = λ q rest d. let f : r ∷ recent stack popped ≡ q ∷ rest = sym list ∙ d in ((cc), (cc));
      none_recent = λ d. let f : r ∷ recent stack popped ≡ [] = sym list ∙ d in (cc);
      past = record { heap_past = refl; pos_past = refl; stack_past = refl };
    }

  -- ---- `take` from the heap, where the stack is empty
  module _ {r : ℕ} {heap' pos' : List ℕ} (z : c.top ≤ 0) (y : 0 < c.heaped) (u : Popped p c.heaped r (slices keys heap pos) (slices keys heap' pos')) where
    abbrev left : Counts
    left = record { heaped = c.heaped - 1; top = c.top }

    kept' : (k : ℕ) → Contains (state keys heap pos stack c) k → k ≢ r → Contains (state keys heap' pos' stack left) k
    kept' k (Contains.in_heap w) ne = Contains.in_heap (u.kept k w ne)
    kept' k (Contains.on_stack i h d) ne = absurd (omega arith)

    only' : (k : ℕ) → Contains (state keys heap' pos' stack left) k → Contains (state keys heap pos stack c) k
    only' k (Contains.in_heap w) = Contains.in_heap (u.only k w)
    only' k (Contains.on_stack i h d) = absurd (omega arith)

    gone' : Contains (state keys heap' pos' stack left) r → ⊥
    gone' (Contains.in_heap w) = u.gone w
    gone' (Contains.on_stack i h d) = omega arith

    least : (k : ℕ) → Contains (state keys heap pos stack c) k → get_or keys r 0 ≤ get_or keys k 0
    least k (Contains.in_heap w) = u.least k w
    least k (Contains.on_stack i h d) = absurd (omega arith)

    none : recent stack c ≡ []
    none = recent_none stack c (omega arith)

    pub take_within : r < length keys
    take_within = omega (arith, u.pair, x.ordered.keys_fit)

    pub take_heap : Taken p floor r (get_or keys r 0) (state keys heap pos stack c) (state keys heap' pos' stack left)
    take_heap = record {
      was = Contains.in_heap u.was;
      pair = u.pair;
      least = least;
      queue = record {
        ordered = u.ordered;
        stack_fits = x.stack_fits;
        pairs = λ i h. absurd (omega arith);
        distinct = λ i j h g d. absurd (omega arith);
        level = λ i h. absurd (omega arith);
        apart = λ i h w. omega arith;
        above = λ k w. u.least k (u.only k w);
      };
      one_fewer = omega arith;
      its_key = refl;
      rises = floor_le x (Contains.in_heap u.was);
      gone = gone';
      kept = kept';
      only = only';
      last_in = λ q rest d. let f : [] ≡ q ∷ rest = sym none ∙ d in ((cc), (cc));
      none_recent = λ d. recent_none stack left (omega arith);
      past = record { heap_past = u.past.heap_past; pos_past = u.past.pos_past; stack_past = refl };
    }
