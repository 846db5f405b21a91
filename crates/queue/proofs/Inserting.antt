-- What `insert` leaves, on plain lists: on the stack, or in the heap.
-- Assumes nothing.
use mathlib.Core.Path.{◌≡◌, refl, sym, ◌∙◌}
use mathlib.Core.Logic.{◌≢◌}
use mathlib.Core.List.{List}
use Prim.Native.Nat.{ℕ, ◌+◌, ◌≤◌, ◌<◌}
use native.Mathlib.Decide.{ℕ_discrete}
use native.Mathlib.Omega.{arith}
use lib.ListN.{length, get_or, set, length-set}
use lib.Seq.{get_or-set_same, get_or-set_other, drop-set-lt}
use Rattle.theory.specs.Counting.{room}
use Rattle.heap_sift.specs.Heap.{slices, In}
use Rattle.heap.specs.Calls.{Pushing, Pushed}
use Rattle.heap.proofs.Facts.{heap_other}
use Rattle.queue.specs.declared.Counts.{Counts}
use Rattle.queue.specs.Queue.{state, Contains, Queue, Inserting, Inserted}
use Rattle.queue.proofs.Recent.{recent_more, recent_same}

-- an entry of the stack after q is put at its top
data Entry (stack : List ℕ) (top q i : ℕ) : Type 0 where
  new : i ≡ top → get_or (set stack top q) i 0 ≡ q → Entry stack top q i
  old : i < top → get_or (set stack top q) i 0 ≡ get_or stack i 0 → Entry stack top q i

module _ {keys heap pos stack : List ℕ} {floor : ℕ} {c : Counts} {q v : ℕ} (asks : Inserting floor q v (state keys heap pos stack c)) where
  abbrev p : ℕ
  p = asks.p

  abbrev x : Queue p floor (state keys heap pos stack c)
  x = asks.queue

  abbrev out : Contains (state keys heap pos stack c) q → ⊥
  out = asks.outside

  not_q : (i : ℕ) → i < c.top → get_or stack i 0 ≢ q
  not_q i h d = out (Contains.on_stack i h d)

  -- there is room on the stack
  pub stack_room : c.top < p
  stack_room = room p c.top q (λ (i : ℕ). get_or stack i 0) x.pairs x.distinct asks.pair not_q

  top_fits : c.top < length stack
  top_fits = omega (arith, stack_room, x.stack_fits)

  entry : (i : ℕ) → i < c.top + 1 → Entry stack c.top q i
  entry i h = go (ℕ_discrete i c.top)
    where
      go : Dec (i ≡ c.top) → Entry stack c.top q i
      go (yes e) = Entry.new e (rw e (get_or-set_same stack c.top q 0 top_fits))
      go (no ne) = Entry.old (omega arith) (get_or-set_other stack c.top i q 0 ne)

  abbrev entries : List ℕ
  entries = set stack c.top q

  -- ---- at the floor: on the stack
  abbrev pushed : Counts
  pushed = record { heaped = c.heaped; top = c.top + 1 }

  new_key : get_or (set keys q v) q 0 ≡ v
  new_key = get_or-set_same keys q v 0 (omega (arith, asks.pair, x.ordered.keys_fit))

  old_key : (k : ℕ) → k ≢ q → get_or (set keys q v) k 0 ≡ get_or keys k 0
  old_key k ne = get_or-set_other keys q k v 0 ne

  stack_queue : v ≡ floor → Queue p floor (state (set keys q v) heap pos entries pushed)
  stack_queue e = record {
    ordered = heap_other x.ordered q v (λ w. out (Contains.in_heap w));
    stack_fits = simp length-set x.stack_fits;
    pairs = λ i h. pair i (entry i h);
    distinct = λ i j h g d. apart₂ i j d (entry i h) (entry j g);
    level = λ i h. level' i (entry i h);
    apart = λ i h w. apart' i w (entry i h);
    above = λ k w. omega (arith, x.above k w, old_key k (λ d. out (Contains.in_heap (rw d at w))));
  }
    where
      pair : (i : ℕ) → Entry stack c.top q i → get_or entries i 0 < p
      pair i (Entry.new a b) = omega (arith, asks.pair)
      pair i (Entry.old a b) = omega (arith, x.pairs i a)

      apart₂ : (i j : ℕ) → get_or entries i 0 ≡ get_or entries j 0 → Entry stack c.top q i → Entry stack c.top q j → i ≡ j
      apart₂ i j d (Entry.new a b) (Entry.new f g) = a ∙ sym f
      apart₂ i j d (Entry.new a b) (Entry.old f g) = absurd (not_q j f (sym g ∙ sym d ∙ b))
      apart₂ i j d (Entry.old a b) (Entry.new f g) = absurd (not_q i a (sym b ∙ d ∙ g))
      apart₂ i j d (Entry.old a b) (Entry.old f g) = x.distinct i j a f (sym b ∙ d ∙ g)

      level' : (i : ℕ) → Entry stack c.top q i → get_or (set keys q v) (get_or entries i 0) 0 ≡ floor
      level' i (Entry.new a b) = rw b (new_key ∙ e)
      level' i (Entry.old a b) = rw b (old_key (get_or stack i 0) (not_q i a) ∙ x.level i a)

      apart' : (i : ℕ) → In heap pos c.heaped (get_or entries i 0) → Entry stack c.top q i → ⊥
      apart' i w (Entry.new a b) = out (Contains.in_heap (rw b at w))
      apart' i w (Entry.old a b) = x.apart i a (rw b at w)

  pub insert_stack : v ≡ floor → Inserted p floor q v (state keys heap pos stack c) (state (set keys q v) heap pos entries pushed)
  insert_stack e = record {
    stored = refl;
    queue = stack_queue e;
    one_more = omega arith;
    here = Contains.on_stack c.top (omega arith) (get_or-set_same stack c.top q 0 top_fits);
    kept = kept;
    only = only;
    newest = λ d. recent_more stack c pushed q top_fits refl;
    not_recent = λ ne. absurd (ne e);
    past = record { heap_past = refl; pos_past = refl; stack_past = drop-set-lt p stack c.top q stack_room };
  }
    where
      kept : (k : ℕ) → Contains (state keys heap pos stack c) k → Contains (state (set keys q v) heap pos entries pushed) k
      kept k (Contains.in_heap w) = Contains.in_heap w
      kept k (Contains.on_stack i h d) = Contains.on_stack i (omega arith) (get_or-set_other stack c.top i q 0 (omega arith) ∙ d)

      from : (k i : ℕ) → get_or entries i 0 ≡ k → k ≢ q → Entry stack c.top q i → Contains (state keys heap pos stack c) k
      from k i d ne (Entry.new a b) = absurd (ne (sym d ∙ b))
      from k i d ne (Entry.old a b) = Contains.on_stack i a (sym b ∙ d)

      only : (k : ℕ) → Contains (state (set keys q v) heap pos entries pushed) k → k ≢ q → Contains (state keys heap pos stack c) k
      only k (Contains.in_heap w) ne = Contains.in_heap w
      only k (Contains.on_stack i h d) ne = from k i d ne (entry i h)

  -- ---- above the floor: in the heap
  abbrev added : Counts
  added = record { heaped = c.heaped + 1; top = c.top }

  -- what `push` asks
  abbrev pub insert_pushing : Pushing c.heaped q (slices keys heap pos)
  insert_pushing = record { p = p; ordered = x.ordered; pair = asks.pair; outside = λ w. out (Contains.in_heap w) }

  module _ {keys' heap' pos' : List ℕ} (ne : v ≢ floor) (u : Pushed p c.heaped q v (slices keys heap pos) (slices keys' heap' pos')) where
    heap_queue : Queue p floor (state keys' heap' pos' stack added)
    heap_queue = record {
      ordered = u.ordered;
      stack_fits = x.stack_fits;
      pairs = x.pairs;
      distinct = x.distinct;
      level = λ i h. rw u.stored (old_key (get_or stack i 0) (not_q i h) ∙ x.level i h);
      apart = λ i h w. x.apart i h (u.only (get_or stack i 0) w (not_q i h));
      above = λ k w. above k w (ℕ_discrete k q);
    }
      where
        above : (k : ℕ) → In heap' pos' (c.heaped + 1) k → Dec (k ≡ q) → floor ≤ get_or keys' k 0
        above k w (yes d) = rw (u.stored, d) (omega (arith, new_key, asks.at_least))
        above k w (no nd) = rw u.stored (omega (arith, old_key k nd, x.above k (u.only k w nd)))

    pub insert_heap : Inserted p floor q v (state keys heap pos stack c) (state keys' heap' pos' stack added)
    insert_heap = record {
      stored = u.stored;
      queue = heap_queue;
      one_more = omega arith;
      here = Contains.in_heap u.here;
      kept = kept;
      only = only;
      newest = λ e. absurd (ne e);
      not_recent = λ d. recent_same stack c added refl;
      past = record { heap_past = u.past.heap_past; pos_past = u.past.pos_past; stack_past = refl };
    }
      where
        kept : (k : ℕ) → Contains (state keys heap pos stack c) k → Contains (state keys' heap' pos' stack added) k
        kept k (Contains.in_heap w) = Contains.in_heap (u.kept k w)
        kept k (Contains.on_stack i h d) = Contains.on_stack i h d

        only : (k : ℕ) → Contains (state keys' heap' pos' stack added) k → k ≢ q → Contains (state keys heap pos stack c) k
        only k (Contains.in_heap w) nd = Contains.in_heap (u.only k w nd)
        only k (Contains.on_stack i h d) nd = Contains.on_stack i h d
