-- What `push` asks of `sift_up`, and what it leaves, on plain lists.
-- Assumes nothing.
use mathlib.Core.Path.{◌≡◌, refl, sym, ap, ◌∙◌}
use mathlib.Core.Logic.{◌≢◌}
use mathlib.Core.List.{List}
use Prim.Native.Nat.{ℕ, ◌+◌, ◌<◌}
use native.Mathlib.Decide.{ℕ_discrete}
use native.Mathlib.Omega.{arith}
use lib.ListN.{get_or, set, length-set}
use lib.Seq.{get_or-set_same, get_or-set_other, drop-set-lt}
use Rattle.theory.specs.Counting.{room}
use Rattle.heap_sift.specs.Heap.{slices, parent, In, Indexed, key, Heap, Past}
use Rattle.heap_sift.specs.Sift.{Rising, SiftingUp, Sifted}
use Rattle.heap_sift.proofs.Places.{stands, one_place, past_more}
use Rattle.heap.specs.Calls.{Pushing, Pushed}
use Rattle.heap.proofs.Facts.{key_other, key_same, key_elsewhere}

module _ {keys heap pos : List ℕ} {n q : ℕ} (a : Pushing n q (slices keys heap pos)) where
  abbrev p : ℕ
  p = a.p

  abbrev h : Heap (slices keys heap pos) p n
  h = a.ordered

  free : (i : ℕ) → i < n → get_or heap i 0 ≢ q
  free i g e = a.outside (stands h.indexed i q g e)

  -- there is room for one more
  pub push_room : n < p
  push_room = room p n q (λ (i : ℕ). get_or heap i 0) h.indexed.pair (one_place h.indexed) a.pair free

  top : get_or (set heap n q) n 0 ≡ q
  top = get_or-set_same heap n q 0 (omega (arith, push_room, h.indexed.heap_fits))

  old : (i : ℕ) → i < n → get_or (set heap n q) i 0 ≡ get_or heap i 0
  old i g = get_or-set_other heap n i q 0 (omega arith)

  push_pair : (i : ℕ) → i < n + 1 → get_or (set heap n q) i 0 < p
  push_pair i g = go (ℕ_discrete i n)
    where
      go : Dec (i ≡ n) → get_or (set heap n q) i 0 < p
      go (yes e) = omega (arith, top, ap (λ (k : ℕ). get_or (set heap n q) k 0) e)
      go (no ne) = omega (arith, old i (omega arith), h.indexed.pair i (omega arith))

  push_back : (i : ℕ) → i < n + 1 → get_or (set pos q n) (get_or (set heap n q) i 0) 0 ≡ i
  push_back i g = go (ℕ_discrete i n)
    where
      go : Dec (i ≡ n) → get_or (set pos q n) (get_or (set heap n q) i 0) 0 ≡ i
      go (yes e) = rw (e, top) (get_or-set_same pos q n 0 (omega (arith, h.indexed.pos_fits)))
      go (no ne) =
          let s : i < n = omega arith in
          rw (old i s) (get_or-set_other pos q (get_or heap i 0) n 0 (free i s) ∙ h.indexed.back i s)

  pub push_indexed : Indexed (set heap n q) (set pos q n) p (n + 1)
  push_indexed = record {
    small = h.indexed.small;
    count = omega (arith, push_room);
    heap_fits = simp length-set h.indexed.heap_fits;
    pos_fits = simp length-set h.indexed.pos_fits;
    pair = push_pair;
    back = push_back;
  }

  push_only : (k : ℕ) → In (set heap n q) (set pos q n) (n + 1) k → k ≢ q → In heap pos n k
  push_only k w ne = go (ℕ_discrete (get_or (set pos q n) k 0) n)
    where
      go : Dec (get_or (set pos q n) k 0 ≡ n) → In heap pos n k
      go (yes e) = absurd (ne (sym w.held ∙ ap (λ (i : ℕ). get_or (set heap n q) i 0) e ∙ top))
      go (no d) =
          let s : get_or (set pos q n) k 0 < n = omega (arith, w.place) in
          stands h.indexed (get_or (set pos q n) k 0) k s (sym (old (get_or (set pos q n) k 0) s) ∙ w.held)

  push_past : Past p heap pos (set heap n q) (set pos q n)
  push_past = record { heap_past = drop-set-lt p heap n q push_room; pos_past = drop-set-lt p pos q n a.pair }

  module _ (v : ℕ) where
    push_key : (i : ℕ) → i < n → key (set keys q v) (set heap n q) i ≡ key keys heap i
    push_key i g = key_elsewhere (set keys q v) heap n q i (omega arith) ∙ key_other keys heap q v i (free i g)

    pub push_rising : Rising (key (set keys q v) (set heap n q)) (n + 1) n
    push_rising = record {
      place = omega arith;
      order = λ i z g ne. omega (arith, push_key i (omega arith), push_key (parent i) (omega arith), h.order i z (omega arith));
      over = λ z i y g e. absurd (omega arith);
    }

    pub push_moving : v ≡ key (set keys q v) (set heap n q) n
    push_moving = sym (key_same keys (set heap n q) q v n (omega (arith, a.pair, h.keys_fit)) top)

    -- what `sift_up` asks
    abbrev pub push_sifting : SiftingUp n v (slices (set keys q v) (set heap n q) (set pos q n))
    push_sifting = record {
      p = p;
      n = n + 1;
      indexed = push_indexed;
      keys_fit = simp length-set h.keys_fit;
      moving = push_moving;
      rising = push_rising;
    }

    pub push_done : {heap' pos' : List ℕ} → Sifted p (n + 1) (slices (set keys q v) (set heap n q) (set pos q n)) (slices (set keys q v) heap' pos')
        → Pushed p n q v (slices keys heap pos) (slices (set keys q v) heap' pos')
    push_done s = record {
      stored = refl;
      ordered = record { indexed = s.moved.indexed; keys_fit = simp length-set h.keys_fit; order = s.order };
      here = s.moved.kept q (stands push_indexed n q (omega arith) top);
      kept = λ k w. s.moved.kept k (stands push_indexed (get_or pos k 0) k (omega (arith, w.place)) (old (get_or pos k 0) w.place ∙ w.held));
      only = λ k w ne. push_only k (s.moved.only k w) ne;
      past = past_more push_past s.moved.past;
    }
