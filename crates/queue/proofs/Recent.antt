-- The pairs on the stack, newest first.
-- Assumes nothing.
use mathlib.Core.Path.{◌≡◌, refl, ap}
use mathlib.Core.List.{List, [], ◌∷◌}
use Prim.Native.Nat.{ℕ, zero, suc, ◌+◌, ◌≤◌, ◌<◌}
use native.Mathlib.Numerals.{add-one}
use native.Mathlib.Omega.{arith}
use lib.ListN.{length, get_or, set}
use lib.Seq.{get_or-set_same, get_or-set_other}
use Rattle.queue.specs.declared.Counts.{Counts}
use Rattle.queue.specs.Queue.{backwards, recent}

-- a store at i leaves the first n entries where n is at most i
backwards_set : (stack : List ℕ) (i q n : ℕ) → n ≤ i → backwards (set stack i q) n ≡ backwards stack n
unfolding backwards
backwards_set stack i q zero h = refl
backwards_set stack i q (suc n) h = rw (get_or-set_other stack i n q 0 (omega arith), backwards_set stack i q n (omega arith)) refl

backwards_more : (stack : List ℕ) (n : ℕ) → backwards stack (n + 1) ≡ get_or stack n 0 ∷ backwards stack n
unfolding backwards
backwards_more stack n = rw add-one refl

-- one more on the stack
pub recent_more : (stack : List ℕ) (c c' : Counts) (q : ℕ) → c.top < length stack → c'.top ≡ c.top + 1 → recent (set stack c.top q) c' ≡ q ∷ recent stack c
unfolding recent
recent_more stack c c' q l e =
    rw (e, backwards_more (set stack c.top q) c.top, get_or-set_same stack c.top q 0 l, backwards_set stack c.top q c.top (omega arith)) refl

-- as many as before
pub recent_same : (stack : List ℕ) (c c' : Counts) → c'.top ≡ c.top → recent stack c' ≡ recent stack c
unfolding recent
recent_same stack c c' e = ap (λ (n : ℕ). backwards stack n) e

-- the last one first
pub recent_last : (stack : List ℕ) (c c' : Counts) → c.top ≡ c'.top + 1 → recent stack c ≡ get_or stack c'.top 0 ∷ recent stack c'
unfolding recent
recent_last stack c c' e = rw e (backwards_more stack c'.top)

-- and none
pub recent_none : (stack : List ℕ) (c : Counts) → c.top ≡ 0 → recent stack c ≡ []
unfolding recent backwards
recent_none stack c e = rw e refl
