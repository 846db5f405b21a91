-- A part of the keys is filled, and both ways of `open_block`.
-- Assumes nothing.
use Prim.Native.Nat.{ℕ, ◌+◌, ◌-◌, ◌*◌, ◌≤◌, ◌<◌, min}
use mathlib.Core.Path.{◌≡◌, refl, sym, ◌∙◌, ap}
use mathlib.Core.Bool.{Bool, true, false}
use mathlib.Core.List.{List}
use native.Mathlib.Omega.{arith}
use borrow.Author.Rules.{rules}
use borrow.Rule.Slice.PartMut.{put_mid}
use lib.ListN.{length, get_or, set, take, drop, replicate, length-set, length-replicate}
use lib.Seq.{get_or-set_same, get_or-set_other, get_or-drop, drop-drop, length-take-le}
use Rattle.std.proofs.lemmas.List.{places, length-drop}
use Rattle.std.proofs.lemmas.Slice.{drop-put_mid}
use Rattle.definitions.specs.Basics.{NONE}
use Rattle.theory.specs.Basics.{either, lt_or_le, same_or_not, true_not_false}
use Rattle.guided_keys.specs.Fills.{Filled, block_of, is_filled_lem, filled_inside, filled_block, BlockOpened}

-- what `fill` leaves of a part of the keys
pub filled_part : (first until : ℕ) (keys part : List ℕ) → first ≤ until → until ≤ length keys
    → part ≡ replicate (length (take (until - first) (drop first keys))) NONE
    → Filled first until keys (put_mid first (until - first) keys part)
filled_part first until keys part f l e = record {
  fresh = λ k a b. rw none (search (rules, places));
  before = λ k a. search (rules, places);
  past = drop-put_mid first (until - first) keys part until (omega arith) (omega arith) (ap length none ∙ length-replicate (until - first) NONE);
}
  where
    count : length (take (until - first) (drop first keys)) ≡ until - first
    count = length-take-le (until - first) (drop first keys) (omega (arith, length-drop first keys))

    none : part ≡ replicate (until - first) NONE
    none = e ∙ ap (λ (n : ℕ). replicate n NONE) count

-- ---- `open_block`

module _ (x pairs : ℕ) (keys : List ℕ) (filled : List Bool) (inside : x < pairs) where
  pub block_was : get_or filled (block_of x) false ≡ true → BlockOpened x pairs keys filled keys filled
  block_was q = record {
    opened = is_filled_lem pairs filled x inside q;
    long = refl;
    still = λ k r. r;
    same = λ k r. refl;
    fresh = λ k r n. absurd (true_not_false (sym n ∙ r));
    past = refl;
  }

  module _ (few : pairs ≤ 131072) (marks : length filled ≡ 1024) (unfilled : get_or filled (block_of x) false ≡ false) (until : ℕ)
      (ends : until ≡ min (block_of x * 128 + 128) pairs) (keys' : List ℕ) (f : Filled (block_of x * 128) until keys keys') where
    abbrev filled' : List Bool
    filled' = set filled (block_of x) true

    -- keys of other blocks stay
    other_keys : (k : ℕ) → (block_of k ≡ block_of x → ⊥) → get_or keys' k 0 ≡ get_or keys k 0
    other_keys k n = either (lt_or_le k (block_of x * 128)) (λ l. f.before k l) (λ l. past_keys k (omega arith))
      where
        past_keys : (k : ℕ) → until ≤ k → get_or keys' k 0 ≡ get_or keys k 0
        past_keys k l =
            let e : until + (k - until) ≡ k = omega arith in
            rw (← e) (sym (get_or-drop until keys' (k - until) 0) ∙ ap (λ (t : List ℕ). get_or t (k - until) 0) f.past ∙ get_or-drop until keys (k - until) 0)

    pub block_new : BlockOpened x pairs keys filled keys' (set filled (block_of x) true)
    block_new = record {
      opened = is_filled_lem pairs filled' x inside here;
      long = length-set filled (block_of x) true;
      still = λ k q. is_filled_lem pairs filled' k (filled_inside pairs filled k q) (mark_stays k (filled_block pairs filled k q));
      same = λ k q. other_keys k (λ e. true_not_false (sym (filled_block pairs filled k q) ∙ ap (λ (b : ℕ). get_or filled b false) e ∙ unfilled));
      fresh = λ k q r. either (same_or_not (block_of k) (block_of x))
          (λ e. f.fresh k (omega arith) (omega (arith, filled_inside pairs filled' k r)))
          (λ n. absurd (true_not_false (sym (is_filled_lem pairs filled k (filled_inside pairs filled' k r)
          (sym (get_or-set_other filled (block_of x) (block_of k) true false n) ∙ filled_block pairs filled' k r)) ∙ q)));
      past =
          let e : until + (pairs - until) ≡ pairs = omega arith in
          rw (← e) (sym (drop-drop (pairs - until) until keys') ∙ ap (drop (pairs - until)) f.past ∙ drop-drop (pairs - until) until keys);
    }
      where
        here : get_or filled' (block_of x) false ≡ true
        here = get_or-set_same filled (block_of x) true false (omega arith)

        mark_stays : (k : ℕ) → get_or filled (block_of k) false ≡ true → get_or filled' (block_of k) false ≡ true
        mark_stays k q = either (same_or_not (block_of k) (block_of x)) (λ e. ap (λ (b : ℕ). get_or filled' b false) e ∙ here) (λ n. get_or-set_other filled (block_of x) (block_of k) true false n ∙ q)
