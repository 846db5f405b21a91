-- The keys of all pairs while not all blocks are filled: what stands in an unfilled block is arbitrary, and each of its pairs was never opened.
-- Assumes nothing.
use Rattle.std.specs.Prelude.{ℕ, zero, suc, ◌≤◌, ◌<◌, ◌≡◌, refl, Bool, true, false, List, [], ◌∷◌, map, length, get_or, set}
use Rattle.std.proofs.Common.{sym, ◌∙◌, inl, inr, arith, length-set, get_or-set_same, get_or-set_other, ext_get_or}
use Rattle.definitions.specs.Basics.{NONE, pick, upto}
use Rattle.theory.specs.Basics.{either, lt_or_le, same_or_not, pick_true, pick_false, length-map_run, get_d_map_upto}
use Rattle.guided_model.specs.State.{marks}
use Rattle.guided_model.specs.Moves.{Stayed, Fell, Offerable, Relaxed}
use Rattle.guided_keys.specs.Fills.{is_filled, BlockOpened}

-- of so many pairs, the key of pair k: the one in the slice where its block is filled
unfoldable pub seen_at : ℕ → List Bool → List ℕ → ℕ → ℕ
seen_at p filled keys k = pick (is_filled p filled k) (get_or keys k 0) NONE

unfoldable pub seen : ℕ → List Bool → List ℕ → List ℕ
seen p filled keys = map (seen_at p filled keys) (upto (length keys))

get_d_past : (l : List ℕ) (k : ℕ) → length l ≤ k → get_or l k 0 ≡ 0
get_d_past [] k h = refl
get_d_past (x ∷ l) zero h = absurd (omega arith)
get_d_past (x ∷ l) (suc k) h = get_d_past l k (omega arith)

module _ (p : ℕ) (filled : List Bool) (keys : List ℕ) where
  pub seen_long : length (seen p filled keys) ≡ length keys
  unfolding seen
  seen_long = length-map_run (seen_at p filled keys) 0 (length keys)

  module _ (k : ℕ) (i : k < length keys) where
    pub seen_filled : is_filled p filled k ≡ true → get_or (seen p filled keys) k 0 ≡ get_or keys k 0
    unfolding seen seen_at
    seen_filled q = get_d_map_upto (seen_at p filled keys) (length keys) k 0 i ∙ pick_true _ _ _ q

    pub seen_fresh : is_filled p filled k ≡ false → get_or (seen p filled keys) k 0 ≡ NONE
    unfolding seen seen_at
    seen_fresh q = get_d_map_upto (seen_at p filled keys) (length keys) k 0 i ∙ pick_false _ _ _ q

    -- the block of a pair that was opened is filled
    pub seen_block : get_or (seen p filled keys) k 0 < NONE → is_filled p filled k ≡ true
    seen_block l = go (is_filled p filled k) refl
      where
        go : (b : Bool) → is_filled p filled k ≡ b → is_filled p filled k ≡ true
        go true q = q
        go false q = absurd (omega (arith, seen_fresh q))

module _ (p : ℕ) (filled filled' : List Bool) (keys keys' : List ℕ) (l : length keys' ≡ length keys) (k : ℕ) where
  -- there are no keys past the slice
  seen_past : length keys ≤ k → get_or (seen p filled' keys') k 0 ≡ get_or (seen p filled keys) k 0
  seen_past i =
      get_d_past (seen p filled' keys') k (omega (arith, seen_long p filled' keys'))
      ∙ sym (get_d_past (seen p filled keys) k (omega (arith, seen_long p filled keys)))

  -- a pair whose key and whose block's mark stay has the same key
  pub seen_same : is_filled p filled' k ≡ is_filled p filled k → get_or keys' k 0 ≡ get_or keys k 0 → get_or (seen p filled' keys') k 0 ≡ get_or (seen p filled keys) k 0
  seen_same f e = either (lt_or_le k (length keys)) (λ i. go i (is_filled p filled k) refl) seen_past
    where
      go : k < length keys → (b : Bool) → is_filled p filled k ≡ b → get_or (seen p filled' keys') k 0 ≡ get_or (seen p filled keys) k 0
      go i true q = seen_filled p filled' keys' k (omega arith) (f ∙ q) ∙ e ∙ sym (seen_filled p filled keys k i q)
      go i false q = seen_fresh p filled' keys' k (omega arith) (f ∙ q) ∙ sym (seen_fresh p filled keys k i q)

-- a key is stored in a filled block
pub seen_set : (p : ℕ) (filled : List Bool) (keys : List ℕ) (y v : ℕ) → y < length keys → is_filled p filled y ≡ true
    → seen p filled (set keys y v) ≡ set (seen p filled keys) y v
seen_set p filled keys y v i block =
    ext_get_or 0 (seen p filled (set keys y v)) (set (seen p filled keys) y v)
    (seen_long p filled (set keys y v) ∙ length-set keys y v ∙ sym (length-set (seen p filled keys) y v ∙ seen_long p filled keys))
    (λ k l. either (same_or_not k y) (λ q. rw q here)
    (λ n. seen_same p filled filled keys (set keys y v) (length-set keys y v) k refl (get_or-set_other keys y k v 0 n) ∙ sym (get_or-set_other (seen p filled keys) y k v 0 n)))
  where
    here : get_or (seen p filled (set keys y v)) y 0 ≡ get_or (set (seen p filled keys) y v) y 0
    here =
        seen_filled p filled (set keys y v) y (omega (arith, length-set keys y v)) block ∙ get_or-set_same keys y v 0 i
        ∙ sym (get_or-set_same (seen p filled keys) y v 0 (omega (arith, seen_long p filled keys)))

-- ---- an offer to a pair of a filled block

module _ (p : ℕ) (filled : List Bool) (keys : List ℕ) (y : ℕ) (i : y < length keys) (block : is_filled p filled y ≡ true) where
  same_key : get_or (seen p filled keys) y 0 ≡ get_or keys y 0
  same_key = seen_filled p filled keys y i block

  pub offerable_seen : {via : List ℕ} {Open : ℕ → Type 0} {v : ℕ} → Offerable (marks (seen p filled keys) via Open) y v → Offerable (marks keys via Open) y v
  offerable_seen o = record {
    outside = λ e. o.outside (same_key ∙ e);
    inside = λ l m. o.inside (omega (arith, same_key)) (omega (arith, same_key));
  }

  module _ (keys' : List ℕ) (l : length keys' ≡ length keys) where
    same_key' : get_or (seen p filled keys') y 0 ≡ get_or keys' y 0
    same_key' = seen_filled p filled keys' y (omega arith) block

    module _ {via via' : List ℕ} {Open Open' : ℕ → Type 0} where
      stayed_seen : (k : ℕ) → Stayed (marks keys via Open) (marks keys' via' Open') k → Stayed (marks (seen p filled keys) via Open) (marks (seen p filled keys') via' Open') k
      stayed_seen k s = record { same_key = seen_same p filled filled keys keys' l k refl s.same_key; same_via = s.same_via; still = s.still; only = s.only }

      pub relaxed_seen : {v mark : ℕ} → Relaxed y v mark (marks keys via Open) (marks keys' via' Open')
          → Relaxed y v mark (marks (seen p filled keys) via Open) (marks (seen p filled keys') via' Open')
      relaxed_seen {v} {mark} r = record {
        at_others = λ k n. stayed_seen k (r.at_others k n);
        at_target = either r.at_target (λ s. inl (stayed_seen y s)) (λ f. inr (fell f));
        taken = omega (arith, same_key', r.taken);
      }
        where
          fell : Fell v mark (marks keys via Open) (marks keys' via' Open') y → Fell v mark (marks (seen p filled keys) via Open) (marks (seen p filled keys') via' Open') y
          fell f = record { new_key = same_key' ∙ f.new_key; lower = omega (arith, same_key, f.lower); low = f.low; new_via = f.new_via; is_open = f.is_open }

-- ---- a block is opened: no pair has another key

pub opened_seen : {x p : ℕ} {keys : List ℕ} {filled : List Bool} {keys' : List ℕ} {filled' : List Bool} → length keys' ≡ length keys
    → BlockOpened x p keys filled keys' filled' → (k : ℕ) → get_or (seen p filled' keys') k 0 ≡ get_or (seen p filled keys) k 0
opened_seen {x} {p} {keys} {filled} {keys'} {filled'} l o k = either (lt_or_le k (length keys)) (λ i. go i (is_filled p filled k) refl) (seen_past p filled filled' keys keys' l k)
  where
    new : k < length keys → is_filled p filled k ≡ false → (b : Bool) → is_filled p filled' k ≡ b → get_or (seen p filled' keys') k 0 ≡ NONE
    new i q true r = seen_filled p filled' keys' k (omega arith) r ∙ o.fresh k q r
    new i q false r = seen_fresh p filled' keys' k (omega arith) r

    go : k < length keys → (b : Bool) → is_filled p filled k ≡ b → get_or (seen p filled' keys') k 0 ≡ get_or (seen p filled keys) k 0
    go i true q = seen_same p filled filled' keys keys' l k (o.still k q ∙ sym q) (o.same k q)
    go i false q = new i q (is_filled p filled' k) refl ∙ sym (seen_fresh p filled keys k i q)
