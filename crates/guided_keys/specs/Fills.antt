-- What filling a block of keys leaves.
-- Assumes nothing.
use Rattle.std.specs.Prelude.{ℕ, ◌/◌, ◌≤◌, ◌<◌, ◌≡◌, Bool, true, false, ◌&&◌, List, ltb, length, get_or, drop}
use borrow.Author.Tests.{ltb-true, lt-ltb}
use Rattle.definitions.specs.Basics.{NONE}
use Rattle.theory.specs.Basics.{both}

-- the keys from `first` to before `until` are those of pairs that were never opened, and no other key is touched
pub record Filled (first until : ℕ) (keys keys' : List ℕ) : Type 0 where
  pub fresh : (k : ℕ) → first ≤ k → k < until → get_or keys' k 0 ≡ NONE
  pub before : (k : ℕ) → k < first → get_or keys' k 0 ≡ get_or keys k 0
  pub past : drop until keys' ≡ drop until keys

-- the block that a pair's key stands in
abbrev pub block_of : ℕ → ℕ
block_of k = k / 128

-- of so many pairs, the key of pair k stands in a block that is filled
unfoldable pub is_filled : ℕ → List Bool → ℕ → Bool
is_filled pairs filled k = ltb k pairs && get_or filled (block_of k) false

module _ (pairs : ℕ) (filled : List Bool) (k : ℕ) where
  pub is_filled_lem : k < pairs → get_or filled (block_of k) false ≡ true → is_filled pairs filled k ≡ true
  unfolding is_filled
  is_filled_lem i q = rw (lt-ltb k pairs i) q

  pub filled_inside : is_filled pairs filled k ≡ true → k < pairs
  unfolding is_filled
  filled_inside q = ltb-true k pairs (both (ltb k pairs) (get_or filled (block_of k) false) q).0

  pub filled_block : is_filled pairs filled k ≡ true → get_or filled (block_of k) false ≡ true
  unfolding is_filled
  filled_block q = (both (ltb k pairs) (get_or filled (block_of k) false) q).1

-- The block of pair x is filled. Keys in blocks that were filled stay; those in blocks that are now and were not are those of pairs that were never opened;
-- nothing past the pairs is touched
pub record BlockOpened (x pairs : ℕ) (keys : List ℕ) (filled : List Bool) (keys' : List ℕ) (filled' : List Bool) : Type 0 where
  pub opened : is_filled pairs filled' x ≡ true
  pub long : length filled' ≡ length filled
  pub still : (k : ℕ) → is_filled pairs filled k ≡ true → is_filled pairs filled' k ≡ true
  pub same : (k : ℕ) → is_filled pairs filled k ≡ true → get_or keys' k 0 ≡ get_or keys k 0
  pub fresh : (k : ℕ) → is_filled pairs filled k ≡ false → is_filled pairs filled' k ≡ true → get_or keys' k 0 ≡ NONE
  pub past : drop pairs keys' ≡ drop pairs keys
