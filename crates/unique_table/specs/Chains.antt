-- Looking through a chain for a node, from the last to the first.
-- Assumes nothing.
use Rattle.std.specs.Prelude.{ℕ, ◌+◌, ◌*◌, ◌/◌, ◌%◌, ◌≤◌, ◌<◌, ◌≡◌}
use Rattle.std.proofs.Common.{arith}
use Rattle.unique_table.specs.Tables.{UniqueTable, node_at, count_in, hash}

pub hash_is : (w r : ℕ) → r ≡ w * 2654435769 / 8388608 % 512 → (r ≡ hash w) × (r < 512)
unfolding hash
hash_is w r e = (e, omega arith)

-- m is a node of the chain of w, or below 2 at its end, and w is not after it
pub record Seeking (t : UniqueTable) (w m : ℕ) : Type 0 where
  pub inside : m < count_in t + 2
  pub hashed : 2 ≤ m → hash (node_at t m) ≡ hash w
  pub before : (n : ℕ) → 2 ≤ n → n < count_in t + 2 → node_at t n ≡ w → n ≤ m
