-- How bytes are written into a lent buffer: after what stands there already, as far as there is room.
-- Assumes nothing.
use Rattle.std.specs.Prelude.{ℕ, ◌+◌, ◌-◌, min, ◌≡◌, List, ◌++◌, length, take, drop}

-- The buffer before and after (out') the bytes are written from the place `at` on, and the place r behind them. What has no room is left out;
-- what stands before `at` and from r on stays
pub record Appended (out : List ℕ) (at : ℕ) (bytes out' : List ℕ) (r : ℕ) : Type 0 where
  pub end : r ≡ at + min (length bytes) (length out - at)
  pub held : out' ≡ take at out ++ take (r - at) bytes ++ drop r out
