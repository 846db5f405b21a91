-- The estimates in two tables, one by stage and one by node, and what is read of them for a pair.
-- Assumes nothing.
use Rattle.std.specs.Prelude.{ℕ, ◌≤◌, ◌<◌, max, ◌≡◌, List, get_or}
use Rattle.definitions.specs.Pairs.{Estimate}
use Rattle.definitions.specs.Promises.{shown}

pub record Estimates : Type 0 where
  pub stage : List ℕ
  pub node : List ℕ

abbrev pub estimates : List ℕ → List ℕ → Estimates
estimates stage node = record { stage = stage; node = node }

-- what is read for the pair of stage s and node n
abbrev pub paired : Estimates → ℕ → ℕ → ℕ
paired t s n = max (get_or t.stage s 0) (get_or t.node n 0)

-- the tables hold the estimate h from the start on, with rows of `width` nodes: what is read for a pair is its estimate, NONE where it has none
abbrev pub Holds : ℕ → Estimate → ℕ → Estimates → Type 0
Holds start h width t = (s n : ℕ) → start ≤ s → s < 256 → n < width → paired t s n ≡ shown (h s n)
