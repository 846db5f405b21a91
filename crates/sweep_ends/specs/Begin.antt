-- The tables with the start's pair in them.
-- Assumes nothing.
use Rattle.std.specs.Prelude.{ℕ, ◌+◌, eqb, set}
use Rattle.definitions.specs.Basics.{pick}
use Rattle.sweep_model.specs.Model.{Rows, rows}

-- the pair of the start, whose row starts at `base`, and the root costs 0 and is in the row's list, unless the root is 0
unfoldable pub begun_at : ℕ → ℕ → ℕ → Rows → Rows
begun_at base start root r =
    pick (eqb root 0) r (rows (set r.cost (base + root) 0) r.via (set r.nodes base root) (set r.counts start 1))
