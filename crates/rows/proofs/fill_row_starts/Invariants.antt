-- The loop of `rows::fill_row_starts`: the rows below s are filled, and `at` is where the next one starts.
use Prim.Native.Nat.{◌*◌, ◌≤◌}
use Rattle.std.specs.Prelude.{◌≡◌}
use Rattle.rows.specs.Rows.{Filled}
use Rattle.rows.proofs.fill_row_starts.Given as goal

abbrev pub invariant-loop-s : goal.invariant-loop-s
invariant-loop-s l = (l.at ≡ l.s * l.width) × (l.at ≤ l.s * 512) × Filled l.stages l.width l.s l.row
