-- The slices that a list's searches leave.
-- Assumes nothing.
use Rattle.std.specs.Prelude.{ℕ, ◌≡◌, List}
use Rattle.definitions.specs.Promises.{CycleSlices, cycle_slices}

-- each slice by what it holds in the end
pub same_slices : (x : CycleSlices) {keys via heap pos stack log : List ℕ} → keys ≡ x.keys → via ≡ x.via → heap ≡ x.heap → pos ≡ x.pos → stack ≡ x.stack → log ≡ x.log
    → x ≡ cycle_slices keys via heap pos stack log
same_slices x k v h p s l = rw (k, v, h, p, s, l)
