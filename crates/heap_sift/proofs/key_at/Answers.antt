-- `key_at` meets its contract.
-- Assumes nothing.
use mathlib.Core.Path.{refl}
use Rattle.heap_sift.specs.Heap.{key}
use Rattle.heap_sift.proofs.key_at.Goals as goal

pub returns : goal.returns
unfolding key
returns c = refl
