-- `decrease_key` meets its contract. A pair that is in the heap is below p.
-- Assumes nothing.
use mathlib.Core.Path.{refl}
use native.Mathlib.Omega.{arith}
use Rattle.heap.proofs.Decreasing.{decrease_pair, decrease_sifting, decrease_done}
use Rattle.heap.proofs.decrease_key.Goals as goal

pub offset_bounds-keys-q : goal.offset_bounds-keys-q
offset_bounds-keys-q c =
    omega (arith, decrease_pair c.requires)

pub bounds-keys-q : goal.bounds-keys-q
bounds-keys-q c =
    omega (arith, decrease_pair c.requires)

pub offset_bounds-pos-q : goal.offset_bounds-pos-q
offset_bounds-pos-q c =
    omega (arith, decrease_pair c.requires)

pub bounds-pos-q : goal.bounds-pos-q
bounds-pos-q c =
    omega (arith, decrease_pair c.requires)

pub sift_up-requires : goal.sift_up-requires
sift_up-requires c =
    decrease_sifting c.requires refl

pub returns : goal.returns
returns c =
    λ a. decrease_done a (c.sift_up.ensures (decrease_sifting a refl))
