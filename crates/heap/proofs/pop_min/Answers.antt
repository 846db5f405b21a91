-- `pop_min` meets its contract.
-- Assumes nothing.
use mathlib.Core.Path.{refl}
use Prim.Native.Nat.{◌-◌}
use native.Mathlib.Omega.{arith}
use Rattle.heap_sift.proofs.Places.{entry, key_within}
use Rattle.heap.proofs.Popping.{pop_sifting, pop_done}
use Rattle.heap.proofs.pop_min.Goals as goal

pub key_at-v-requires : goal.key_at-v-requires
key_at-v-requires c =
    let heap = c.requires.1 in
    key_within heap.indexed c.args.keys.now heap.keys_fit (c.args.n - 1) (omega arith)

pub swap-requires : goal.swap-requires
swap-requires c =
    let place = entry c.requires.1.indexed in
    (place 0 c.requires.2, place (c.args.n - 1) (omega arith))

pub sift_down-requires : goal.sift_down-requires
sift_down-requires c =
    pop_sifting c.requires.1 c.requires.2 c.swap.ensures c.key_at-v.ensures

pub returns : goal.returns
returns c =
    let z = c.requires.2 in
    λ p h. pop_done h z c.swap.ensures refl (c.sift_down.ensures (pop_sifting h z c.swap.ensures c.key_at-v.ensures))
