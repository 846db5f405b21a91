-- `push` meets its contract. That there is room is `push_room`.
-- Assumes nothing.
use native.Mathlib.Omega.{arith}
use Rattle.heap.proofs.Pushing.{push_room, push_sifting, push_done}
use Rattle.heap.proofs.push.Goals as goal

pub bounds-heap-n : goal.bounds-heap-n
bounds-heap-n c =
    omega (arith, push_room c.requires)

pub overflow_cast-pos : goal.overflow_cast-pos
overflow_cast-pos c =
    omega (arith, push_room c.requires)

pub sift_up-requires : goal.sift_up-requires
sift_up-requires c =
    push_sifting c.requires c.args.v

pub returns : goal.returns
returns c =
    let v = c.args.v in
    λ a. push_done a v (c.sift_up.ensures (push_sifting a v))
