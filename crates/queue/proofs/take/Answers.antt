-- `take` meets its contract, from the stack and from the heap.
-- Assumes nothing.
use mathlib.Core.Path.{refl}
use native.Mathlib.Omega.{arith}
use Rattle.queue.proofs.Taking.{stack_within, take_within, take_stack, take_heap}
use Rattle.queue.proofs.take.Goals as goal

pub offset_bounds-stack-top : goal.offset_bounds-stack-top
offset_bounds-stack-top c =
    omega (arith, stack_within c.requires.1)

pub bounds-stack-top : goal.bounds-stack-top
bounds-stack-top c =
    omega (arith, stack_within c.requires.1)

pub returns-then-top-gt0 : goal.returns-then-top-gt0
returns-then-top-gt0 c =
    λ p x. take_stack x c.if-top-gt0.true refl

pub pop_min-q-requires : goal.pop_min-q-requires
pop_min-q-requires c =
    (c.requires.0, c.requires.1.ordered, omega (arith, c.requires.2))

pub offset_bounds-keys-q : goal.offset_bounds-keys-q
offset_bounds-keys-q c =
    let x = c.requires.1 in
    omega (arith, take_within x c.if-top-gt0.false (omega (arith, c.requires.2)) (c.pop_min-q.ensures _ x.ordered))

pub bounds-keys-q : goal.bounds-keys-q
bounds-keys-q c =
    let x = c.requires.1 in
    omega (arith, take_within x c.if-top-gt0.false (omega (arith, c.requires.2)) (c.pop_min-q.ensures _ x.ordered))

pub returns : goal.returns
returns c =
    λ p x. take_heap x c.if-top-gt0.false (omega (arith, c.requires.2)) (c.pop_min-q.ensures p x.ordered)
