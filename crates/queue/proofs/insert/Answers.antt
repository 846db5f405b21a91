-- `insert` meets its contract. That there is room is `stack_room` and, in the heap, shown by `push` itself.
-- Assumes nothing.
use native.Mathlib.Omega.{arith}
use Rattle.queue.proofs.Inserting.{stack_room, insert_stack, insert_pushing, insert_heap}
use Rattle.queue.proofs.insert.Goals as goal

pub offset_bounds-stack-top : goal.offset_bounds-stack-top
offset_bounds-stack-top c =
    omega (arith, stack_room c.requires, c.requires.queue.stack_fits)

pub bounds-stack-top : goal.bounds-stack-top
bounds-stack-top c =
    omega (arith, stack_room c.requires, c.requires.queue.stack_fits)

pub overflow_add-result : goal.overflow_add-result
overflow_add-result c =
    omega (arith, stack_room c.requires, c.requires.queue.stack_fits)

pub returns-then-v-floor : goal.returns-then-v-floor
returns-then-v-floor c =
    λ a. insert_stack a c.if-v-floor.true

pub push-requires : goal.push-requires
push-requires c =
    insert_pushing c.requires

pub returns : goal.returns
returns c =
    λ a. insert_heap a c.if-v-floor.false (c.push.ensures (insert_pushing a))
