-- `sift_down` meets its contract. The loop: all is in order but between x and its children, and v is the key at x. The measure is n - x.
-- Assumes nothing.
use native.Mathlib.Omega.{arith}
use borrow.Author.Rules.{rules}
use Rattle.heap_sift.proofs.Places.{entry, key_within}
use Rattle.heap_sift.proofs.Loops.{drop_end, drop_stop, drop_turn}
use Rattle.heap_sift.proofs.sift_down.Goals as goal

pub key_at-below-requires : goal.key_at-below-requires
key_at-below-requires c =
    key_within (c.loop-x.invariant.3 c.requires).moved.indexed c.args.keys.now c.requires.keys_fit c.least_child-c.result c.least_child-c.ensures.place

pub returns-then-v-below : goal.returns-then-v-below
returns-then-v-below c =
    λ a. drop_stop (c.loop-x.invariant.3 a) c.least_child-c.ensures c.key_at-below.ensures c.if-v-below.true

pub swap-requires : goal.swap-requires
swap-requires c =
    let place = entry (c.loop-x.invariant.3 c.requires).moved.indexed in
    (place c.loop-x.x (omega arith), place c.least_child-c.result c.least_child-c.ensures.place)

pub loop-x-preserved : goal.loop-x-preserved
loop-x-preserved c = (
  search rules,
  search rules,
  omega arith,
  λ a. drop_turn (c.loop-x.invariant.3 a) c.least_child-c.ensures c.key_at-below.ensures c.if-v-below.false c.swap.ensures,
)

pub returns : goal.returns
returns c =
    λ a. drop_end (c.loop-x.invariant.3 a) c.loop-x-test.false

pub least_child-c-requires-clause-by_index : goal.least_child-c-requires-clause-by_index
least_child-c-requires-clause-by_index c =
    λ i h. (key_within (c.loop-x.invariant.3 c.requires).moved.indexed c.args.keys.now c.requires.keys_fit i h).1
