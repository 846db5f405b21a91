-- `sift_up` meets its contract. The loop: all is in order but between x and its parent, and v is the key at x. The measure is x.
-- Assumes nothing.
use native.Mathlib.Omega.{arith}
use borrow.Author.Rules.{rules}
use Rattle.heap_sift.proofs.Places.{entry, key_within}
use Rattle.heap_sift.proofs.Loops.{lift_top, lift_stop, lift_turn}
use Rattle.heap_sift.proofs.sift_up.Goals as goal

pub key_at-above-requires : goal.key_at-above-requires
key_at-above-requires c =
    let lifting = c.loop-x.invariant.2 c.requires in
    key_within lifting.moved.indexed c.args.keys.now c.requires.keys_fit c.parent-y.result (omega (arith, lifting.rising.place))

pub returns-then-above-v : goal.returns-then-above-v
returns-then-above-v c =
    λ a. lift_stop (c.loop-x.invariant.2 a) c.parent-y.ensures c.key_at-above.ensures c.if-above-v.true

pub swap-requires : goal.swap-requires
swap-requires c =
    let lifting = c.loop-x.invariant.2 c.requires in
    (entry lifting.moved.indexed c.parent-y.result (omega (arith, lifting.rising.place)), entry lifting.moved.indexed c.loop-x.x lifting.rising.place)

pub loop-x-preserved : goal.loop-x-preserved
loop-x-preserved c = (
  search rules,
  search rules,
  λ a. lift_turn (c.loop-x.invariant.2 a) c.parent-y.ensures c.key_at-above.ensures (omega arith) c.if-above-v.false c.swap.ensures,
)

pub returns : goal.returns
returns c =
    λ a. lift_top (c.loop-x.invariant.2 a) (omega arith)
