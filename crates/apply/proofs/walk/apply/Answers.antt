-- `apply::apply` meets its contract.
use Rattle.std.proofs.Common.{rules, arith, refl}
use Rattle.apply.specs.Whole.{going_start, going_few, going_on, going_turn, going_less, first_descending, first_walking, walked_end, walked_full}
use Rattle.apply.proofs.walk.apply.Goals as goal

pub descend-reference-requires : goal.descend-reference-requires
descend-reference-requires c =
    first_descending c.requires _ c.new-stack.ensures

pub loop-frame-init : goal.loop-frame-init
loop-frame-init c = (λ y. going_start y, refl)

pub pop-requires : goal.pop-requires
pop-requires c =
    let from = first_walking c.requires _ c.new-stack.ensures (c.descend-reference.ensures (first_descending c.requires _ c.new-stack.ensures)) in
    omega (arith, going_few from (c.loop-frame.invariant.0 from))

pub turn-requires : goal.turn-requires
turn-requires c =
    let from = first_walking c.requires _ c.new-stack.ensures (c.descend-reference.ensures (first_descending c.requires _ c.new-stack.ensures)) in
    (going_on from (c.loop-frame.invariant.0 from) c.in-Some.ensures.frames c.in-Some.ensures.count, c.in-Some.ensures.taken)

pub returns-in_err-reference-clause-walked : goal.returns-in_err-reference-clause-walked
returns-in_err-reference-clause-walked c =
    rw c.from_residual.ensures (λ x.
    let down = c.descend-reference.ensures (first_descending x _ c.new-stack.ensures) in
    let from = first_walking x _ c.new-stack.ensures down in
    let now = c.loop-frame.invariant.0 from in
    walked_full x _ c.new-stack.ensures down now c.in-Some.ensures.frames c.in-Some.ensures.count
    (c.in_err-reference.ensures.turned (going_on from now c.in-Some.ensures.frames c.in-Some.ensures.count, c.in-Some.ensures.taken)))

pub loop-frame-smaller : goal.loop-frame-smaller
loop-frame-smaller c =
    let from = first_walking c.requires _ c.new-stack.ensures (c.descend-reference.ensures (first_descending c.requires _ c.new-stack.ensures)) in
    let now = c.loop-frame.invariant.0 from in
    going_less from now c.in-Some.ensures.frames c.in-Some.ensures.count
    (c.in_ok-reference.ensures.turned (going_on from now c.in-Some.ensures.frames c.in-Some.ensures.count, c.in-Some.ensures.taken))

pub loop-frame-preserved : goal.loop-frame-preserved
loop-frame-preserved c = (
  λ y. going_turn y (c.loop-frame.invariant.0 y) c.in-Some.ensures.frames c.in-Some.ensures.count
      (c.in_ok-reference.ensures.turned
      (going_on y (c.loop-frame.invariant.0 y) c.in-Some.ensures.frames c.in-Some.ensures.count, c.in-Some.ensures.taken)),
  search rules,
)

pub returns-clause-walked : goal.returns-clause-walked
returns-clause-walked c =
    λ x.
    let down = c.descend-reference.ensures (first_descending x _ c.new-stack.ensures) in
    walked_end x _ c.new-stack.ensures down (c.loop-frame.invariant.0 (first_walking x _ c.new-stack.ensures down)) c.in_default.ensures.0
