-- `apply::descend` meets its contract.
use Rattle.std.proofs.Common.{ap, arith, refl}
use Rattle.apply.specs.declared.operands.Pair.{Pair}
use Rattle.apply.specs.Turns.{onward_placed, onward_few, onward_next, onward_falls, onward_end}
use Rattle.apply.proofs.walk.descend.Goals as goal

pub known-requires : goal.known-requires
known-requires c =
    onward_placed c.requires _ _ _ _ (c.loop-reference.invariant c.requires)

pub returns-in-Some : goal.returns-in-Some
returns-in-Some c =
    λ x. onward_end x _ _ _ _ (c.loop-reference.invariant x) _ c.in-Some.ensures

pub push-requires : goal.push-requires
push-requires c =
    let here = onward_placed c.requires _ _ _ _ (c.loop-reference.invariant c.requires) in (
      omega (arith, onward_few c.requires _ _ _ _ (c.loop-reference.invariant c.requires)),
      record { first = here.a_small; second = here.b_small },
    )

pub half-now-requires : goal.half-now-requires
half-now-requires c =
    let here = onward_placed c.requires _ _ _ _ (c.loop-reference.invariant c.requires) in
    (here.a_small, here.b_small)

pub loop-reference-smaller : goal.loop-reference-smaller
loop-reference-smaller c =
    onward_falls c.requires _ _ _ _ (c.loop-reference.invariant c.requires) c.in_default.ensures _ _
    (ap (λ (p : Pair). p.first) c.half-now.ensures) (ap (λ (p : Pair). p.second) c.half-now.ensures)

pub loop-reference-preserved : goal.loop-reference-preserved
loop-reference-preserved c =
    λ x.
    rw c.push.ensures
    (onward_next x _ _ _ _ (c.loop-reference.invariant x) c.in_default.ensures _ _
    (ap (λ (p : Pair). p.first) c.half-now.ensures) (ap (λ (p : Pair). p.second) c.half-now.ensures) _ refl)
