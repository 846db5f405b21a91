-- `apply::turn` meets its contract.
use Rattle.std.proofs.Common.{◌∙◌, ap, refl, add-one}
use Rattle.apply.specs.declared.operands.Pair.{Pair}
use Rattle.apply.specs.declared.stack.Stack.{Stack}
use Rattle.apply.specs.Turns.{taken_as, hi_descending, turned_lo, turned_full, entry_inside, turned_made}
use Rattle.apply.proofs.walk.turn.Goals as goal

pub descend-requires : goal.descend-requires
descend-requires c =
    hi_descending c.requires.0 _ refl (taken_as c.requires.1 c.in_default.is) _ _
    (ap (λ (s : Stack). s.frames) c.push.ensures) (ap (λ (s : Stack). s.count) c.push.ensures ∙ add-one _) _ _
    (ap (λ (p : Pair). p.first) c.half.ensures) (ap (λ (p : Pair). p.second) c.half.ensures)

pub returns-in_default-clause-turned : goal.returns-in_default-clause-turned
returns-in_default-clause-turned c =
    λ x. turned_lo x.0 _ refl (taken_as x.1 c.in_default.is) _ _
    (ap (λ (s : Stack). s.frames) c.push.ensures) (ap (λ (s : Stack). s.count) c.push.ensures ∙ add-one _) _ _
    (ap (λ (p : Pair). p.first) c.half.ensures) (ap (λ (p : Pair). p.second) c.half.ensures) _ _ _
    (c.descend.ensures _)

pub returns-in_err-made-clause-turned : goal.returns-in_err-made-clause-turned
returns-in_err-made-clause-turned c =
    rw c.from_residual.ensures (λ x. turned_full x.0 _ refl (taken_as x.1 c.in-Some.is) _ c.top.ensures _ c.in_err-made.ensures.interns)

pub bounds-work-place : goal.bounds-work-place
bounds-work-place c =
    entry_inside c.requires.0 _ refl (taken_as c.requires.1 c.in-Some.is) _ c.top.ensures _ _ c.in_ok-made.ensures.interns _ c.place.ensures

pub returns-clause-turned : goal.returns-clause-turned
returns-clause-turned c =
    λ x. turned_made x.0 _ refl (taken_as x.1 c.in-Some.is) _ c.top.ensures _ _ c.in_ok-made.ensures.interns _ c.place.ensures
