-- `trace::trace_back` meets its contract: the plan begins with the steps taken back so far, the last one first.
use Prim.Native.Nat.{ℕ, ◌+◌, ◌<◌}
use mathlib.Core.Path.{refl, sym, ◌∙◌, ap}
use mathlib.Core.List.{List, [], ◌∷◌, ◌++◌, reverse, reverse-cons}
use native.Mathlib.Omega.{arith}
use lib.ListN.{length, drop, length-reverse}
use borrow.Author.Rules.{rules}
use Rattle.trace.proofs.Steps.{follow_start, follow_stage, follow_fits, follow_less, follow_more, follow_done, put_on}
use Rattle.trace.proofs.trace_back.Goals as goal

pub loop-s-init : goal.loop-s-init
loop-s-init c = ((λ x. ([], follow_start x, refl, refl)), omega arith, refl)

pub pair_at-requires : goal.pair_at-requires
pair_at-requires c =
    let trail = c.requires.traceable in
    follow_stage trail (c.loop-s.invariant.0 trail).1

pub offset_bounds-via-pair_at : goal.offset_bounds-via-pair_at
offset_bounds-via-pair_at c =
    let trail = c.requires.traceable in
    omega (arith, follow_fits trail (c.loop-s.invariant.0 trail).1 c.loop-s-test.true c.pair_at.ensures)

pub bounds-via-pair_at : goal.bounds-via-pair_at
bounds-via-pair_at c =
    let trail = c.requires.traceable in
    follow_fits trail (c.loop-s.invariant.0 trail).1 c.loop-s-test.true c.pair_at.ensures

pub offset_bounds-plan-count : goal.offset_bounds-plan-count
offset_bounds-plan-count c =
    omega (arith, c.loop-s.invariant.1, c.loop-s-test.true, c.requires.fits)

pub bounds-plan-count : goal.bounds-plan-count
bounds-plan-count c =
    omega (arith, c.loop-s.invariant.1, c.loop-s.invariant.2, c.loop-s-test.true, c.requires.fits)

pub loop-s-smaller : goal.loop-s-smaller
loop-s-smaller c =
    let trail = c.requires.traceable in
    follow_less trail (c.loop-s.invariant.0 trail).1 c.loop-s-test.true c.pair_at.ensures c.came_from-before.ensures

pub loop-s-preserved : goal.loop-s-preserved
loop-s-preserved c =
    let trail = c.requires.traceable in
    let room : c.loop-s.count < length c.args.plan.now = omega (arith, c.loop-s.invariant.1, c.loop-s-test.true, c.requires.fits) in
    let less = follow_less trail (c.loop-s.invariant.0 trail).1 c.loop-s-test.true c.pair_at.ensures c.came_from-before.ensures in (
      (λ x.
          let so_far = c.loop-s.invariant.0 x in (
            c.came_from-before.result.step.0 ∷ so_far.0,
            follow_more x so_far.1 c.loop-s-test.true c.pair_at.ensures c.came_from-before.ensures,
            omega (arith, so_far.2),
            put_on c.loop-s.count c.args.plan.now (reverse so_far.0) _ _ room (length-reverse so_far.0 ∙ so_far.2) so_far.3
                ∙ ap (λ (z : List ℕ). z ++ drop (c.loop-s.count + 1) c.args.plan.now) (sym (reverse-cons _ so_far.0)),
          )),
      omega (arith, c.loop-s.invariant.1, less),
      search rules,
    )

pub returns : goal.returns
returns c =
    λ x.
    let so_far = c.loop-s.invariant.0 x in
    let all = follow_done x so_far.1 c.loop-s-test.false in
    (sym so_far.2 ∙ ap length (sym all), so_far.3 ∙ ap (λ (z : List ℕ). reverse z ++ drop c.loop-s.count c.args.plan.now) (sym all))
