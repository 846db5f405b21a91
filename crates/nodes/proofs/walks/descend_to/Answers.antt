-- `nodes::descend_to` meets its contract.
use mathlib.Core.Path.{refl}
use native.Mathlib.Omega.{arith}
use Rattle.nodes.proofs.Lowering.{entry_step, entry_lo, lowering_start, lowering_less, lowering_next, lowering_done}
use Rattle.nodes.proofs.walks.descend_to.Goals as goal

pub returns-then-key-step : goal.returns-then-key-step
returns-then-key-step c =
    let pre = c.requires in
    (lowering_done _ _ _ _ _ pre.0 pre.1 (lowering_start _ _ _ _) _ pre.3 c.if-key-step.true, pre.3)

pub returns : goal.returns
returns c =
    (lowering_done _ _ _ _ _ c.requires.0 c.requires.1 c.loop-step.invariant.0 _ c.loop-step.invariant.2 (omega (arith, c.loop-step-test.false)), c.loop-step.invariant.2)

pub loop-step-smaller : goal.loop-step-smaller
loop-step-smaller c =
    lowering_less _ _ _ _ _ c.requires.0 c.requires.1 c.loop-step.invariant.0 _ c.loop-step.invariant.2 c.requires.2 c.loop-step-test.true _
    (entry_lo c.args.inner.now c.loop-step.m c.loop-step.invariant.1 c.lo_of-m.ensures)

pub loop-step-preserved : goal.loop-step-preserved
loop-step-preserved c =
    let words = c.args.inner.now in (
      lowering_next _ _ _ _ _ c.requires.0 c.requires.1 c.loop-step.invariant.0 _ c.loop-step.invariant.2 c.requires.2 c.loop-step-test.true _
          (entry_lo words c.loop-step.m c.loop-step.invariant.1 c.lo_of-m.ensures),
      refl,
      entry_step words c.lo_of-m.result refl c.step_of-step.ensures,
    )
