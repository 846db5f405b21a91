-- `node_estimates::fill_diagram_estimates` meets its contract.
use borrow.Author.Rules.{rules}
use Prim.Native.Nat.{◌+◌, ◌<◌}
use native.Mathlib.Omega.{arith}
use Rattle.nodes.proofs.Children.{child_inside}
use Rattle.node_estimates.proofs.Estimating.{estimating_step, estimating-laws}
use Rattle.node_estimates.proofs.fill_diagram_estimates.Goals as goal

pub loop-n-init : goal.loop-n-init
loop-n-init c = search (estimating-laws, rules)

pub inner_estimate-requires : goal.inner_estimate-requires
inner_estimate-requires c =
    let found = c.loop-n.invariant.1 in
    let below : c.loop-n.n < c.args.z.nodes + 2 = omega (arith, c.loop-n-test.true, c.loop-n.invariant.0) in (
      estimating_step _ _ _ _ _ _ _ found c.requires.sound.2 below _ c.step_at-e.ensures,
      child_inside _ _ _ c.requires.sound.0 found.inner below _ c.lo_at-lo.ensures,
      child_inside _ _ _ c.requires.sound.1 found.inner below _ c.hi_at-hi.ensures,
    )

pub loop-n-preserved : goal.loop-n-preserved
loop-n-preserved c = search (estimating-laws, rules)

pub returns : goal.returns
returns c = search (estimating-laws, rules)
