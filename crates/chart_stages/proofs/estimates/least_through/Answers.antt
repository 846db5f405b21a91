-- `chart_stages::least_through` meets its contract: what is known shows the least cost of the ways by the steps below e.
use Rattle.std.specs.Prelude.{ℕ, ◌+◌, min, get_or}
use Rattle.std.proofs.Common.{◌∙◌, ap}
use native.Mathlib.Omega.{arith}
use Rattle.chart_stages.proofs.Estimating.{steps_rise, steps_end, none_yet, to_below, step_turn, steps_done}
use borrow.Author.Rules.{rules}
use Rattle.chart_stages.proofs.estimates.least_through.Goals as goal

pub loop-e-init : goal.loop-e-init
loop-e-init c =
    (search rules, steps_rise c.requires, steps_end c.requires, search rules, λ x. none_yet x)

pub through-best-requires : goal.through-best-requires
through-best-requires c =
    to_below c.requires c.loop-e.invariant.0 c.loop-e-test.true c.to.ensures

pub loop-e-preserved : goal.loop-e-preserved
loop-e-preserved c =
    let leads = c.to.ensures in (
      search rules,
      search rules,
      search rules,
      omega (arith, c.through-best.ensures, c.loop-e.invariant.3),
      λ x. step_turn x c.loop-e.invariant.0 c.loop-e-test.true leads (c.loop-e.invariant.4 x) c.loop-e.invariant.3 (c.through-best.ensures ∙ ap (λ (k : ℕ). min c.loop-e.best (k + get_or c.args.estimates.now c.to.result.0 0)) c.cost.ensures),
    )

pub returns : goal.returns
returns c =
    λ x. steps_done x (omega arith) (c.loop-e.invariant.4 x)
