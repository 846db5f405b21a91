-- `node_estimates::fill_prices` meets its contract.
use Rattle.std.proofs.Common.{◌∙◌, ap}
use Rattle.std.specs.Prelude.{ℕ, min, get_or}
use native.Mathlib.Omega.{arith}
use Rattle.chart.specs.Tables.{steps_in}
use Rattle.node_estimates.proofs.Pricing.{pricing_start, pricing_few, pricing_step, pricing_group, pricing_more, pricing_done}
use Rattle.node_estimates.proofs.fill_prices.Goals as goal

pub loop-e-init : goal.loop-e-init
loop-e-init c = (pricing_start _ _ _ c.requires.none_yet, omega arith)

pub overflow_cast-e-end : goal.overflow_cast-e-end
overflow_cast-e-end c = omega (arith, pricing_few c.args.z (steps_in c.args.steps.now) c.requires.sound)

pub group-k-requires : goal.group-k-requires
group-k-requires c = pricing_step c.args.z (steps_in c.args.steps.now) c.requires.sound _ c.loop-e-test.true

pub cost-requires : goal.cost-requires
cost-requires c = pricing_step c.args.z (steps_in c.args.steps.now) c.requires.sound _ c.loop-e-test.true

pub bounds-price-k : goal.bounds-price-k
bounds-price-k c = pricing_group c.args.z (steps_in c.args.steps.now) c.requires.sound _ c.loop-e-test.true _ c.group-k.ensures

pub bounds-price-k-in-loop-e : goal.bounds-price-k-in-loop-e
bounds-price-k-in-loop-e c = pricing_group c.args.z (steps_in c.args.steps.now) c.requires.sound _ c.loop-e-test.true _ c.group-k.ensures

pub loop-e-preserved : goal.loop-e-preserved
loop-e-preserved c = (
  pricing_more (steps_in c.args.steps.now) _ _ c.loop-e-test.true _ c.loop-e.invariant.0 _ _ c.group-k.ensures
      (pricing_group c.args.z (steps_in c.args.steps.now) c.requires.sound _ c.loop-e-test.true _ c.group-k.ensures)
      (c.min.ensures ∙ ap (λ (k : ℕ). min (get_or c.loop-e.price c.group-k.result.0 0) k) c.cost.ensures),
  omega arith,
)

pub returns : goal.returns
returns c = pricing_done c.args.z (steps_in c.args.steps.now) c.requires.sound _ (omega arith) _ c.loop-e.invariant.0
