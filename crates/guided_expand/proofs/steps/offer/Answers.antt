-- `guided_expand::offer` meets its contract.
use Prim.Native.Nat.{ℕ, ◌+◌}
use mathlib.Core.Path.{ap}
use native.Mathlib.Omega.{arith}
use Rattle.guided_expand.specs.Opening.{opened_more}
use Rattle.guided_expand.proofs.Stepping.{step_small, stage_small, target_small, leads_none, leads_fit, leads_block, leads_ask, leads_some, block_filled, block_opened, block_leading}
use Rattle.guided_expand.proofs.steps.offer.Goals as goal

pub to-stage-requires : goal.to-stage-requires
to-stage-requires c =
    step_small c.requires

pub of_pair-rest-requires : goal.of_pair-rest-requires
of_pair-rest-requires c =
    (stage_small c.requires c.to-stage.ensures, target_small c.requires)

pub returns-then-rest-clause-offered : goal.returns-then-rest-clause-offered
returns-then-rest-clause-offered c =
    λ x. leads_none x c.to-stage.ensures _ c.of_pair-rest.ensures c.if-rest.true

pub pair_at-y-requires : goal.pair_at-y-requires
pair_at-y-requires c =
    stage_small c.requires c.to-stage.ensures

pub open_block-requires : goal.open_block-requires
open_block-requires c =
    leads_block c.requires c.to-stage.ensures _ c.of_pair-rest.ensures c.if-rest.false _ c.pair_at-y.ensures

pub cost-requires : goal.cost-requires
cost-requires c =
    step_small c.requires

pub overflow_add-v : goal.overflow_add-v
overflow_add-v c =
    omega (arith, leads_fit c.requires c.to-stage.ensures _ c.of_pair-rest.ensures c.if-rest.false, c.cost.ensures)

pub overflow_add-v-2 : goal.overflow_add-v-2
overflow_add-v-2 c =
    omega (arith, leads_fit c.requires c.to-stage.ensures _ c.of_pair-rest.ensures c.if-rest.false, c.cost.ensures)

pub packed-requires : goal.packed-requires
packed-requires c =
    stage_small c.requires c.to-stage.ensures

pub relax-requires : goal.relax-requires
relax-requires c =
    let l = block_leading c.requires c.to-stage.ensures _ c.of_pair-rest.ensures c.if-rest.false _ c.pair_at-y.ensures c.open_block.auto.keys c.open_block.ensures in
    leads_ask l c.to-stage.ensures _ c.of_pair-rest.ensures c.if-rest.false _ c.pair_at-y.ensures _ (ap (λ (k : ℕ). c.args.source.cost + k + c.of_pair-rest.result) c.cost.ensures)
    (block_filled c.requires c.to-stage.ensures _ c.of_pair-rest.ensures c.if-rest.false _ c.pair_at-y.ensures c.open_block.auto.keys c.open_block.ensures)

pub returns-clause-offered : goal.returns-clause-offered
returns-clause-offered c =
    λ x.
    let l = block_leading x c.to-stage.ensures _ c.of_pair-rest.ensures c.if-rest.false _ c.pair_at-y.ensures c.open_block.auto.keys c.open_block.ensures in
    let filled = block_filled x c.to-stage.ensures _ c.of_pair-rest.ensures c.if-rest.false _ c.pair_at-y.ensures c.open_block.auto.keys c.open_block.ensures in
    let asked = leads_ask l c.to-stage.ensures _ c.of_pair-rest.ensures c.if-rest.false _ c.pair_at-y.ensures _ (ap (λ (k : ℕ). c.args.source.cost + k + c.of_pair-rest.result) c.cost.ensures) filled in
    opened_more x.by _ (block_opened x c.to-stage.ensures _ c.of_pair-rest.ensures c.if-rest.false _ c.pair_at-y.ensures c.open_block.auto.keys c.open_block.ensures)
    (leads_some l c.to-stage.ensures _ c.of_pair-rest.ensures c.if-rest.false _ c.pair_at-y.ensures _ (ap (λ (k : ℕ). c.args.source.cost + k + c.of_pair-rest.result) c.cost.ensures) filled
    c.packed.ensures c.relax.ensures.same.2.0.1 (c.relax.ensures.relaxed asked))
