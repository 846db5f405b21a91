-- `sweep::sweep` meets its contract, by the outcome of the checks.
use Rattle.std.proofs.Common.{ℕ, min, length, ◌∙◌, ap}
use Rattle.definitions.specs.Promises.{sweep_slices}
use Rattle.sweep.proofs.Whole.{call_refused, call_space, call_ready}
use Rattle.sweep.proofs.run.sweep.Goals as goal

pub run-requires : goal.run-requires
run-requires c =
    let lent = sweep_slices c.args.cost.now c.args.via.now c.args.nodes.now c.args.plan.now in
    let shortest = c.min-work.ensures ∙ ap (λ (k : ℕ). min k (length c.args.nodes.now)) c.min.ensures in
    record {
      tables = c.in-Ok.ensures.1;
      space = call_space c.args.chart.now c.args.rules.now lent shortest _ _ c.in-Ok.ensures.0;
    }

pub returns-in-Ok : goal.returns-in-Ok
returns-in-Ok c =
    let lent = sweep_slices c.args.cost.now c.args.via.now c.args.nodes.now c.args.plan.now in
    let shortest = c.min-work.ensures ∙ ap (λ (k : ℕ). min k (length c.args.nodes.now)) c.min.ensures in
    call_ready c.args.chart.now c.args.rules.now lent shortest _ _ c.in-Ok.ensures.0 c.run.ensures

pub returns-in-Err : goal.returns-in-Err
returns-in-Err c =
    let lent = sweep_slices c.args.cost.now c.args.via.now c.args.nodes.now c.args.plan.now in
    let shortest = c.min-work.ensures ∙ ap (λ (k : ℕ). min k (length c.args.nodes.now)) c.min.ensures in
    call_refused c.args.chart.now c.args.rules.now lent shortest _ c.in-Err.ensures c.answer.ensures
