-- `sweep::run` meets its contract: the finished tables give the promise.
use Rattle.std.proofs.Common.{refl, rules}
use Rattle.sweep.proofs.Whole.{run_sorted, run_narrow, run_fresh, run_final, run_promised}
use Rattle.sweep.proofs.run.run.Goals as goal

pub fill_first_steps-requires : goal.fill_first_steps-requires
fill_first_steps-requires c =
    let sorted = run_sorted c.requires.tables in
    (refl, sorted.0, sorted.1)

pub fill_row_starts-requires : goal.fill_row_starts-requires
fill_row_starts-requires c =
    let narrow = run_narrow c.requires.tables in
    (refl, narrow.0, narrow.1)

pub least_costs-requires-clause-fresh : goal.least_costs-requires-clause-fresh
least_costs-requires-clause-fresh c =
    run_fresh c.requires.tables c.fill_first_steps.ensures c.fill_row_starts.ensures c.requires.space (search rules)

pub conclude-requires-clause-done : goal.conclude-requires-clause-done
conclude-requires-clause-done c =
    run_final c.requires.tables c.fill_first_steps.ensures c.fill_row_starts.ensures c.requires.space (search rules) c.least_costs.ensures.becomes

pub returns : goal.returns
returns c =
    run_promised c.requires.tables c.fill_first_steps.ensures c.fill_row_starts.ensures c.requires.space (search rules) c.least_costs.ensures.becomes
    (search rules) (search rules) (search rules) c.conclude.ensures
