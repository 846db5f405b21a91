-- `guided_seek::fill_tables` meets its contract.
use native.Mathlib.Omega.{arith}
use Rattle.guided_seek.proofs.Preparing.{run_sorted, run_narrow}
use Rattle.guided_seek.proofs.tables.fill_tables.Goals as goal

pub fill_first_steps-requires : goal.fill_first_steps-requires
fill_first_steps-requires c =
    let sorted = run_sorted c.requires.tables in
    (c.requires.no_first, sorted.0, sorted.1)

pub overflow_add-z : goal.overflow_add-z
overflow_add-z c =
    omega (arith, run_narrow c.requires.tables)

pub fill_row_starts-requires : goal.fill_row_starts-requires
fill_row_starts-requires c =
    let narrow = run_narrow c.requires.tables in
    (c.requires.no_row, narrow.0, narrow.1)
