-- The loop of `sweep_rows::relax_rows`: what is left of the rows comes to the same as all of them.
use Rattle.checks.specs.Ready.{walked}
use Rattle.sweep_offers.specs.Offers.{held, SameSlices}
use Rattle.sweep_rows.proofs.Rowing.{Sweeping}
use Rattle.sweep_rows.proofs.relax_rows.Given as goal

abbrev pub invariant-loop-s : goal.invariant-loop-s
invariant-loop-s l = record {
  sweeping : Sweeping l.fn.z (walked l.fn.tables) l.fn.z.start.0 l.fn.z.stages (held l.fn.rows) (held l.rows) l.s;
  same : SameSlices l.fn.rows l.rows;
}
