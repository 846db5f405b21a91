-- The loop of `sweep_rows::relax_row`: what is left of the row's list comes to the same as all of it.
use Rattle.checks.specs.Ready.{walked}
use Rattle.sweep_offers.specs.Offers.{held, SameSlices}
use Rattle.sweep_rows.specs.Standing.{InRow}
use Rattle.sweep_rows.proofs.Rowing.{Rowing}
use Rattle.sweep_rows.proofs.relax_row.Given as goal

abbrev pub invariant-loop-k : goal.invariant-loop-k
invariant-loop-k l = record {
  rowing : (x : InRow (walked l.fn.tables) l.fn.s.0 (held l.fn.rows))
      → Rowing x.z (walked l.fn.tables) l.fn.s.0 l.count (held l.fn.rows) (held l.rows) l.k;
  same : SameSlices l.fn.rows l.rows;
}
