-- The loop of `sweep_rows::relax_steps`: what is left of the steps comes to the same as all of them.
use Rattle.checks.specs.Ready.{walk, walked}
use Rattle.nodes.specs.Walks.{Tests}
use Rattle.sweep_offers.specs.Offers.{held, SameSlices}
use Rattle.sweep_rows.specs.Standing.{Stands}
use Rattle.sweep_rows.proofs.Walking.{Walking}
use Rattle.sweep_rows.proofs.relax_steps.Given as goal

abbrev pub invariant-loop-number : goal.invariant-loop-number
invariant-loop-number g l = record {
  walking : (x : Stands (walked l.fn.tables).read l.fn.tables.row.now l.fn.n.0 l.fn.v l.fn.leaving.begin.0 l.fn.leaving.until.0 (held l.fn.rows))
      → Walking x.z (walk (walked l.fn.tables).read x.first l.fn.tables.row.now) x.s l.fn.n.0 l.fn.v l.fn.leaving.begin.0 l.fn.leaving.until.0 (held l.fn.rows) (held l.rows) l.number l.m.node.0;
  same : SameSlices l.fn.rows l.rows;
  tests : Tests (walked l.fn.tables).read.inner.step l.m;
}
