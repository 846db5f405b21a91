-- `sweep_rows::relax_rows` meets its contract: what is left of the rows comes to the same as all of them.
use Rattle.std.proofs.Common.{refl, rules}
use Rattle.sweep_rows.proofs.Rowing.{sweep_more, sweep_done}
use Rattle.sweep_rows.proofs.relax_rows.Goals as goal

pub loop-s-preserved : goal.loop-s-preserved
loop-s-preserved c = record {
  sweeping =
      let w = c.loop-s.invariant.sweeping in
      let inside = c.loop-s-test.true in
      sweep_more _ _ w refl inside (c.relax_row.ensures.becomes (record { z = c.args.z; row = w.stands; inside = inside }));
  same = search rules;
}

pub returns-clause-becomes : goal.returns-clause-becomes
returns-clause-becomes c =
    sweep_done _ _ c.loop-s.invariant.sweeping c.loop-s-test.false
