-- `sweep_rows::relax_row` meets its contract: what is left of the row's list comes to the same as all of it.
use Rattle.std.proofs.Common.{refl, arith, rules}
use Rattle.sweep_rows.proofs.Rowing.{row_place, row_small, row_cost, row_stands, row_more, row_done}
use Rattle.sweep_rows.proofs.relax_row.Goals as goal

pub bounds-rows-base : goal.bounds-rows-base
bounds-rows-base c =
    row_place _ _ (c.loop-k.invariant.rowing c.requires) refl c.loop-k-test.true

pub overflow_cast-n : goal.overflow_cast-n
overflow_cast-n c =
    omega (arith, row_small _ _ (c.loop-k.invariant.rowing c.requires) refl c.loop-k-test.true)

pub bounds-rows-base-in-loop-k : goal.bounds-rows-base-in-loop-k
bounds-rows-base-in-loop-k c =
    row_cost _ _ (c.loop-k.invariant.rowing c.requires) refl c.loop-k-test.true

pub relax_node-requires : goal.relax_node-requires
relax_node-requires c =
    row_stands _ _ (c.loop-k.invariant.rowing c.requires) refl c.loop-k-test.true

pub loop-k-preserved : goal.loop-k-preserved
loop-k-preserved c = record {
  rowing = λ x.
      let w = c.loop-k.invariant.rowing x in
      row_more _ _ w refl c.loop-k-test.true (c.relax_node.ensures.becomes (row_stands _ _ w refl c.loop-k-test.true));
  same = search rules;
}

pub returns-clause-becomes : goal.returns-clause-becomes
returns-clause-becomes c =
    λ x. row_done _ _ (c.loop-k.invariant.rowing x) refl c.loop-k-test.false refl
