-- `sweep::least_costs` meets its contract: begun and relaxed, the tables are the model's.
use Rattle.sweep.proofs.Beginning.{begin_fits, begun_row, swept_is}
use Rattle.sweep.proofs.run.least_costs.Goals as goal

pub begin-requires-clause-pair_in : goal.begin-requires-clause-pair_in
begin-requires-clause-pair_in c =
    (begin_fits c.requires.ready c.requires.fresh).1

pub begin-requires-clause-list_in : goal.begin-requires-clause-list_in
begin-requires-clause-list_in c =
    (begin_fits c.requires.ready c.requires.fresh).2

pub relax_rows-requires : goal.relax_rows-requires
relax_rows-requires c =
    begun_row c.requires.ready c.requires.fresh (c.begin.ensures c.args.rows.now.via.now)

pub returns-clause-becomes : goal.returns-clause-becomes
returns-clause-becomes c =
    swept_is c.requires.ready c.requires.fresh (c.begin.ensures c.args.rows.now.via.now) c.relax_rows.ensures.becomes
