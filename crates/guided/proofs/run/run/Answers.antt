-- `guided::run` meets its contract.
use Rattle.guided.proofs.Finding.{found_traceable, found_runs}
use Rattle.guided.proofs.run.run.Goals as goal

pub answer-requires : goal.answer-requires
answer-requires c =
    found_traceable c.fill_tables.ensures c.requires.room c.seek-ended.ensures.sought c.seek-ended.ensures.same.1.1

pub returns-clause-runs : goal.returns-clause-runs
returns-clause-runs c =
    found_runs c.fill_tables.ensures c.requires.room c.seek-ended.ensures.sought c.seek-ended.ensures.same.1.1
    c.answer.ensures c.answer.auto.plan
