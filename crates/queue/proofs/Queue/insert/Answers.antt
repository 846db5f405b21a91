-- The method `insert` meets its contract.
-- Assumes nothing.
use Rattle.queue.proofs.Queue.insert.Goals as goal

pub returns-clause-inserted : goal.returns-clause-inserted
returns-clause-inserted c =
    λ a. c.insert-more.ensures a
