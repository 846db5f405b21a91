-- The method `decrease` meets its contract.
-- Assumes nothing.
use Rattle.queue.proofs.Queue.decrease.Goals as goal

pub returns-clause-decreased : goal.returns-clause-decreased
returns-clause-decreased c =
    λ stack counts a. c.decrease.ensures stack counts a
