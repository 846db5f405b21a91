-- `planner::both` meets its contract: each search keeps its promise, and so both meet the demands.
use Rattle.planner.specs.Both.{both_call}
use Rattle.planner.proofs.both.Goals as goal

pub returns : goal.returns
returns c =
    both_call c.sweep-swept.ensures c.guided-found.ensures
