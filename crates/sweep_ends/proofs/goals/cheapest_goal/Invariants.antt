-- The loop of `sweep_ends::cheapest_goal`.
use Rattle.sweep_ends.specs.Goals.{Chosen}
use Rattle.sweep_ends.proofs.goals.cheapest_goal.Given as goal

abbrev pub invariant-loop-k : goal.invariant-loop-k
invariant-loop-k l = Chosen l.fn.base l.k l.fn.costs l.fn.nodes l.fn.yes l.best
