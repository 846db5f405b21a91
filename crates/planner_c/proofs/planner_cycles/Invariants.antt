-- The loop of `planner_c::planner_cycles`: the entries before c are answered.
use Rattle.checks.specs.Ready.{walked}
use Rattle.guided_loop.specs.Views.{SameLent}
use Rattle.cycles.specs.Cycles.{lent}
use Rattle.cycles.specs.Listing.{Going}
use Rattle.planner_c.proofs.planner_cycles.Given as goal

abbrev pub invariant-loop-c : goal.invariant-loop-c
invariant-loop-c l =
    SameLent l.initial.slices l.slices
    × Going l.z (walked l.tables) l.initial.list (lent l.initial.slices) l.list (lent l.slices) l.c-index
