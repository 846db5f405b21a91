-- The loop of `unique_table::find`: what holds at its head, and its measure.
use Rattle.unique_table.specs.Chains.{Seeking}
use Rattle.unique_table.specs.Tables.{unique_table}
use Rattle.unique_table.proofs.find.Given as goal

abbrev pub invariant-loop-m : goal.invariant-loop-m
invariant-loop-m l = Seeking (unique_table l.nodes l.chains) l.w l.m

abbrev pub decreases-loop-m : goal.decreases-loop-m
decreases-loop-m l = l.m
