-- The loop of `chart_stages::fill_first_steps`: the entries of the stages below s are right.
use Prim.Native.Nat.{◌+◌, ◌≤◌}
use mathlib.Core.Path.{◌≡◌}
use lib.ListN.{length}
use Rattle.chart_fields.specs.Ends.{froms}
use Rattle.chart_stages.specs.FirstSteps.{SortedTable, EndTable}
use Rattle.chart_stages.proofs.Firsts.{FirstsBefore}
use Rattle.chart_stages.proofs.first.fill_first_steps.Given as goal

abbrev pub invariant-loop-s : goal.invariant-loop-s
invariant-loop-s l =
    (1 ≤ l.s) × (l.s ≤ l.stages + 1) × (length l.first ≡ 257) × (l.s-end ≡ l.stages + 1)
    × ((sorted : SortedTable l.count (froms l.ends)) (m : EndTable l.count (froms l.ends) l.initial.first) → FirstsBefore sorted m l.s l.most l.first)
