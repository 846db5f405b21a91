-- The loop of `chart_stages::mark_ends`: the steps before e have left their marks.
use Prim.Native.Nat.{◌≤◌}
use mathlib.Core.Path.{◌≡◌}
use lib.ListN.{length}
use Rattle.chart_fields.specs.Ends.{froms}
use Rattle.chart_stages.specs.FirstSteps.{EndTable}
use Rattle.chart_stages.proofs.first.mark_ends.Given as goal

abbrev pub invariant-loop-e : goal.invariant-loop-e
invariant-loop-e l = (l.e ≤ l.count) × (length l.first ≡ 257) × EndTable l.e (froms l.ends) l.first
