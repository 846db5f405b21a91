-- The loop of `trace::trace_back`: the plan begins with the steps taken back so far, the last one first.
use Prim.Native.Nat.{ℕ, ◌+◌, ◌≤◌}
use mathlib.Core.Path.{◌≡◌}
use mathlib.Core.List.{List, ◌++◌, reverse}
use lib.ListN.{length, drop}
use Rattle.chart_fields.specs.Ends.{froms}
use Rattle.trace.specs.Trails.{Traceable}
use Rattle.trace.proofs.Steps.{Follows}
use Rattle.trace.proofs.trace_back.Given as goal

abbrev pub invariant-loop-s : goal.invariant-loop-s
invariant-loop-s l =
    ((x : Traceable l.via (froms l.ends) l.row l.start.0 l.initial.s.0 l.initial.n.0) → (taken : List ℕ) × Follows x l.s.0 l.n.0 taken
    × (length taken ≡ l.count) × (l.plan ≡ reverse taken ++ drop l.count l.initial.plan))
    × (l.count + l.s.0 ≤ l.initial.s.0) × (length l.plan ≡ length l.initial.plan)

abbrev pub decreases-loop-s : goal.decreases-loop-s
decreases-loop-s l = l.s.0
