-- What the answer by how the search ended rests on, and what it leaves.
-- Assumes nothing.
use Rattle.std.specs.Prelude.{ℕ, ◌-◌, ◌≤◌, ◌≡◌, Some, None, List, ◌++◌, length, drop}
use Rattle.definitions.specs.Answers.{refusal, accepted}
use Rattle.definitions.specs.declared.Answer.{Answer}
use Rattle.definitions.specs.declared.Shape.{Shape}
use Rattle.trace.specs.Trails.{Traceable}
use Rattle.chart.specs.Tables.{Steps}
use Rattle.guided_ends.specs.declared.Goal.{Goal}
use Rattle.guided_ends.specs.declared.Ended.{Ended}

-- the pair of the end stage and a node can be traced back to the start
abbrev pub Trails : Shape → List ℕ → Steps → List ℕ → Goal → Type 0
Trails z via steps row g = Traceable via steps.from row z.start.0 z.end.0 g.node.0

-- where a goal pair was settled it can be traced back, and the plan slice has room for each trail
pub record Ending (z : Shape) (via : List ℕ) (steps : Steps) (row : List ℕ) (e : Ended) (plan : List ℕ) : Type 0 where
  pub traceable : (g : Goal) → e.goal ≡ Some g → Trails z via steps row g
  pub fits : z.end.0 - z.start.0 ≤ length plan

-- the answer and the plan slice, by how the search ended
pub record Concludes (z : Shape) (via : List ℕ) (steps : Steps) (row : List ℕ) (e : Ended) (plan plan' : List ℕ) (r : Answer) : Type 0 where
  pub found : (g : Goal) → e.goal ≡ Some g → (x : Trails z via steps row g)
      → (r ≡ accepted g.cost (length x.steps) e.count) × (plan' ≡ x.steps ++ drop (length x.steps) plan)
  pub not_found : e.goal ≡ None → (r ≡ refusal 8 0 0 e.count) × (plan' ≡ plan)
