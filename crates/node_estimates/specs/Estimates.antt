-- The diagram's estimates in a table.
-- Assumes nothing.
use Rattle.std.specs.Prelude.{ℕ, ◌+◌, ◌*◌, ◌≤◌, ◌<◌, ◌≡◌, List, ◌⊎◌, length, get_or}
use Rattle.definitions.specs.Basics.{NONE}
use Rattle.definitions.specs.Charts.{Chart, group_count}
use Rattle.definitions.specs.Diagrams.{Diagram, size}
use Rattle.theory.specs.Limits.{Small, Sound}
use Rattle.definitions.specs.Plans.{variable_cost, diagram_estimate}
use Rattle.definitions.specs.Promises.{shown}
use Rattle.diagram.specs.Tables.{Held}

-- the groups of the nodes stand in the table of prices, and cost at most 1,000,000 or are never present
pub record Priced (step cost : List ℕ) (count : ℕ) : Type 0 where
  pub inside : (n : ℕ) → 2 ≤ n → n < count + 2 → get_or step n 0 < 1024
  pub cheap : (n : ℕ) → 2 ≤ n → n < count + 2 → (get_or cost (get_or step n 0) 0 ≤ 1000000) ⊎ (get_or cost (get_or step n 0) 0 ≡ NONE)

-- a table has what it costs to set each variable of a chart, NONE where no step sets it
abbrev pub Costs : Chart → List ℕ → Type 0
Costs c cost = (k : ℕ) → k < group_count c → get_or cost k 0 ≡ shown (variable_cost c k)

-- A table has the estimate of each node, NONE where there is none, of each diagram of at most `count` inner nodes that stands in the tables,
-- over each chart whose groups' costs stand in the table of prices
pub record Estimated (step lo hi cost : List ℕ) (count : ℕ) (r : List ℕ) : Type 0 where
  pub is : (c : Chart) (d : Diagram) → Small c × Costs c cost → Held d step lo hi → Sound (group_count c) d → length d.nodes ≤ count
      → (n : ℕ) → n < size d → get_or r n 0 ≡ shown (diagram_estimate c d n)
  pub small : (n : ℕ) → n < count + 2 → get_or r n 0 < NONE → get_or r n 0 ≤ 1000000 * n
