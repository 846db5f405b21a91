-- A diagram's inner nodes in three lists, of steps, los and his, each indexed by the node's number. Entries 0 and 1 are no inner node's.
-- Assumes nothing.
use Rattle.std.specs.Prelude.{ℕ, ◌+◌, ◌≤◌, ◌≡◌, List, map, length, get_or}
use Rattle.definitions.specs.Basics.{upto}
use Rattle.definitions.specs.Diagrams.{Diagram, InnerNode}
use Rattle.theory.specs.Limits.{Ordered}
use Rattle.diagram_fields.specs.Words.{Marked}

-- the node that stands at a number
abbrev pub held_node : List ℕ → List ℕ → List ℕ → ℕ → InnerNode
held_node step lo hi n = record { step = get_or step n 0; lo = get_or lo n 0; hi = get_or hi n 0 }

-- the first `count` inner nodes: those of the numbers 2, 3, 4 ..
unfoldable pub held_nodes : ℕ → List ℕ → List ℕ → List ℕ → List InnerNode
held_nodes count step lo hi = map (λ i. held_node step lo hi (i + 2)) (upto count)

abbrev pub held_diagram : ℕ → ℕ → List ℕ → List ℕ → List ℕ → Diagram
held_diagram root count step lo hi = record { root = root; nodes = held_nodes count step lo hi }

-- an ordered diagram stands in the lists
pub record Held (d : Diagram) (step lo hi : List ℕ) : Type 0 where
  pub ordered : Ordered d
  pub few : length d.nodes ≤ 510
  pub nodes : held_nodes (length d.nodes) step lo hi ≡ d.nodes
  pub marked : Marked step
