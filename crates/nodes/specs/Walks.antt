-- What the walks over the table give, for each diagram that stands in it.
-- Assumes nothing.
use Rattle.std.specs.Prelude.{ℕ, ◌≤◌, ◌<◌, ◌≡◌, Bool, false, List, ltb, eqb, length, get_or}
use Rattle.definitions.specs.Basics.{pick}
use Rattle.definitions.specs.Diagrams.{Diagram, size, descend, advance, finish}
use Rattle.diagram.specs.Tables.{Held}
use Rattle.nodes.specs.declared.walks.Lowered.{Lowered}

-- what a walk down from node n needs of a table of children: those of the nodes up to n have lower numbers
pub record Falls (child : List ℕ) (n : ℕ) : Type 0 where
  pub inside : n < 512
  pub below : (k : ℕ) → 2 ≤ k → k ≤ n → get_or child k 0 < k

-- what is said to be a node's step is the table's
abbrev pub Tests : List ℕ → Lowered → Type 0
Tests step x = x.step ≡ get_or step x.node.0 0

-- The first half of advancing a node by step e: to lo while the node is inner and its step is below e. Over several steps in ascending order it is
-- carried on from one to the next
unfoldable pub lowered : Diagram → ℕ → ℕ → ℕ
lowered d e n = descend d (λ n. n) (λ n x lo hi. pick (ltb x.step e) lo n) n

-- from node n by step e that half leads to r, whatever the table of his holds
pub record Lowers (step lo : List ℕ) (e n r : ℕ) : Type 0 where
  pub below : r ≤ n
  pub is : (d : Diagram) (hi : List ℕ) → Held d step lo hi → n < size d → r ≡ lowered d e n

-- node n advanced by step e is r
pub record Advances (step lo hi : List ℕ) (e n r : ℕ) : Type 0 where
  pub is : (d : Diagram) → Held d step lo hi → n < size d → r ≡ advance d e n

-- the second half: step e leads to r from each node that is lowered to m for it
abbrev pub BranchesTo : List ℕ → List ℕ → ℕ → ℕ → ℕ → Type 0
BranchesTo step hi e m r = (lo : List ℕ) (n : ℕ) → Lowers step lo e n m → Advances step lo hi e n r

-- whether node n finishes at 1, whatever the tables of steps and his hold
pub record Finishes (lo : List ℕ) (n : ℕ) (r : Bool) : Type 0 where
  pub is : (d : Diagram) (step hi : List ℕ) → Held d step lo hi → n < size d → r ≡ eqb (finish d n) 1

-- a table says of each node of a diagram of at most `count` inner nodes whether it finishes at 1
pub record Finishing (lo : List ℕ) (count : ℕ) (r : List Bool) : Type 0 where
  pub is : (d : Diagram) (step hi : List ℕ) → Held d step lo hi → length d.nodes ≤ count
      → (n : ℕ) → n < size d → get_or r n false ≡ eqb (finish d n) 1
