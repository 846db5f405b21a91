-- The stage and the node of an opened pair, and whether it is a goal pair.
-- Assumes nothing.
use Rattle.std.specs.Prelude.{ℕ, ◌+◌, ◌≤◌, ◌<◌, ◌≡◌, Bool, ◌&&◌, List, eqb, length, get_or}
use Rattle.definitions.specs.Basics.{pick}
use Rattle.definitions.specs.Diagrams.{Diagram, size, finish}
use Rattle.diagram.specs.Tables.{Held}
use Rattle.via_marks.specs.Marks.{stage_in}

-- whether a pair of stage s and node n is one of the end stage whose node finishes at 1, in each diagram that stands in the tables
pub record GoalAt (lo : List ℕ) (end s n : ℕ) (r : Bool) : Type 0 where
  pub is : (d : Diagram) (step hi : List ℕ) → Held d step lo hi → n < size d → r ≡ eqb s end && eqb (finish d n) 1

-- the stage of pair x: the start stage, where x is the pair `begin` of start and root; else the stage in `via`
unfoldable pub stage_at : List ℕ → ℕ → ℕ → ℕ → ℕ
stage_at via begin start x = pick (eqb x begin) start (stage_in (get_or via x 0))

-- the pair stands in a row of that stage
pub record Placed (via row : List ℕ) (begin start x : ℕ) : Type 0 where
  pub fits : x < length via
  pub stage : stage_at via begin start x < 256
  pub from_row : get_or row (stage_at via begin start x) 0 ≤ x
  pub in_row : x < get_or row (stage_at via begin start x) 0 + 512
