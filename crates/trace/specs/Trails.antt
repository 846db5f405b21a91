-- The trail from a pair back to the start: each pair keeps its stage, the step and the node by which it was reached, packed in one number.
-- Assumes nothing.
use Rattle.std.specs.Prelude.{ℕ, ◌*◌, ◌+◌, ◌≤◌, ◌<◌, ◌≡◌, List, [], ◌∷◌, ◌++◌, length, get_or}
use Rattle.std.proofs.Common.{arith, length-append}
use Rattle.definitions.specs.Pairs.{row_starts}
use Rattle.via_marks.specs.Marks.{packed, step_in, node_in}
use Rattle.trace.specs.declared.Predecessor.{Predecessor}

-- what a mark says of the pair that keeps it, by the table of the stages that steps leave
pub record CameFrom (from : List ℕ) (mark : ℕ) (p : Predecessor) : Type 0 where
  pub by_step : p.step.0 ≡ step_in mark
  pub of_stage : p.stage.0 ≡ get_or from p.step.0 0
  pub of_node : p.node.0 ≡ node_in mark

-- The steps w lead from the start to the pair of stage s and node n of rows of `width` nodes: `via` has at each pair but those of the start stage its stage, the
-- step that leads there and the node that it leaves, `from` the stage that it leaves
pub data Trail (via from : List ℕ) (width start : ℕ) : ℕ → ℕ → List ℕ → Type 0 where
  begin : {n : ℕ} → Trail via from width start start n []
  more : {s n e m : ℕ} {w : List ℕ} → start < s → e < 1024 → m < width → get_or from e 0 < s → get_or via (s * width + n) 0 ≡ packed s e m
      → Trail via from width start (get_or from e 0) m w → Trail via from width start s n (w ++ e ∷ [])

-- it climbs from stage to stage
pub trail_short : {via from : List ℕ} {width start s n : ℕ} {w : List ℕ} → Trail via from width start s n w → start + length w ≤ s
trail_short begin = omega arith
trail_short (more {e} {w} a b c d f t) = omega (arith, length-append w (e ∷ []), trail_short t)

-- a pair can be traced back, by these tables: rows of some width, of some stages, and a trail to the pair
pub record Traceable (via from row : List ℕ) (start s n : ℕ) : Type 0 where
  pub stages : ℕ
  pub width : ℕ
  pub rows : row ≡ row_starts stages width
  pub few : stages ≤ 256
  pub narrow : width ≤ 512
  pub fits : stages * width ≤ length via
  pub stage : s < stages
  pub node : n < width
  pub steps : List ℕ
  pub trail : Trail via from width start s n steps
