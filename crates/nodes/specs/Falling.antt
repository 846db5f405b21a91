-- The children of a diagram that stands in the tables have lower numbers.
-- Assumes nothing.
use Rattle.std.specs.Prelude.{ℕ, ◌<◌, List}
use Rattle.std.proofs.Common.{arith}
use Rattle.definitions.specs.Diagrams.{Diagram, size}
use Rattle.diagram.specs.Tables.{Held}
use Rattle.diagram.specs.Held.{held_lo, held_hi}
use Rattle.nodes.specs.Walks.{Falls}

module _ (d : Diagram) (step lo hi : List ℕ) (held : Held d step lo hi) (n : ℕ) (l : n < size d) where
  pub lo_falls : Falls lo n
  lo_falls = record {
    inside = omega (arith, held.few);
    below = λ k h g. omega (arith, held_lo d step lo hi held k h (omega arith), held.ordered.lo_below k h);
  }

  pub hi_falls : Falls hi n
  hi_falls = record {
    inside = omega (arith, held.few);
    below = λ k h g. omega (arith, held_hi d step lo hi held k h (omega arith), held.ordered.hi_below k h);
  }
