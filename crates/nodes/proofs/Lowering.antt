-- The loop of `descend_to`: its invariant, with one law for each way on.
use Prim.Native.Nat.{ℕ, ◌≤◌, ◌<◌}
use mathlib.Core.Path.{◌≡◌, refl, sym, ◌∙◌, ap}
use mathlib.Core.List.{List}
use lib.ListN.{get_or}
use native.Mathlib.Omega.{arith}
use Rattle.definitions.specs.Diagrams.{Diagram, size}
use Rattle.theory.specs.Basics.{either, lt_or_le}
use Rattle.diagram_fields.specs.Words.{MARK, Marked, step_of, lo_of, nodes_in, step_at_lem, lo_at}
use Rattle.diagram.specs.Tables.{Held}
use Rattle.diagram.specs.Held.{held_step_lem, held_lo}
use Rattle.nodes.specs.Walks.{Falls, lowered, Lowers}
use Rattle.nodes.specs.Descending.{lowered_leaf, lowered_below, lowered_stop}
use Rattle.nodes.specs.Advancing.{unmarked}

-- what is taken out of the entry of node m
module _ (words : List ℕ) (m : ℕ) {word : ℕ} (entry : word ≡ get_or words m 0) {k : ℕ} where
  pub entry_step : k ≡ step_of word → k ≡ get_or (nodes_in words).step m 0
  entry_step q = q ∙ ap step_of entry ∙ sym (step_at_lem words m)

  pub entry_lo : k ≡ lo_of word → k ≡ get_or (nodes_in words).lo m 0
  entry_lo q = q ∙ ap lo_of entry ∙ sym (lo_at words m)

-- a walk from node n stands at m, and has as far to go as from n
pub record Lowering (step lo : List ℕ) (e n m : ℕ) : Type 0 where
  pub below : m ≤ n
  pub same : (d : Diagram) (hi : List ℕ) → Held d step lo hi → n < size d → lowered d e m ≡ lowered d e n

module _ (step lo : List ℕ) (e n : ℕ) where
  pub lowering_start : Lowering step lo e n n
  lowering_start = record { below = omega arith; same = λ d hi h l. refl }

  module _ (m : ℕ) (marked : Marked step) (falls : Falls lo n) (now : Lowering step lo e n m) (k : ℕ) (is : k ≡ get_or step m 0) where
    module _ (fits : e ≤ MARK) (q : k < e) (r : ℕ) (to : r ≡ get_or lo m 0) where
      inner_one : 2 ≤ m
      inner_one = unmarked step m marked (omega arith)

      pub lowering_less : r < m
      lowering_less = omega (arith, falls.below m inner_one now.below)

      pub lowering_next : Lowering step lo e n r
      lowering_next = record {
        below = omega (arith, lowering_less, now.below);
        same = λ d hi h l.
            let s = held_step_lem d step lo hi h m inner_one (omega (arith, now.below)) in
            ap (lowered d e) (to ∙ sym (held_lo d step lo hi h m inner_one (omega (arith, now.below))))
            ∙ sym (lowered_below d h.ordered e m inner_one (omega arith)) ∙ now.same d hi h l;
      }

    pub lowering_done : e ≤ k → Lowers step lo e n m
    lowering_done q = record {
      below = now.below;
      is = λ d hi h l.
          sym (either (lt_or_le m 2) (lowered_leaf d h.ordered e m)
          (λ i. lowered_stop d h.ordered e m i (omega (arith, held_step_lem d step lo hi h m i (omega (arith, now.below))))))
          ∙ now.same d hi h l;
    }
