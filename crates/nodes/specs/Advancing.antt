-- Advancing over the tables: a node is lowered to a step, and goes to hi where the step is its own. The lowering is carried on from one step to a later one.
-- Assumes nothing.
use Rattle.std.specs.Prelude.{ℕ, zero, suc, ◌≤◌, ◌<◌, ◌≡◌, List, get_or}
use Rattle.std.proofs.Common.{sym, ◌∙◌, ap, arith}
use Rattle.definitions.specs.Diagrams.{inner, advance}
use Rattle.theory.specs.Diagrams.{advance_leaf}
use Rattle.diagram_fields.specs.Words.{MARK, Marked}
use Rattle.diagram.specs.Held.{held_step_lem, held_hi}
use Rattle.nodes.specs.Walks.{lowered, Lowers, Advances}
use Rattle.nodes.specs.Descending.{lowered_zero, lowered_lowered, advance_lowered, advance_hi, advance_stays}

-- a node whose entry is not the mark is inner
pub unmarked : (step : List ℕ) (m : ℕ) → Marked step → get_or step m 0 < MARK → 2 ≤ m
unmarked step zero marked q = absurd (omega (arith, marked.at_no))
unmarked step (suc zero) marked q = absurd (omega (arith, marked.at_yes))
unmarked step (suc (suc m)) marked q = omega arith

-- no step is below 0
pub lowers_zero : (step lo : List ℕ) (n : ℕ) → Lowers step lo 0 n n
lowers_zero step lo n = record { below = omega arith; is = λ d hi h l. sym (lowered_zero d h.ordered n) }

-- carried on from step e to a later step f
pub lowers_on : (step lo : List ℕ) (e f n m r : ℕ) → e ≤ f → Lowers step lo e n m → Lowers step lo f m r → Lowers step lo f n r
lowers_on step lo e f n m r le low on = record {
  below = omega (arith, low.below, on.below);
  is = λ d hi h l.
      on.is d hi h (omega (arith, low.below)) ∙ ap (lowered d f) (low.is d hi h l) ∙ lowered_lowered d h.ordered e f n le;
}

module _ (step lo hi : List ℕ) (e n m : ℕ) (marked : Marked step) (low : Lowers step lo e n m) (k : ℕ) (at : k ≡ get_or step m 0) where
  pub advancing_hi : e < MARK → k ≡ e → (r : ℕ) → r ≡ get_or hi m 0 → Advances step lo hi e n r
  advancing_hi f q r to = record {
    is = λ d h l.
        let i : 2 ≤ m = unmarked step m marked (omega arith) in
        let w = low.is d hi h l in
        let s = held_step_lem d step lo hi h m i (omega (arith, low.below)) in
        let x = held_hi d step lo hi h m i (omega (arith, low.below)) in
        to ∙ sym x ∙ ap (λ (k : ℕ). (inner d k).hi) w
        ∙ sym (advance_hi d h.ordered e n (omega arith) (ap (λ (k : ℕ). (inner d k).step) (sym w) ∙ omega arith));
  }

  pub advancing_stays : (k ≡ e → ⊥) → Advances step lo hi e n m
  advancing_stays q = record {
    is = λ d h l.
        let w = low.is d hi h l in
        w ∙ sym (advance_stays d h.ordered e n (λ g p.
        let i : 2 ≤ m = omega arith in
        q (at ∙ sym (held_step_lem d step lo hi h m i (omega (arith, low.below))) ∙ ap (λ (k : ℕ). (inner d k).step) w ∙ p)));
  }

-- from node 0 every later step leads to 0
pub advancing_dead : (step lo hi : List ℕ) (e f n : ℕ) → e ≤ f → Lowers step lo e n 0 → Advances step lo hi f n 0
advancing_dead step lo hi e f n le low = record {
  is = λ d h l.
      sym (advance_leaf d h.ordered f 0 (omega arith)) ∙ ap (advance d f) (low.is d hi h l) ∙ advance_lowered d h.ordered e f n le;
}
