-- The place of an opened pair, on each way through the code.
-- Assumes nothing.
use Prim.Native.Nat.{ℕ, ◌+◌, ◌≤◌, ◌<◌}
use mathlib.Core.Path.{◌≡◌, sym, ◌∙◌, subst}
use mathlib.Core.List.{List}
use lib.ListN.{get_or}
use borrow.Author.Tests.{eq-eqb, ne_eqb}
use Rattle.theory.specs.Basics.{pick_true, pick_false}
use Rattle.via_marks.specs.Marks.{stage_in}
use Rattle.guided_places.specs.Places.{stage_at, Placed}

module _ (via : List ℕ) (begin start x : ℕ) where
  pub at_begin : x ≡ begin → stage_at via begin start x ≡ start
  unfolding stage_at
  at_begin q = pick_true _ _ _ (eq-eqb x begin q)

  pub at_mark : (x ≡ begin → ⊥) → stage_at via begin start x ≡ stage_in (get_or via x 0)
  unfolding stage_at
  at_mark q = pick_false _ _ _ (ne_eqb x begin q)

module _ {via row : List ℕ} {begin start x : ℕ} (p : Placed via row begin start x) where
  abbrev InRow : ℕ → Type 0
  InRow s = (s < 256) × (get_or row s 0 ≤ x) × (x < get_or row s 0 + 512)

  pub placed_begin : x ≡ begin → InRow start
  placed_begin q = subst InRow (at_begin via begin start x q) (p.stage, p.from_row, p.in_row)

  -- the mark has stage s
  module _ (q : x ≡ begin → ⊥) {s : ℕ} (has : s ≡ stage_in (get_or via x 0)) where
    pub placed_stage : s ≡ stage_at via begin start x
    placed_stage = has ∙ sym (at_mark via begin start x q)

    pub placed_mark : InRow s
    placed_mark = subst InRow (sym placed_stage) (p.stage, p.from_row, p.in_row)
