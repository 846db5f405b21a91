-- One law for each way out of `relax_step`.
-- Assumes nothing.
use Prim.Native.Nat.{ℕ, ◌+◌}
use mathlib.Core.Path.{◌≡◌, sym, ◌∙◌, ap, ap₂}
use mathlib.Core.List.{List}
use lib.ListN.{get_or}
use borrow.Author.Tests.{eq-eqb, ne_eqb}
use Rattle.theory.specs.Basics.{pick_true, pick_false}
use Rattle.via_marks.specs.Marks.{packed}
use Rattle.sweep_model.specs.Model.{Rows, offer}
use Rattle.chart.specs.Tables.{Steps}
use Rattle.sweep_offers.specs.Offers.{stepped}

-- the ways out of `relax_step`
module _ (c : Steps) (row : List ℕ) (e n v t : ℕ) (r : Rows) where
  pub stepped_none : t ≡ 0 → r ≡ stepped c row e n v t r
  unfolding stepped
  stepped_none h = sym (pick_true _ _ _ (eq-eqb t 0 h))

  pub stepped_offer : (s k mark : ℕ) (r' : Rows) → (t ≡ 0 → ⊥) → s ≡ get_or c.to e 0 → k ≡ get_or c.cost e 0 → mark ≡ packed s e n
      → r' ≡ offer (get_or row s 0) s t (v + k) mark r → r' ≡ stepped c row e n v t r
  unfolding stepped
  stepped_offer s k mark r' h p l m q =
      q ∙ ap₂ (λ (i j : ℕ). offer (get_or row s 0) s t (v + i) j r) l m
      ∙ ap (λ (s : ℕ). offer (get_or row s 0) s t (v + get_or c.cost e 0) (packed s e n) r) p ∙ sym (pick_false _ _ _ (ne_eqb t 0 h))
