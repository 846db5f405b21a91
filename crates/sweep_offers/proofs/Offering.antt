-- One law for each way out of `offer`.
-- Assumes nothing.
use Prim.Native.Nat.{ℕ, ◌+◌, ◌≤◌, ◌<◌}
use mathlib.Core.Path.{◌≡◌, sym, ◌∙◌}
use lib.ListN.{get_or, set}
use borrow.Author.Tests.{le-leb, lt-leb, eq-eqb, ne_eqb}
use Rattle.definitions.specs.Basics.{NONE}
use Rattle.theory.specs.Basics.{pick_true, pick_false}
use Rattle.sweep_model.specs.Model.{Rows, rows, offer}

module _ (base s t v mark : ℕ) (r : Rows) where
  pub offer_kept : get_or r.cost (base + t) 0 ≤ v → r ≡ offer base s t v mark r
  unfolding offer
  offer_kept h = sym (pick_true _ _ _ (le-leb _ _ h))

  pub offer_new : v < get_or r.cost (base + t) 0 → get_or r.cost (base + t) 0 ≡ NONE
      → rows (set r.cost (base + t) v) (set r.via (base + t) mark) (set r.nodes (base + get_or r.counts s 0) t) (set r.counts s (get_or r.counts s 0 + 1)) ≡ offer base s t v mark r
  unfolding offer
  offer_new h q = sym (pick_false _ _ _ (lt-leb _ _ h) ∙ pick_true _ _ _ (eq-eqb _ _ q))

  pub offer_lower : v < get_or r.cost (base + t) 0 → (get_or r.cost (base + t) 0 ≡ NONE → ⊥)
      → rows (set r.cost (base + t) v) (set r.via (base + t) mark) r.nodes r.counts ≡ offer base s t v mark r
  unfolding offer
  offer_lower h q = sym (pick_false _ _ _ (lt-leb _ _ h) ∙ pick_false _ _ _ (ne_eqb _ _ q))
