-- Two diagrams over one chart have the same reduction, byte for byte, exactly if they say yes to the same sets of its groups.
-- Assumes nothing.
use Rattle.std.specs.Prelude.{ℕ, ◌≤◌, ◌<◌, ◌≡◌, Bool, false, ◌&&◌, ◌↔◌, ltb}
use Rattle.std.proofs.Common.{sym, ◌∙◌, lt-ltb, le-ltb}
use Rattle.std.proofs.Math.Path.{ap}
use Rattle.definitions.specs.Bytes.{diagram_bytes}
use Rattle.definitions.specs.Diagrams.{Diagram}
use Rattle.definitions.specs.Reductions.{accepts, reduction}
use Rattle.theory.specs.Limits.{Sound}
use Rattle.reduction_theory.specs.Expansion.{accepts_local}
use Rattle.reductions.specs.Reduced.{bytes_same}
use Rattle.reductions.specs.Reductions.{reduction_ordered, reduction_reduced, reduction_accepts, reduction_unique, reduction_sound, SameSets}

-- a set without what is no group of the chart
unfoldable within : ℕ → (ℕ → Bool) → ℕ → Bool
within n s j = ltb j n && s j

within_below : (n : ℕ) (s : ℕ → Bool) (j : ℕ) → j < n → s j ≡ within n s j
unfolding within
within_below n s j h = rw (lt-ltb j n h)

within_past : (n : ℕ) (s : ℕ → Bool) (j : ℕ) → n ≤ j → within n s j ≡ false
unfolding within
within_past n s j h = rw (le-ltb j n h)

module _ (n : ℕ) (d e : Diagram) (p : Sound n d) (q : Sound n e) where
  -- and so to the same sets altogether
  pub sets_all : SameSets n d e → (s : ℕ → Bool) → accepts d s ≡ accepts e s
  sets_all a s =
      accepts_local n d p s (within n s) (within_below n s) ∙ a (within n s) (within_past n s) ∙ sym (accepts_local n e q s (within n s) (within_below n s))

  -- the same reduction, byte for byte, exactly if they say yes to the same sets of the chart's steps
  pub reduction_exactly : (diagram_bytes (reduction n d) ≡ diagram_bytes (reduction n e)) ↔ SameSets n d e
  reduction_exactly = (
    λ b s i. sym (reduction_accepts n d p s)
        ∙ ap (λ (x : Diagram). accepts x s) (bytes_same n (reduction n d) (reduction_sound n d p) (reduction n e) (reduction_sound n e q) b) ∙ reduction_accepts n e q s,
    λ a. ap diagram_bytes (reduction_unique n e q (reduction n d) (reduction_ordered n d) (reduction_reduced n d) (λ s. reduction_accepts n d p s ∙ sets_all a s)),
  )
