-- The conjunction of two diagrams over one chart, for a reader: it is reduced, it says yes exactly where both do, no other reduced diagram does, its file is read
-- back, and the plans that it allows are those that both allow. The diagrams are any within the limits of the file (`Sound`), as every accepted file's is.
-- Assumes nothing.
use Rattle.std.specs.Prelude.{ℕ, ◌≤◌, ◌<◌, ◌≡◌, refl, Bool, ◌&&◌, List, map, length}
use Rattle.std.proofs.Common.{sym, ◌∙◌, ap₂}
use Rattle.definitions.specs.Basics.{has}
use Rattle.definitions.specs.Charts.{Chart, group_count}
use Rattle.definitions.specs.Diagrams.{Diagram, size, read_diagram}
use Rattle.definitions.specs.Ways.{way_cost}
use Rattle.definitions.specs.Plans.{graph, variable, says_yes, Legal, cheapest}
use Rattle.definitions.specs.Bytes.{diagram_bytes}
use Rattle.definitions.specs.Reductions.{accepts, Reduced, Arrives, conjunction}
use Rattle.theory.specs.Basics.{both}
use Rattle.theory.specs.Least.{IsLeast, least_same}
use Rattle.theory.specs.Limits.{Ordered, Sound, Valid}
use Rattle.theory.specs.Plans.{LegalCost, cheapest_least}
use Rattle.reduction_theory.specs.Reduced.{reduced_arrives}
use Rattle.reduction_theory.specs.Expansion.{reduced_of_ordered, reduced_of_reduced, reduced_of_steps, reduced_of_accepts, both_local}
use Rattle.reductions.specs.Reduced.{reduced_same, reduced_read}
use Rattle.reductions.specs.Reductions.{says_accepts}

-- ---- the conjunction as a diagram

module _ (n : ℕ) (d e : Diagram) where
  pub conjunction_ordered : Ordered (conjunction n d e)
  unfolding conjunction
  conjunction_ordered = reduced_of_ordered n _

  pub conjunction_reduced : Reduced (conjunction n d e)
  unfolding conjunction
  conjunction_reduced = reduced_of_reduced n _

  -- each inner node can be arrived at
  pub conjunction_arrives : (m : ℕ) → 2 ≤ m → m < size (conjunction n d e) → Arrives (conjunction n d e) m
  conjunction_arrives = reduced_arrives (conjunction n d e) conjunction_ordered conjunction_reduced

  -- with at most 510 inner nodes it is within the limits of the file
  pub conjunction_sound : length (conjunction n d e).nodes ≤ 510 → Sound n (conjunction n d e)
  conjunction_sound few = record {
    ordered = conjunction_ordered;
    exist = unfold conjunction in reduced_of_steps n _;
    few = few;
    root_inside = conjunction_reduced.root_inside;
  }

  -- and its file is accepted over the same chart, strictly too, and gives it back
  pub conjunction_read : length (conjunction n d e).nodes ≤ 510 → (mode : Bool)
      → read_diagram mode (diagram_bytes (conjunction n d e)) n ≡ record { number = 0; place = 0; diagram = conjunction n d e }
  conjunction_read few = reduced_read n (conjunction n d e) (conjunction_sound few) conjunction_reduced

  module _ (p : Sound n d) (q : Sound n e) where
    -- it says yes exactly where both do
    pub conjunction_accepts : (s : ℕ → Bool) → accepts (conjunction n d e) s ≡ (accepts d s && accepts e s)
    unfolding conjunction
    conjunction_accepts = reduced_of_accepts n _ (both_local n d e p q)

    -- and no other reduced diagram does
    pub conjunction_unique : (x : Diagram) → Ordered x → Reduced x → ((s : ℕ → Bool) → accepts x s ≡ (accepts d s && accepts e s)) → x ≡ conjunction n d e
    conjunction_unique x o r a = reduced_same x (conjunction n d e) o conjunction_ordered r conjunction_reduced (λ s. a s ∙ sym (conjunction_accepts s))

-- so diagrams that together say yes to the same sets have the same conjunction, whichever comes first
pub conjunction_same : (n : ℕ) (d e d' e' : Diagram) → Sound n d → Sound n e → Sound n d' → Sound n e'
    → ((s : ℕ → Bool) → (accepts d s && accepts e s) ≡ (accepts d' s && accepts e' s)) → conjunction n d e ≡ conjunction n d' e'
conjunction_same n d e d' e' p q p' q' a =
    conjunction_unique n d' e' p' q' (conjunction n d e) (conjunction_ordered n d e) (conjunction_reduced n d e) (λ s. conjunction_accepts n d e p q s ∙ a s)

-- ---- plans

module _ (c : Chart) (d e : Diagram) where
  -- a plan that both allow, and one of cost k
  abbrev pub Allowed : List ℕ → Type 0
  Allowed w = Legal c d w × Legal c e w

  abbrev pub AllowedCost : ℕ → Type 0
  AllowedCost k = (w : List ℕ) × Allowed w × (way_cost (graph c) w ≡ k)

  -- the conjunction over the chart's steps
  abbrev pub joint : Diagram
  joint = conjunction (group_count c) d e

  module _ (p : Sound (group_count c) d) (q : Sound (group_count c) e) where
    says_both : (w : List ℕ) → says_yes c joint w ≡ (says_yes c d w && says_yes c e w)
    says_both w =
        says_accepts c joint w ∙ conjunction_accepts (group_count c) d e p q (has (map (variable c) w))
        ∙ ap₂ (λ (a b : Bool). a && b) (sym (says_accepts c d w)) (sym (says_accepts c e w))

    -- the plans that it allows are those that both allow
    pub conjunction_legal : (w : List ℕ) → Legal c joint w → Allowed w
    conjunction_legal w l = let x = both (says_yes c d w) (says_yes c e w) (sym (says_both w) ∙ l.1) in ((l.0, x.0), (l.0, x.1))

    pub legal_conjunction : (w : List ℕ) → Allowed w → Legal c joint w
    legal_conjunction w l = (l.0.0, says_both w ∙ rw (l.0.1, l.1.1) refl)

    -- its cheapest plan is a cheapest one that both allow
    pub conjunction_cheapest : Valid (graph c) → IsLeast AllowedCost (cheapest c joint)
    conjunction_cheapest v =
        least_same (LegalCost c joint) AllowedCost (cheapest c joint)
        (λ k t. (t.0, conjunction_legal t.0 t.1, t.2)) (λ k t. (t.0, legal_conjunction t.0 t.1, t.2))
        (cheapest_least c joint v)
