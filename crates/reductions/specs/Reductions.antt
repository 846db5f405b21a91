-- The reduction of a diagram over a chart, for a reader: it is reduced, it says yes to the same sets, nothing else is and does, it has no more nodes than the diagram, its
-- file is taken by every call, and it allows the same plans. The diagrams are any within the limits of the file (`Sound`), padded or not.
-- Assumes nothing.
use Rattle.std.specs.Prelude.{ℕ, ◌≤◌, ◌<◌, ◌≡◌, refl, Bool, true, false, ◌&&◌, List, [], map, ◌↔◌, length}
use Rattle.std.proofs.Common.{sym, ◌∙◌, arith}
use Rattle.std.proofs.Math.Path.{ap}
use Rattle.std.proofs.Math.Dec.{eqb}
use Rattle.definitions.specs.Basics.{has}
use Rattle.definitions.specs.Bytes.{diagram_bytes}
use Rattle.definitions.specs.Charts.{Chart, group_count}
use Rattle.definitions.specs.Diagrams.{Diagram, size, read_diagram}
use Rattle.definitions.specs.Plans.{graph, variable, says_yes, Legal, cheapest}
use Rattle.definitions.specs.Reductions.{accepts, Reduced, Arrives, reduction, conjunction}
use Rattle.definitions.specs.Ways.{end_of, least_way}
use Rattle.theory.specs.Diagrams.{verdict_leaf}
use Rattle.theory.specs.Limits.{Ordered, Sound}
use Rattle.reduction_theory.specs.Reduced.{reduced_arrives}
use Rattle.reduction_theory.specs.Expansion.{reduced_of_ordered, reduced_of_reduced, reduced_of_steps, reduced_of_accepts, accepts_local, both_local, reduction_pruned}
use Rattle.reduction_theory.specs.Sizes.{pruned_small}
use Rattle.reductions.specs.Reduced.{reduced_same, reduced_read}

-- ---- the reduction as a diagram

module _ (n : ℕ) (d : Diagram) where
  pub reduction_ordered : Ordered (reduction n d)
  unfolding reduction
  reduction_ordered = reduced_of_ordered n _

  pub reduction_reduced : Reduced (reduction n d)
  unfolding reduction
  reduction_reduced = reduced_of_reduced n _

  -- each inner node can be arrived at
  pub reduction_arrives : (m : ℕ) → 2 ≤ m → m < size (reduction n d) → Arrives (reduction n d) m
  reduction_arrives = reduced_arrives (reduction n d) reduction_ordered reduction_reduced

  module _ (p : Sound n d) where
    -- it says yes to the same sets
    pub reduction_accepts : (s : ℕ → Bool) → accepts (reduction n d) s ≡ accepts d s
    unfolding reduction
    reduction_accepts = reduced_of_accepts n _ (accepts_local n d p)

    -- and no other reduced diagram does
    pub reduction_unique : (x : Diagram) → Ordered x → Reduced x → ((s : ℕ → Bool) → accepts x s ≡ accepts d s) → x ≡ reduction n d
    reduction_unique x o r a = reduced_same x (reduction n d) o reduction_ordered r reduction_reduced (λ s. a s ∙ sym (reduction_accepts s))

    -- it has no more nodes than the diagram, so the call never answers 12
    pub reduction_small : length (reduction n d).nodes ≤ length d.nodes
    reduction_small = omega (arith, ap (λ (x : Diagram). length x.nodes) (reduction_pruned n d p), pruned_small d p.ordered p.root_inside)

    -- it is within the limits of the file
    pub reduction_sound : Sound n (reduction n d)
    reduction_sound = record {
      ordered = reduction_ordered;
      exist = unfold reduction in reduced_of_steps n _;
      few = omega (arith, reduction_small, p.few);
      root_inside = reduction_reduced.root_inside;
    }

    -- and its file is accepted over the same chart, strictly too, and gives it back
    pub reduction_read : (mode : Bool) → read_diagram mode (diagram_bytes (reduction n d)) n ≡ record { number = 0; place = 0; diagram = reduction n d }
    reduction_read = reduced_read n (reduction n d) reduction_sound reduction_reduced

-- what is reduced is its own reduction; so reducing twice is reducing once
pub reduction_fixed : (n : ℕ) (d : Diagram) → Sound n d → Reduced d → reduction n d ≡ d
reduction_fixed n d p r = sym (reduction_unique n d p d p.ordered r (λ s. refl))

pub reduction_twice : (n : ℕ) (d : Diagram) → Sound n d → reduction n (reduction n d) ≡ reduction n d
reduction_twice n d p = reduction_fixed n (reduction n d) (reduction_sound n d p) (reduction_reduced n d)

-- ---- the conjunction with the diagram that always says yes

abbrev pub always : Diagram
always = record { root = 1; nodes = [] }

pub always_sound : (n : ℕ) → Sound n always
always_sound n = record {
  ordered = record { lo_below = λ m g. omega arith; hi_below = λ m g. omega arith; lo_later = λ m g i. absurd (omega arith); hi_later = λ m g i. absurd (omega arith) };
  exist = λ m g l. absurd (omega arith);
  few = omega arith;
  root_inside = omega arith;
}

always_accepts : (s : ℕ → Bool) → accepts always s ≡ true
unfolding accepts
always_accepts s = ap (λ (k : ℕ). eqb k 1) (verdict_leaf always (always_sound 0).ordered s 1 (omega arith))

and_true : (b : Bool) → (b && true) ≡ b
and_true true = refl
and_true false = refl

pub reduction_joined : (n : ℕ) (d : Diagram) → Sound n d → conjunction n d always ≡ reduction n d
unfolding conjunction
reduction_joined n d p =
    reduction_unique n d p (conjunction n d always) (reduced_of_ordered n _) (reduced_of_reduced n _) (λ s.
    reduced_of_accepts n _ (both_local n d always p (always_sound n)) s ∙ ap (λ (b : Bool). accepts d s && b) (always_accepts s) ∙ and_true (accepts d s))

-- ---- two diagrams over one chart

-- they say yes to the same sets of its groups
abbrev pub SameSets : ℕ → Diagram → Diagram → Type 0
SameSets n d e = (s : ℕ → Bool) → ((j : ℕ) → n ≤ j → s j ≡ false) → accepts d s ≡ accepts e s

-- ---- plans

pub says_accepts : (c : Chart) (d : Diagram) (w : List ℕ) → says_yes c d w ≡ accepts d (has (map (variable c) w))
unfolding says_yes accepts
says_accepts c d w = refl

-- diagrams that say yes to the same sets allow the same plans, and their cheapest cost is the same
module _ (c : Chart) (d e : Diagram) (a : (s : ℕ → Bool) → accepts d s ≡ accepts e s) where
  says_same : (w : List ℕ) → says_yes c d w ≡ says_yes c e w
  says_same w = says_accepts c d w ∙ a (has (map (variable c) w)) ∙ sym (says_accepts c e w)

  pub same_legal : (w : List ℕ) → Legal c d w ↔ Legal c e w
  same_legal w = (λ l. (l.0, sym (says_same w) ∙ l.1), λ l. (l.0, says_same w ∙ l.1))

  pub same_cheapest : cheapest c d ≡ cheapest c e
  unfolding cheapest
  same_cheapest = ap (least_way (graph c) c.start) (λ i w. eqb (end_of (graph c) c.start w) c.end && says_same w i)

module _ (c : Chart) (d : Diagram) (p : Sound (group_count c) d) where
  pub reduction_legal : (w : List ℕ) → Legal c (reduction (group_count c) d) w ↔ Legal c d w
  reduction_legal = same_legal c (reduction (group_count c) d) d (reduction_accepts (group_count c) d p)

  pub reduction_cheapest : cheapest c (reduction (group_count c) d) ≡ cheapest c d
  reduction_cheapest = same_cheapest c (reduction (group_count c) d) d (reduction_accepts (group_count c) d p)
