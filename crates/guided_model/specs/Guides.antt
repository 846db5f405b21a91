-- The estimates of pairs (the larger of the chart's and the diagram's) guide a search.
-- Assumes nothing.
use Rattle.std.specs.Prelude.{ℕ, ◌≤◌, ◌≡◌}
use Rattle.std.proofs.Math.Option.{some}
use Rattle.std.proofs.Common.{arith, eqb-true}
use Rattle.definitions.specs.Charts.{Chart, group_count}
use Rattle.definitions.specs.Diagrams.{Diagram}
use Rattle.definitions.specs.Ways.{end_of}
use Rattle.definitions.specs.Pairs.{to_end}
use Rattle.definitions.specs.Plans.{graph, automaton, chart_estimate, estimate}
use Rattle.theory.specs.Limits.{Small, Valid, Sound}
use Rattle.theory.specs.Basics.{larger_parts}
use Rattle.theory.specs.Ways.{way_climbs, least_way_attained}
use Rattle.theory.specs.Estimates.{pair_consistent, estimate_dead, estimate_bounded}
use Rattle.theory.specs.Pairs.{lawful}
use Rattle.guided_model.specs.State.{Guide}

-- only stages up to the end have an estimate
pub estimate_until : (c : Chart) (d : Diagram) → Valid (graph c) → (t n m : ℕ) → estimate c d t n ≡ some m → t ≤ c.end
unfolding estimate chart_estimate to_end
estimate_until c d v t n m e =
    let x = larger_parts _ _ m e in
    let w = least_way_attained (graph c) t _ x.0 x.2 in
    let q : end_of (graph c) t w.0 ≡ c.end = eqb-true _ _ w.2 in
    omega (arith, way_climbs (graph c) v w.0 t w.1)

abbrev pub guide : (c : Chart) (d : Diagram) → Valid (graph c) → Small c → Sound (group_count c) d → Guide (graph c) (automaton c d) (estimate c d)
guide c d v small s = record {
  valid = v;
  lawful = lawful c d s;
  base = 0;
  consistent = pair_consistent c d s.ordered v;
  dead = λ t. estimate_dead c d s.ordered t;
  bounded = λ t n m i e. omega (arith, estimate_bounded c d v small s t n m i e);
}
