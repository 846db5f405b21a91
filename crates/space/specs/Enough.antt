-- No accepted files need more than the most space.
-- Assumes nothing.
use Rattle.std.specs.Prelude.{ℕ, ◌≡◌, true, List, [], ◌∷◌}
use Rattle.std.proofs.Common.{sym, ◌∙◌, mul-le-mul_right, arith, le-leb}
use Rattle.definitions.specs.Charts.{Chart, read_chart, group_count}
use Rattle.definitions.specs.Diagrams.{Diagram, size, strict, read_diagram}
use Rattle.definitions.specs.Plans.{graph}
use Rattle.definitions.specs.Answers.{read_files, load, work_need, plan_need, space_fits}
use Rattle.theory.specs.Limits.{Valid, Sound}
use Rattle.theory.specs.Basics.{either, same_or_not}
use Rattle.chart.specs.Accepted.{chart_accepted}
use Rattle.diagram.specs.Accepted.{diagram_accepted}
use Rattle.checks.specs.Outcome.{chart_refused_lem, rules_refused, files_passed, chart_refuses, rules_refuse, all_ready}

module _ (s t : List ℕ) where
  abbrev C : Chart
  C = (read_chart s).chart

  abbrev D : Diagram
  D = (read_diagram strict t (group_count C)).diagram

  -- 256 stages × 512 nodes and 255 steps
  most : (read_chart s).number ≡ 0 → (read_diagram strict t (group_count C)).number ≡ 0 → space_fits C D (131072 ∷ []) 255 ≡ true
  most c d =
      let v : Valid (graph C) = (chart_accepted s c).0 in
      let w : Sound (group_count C) D = diagram_accepted strict t (group_count C) d in
      let m = mul-le-mul_right (size D) v.few_stages in
      simp (le-leb (work_need C D) 131072 (omega (arith, m, w.few)), le-leb (plan_need C) 255 (omega (arith, v.few_stages)))

  -- with the most space, a search's checks are those on the files alone
  pub load_most : load s t (131072 ∷ []) 255 ≡ read_files strict s t
  load_most =
      either (same_or_not (read_chart s).number 0)
      (λ c. either (same_or_not (read_diagram strict t (group_count C)).number 0)
      (λ d. all_ready s t (131072 ∷ []) 255 c d (most c d) ∙ sym (files_passed strict s t c d))
      (λ d. rules_refuse s t (131072 ∷ []) 255 c d ∙ sym (rules_refused strict s t c d)))
      (λ c. chart_refuses s t (131072 ∷ []) 255 c ∙ sym (chart_refused_lem strict s t c))
