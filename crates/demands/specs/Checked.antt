-- What the checks of a call give: its outcomes (`Judged`), and what holds of the accepted files. That there is no other, and that `load` is `ready c d` exactly where all
-- checks pass for the chart c and the diagram d, is proved in proofs/Checked.antt.
-- Assumes nothing.
use Rattle.std.specs.Prelude.{ℕ, ◌≡◌, List, map, length}
use Rattle.std.proofs.Common.{sym, ◌∙◌, subst₂}
use Rattle.definitions.specs.Charts.{Chart, read_chart}
use Rattle.definitions.specs.Diagrams.{Diagram}
use Rattle.definitions.specs.Plans.{graph}
use Rattle.definitions.specs.Answers.{Load, ready, refused, load}
use Rattle.theory.specs.Limits.{Ticked, Valid}
use Rattle.chart.specs.Accepted.{chart_accepted}
use Rattle.checks.specs.Outcome.{chart_refuses, rules_refuse}
use Rattle.demands.specs.Demands.{Call, rules_read, Files, Space, Passes}

-- the checks on both files and on the lengths of the lent slices
abbrev pub load_of : List ℕ → List ℕ → Call → Load
load_of chart rules x = load chart rules (map length x.works) (length x.plan)

-- ---- the one outcome

module _ (chart rules : List ℕ) (x : Call) where
  abbrev C : Chart
  C = (read_chart chart).chart

  abbrev D : Diagram
  D = (rules_read chart rules).diagram

  pub data Judged : Type 0 where
    chart_bad : ((read_chart chart).number ≡ 0 → ⊥) → load_of chart rules x ≡ refused (read_chart chart).number 1 (read_chart chart).place → Judged
    rules_bad : (read_chart chart).number ≡ 0 → ((rules_read chart rules).number ≡ 0 → ⊥) → load_of chart rules x ≡ refused (rules_read chart rules).number 2 (rules_read chart rules).place → Judged
    too_short : Files chart rules C D → (Space x C D → ⊥) → load_of chart rules x ≡ refused 7 0 0 → Judged
    all_pass : Passes chart rules x C D → load_of chart rules x ≡ ready C D → Judged

  -- ---- one law for each refusal

  pub chart_load : ((read_chart chart).number ≡ 0 → ⊥) → load_of chart rules x ≡ refused (read_chart chart).number 1 (read_chart chart).place
  chart_load h = chart_refuses chart rules (map length x.works) (length x.plan) h

  pub rules_load : (read_chart chart).number ≡ 0 → ((rules_read chart rules).number ≡ 0 → ⊥) → load_of chart rules x ≡ refused (rules_read chart rules).number 2 (rules_read chart rules).place
  rules_load p h = rules_refuse chart rules (map length x.works) (length x.plan) p h

-- an accepted chart is within its limits
module _ (chart rules : List ℕ) (c : Chart) (d : Diagram) (f : Files chart rules c d) where
  pub valid : Valid (graph c)
  valid = rw (← f.chart_held) (chart_accepted chart f.chart_passes).0

  pub ticked : Ticked (graph c)
  ticked = rw (← f.chart_held) (chart_accepted chart f.chart_passes).2

-- what is said of the chart and the diagram that the files hold goes over to the same ones under other names
pub held_alike : (chart rules : List ℕ) (c c' : Chart) (d d' : Diagram) → Files chart rules c d → Files chart rules c' d' → (P : Chart → Diagram → Type 0) → P c d → P c' d'
held_alike chart rules c c' d d' f g P = subst₂ P (sym f.chart_held ∙ g.chart_held) (sym f.rules_held_lem ∙ g.rules_held_lem)
