-- One law for each way the checks end on a chart, two diagrams and the length of the work slice.
-- Assumes nothing.
use Rattle.std.specs.Prelude.{ℕ, ◌≤◌, ◌<◌, ◌≡◌, List}
use Rattle.std.proofs.Common.{◌∙◌, le-leb, eq-eqb, ne_eqb}
use Rattle.std.proofs.Math.Path.{ap}
use Rattle.std.proofs.Math.Bool.{not}
use Rattle.std.proofs.lemmas.Bool.{lt-leb}
use Rattle.definitions.specs.Charts.{read_chart, group_count}
use Rattle.definitions.specs.Diagrams.{strict, DiagramRead, read_diagram}
use Rattle.definitions.specs.Answers.{Load, LoadTwo, ready_two, refused_two, pair_need, with_more, with_pair_space, load_two}
use Rattle.theory.specs.Basics.{pick_true, pick_false}
use Rattle.checks.specs.Outcome.{chart_refused_lem, rules_refused, files_passed}

-- a diagram file, read strictly for the chart of the chart file
abbrev pub rules_read : List ℕ → List ℕ → DiagramRead
rules_read chart rules = read_diagram strict rules (group_count (read_chart chart).chart)

module _ (chart rules more : List ℕ) (work : ℕ) where
  abbrev rest : Load → LoadTwo
  rest o = with_pair_space work (with_more more o)

  pub chart_refuses_two : ((read_chart chart).number ≡ 0 → ⊥) → load_two chart rules more work ≡ refused_two (read_chart chart).number 1 (read_chart chart).place
  unfolding load_two
  chart_refuses_two h = ap rest (chart_refused_lem strict chart rules h)

  module _ (c : (read_chart chart).number ≡ 0) where
    pub rules_refuse_two : ((rules_read chart rules).number ≡ 0 → ⊥)
        → load_two chart rules more work ≡ refused_two (rules_read chart rules).number 2 (rules_read chart rules).place
    unfolding load_two
    rules_refuse_two h = ap rest (rules_refused strict chart rules c h)

    module _ (d : (rules_read chart rules).number ≡ 0) where
      pub more_refuses : ((rules_read chart more).number ≡ 0 → ⊥)
          → load_two chart rules more work ≡ refused_two (rules_read chart more).number 3 (rules_read chart more).place
      unfolding load_two
      more_refuses h =
          ap rest (files_passed strict chart rules c d) ∙ ap (with_pair_space work) (pick_true _ _ _ (ap not (ne_eqb (rules_read chart more).number 0 h)))

      module _ (e : (rules_read chart more).number ≡ 0) where
        pub files_pass_two : load_two chart rules more work
            ≡ with_pair_space work (ready_two (read_chart chart).chart (rules_read chart rules).diagram (rules_read chart more).diagram)
        unfolding load_two
        files_pass_two = ap rest (files_passed strict chart rules c d) ∙ ap (with_pair_space work) (pick_false _ _ _ (ap not (eq-eqb _ 0 e)))

        pub pairs_refused : work < pair_need (rules_read chart rules).diagram (rules_read chart more).diagram → load_two chart rules more work ≡ refused_two 7 0 0
        pairs_refused h = files_pass_two ∙ pick_false _ _ _ (lt-leb _ work h)

        pub ready_two_lem : pair_need (rules_read chart rules).diagram (rules_read chart more).diagram ≤ work
            → load_two chart rules more work ≡ ready_two (read_chart chart).chart (rules_read chart rules).diagram (rules_read chart more).diagram
        ready_two_lem h = files_pass_two ∙ pick_true _ _ _ (le-leb _ work h)
