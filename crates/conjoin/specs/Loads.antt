-- What the checks on three files and the work space leave: both diagrams in tables; and one law for each way out of the code.
-- Assumes nothing.
use Rattle.std.specs.Prelude.{ℕ, zero, suc, ◌+◌, ◌*◌, ◌≤◌, ◌<◌, ◌≡◌, Bool, List, get_or, Some, None, Result, Ok, Err}
use Rattle.std.proofs.Common.{sym, ◌∙◌, ap, ap₂, subst, arith}
use Rattle.definitions.specs.Charts.{read_chart, group_count}
use Rattle.definitions.specs.Charts as charts
use Rattle.definitions.specs.Diagrams.{Diagram, size, strict, read_diagram}
use Rattle.definitions.specs.Answers.{LoadTwo, ready_two, refused_two, pair_need, load_two}
use Rattle.definitions.specs.Refusals.{number}
use Rattle.definitions.specs.declared.Refusal.TheVariants.{ShortSlice}
use Rattle.theory.specs.Limits.{Sound}
use Rattle.theory.specs.Variables.{groups_few}
use Rattle.diagram_fields.specs.Words.{nodes_in, step_of, step_at_lem, lo_at, hi_at, MARK}
use Rattle.fields.specs.Positions.{number_some}
use Rattle.fields.specs.declared.fault.Stopped.{Stopped}
use Rattle.chart.specs.Accepted.{chart_accepted}
use Rattle.chart.specs.Tables.{ChartAnswer}
use Rattle.chart.specs.declared.sizes.ChartSizes.{ChartSizes}
use Rattle.diagram.specs.Accepted.{diagram_accepted, accepted_filled}
use Rattle.diagram.specs.Files.{Reads, Filled, DiagramEnd, diagram_end}
use Rattle.diagram.specs.Held.{held_inner}
use Rattle.diagram.specs.Tables.{Held}
use Rattle.diagram.specs.declared.reader.DiagramSizes.{DiagramSizes}
use Rattle.checks.specs.Refusing.{file_mark, FoundIn}
use Rattle.checks.specs.declared.answers.InFile.{InFile}
use Rattle.checks.specs.declared.answers.InFile.TheVariants.{Chart, Rules, More}
use Rattle.checks.specs.declared.answers.Refused.{Refused}
use Rattle.conjunctions.specs.Loads.{rules_read, chart_refuses_two, rules_refuse_two, more_refuses, pairs_refused, ready_two_lem}
use Rattle.apply.specs.Operands.{Operand}
use Rattle.conjoin.specs.declared.load.LoadedTwo.{LoadedTwo}

-- the refusal of a call on two diagrams, as the definitions give it
abbrev pub refused_as : Refused → LoadTwo
refused_as r = refused_two (number r.refusal) (file_mark r.file) r.place

-- two diagrams within their limits, over a chart, stand in tables
pub record Loaded (c : charts.Chart) (d e : Diagram) (work : ℕ) (left right : List ℕ) (r : LoadedTwo) : Type 0 where
  pub root_first : r.roots.first ≡ d.root
  pub root_second : r.roots.second ≡ e.root
  pub wide : r.width ≡ size e
  pub needs : r.pairs ≡ pair_need d e
  pub room : pair_need d e ≤ work
  pub operand_first : Operand d left
  pub operand_second : Operand e right
  pub sound_first : Sound (group_count c) d
  pub sound_second : Sound (group_count c) e

-- what the checks give: what they loaded, or the refusal
abbrev pub LoadsTwo : LoadTwo → ℕ → List ℕ → List ℕ → Result LoadedTwo Refused → Type 0
LoadsTwo o work left right (Ok r) = (c : charts.Chart) × (d : Diagram) × (e : Diagram) × (o ≡ ready_two c d e) × Loaded c d e work left right r
LoadsTwo o work left right (Err r) = o ≡ refused_as r

-- ---- a refusal

-- it has no number 0
pub refusing : (x : Refused) {n : ℕ} → n ≡ number x.refusal → n ≡ 0 → ⊥
refusing x e z = omega (arith, number_some x.refusal, e)

-- the fault of a file, in numbers
pub record FaultOf (file : InFile) (n place : ℕ) (x : Refused) : Type 0 where
  pub number_is : n ≡ number x.refusal
  pub place_is : place ≡ x.place
  pub file_is : Some file ≡ x.file

as_refused : {file : InFile} {n place : ℕ} {x : Refused} → FaultOf file n place x → refused_two n (file_mark (Some file)) place ≡ refused_as x
as_refused f = λ i. refused_two (f.number_is i) (file_mark (f.file_is i)) (f.place_is i)

-- ---- a diagram file over a chart of so many groups, read into a table

module _ (mode : Bool) (s : List ℕ) (n : ℕ) (words words' : List ℕ) where
  pub diagram_fault : {r : Result DiagramSizes (Stopped DiagramSizes)} → Reads mode s n words words' r → {file : InFile} {x : Refused} → FoundIn file r (Err x)
      → FaultOf file (read_diagram mode s n).number (read_diagram mode s n).place x
  diagram_fault reads found =
      let e = sym reads.answer ∙ ap diagram_end found.1 in
      record {
        number_is = ap (λ (z : DiagramEnd). z.number) e ∙ ap (λ (z : Refused). number z.refusal) (sym found.2);
        place_is = ap (λ (z : DiagramEnd). z.place) e ∙ ap (λ (z : Refused). z.place) (sym found.2);
        file_is = ap (λ (z : Refused). z.file) (sym found.2);
      }

  module _ (y : DiagramSizes) (reads : Reads mode s n words words' (Ok y)) where
    pub passed : (read_diagram mode s n).number ≡ 0
    passed = ap (λ (z : DiagramEnd). z.number) (sym reads.answer)

    pub root_is : y.root ≡ (read_diagram mode s n).diagram.root
    root_is = ap (λ (z : DiagramEnd). z.root) reads.answer

    pub size_is : y.nodes + 2 ≡ size (read_diagram mode s n).diagram
    size_is = ap (λ (z : DiagramEnd). z.nodes + 2) reads.answer

    pub sound_is : Sound n (read_diagram mode s n).diagram
    sound_is = diagram_accepted mode s n passed

    pub few_nodes : y.nodes ≤ 510
    few_nodes = omega (arith, size_is, sound_is.few)

    module _ (chart : n ≤ 1024) where
      abbrev d : Diagram
      d = (read_diagram mode s n).diagram

      filled : Filled d.nodes words'
      filled = accepted_filled mode s n passed chart words words' reads.table

      in_table : Held d (nodes_in words').step (nodes_in words').lo (nodes_in words').hi
      in_table = record { ordered = sound_is.ordered; few = sound_is.few; nodes = filled.held; marked = filled.marked }

      mark_at : (m : ℕ) → m < 2 → step_of (get_or words' m 0) ≡ MARK
      mark_at zero h = sym (step_at_lem words' 0) ∙ filled.marked.at_no
      mark_at (suc zero) h = sym (step_at_lem words' 1) ∙ filled.marked.at_yes
      mark_at (suc (suc m)) h = absurd (omega arith)

      pub operand_is : Operand (read_diagram mode s n).diagram words'
      operand_is = record {
        ordered = sound_is.ordered;
        few = sound_is.few;
        low = λ m h i. omega (arith, sound_is.exist m h i);
        leaf = mark_at;
        node = λ m h i. sym (held_inner d (nodes_in words').step (nodes_in words').lo (nodes_in words').hi in_table m h i ∙ rw (step_at_lem words' m, lo_at words' m, hi_at words' m));
      }

-- ---- the chart

module _ (chart : List ℕ) {r : Result ChartSizes (Stopped ChartSizes)} (answer : ChartAnswer (read_chart chart) r) where
  pub chart_fault : {x : Refused} → FoundIn Chart r (Err x) → FaultOf Chart (read_chart chart).number (read_chart chart).place x
  chart_fault found =
      let a = subst (ChartAnswer (read_chart chart)) found.1 answer in
      record {
        number_is = a.0 ∙ ap (λ (z : Refused). number z.refusal) (sym found.2);
        place_is = a.1 ∙ ap (λ (z : Refused). z.place) (sym found.2);
        file_is = ap (λ (z : Refused). z.file) (sym found.2);
      }

  module _ (x : ChartSizes) (is : r ≡ Ok x) where
    pub chart_passed : (read_chart chart).number ≡ 0
    chart_passed = (subst (ChartAnswer (read_chart chart)) is answer).0

    groups_is : x.groups ≡ group_count (read_chart chart).chart
    groups_is = ap (λ (z : ChartSizes). z.groups) (subst (ChartAnswer (read_chart chart)) is answer).2

    pub few_groups : x.groups ≤ 1024
    few_groups = omega (arith, groups_is, groups_few (read_chart chart).chart (chart_accepted chart chart_passed).0)

    pub few_count : group_count (read_chart chart).chart ≤ 1024
    few_count = omega (arith, groups_is, few_groups)

    -- a diagram is read for the groups of this chart
    pub over : {mode : Bool} {s words words' : List ℕ} {r : Result DiagramSizes (Stopped DiagramSizes)} → Reads mode s x.groups words words' r
        → Reads mode s (group_count (read_chart chart).chart) words words' r
    over {mode} {s} {words} {words'} {r} = subst (λ (n : ℕ). Reads mode s n words words' r) groups_is

    pub over_passed : {mode : Bool} {s words words' : List ℕ} {r : Result DiagramSizes (Stopped DiagramSizes)} → Reads mode s x.groups words words' r → {y : DiagramSizes} → r ≡ Ok y
        → Reads mode s (group_count (read_chart chart).chart) words words' (Ok y)
    over_passed {mode} {s} {words} {words'} {r} reads e =
        over (subst (Reads mode s x.groups words words') e reads)

-- ---- all checks

abbrev groups_in : List ℕ → ℕ
groups_in chart = group_count (read_chart chart).chart

module _ (chart rules more : List ℕ) (work : ℕ) {r : Result ChartSizes (Stopped ChartSizes)} (answer : ChartAnswer (read_chart chart) r) where
  pub chart_out : (left right : List ℕ) {x : Refused} → FoundIn Chart r (Err x) → LoadsTwo (load_two chart rules more work) work left right (Err x)
  chart_out left right {x} found =
      let f = chart_fault chart answer found in
      chart_refuses_two chart rules more work (refusing x f.number_is) ∙ as_refused f

  module _ {c : ChartSizes} (is-c : r ≡ Ok c) (words₁ left : List ℕ) {ry : Result DiagramSizes (Stopped DiagramSizes)} (first : Reads strict rules c.groups words₁ left ry) where
    passed-c : (read_chart chart).number ≡ 0
    passed-c = chart_passed chart answer c is-c

    pub rules_out : (right : List ℕ) {x : Refused} → FoundIn Rules ry (Err x) → LoadsTwo (load_two chart rules more work) work left right (Err x)
    rules_out right {x} found =
        let f = diagram_fault strict rules (groups_in chart) words₁ left (over chart answer c is-c first) found in
        rules_refuse_two chart rules more work passed-c (refusing x f.number_is) ∙ as_refused f

    module _ {y : DiagramSizes} (is-y : ry ≡ Ok y) (words₂ right : List ℕ) {rz : Result DiagramSizes (Stopped DiagramSizes)} (second : Reads strict more c.groups words₂ right rz) where
      reads-y : Reads strict rules (groups_in chart) words₁ left (Ok y)
      reads-y = over_passed chart answer c is-c first is-y

      passed-y : (rules_read chart rules).number ≡ 0
      passed-y = passed strict rules (groups_in chart) words₁ left y reads-y

      pub more_out : {x : Refused} → FoundIn More rz (Err x) → LoadsTwo (load_two chart rules more work) work left right (Err x)
      more_out {x} found =
          let f = diagram_fault strict more (groups_in chart) words₂ right (over chart answer c is-c second) found in
          more_refuses chart rules more work passed-c passed-y (refusing x f.number_is) ∙ as_refused f

      module _ {z : DiagramSizes} (is-z : rz ≡ Ok z) where
        reads-z : Reads strict more (groups_in chart) words₂ right (Ok z)
        reads-z = over_passed chart answer c is-c second is-z

        passed-z : (rules_read chart more).number ≡ 0
        passed-z = passed strict more (groups_in chart) words₂ right z reads-z

        need_is : (y.nodes + 2) * (z.nodes + 2) ≡ pair_need (rules_read chart rules).diagram (rules_read chart more).diagram
        need_is = ap₂ (λ (i j : ℕ). i * j) (size_is strict rules (groups_in chart) words₁ left y reads-y) (size_is strict more (groups_in chart) words₂ right z reads-z)

        pub space_out : work < (y.nodes + 2) * (z.nodes + 2) → LoadsTwo (load_two chart rules more work) work left right (Err (record { refusal = ShortSlice; file = None; place = 0 }))
        space_out h = pairs_refused chart rules more work passed-c passed-y passed-z (omega (arith, need_is))

        pub all_pass : (y.nodes + 2) * (z.nodes + 2) ≤ work → LoadsTwo (load_two chart rules more work) work left right
            (Ok (record { roots = record { first = y.root; second = z.root }; width = z.nodes + 2; pairs = (y.nodes + 2) * (z.nodes + 2) }))
        all_pass h = (
          (read_chart chart).chart,
          (rules_read chart rules).diagram,
          (rules_read chart more).diagram,
          ready_two_lem chart rules more work passed-c passed-y passed-z (omega (arith, need_is)),
          record {
            root_first = root_is strict rules (groups_in chart) words₁ left y reads-y;
            root_second = root_is strict more (groups_in chart) words₂ right z reads-z;
            wide = size_is strict more (groups_in chart) words₂ right z reads-z;
            needs = need_is;
            room = omega (arith, need_is);
            operand_first = operand_is strict rules (groups_in chart) words₁ left y reads-y (few_count chart answer c is-c);
            operand_second = operand_is strict more (groups_in chart) words₂ right z reads-z (few_count chart answer c is-c);
            sound_first = sound_is strict rules (groups_in chart) words₁ left y reads-y;
            sound_second = sound_is strict more (groups_in chart) words₂ right z reads-z;
          },
        )
