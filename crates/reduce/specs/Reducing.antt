-- A diagram and the one that always says yes stand in tables, as the walk asks; and one law for each way out of the code.
-- Assumes nothing.
use Rattle.std.specs.Prelude.{ℕ, ◌+◌, ◌*◌, ◌≤◌, ◌≡◌, refl, List, length, replicate, Some, Result, Ok, Err}
use Rattle.std.proofs.Common.{sym, ◌∙◌, ap, subst, arith}
use Rattle.std.proofs.lemmas.List.{get_or-replicate}
use borrow.Author.Tests.{le-ltb}
use Rattle.definitions.specs.Answers.{Load, refused, read_files, Filed}
use Rattle.definitions.specs.Bytes.{diagram_bytes}
use Rattle.definitions.specs.Charts.{read_chart, group_count}
use Rattle.definitions.specs.Diagrams.{Diagram, lenient}
use Rattle.definitions.specs.Promises.{written_answer, written_buffer, ReducePromise, ReduceCall}
use Rattle.definitions.specs.Reductions.{conjunction}
use Rattle.definitions.specs.declared.Answer.{Answer}
use Rattle.theory.specs.Basics.{pick_false}
use Rattle.theory.specs.Limits.{Sound}
use Rattle.fields.specs.declared.fault.Stopped.{Stopped}
use Rattle.chart.specs.Tables.{ChartAnswer}
use Rattle.chart.specs.declared.sizes.ChartSizes.{ChartSizes}
use Rattle.diagram_fields.specs.Words.{word_of, leaf, step_of}
use Rattle.diagram.specs.Files.{Reads}
use Rattle.diagram.specs.declared.reader.DiagramSizes.{DiagramSizes}
use Rattle.checks.specs.Outcome.{chart_refused_lem, rules_refused, files_passed}
use Rattle.checks.specs.Refusing.{file_mark, refused_as, FoundIn}
use Rattle.checks.specs.declared.answers.InFile.{InFile}
use Rattle.checks.specs.declared.answers.InFile.TheVariants.{Chart, Rules}
use Rattle.checks.specs.declared.answers.Refused.{Refused}
use Rattle.apply.specs.Operands.{Operand}
use Rattle.apply.specs.declared.operands.Operands.{Operands}
use Rattle.conjoin.specs.Joins.{Joinable, Joins}
use Rattle.conjoin.specs.Loads.{FaultOf, refusing, chart_fault, chart_passed, few_count, over, over_passed, diagram_fault, passed, root_is, size_is, sound_is, operand_is}
use Rattle.reductions.specs.Reductions.{always, always_sound, reduction_small, reduction_joined}
use Rattle.reductions.specs.Reduces.{rules_held}

-- what the checks give: the diagram that they read into the table, or the refusal
abbrev pub LoadsAs : List ℕ → List ℕ → List ℕ → List ℕ → Result DiagramSizes Refused → Type 0
LoadsAs chart rules words words' (Ok y) =
    ((read_chart chart).number ≡ 0) × (group_count (read_chart chart).chart ≤ 1024) × Reads lenient rules (group_count (read_chart chart).chart) words words' (Ok y)
LoadsAs chart rules words words' (Err x) = read_files lenient chart rules ≡ refused_as x

as_refused : {file : InFile} {n place : ℕ} {x : Refused} → FaultOf file n place x → refused n (file_mark (Some file)) place ≡ refused_as x
as_refused f = λ i. refused (f.number_is i) (file_mark (f.file_is i)) (f.place_is i)

module _ (chart rules : List ℕ) {r : Result ChartSizes (Stopped ChartSizes)} (answer : ChartAnswer (read_chart chart) r) where
  pub chart_out : (words words' : List ℕ) {x : Refused} → FoundIn Chart r (Err x) → LoadsAs chart rules words words' (Err x)
  chart_out words words' {x} found =
      let f = chart_fault chart answer found in
      chart_refused_lem lenient chart rules (refusing x f.number_is) ∙ as_refused f

  -- by what the diagram's file gives
  pub loaded : {c : ChartSizes} → r ≡ Ok c → {words words' : List ℕ} {ry : Result DiagramSizes (Stopped DiagramSizes)} → Reads lenient rules c.groups words words' ry
      → (o : Result DiagramSizes Refused) → FoundIn Rules ry o → LoadsAs chart rules words words' o
  loaded {c} is reads (Ok y) found = (chart_passed chart answer c is, few_count chart answer c is, over_passed chart answer c is reads found)
  loaded {c} is {words} {words'} reads (Err x) found =
      let f = diagram_fault lenient rules (group_count (read_chart chart).chart) words words' (over chart answer c is reads) found in
      rules_refused lenient chart rules (chart_passed chart answer c is) (refusing x f.number_is) ∙ as_refused f

-- the diagram that always says yes stands in a table of leaves
always_in : (w : ℕ) → w ≡ word_of leaf → Operand always (replicate 512 w)
always_in w e = record {
  ordered = (always_sound 0).ordered;
  few = omega arith;
  low = λ n h i. absurd (omega arith);
  leaf = λ n h. ap step_of (get_or-replicate {A = ℕ} 512 n w 0 (omega arith) ∙ e);
  node = λ n h i. absurd (omega arith);
}

module _ (chart rules words words' : List ℕ) (y : DiagramSizes) (loads : LoadsAs chart rules words words' (Ok y)) where
  abbrev d : Diagram
  d = (rules_held chart rules).diagram

  abbrev n : ℕ
  n = group_count (read_chart chart).chart

  sound : Sound n d
  sound = sound_is lenient rules n words words' y loads.2

  module _ (o : Operands) (is-left : o.left.now ≡ words') (w : ℕ) (leaf-is : w ≡ word_of leaf) (is-right : o.right.now ≡ replicate 512 w) (is-width : o.width ≡ 2)
      (work : List ℕ) (long : length work ≡ 1024) where
    -- what the walk asks
    pub asked : Joinable work o ((y.nodes + 2) * 2) (record { first = y.root; second = 1 })
    asked = record {
      groups = n;
      d = d;
      e = always;
      inside = record {
        first = subst (Operand d) (sym is-left) (operand_is lenient rules n words words' y loads.2 loads.1);
        second = subst (Operand always) (sym is-right) (always_in w leaf-is);
        wide = is-width;
        room = omega (arith, long, sound.few);
      };
      sound_first = sound;
      sound_second = always_sound n;
      root_first = root_is lenient rules n words words' y loads.2;
      root_second = refl;
      needs = omega (arith, size_is lenient rules n words words' y loads.2);
    }

    -- what comes of it: a reduction never has too many nodes
    pub reduced : (work' file file' : List ℕ) (r : Answer) → Joins asked file work' file' r → ReduceCall chart rules file file' r
    unfolding written_answer written_buffer asked
    reduced work' file file' r joins =
        let is = reduction_joined n d sound in
        let small = le-ltb 510 (length (conjunction n d always).nodes) (omega (arith, ap (λ (z : Diagram). length z.nodes) is, reduction_small n d sound, sound.few)) in
        let filed : Filed (diagram_bytes (conjunction n d always)) file file' r =
        record { answer = joins.answer ∙ pick_false _ _ _ small; buffer = joins.buffer ∙ pick_false _ _ _ small } in
        subst (λ (z : Load). ReducePromise z file file' r) (sym (files_passed lenient chart rules loads.0 (passed lenient rules n words words' y loads.2)))
        (subst (λ (z : Diagram). Filed (diagram_bytes z) file file' r) is filed)
