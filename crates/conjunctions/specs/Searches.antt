-- The file that a call wrote (`ConjoinCall`), as later calls find it: it is that of the conjunction, it is accepted over the same chart, and a search on it finds a
-- cheapest plan among those that both diagrams allow.
-- Assumes nothing.
use Rattle.std.specs.Prelude.{ℕ, ◌≤◌, ◌≡◌, refl, List, length, take}
use Rattle.std.proofs.Common.{sym, ◌∙◌, ap, subst, arith}
use Rattle.std.proofs.Math.Option.{Option, none, some}
use Rattle.definitions.specs.Charts.{Chart, read_chart, group_count}
use Rattle.definitions.specs.Diagrams.{Diagram, strict, DiagramRead}
use Rattle.definitions.specs.Ways.{way_cost}
use Rattle.definitions.specs.Plans.{graph, Legal, cheapest}
use Rattle.definitions.specs.Answers.{Load, ready, read_files, refusal}
use Rattle.definitions.specs.Bytes.{diagram_bytes}
use Rattle.definitions.specs.Promises.{Outcome, Swept, Guided, SweepSlices, sweep_load, SweepCall, GuidedSlices, guided_load, GuidedCall, ConjoinSlices, ConjoinCall}
use Rattle.definitions.specs.declared.Answer.{Answer}
use Rattle.theory.specs.Basics.{either, lt_or_le, same_or_not}
use Rattle.theory.specs.Least.{IsLeast}
use Rattle.theory.specs.Limits.{Sound, Valid}
use Rattle.chart.specs.Accepted.{chart_accepted}
use Rattle.diagram.specs.Accepted.{diagram_accepted}
use Rattle.checks.specs.Outcome.{files_passed, load_ready}
use Rattle.reductions.specs.Written.{Written, written_is as taken_is}
use Rattle.conjunctions.specs.Conjunctions.{AllowedCost, joint, conjunction_legal, conjunction_cheapest, conjunction_read}
use Rattle.conjunctions.specs.Loads.{rules_read}
use Rattle.conjunctions.specs.Conjoined.{Files, need, made, Conjoined, conjoined}

-- ---- a search under the conjunction of two diagrams

-- w is a plan that both allow, it costs m, and none that both allow is cheaper
pub record Chosen (c : Chart) (d e : Diagram) (w : List ℕ) (m : ℕ) : Type 0 where
  pub first_allows : Legal c d w
  pub second_allows : Legal c e w
  pub costs : way_cost (graph c) w ≡ m
  pub least : (v : List ℕ) → Legal c d v → Legal c e v → m ≤ way_cost (graph c) v

-- the answer and the plan slice after the call: such a plan, or 8 where both allow none, or 7 for want of space
pub record Answered (c : Chart) (d e : Diagram) (plan' : List ℕ) (r : Answer) : Type 0 where
  pub given : r.number ≡ 0 → Chosen c d e (take r.length plan') r.cost
  pub eight : r.number ≡ 8 → (w : List ℕ) → Legal c d w → Legal c e w → ⊥
  pub else_short : (r.number ≡ 0 → ⊥) → (r.number ≡ 8 → ⊥) → r.number ≡ 7

module _ (c : Chart) (d e : Diagram) (p : Sound (group_count c) d) (q : Sound (group_count c) e) (v : Valid (graph c)) where
  module _ (k : ℕ) (plan plan' : List ℕ) (r : Answer) where
    by_best : (best : Option ℕ) → IsLeast (AllowedCost c d e) best → Outcome best c (joint c d e) k plan plan' r → Answered c d e plan' r
    by_best none l o =
        let n : r.number ≡ 8 = ap (λ (a : Answer). a.number) o.0 in
        record { given = λ z. absurd (omega arith); eight = λ z w f s. l (way_cost (graph c) w) (w, (f, s), refl); else_short = λ z i. absurd (i n) }
    by_best (some m) l o =
        let n : r.number ≡ 0 = ap (λ (a : Answer). a.number) o.0 in
        let m' : r.cost ≡ m = ap (λ (a : Answer). a.cost) o.0 in
        let x = conjunction_legal c d e p q (take r.length plan') o.1.legal in
        record {
          given = λ z. record {
            first_allows = x.0;
            second_allows = x.1;
            costs = o.1.costs ∙ sym m';
            least = λ w f s. omega (arith, m', l.1 (way_cost (graph c) w) (w, (f, s), refl));
          };
          eight = λ z. absurd (omega arith);
          else_short = λ z i. absurd (z n);
        }

    pub outcome_answered : Outcome (cheapest c (joint c d e)) c (joint c d e) k plan plan' r → Answered c d e plan' r
    outcome_answered = by_best (cheapest c (joint c d e)) (conjunction_cheapest c d e p q v)

short_answered : (c : Chart) (d e : Diagram) (plan' : List ℕ) (r : Answer) → r ≡ refusal 7 0 0 0 → Answered c d e plan' r
short_answered c d e plan' r t =
    let n : r.number ≡ 7 = ap (λ (a : Answer). a.number) t in
    record { given = λ z. absurd (omega arith); eight = λ z. absurd (omega arith); else_short = λ z i. n }

-- ---- the file that was written

module _ (chart rules more : List ℕ) (before after : ConjoinSlices) (r : Answer) (promise : ConjoinCall chart rules more before after r) (passed : r.number ≡ 0) where
  abbrev c : Chart
  c = (read_chart chart).chart

  abbrev d : Diagram
  d = (rules_read chart rules).diagram

  abbrev e : Diagram
  e = (rules_read chart more).diagram

  -- the bytes that a caller takes for the file
  abbrev pub written_file : List ℕ
  written_file = take r.length after.file

  record Passed : Type 0 where
    pub files : Files chart rules more
    pub few : length (made chart rules more).nodes ≤ 510
    pub written : Written (diagram_bytes (made chart rules more)) before.file after.file r

  all_passed : Conjoined chart rules more before after r → Passed
  all_passed t =
      either (same_or_not (read_chart chart).number 0)
      (λ i. either (same_or_not (rules_read chart rules).number 0)
      (λ j. either (same_or_not (rules_read chart more).number 0) (λ k. rest (record { chart_passes = i; rules_pass = j; more_passes = k }))
      (λ h. absurd (h (sym (t.more_refused i j h).number ∙ passed)))) (λ h. absurd (h (sym (t.rules_refused i h).number ∙ passed))))
      (λ h. absurd (h (sym (t.chart_refused_lem h).number ∙ passed)))
    where
      rest : Files chart rules more → Passed
      rest f =
          either (lt_or_le (length before.work) (need chart rules more)) (λ h. absurd (omega (arith, (t.work_short f h).number, passed)))
          (λ h. either (lt_or_le 510 (length (made chart rules more).nodes)) (λ i. absurd (omega (arith, (t.many_nodes f h i).number, passed)))
          (λ i. either (lt_or_le (length before.file) (length (diagram_bytes (made chart rules more))))
          (λ j. absurd (omega (arith, (t.buffer_short f h i j).number, passed))) (λ j. record { files = f; few = i; written = t.written f h i j })))

  facts : Passed
  facts = all_passed (conjoined chart rules more before after r promise)

  -- it is the file of the conjunction
  pub written_is : written_file ≡ diagram_bytes (made chart rules more)
  written_is = taken_is (diagram_bytes (made chart rules more)) before.file after.file r facts.written

  written_read : rules_read chart written_file ≡ record { number = 0; place = 0; diagram = made chart rules more }
  written_read = ap (rules_read chart) written_is ∙ conjunction_read (group_count c) d e facts.few strict

  -- the checks of every search accept it, with the same chart
  pub written_ready : read_files strict chart written_file ≡ ready c (made chart rules more)
  written_ready =
      files_passed strict chart written_file facts.files.chart_passes (ap (λ (x : DiagramRead). x.number) written_read)
      ∙ ap (λ (x : DiagramRead). ready c x.diagram) written_read

  sound_rules : Sound (group_count c) d
  sound_rules = diagram_accepted strict rules (group_count c) facts.files.rules_pass

  sound_more : Sound (group_count c) e
  sound_more = diagram_accepted strict more (group_count c) facts.files.more_passes

  valid : Valid (graph c)
  valid = (chart_accepted chart facts.files.chart_passes).0

  -- so both searches find on it what both diagrams allow
  pub sweep_answered : (lent lent' : SweepSlices) (s : Answer) → SweepCall chart written_file lent lent' s → Answered c d e lent'.plan s
  sweep_answered lent lent' s t =
      either (load_ready chart written_file c (made chart rules more) written_ready _ _)
      (λ o. outcome_answered c d e sound_rules sound_more valid _ lent.plan lent'.plan s (by o).0)
      (λ o. short_answered c d e lent'.plan s (by o.1).0)
    where
      by : {o : Load} → sweep_load chart written_file lent ≡ o → Swept o lent.plan lent'.plan lent.cost lent'.cost s
      by {o} q = subst (λ (x : Load). Swept x lent.plan lent'.plan lent.cost lent'.cost s) q t.swept

  pub guided_answered : (given given' : GuidedSlices) (s : Answer) → GuidedCall chart written_file given given' s → Answered c d e given'.plan s
  guided_answered given given' s t =
      either (load_ready chart written_file c (made chart rules more) written_ready _ _)
      (λ o. outcome_answered c d e sound_rules sound_more valid _ given.plan given'.plan s (by o).0)
      (λ o. short_answered c d e given'.plan s (by o.1).0)
    where
      by : {o : Load} → guided_load chart written_file given ≡ o → Guided o given.plan given'.plan given.log given'.log s
      by {o} q = subst (λ (x : Load). Guided x given.plan given'.plan given.log given'.log s) q t.guided
