-- The promise of a call that conjoins two files follows from what a caller concludes of it (`Conjoined`), so the two say the same, and a clause of either that is
-- lost or weakened is found here or in `Conjoined`.
-- Assumes nothing.
use Rattle.std.specs.Prelude.{ℕ, ◌≤◌, ◌≡◌, List, ◌↔◌, length}
use Rattle.std.proofs.Math.Path.{sym}
use Rattle.std.proofs.Common.{◌∙◌, subst, arith}
use borrow.Author.Tests.{lt-ltb, le-ltb}
use Rattle.definitions.specs.Charts.{read_chart}
use Rattle.definitions.specs.Answers.{LoadTwo, ready_two, refused_two, load_two}
use Rattle.definitions.specs.Bytes.{diagram_bytes}
use Rattle.definitions.specs.Promises.{written_answer, written_buffer, ConjoinSlices, ConjoinPromise, ConjoinCall}
use Rattle.definitions.specs.declared.Answer.{Answer}
use Rattle.theory.specs.Basics.{pick_true, pick_false, either, lt_or_le, same_or_not}
use Rattle.demands.specs.Demands.{Refusal}
use Rattle.reductions.specs.Written.{is_refusal, filed_by}
use Rattle.conjunctions.specs.Loads.{rules_read, chart_refuses_two, rules_refuse_two, more_refuses, pairs_refused, ready_two_lem}
use Rattle.conjunctions.specs.Conjoined.{Files, need, made, Conjoined, conjoined}

module _ (chart rules more : List ℕ) (before after : ConjoinSlices) (r : Answer) (t : Conjoined chart rules more before after r) where
  abbrev bytes : List ℕ
  bytes = diagram_bytes (made chart rules more)

  abbrev nodes : ℕ
  nodes = length (made chart rules more).nodes

  by : (o : LoadTwo) → load_two chart rules more (length before.work) ≡ o → ConjoinPromise o before after r → ConjoinCall chart rules more before after r
  by o e = subst (λ (x : LoadTwo). ConjoinPromise x before after r) (sym e)

  -- the buffer under a refusal
  kept : (n f p : ℕ) → (n ≡ 0 → ⊥) → Refusal n f p 0 r → after.file ≡ before.file
  kept n f p z a = t.refused_file (λ q. z (sym a.number ∙ q))

  stops : (n f p : ℕ) → (n ≡ 0 → ⊥) → Refusal n f p 0 r → (Files chart rules more → need chart rules more ≤ length before.work → ⊥)
      → load_two chart rules more (length before.work) ≡ refused_two n f p → ConjoinCall chart rules more before after r
  stops n f p z a h e = by (refused_two n f p) e (is_refusal n f p r a, kept n f p z a, t.work_stays h)

  module _ (f : Files chart rules more) (h : need chart rules more ≤ length before.work) where
    ends : (r ≡ written_answer (made chart rules more) (length before.file)) × (after.file ≡ written_buffer (made chart rules more) before.file)
    unfolding written_answer written_buffer
    ends =
        either (lt_or_le 510 nodes)
        (λ i. let a = t.many_nodes f h i in let x = lt-ltb 510 nodes i in
        (is_refusal 12 0 0 r a ∙ sym (pick_true _ _ _ x), kept 12 0 0 (λ z. omega arith) a ∙ sym (pick_true _ _ _ x)))
        (λ i. let x = le-ltb 510 nodes i in
        let filed = filed_by bytes before.file after.file r (λ j. let a = t.buffer_short f h i j in (a, kept 7 0 0 (λ z. omega arith) a)) (t.written f h i) in
        (filed.answer ∙ sym (pick_false _ _ _ x), filed.buffer ∙ sym (pick_false _ _ _ x)))

    passes : ConjoinCall chart rules more before after r
    passes =
        by (ready_two (read_chart chart).chart (rules_read chart rules).diagram (rules_read chart more).diagram)
        (ready_two_lem chart rules more (length before.work) f.chart_passes f.rules_pass f.more_passes h) (ends.0, ends.1, t.work_long, t.work_rest)

  pub converse : ConjoinCall chart rules more before after r
  converse =
      either (same_or_not (read_chart chart).number 0)
      (λ c. either (same_or_not (rules_read chart rules).number 0)
      (λ d. either (same_or_not (rules_read chart more).number 0) (λ e. space (record { chart_passes = c; rules_pass = d; more_passes = e }))
      (λ h. stops _ _ _ h (t.more_refused c d h) (λ f i. h f.more_passes) (more_refuses chart rules more (length before.work) c d h)))
      (λ h. stops _ _ _ h (t.rules_refused c h) (λ f i. h f.rules_pass) (rules_refuse_two chart rules more (length before.work) c h)))
      (λ h. stops _ _ _ h (t.chart_refused_lem h) (λ f i. h f.chart_passes) (chart_refuses_two chart rules more (length before.work) h))
    where
      space : Files chart rules more → ConjoinCall chart rules more before after r
      space f =
          either (lt_or_le (length before.work) (need chart rules more))
          (λ h. stops 7 0 0 (λ z. omega arith) (t.work_short f h) (λ g i. omega arith)
          (pairs_refused chart rules more (length before.work) f.chart_passes f.rules_pass f.more_passes h))
          (passes f)

pub equivalent : (chart rules more : List ℕ) (before after : ConjoinSlices) (r : Answer) → ConjoinCall chart rules more before after r ↔ Conjoined chart rules more before after r
equivalent chart rules more before after r = (conjoined chart rules more before after r, converse chart rules more before after r)
