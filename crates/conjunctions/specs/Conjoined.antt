-- What a caller concludes from the promise of a call that conjoins two files (`ConjoinCall`), over the files, the lent slices and the answer alone.
-- Assumes nothing.
use Rattle.std.specs.Prelude.{ℕ, ◌*◌, ◌≤◌, ◌<◌, ◌≡◌, List, length, drop}
use Rattle.std.proofs.Common.{◌∙◌, ap, subst, arith}
use borrow.Author.Tests.{lt-ltb, le-ltb}
use Rattle.definitions.specs.Charts.{read_chart, group_count}
use Rattle.definitions.specs.Diagrams.{Diagram, size}
use Rattle.definitions.specs.Answers.{LoadTwo, refused_two, load_two, Filed}
use Rattle.definitions.specs.Bytes.{diagram_bytes}
use Rattle.definitions.specs.Promises.{written_answer, written_buffer, ConjoinSlices, ConjoinPromise, ConjoinCall}
use Rattle.definitions.specs.Reductions.{conjunction}
use Rattle.definitions.specs.declared.Answer.{Answer}
use Rattle.theory.specs.Basics.{pick_true, pick_false, either, lt_or_le, same_or_not}
use Rattle.demands.specs.Demands.{Refusal}
use Rattle.demands.specs.Results.{refusal_is}
use Rattle.reductions.specs.Written.{Written, filed_short, filed_written, Ended, stops as refused_by, filed_ended, ended_free, ended_left, ended_long, ended_rest}
use Rattle.conjunctions.specs.Loads.{rules_read, chart_refuses_two, rules_refuse_two, more_refuses, pairs_refused, ready_two_lem}

module _ (chart rules more : List ℕ) where
  -- all three files are accepted
  pub record Files : Type 0 where
    pub chart_passes : (read_chart chart).number ≡ 0
    pub rules_pass : (rules_read chart rules).number ≡ 0
    pub more_passes : (rules_read chart more).number ≡ 0

  -- the entries that the work slice needs, and the conjunction
  abbrev pub need : ℕ
  need = size (rules_read chart rules).diagram * size (rules_read chart more).diagram

  abbrev pub made : Diagram
  made = conjunction (group_count (read_chart chart).chart) (rules_read chart rules).diagram (rules_read chart more).diagram

  -- by the slices before and after the call, and its answer
  pub record Conjoined (before after : ConjoinSlices) (r : Answer) : Type 0 where
    -- the answer: the chart before the diagrams, these in turn, all before the work slice, then the count of nodes, and the buffer last
    pub chart_refused_lem : ((read_chart chart).number ≡ 0 → ⊥) → Refusal (read_chart chart).number 1 (read_chart chart).place 0 r
    pub rules_refused : (read_chart chart).number ≡ 0 → ((rules_read chart rules).number ≡ 0 → ⊥) → Refusal (rules_read chart rules).number 2 (rules_read chart rules).place 0 r
    pub more_refused : (read_chart chart).number ≡ 0 → (rules_read chart rules).number ≡ 0 → ((rules_read chart more).number ≡ 0 → ⊥)
        → Refusal (rules_read chart more).number 3 (rules_read chart more).place 0 r
    pub work_short : Files → length before.work < need → Refusal 7 0 0 0 r
    pub many_nodes : Files → need ≤ length before.work → 510 < length made.nodes → Refusal 12 0 0 0 r
    pub buffer_short : Files → need ≤ length before.work → length made.nodes ≤ 510 → length before.file < length (diagram_bytes made) → Refusal 7 0 0 0 r
    pub written : Files → need ≤ length before.work → length made.nodes ≤ 510 → length (diagram_bytes made) ≤ length before.file
        → Written (diagram_bytes made) before.file after.file r
    pub no_cost : r.cost ≡ 0
    pub no_count : r.count ≡ 0
    -- the buffer: a refusal leaves it, and else what stands past the answer's length stays
    pub refused_length : (r.number ≡ 0 → ⊥) → r.length ≡ 0
    pub refused_file : (r.number ≡ 0 → ⊥) → after.file ≡ before.file
    pub file_long : length after.file ≡ length before.file
    pub file_rest : drop r.length after.file ≡ drop r.length before.file
    -- the work slice: a refused file leaves it, and so does a call whose work slice is too short; else what stands past the need stays
    pub work_stays : (Files → need ≤ length before.work → ⊥) → after.work ≡ before.work
    pub work_long : length after.work ≡ length before.work
    pub work_rest : drop need after.work ≡ drop need before.work

-- ---- how a call ends

module _ (chart rules more : List ℕ) (before after : ConjoinSlices) (r : Answer) (promise : ConjoinCall chart rules more before after r) where
  abbrev made' : Diagram
  made' = made chart rules more

  abbrev bytes : List ℕ
  bytes = diagram_bytes made'

  -- refused by a check: both slices stay
  record Stopped (n f p : ℕ) : Type 0 where
    pub numbered : n ≡ 0 → ⊥
    pub answer : Refusal n f p 0 r
    pub file : after.file ≡ before.file
    pub work : after.work ≡ before.work

  stopped : (n f p : ℕ) → (n ≡ 0 → ⊥) → load_two chart rules more (length before.work) ≡ refused_two n f p → Stopped n f p
  stopped n f p z e =
      let t = subst (λ (o : LoadTwo). ConjoinPromise o before after r) e promise in
      record { numbered = z; answer = refusal_is n f p 0 r t.0; file = t.1; work = t.2 }

  -- passed: the diagram has too many nodes, or its file is written where the buffer has room
  data Ends : Type 0 where
    many : 510 < length made'.nodes → Refusal 12 0 0 0 r → after.file ≡ before.file → Ends
    some_file : length made'.nodes ≤ 510 → Filed bytes before.file after.file r → Ends

  record Passed : Type 0 where
    pub files : Files chart rules more
    pub fits : need chart rules more ≤ length before.work
    pub ends : Ends
    pub long : length after.work ≡ length before.work
    pub rest : drop (need chart rules more) after.work ≡ drop (need chart rules more) before.work

  ends_by : r ≡ written_answer made' (length before.file) → after.file ≡ written_buffer made' before.file → Ends
  unfolding written_answer written_buffer
  ends_by a b =
      either (lt_or_le 510 (length made'.nodes))
      (λ h. let t = lt-ltb 510 (length made'.nodes) h in many h (refusal_is 12 0 0 0 r (a ∙ pick_true _ _ _ t)) (b ∙ pick_true _ _ _ t))
      (λ h. let t = le-ltb 510 (length made'.nodes) h in some_file h (record { answer = a ∙ pick_false _ _ _ t; buffer = b ∙ pick_false _ _ _ t }))

  passed : Files chart rules more → need chart rules more ≤ length before.work → Passed
  passed f h =
      let o = ready_two_lem chart rules more (length before.work) f.chart_passes f.rules_pass f.more_passes h in
      let t = subst (λ (o : LoadTwo). ConjoinPromise o before after r) o promise in
      record { files = f; fits = h; ends = ends_by t.0 t.1; long = t.2; rest = t.3 }

  data Result : Type 0 where
    stops : (n f p : ℕ) → Stopped n f p → Result
    passes : Passed → Result

  chart_bad : ((read_chart chart).number ≡ 0 → ⊥) → Stopped (read_chart chart).number 1 (read_chart chart).place
  chart_bad h = stopped _ _ _ h (chart_refuses_two chart rules more (length before.work) h)

  rules_bad : (read_chart chart).number ≡ 0 → ((rules_read chart rules).number ≡ 0 → ⊥) → Stopped (rules_read chart rules).number 2 (rules_read chart rules).place
  rules_bad c h = stopped _ _ _ h (rules_refuse_two chart rules more (length before.work) c h)

  more_bad : (read_chart chart).number ≡ 0 → (rules_read chart rules).number ≡ 0 → ((rules_read chart more).number ≡ 0 → ⊥)
      → Stopped (rules_read chart more).number 3 (rules_read chart more).place
  more_bad c d h = stopped _ _ _ h (more_refuses chart rules more (length before.work) c d h)

  space_bad : Files chart rules more → length before.work < need chart rules more → Stopped 7 0 0
  space_bad f h = stopped 7 0 0 (λ z. omega arith) (pairs_refused chart rules more (length before.work) f.chart_passes f.rules_pass f.more_passes h)

  result : Result
  result =
      either (same_or_not (read_chart chart).number 0)
      (λ c. either (same_or_not (rules_read chart rules).number 0)
      (λ d. either (same_or_not (rules_read chart more).number 0) (λ e. space (record { chart_passes = c; rules_pass = d; more_passes = e }))
      (λ h. stops _ _ _ (more_bad c d h))) (λ h. stops _ _ _ (rules_bad c h))) (λ h. stops _ _ _ (chart_bad h))
    where
      space : Files chart rules more → Result
      space f = either (lt_or_le (length before.work) (need chart rules more)) (λ h. stops 7 0 0 (space_bad f h)) (λ h. passes (passed f h))

  -- ---- the answer

  many_nodes : Ends → 510 < length made'.nodes → Refusal 12 0 0 0 r
  many_nodes (many h a b) m = a
  many_nodes (some_file h f) m = absurd (omega arith)

  filed : Ends → length made'.nodes ≤ 510 → Filed bytes before.file after.file r
  filed (many h a b) m = absurd (omega arith)
  filed (some_file h f) m = f

  -- ---- what holds always: by a refusal, or by a file that was written

  over : Result → Ended bytes before.file after.file r
  over (stops n f p s) = refused_by n f p s.numbered s.answer s.file
  over (passes p) = go p.ends
    where
      go : Ends → Ended bytes before.file after.file r
      go (many h a b) = refused_by 12 0 0 (λ z. omega arith) a b
      go (some_file h f) = filed_ended bytes before.file after.file r f

  work_stays : Result → (Files chart rules more → need chart rules more ≤ length before.work → ⊥) → after.work ≡ before.work
  work_stays (stops n f p s) h = s.work
  work_stays (passes p) h = absurd (h p.files p.fits)

  work_rest : Result → (length after.work ≡ length before.work) × (drop (need chart rules more) after.work ≡ drop (need chart rules more) before.work)
  work_rest (stops n f p s) = (ap length s.work, ap (drop (need chart rules more)) s.work)
  work_rest (passes p) = (p.long, p.rest)

  abbrev end : Ended bytes before.file after.file r
  end = over result

  pub conjoined : Conjoined chart rules more before after r
  conjoined = record {
    chart_refused_lem = λ h. (chart_bad h).answer;
    rules_refused = λ c h. (rules_bad c h).answer;
    more_refused = λ c d h. (more_bad c d h).answer;
    work_short = λ f h. (space_bad f h).answer;
    many_nodes = λ f h. many_nodes (passed f h).ends;
    buffer_short = λ f h m i. (filed_short bytes before.file after.file r (filed (passed f h).ends m) i).0;
    written = λ f h m i. filed_written bytes before.file after.file r (filed (passed f h).ends m) i;
    no_cost = (ended_free bytes before.file after.file r end).0;
    no_count = (ended_free bytes before.file after.file r end).1;
    refused_length = λ h. (ended_left bytes before.file after.file r end h).0;
    refused_file = λ h. (ended_left bytes before.file after.file r end h).1;
    file_long = ended_long bytes before.file after.file r end;
    file_rest = ended_rest bytes before.file after.file r end;
    work_stays = work_stays result;
    work_long = (work_rest result).0;
    work_rest = (work_rest result).1;
  }
