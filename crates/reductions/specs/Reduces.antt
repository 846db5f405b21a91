-- What a caller concludes from the promise of a call that reduces a file (`ReduceCall`), over the files, the buffer and the answer alone.
-- Assumes nothing.
use Rattle.std.specs.Prelude.{ℕ, ◌≤◌, ◌<◌, ◌≡◌, refl, List, length, drop}
use Rattle.std.proofs.Common.{sym, ◌∙◌, subst, arith}
use Rattle.definitions.specs.Answers.{Load, ready, refused, read_files, Filed}
use Rattle.definitions.specs.Bytes.{diagram_bytes}
use Rattle.definitions.specs.Charts.{read_chart, group_count}
use Rattle.definitions.specs.Diagrams.{Diagram, DiagramRead, lenient, read_diagram}
use Rattle.definitions.specs.Promises.{ReducePromise, ReduceCall}
use Rattle.definitions.specs.Reductions.{reduction}
use Rattle.definitions.specs.declared.Answer.{Answer}
use Rattle.theory.specs.Basics.{either, same_or_not}
use Rattle.checks.specs.Outcome.{chart_refused_lem, rules_refused, files_passed}
use Rattle.diagram.specs.Accepted.{diagram_accepted, strict_lenient}
use Rattle.field_writer.specs.Sizes.{diagram_long}
use Rattle.demands.specs.Demands.{Refusal, rules_read}
use Rattle.demands.specs.Results.{refusal_is}
use Rattle.demands.proofs.Numbers.{files_own, lenient_own}
use Rattle.reductions.specs.Reductions.{reduction_small}
use Rattle.reductions.specs.Written.{Written, filed_short, filed_written, filed_number, Ended, stops, filed_ended, ended_free, ended_left, ended_long, ended_rest}

-- a diagram file, of which padding is taken, read for the chart of the chart file
abbrev pub rules_held : List ℕ → List ℕ → DiagramRead
rules_held chart rules = read_diagram lenient rules (group_count (read_chart chart).chart)

module _ (chart rules : List ℕ) where
  -- both files are accepted, padding aside
  pub record Files : Type 0 where
    pub chart_passes : (read_chart chart).number ≡ 0
    pub rules_pass : (rules_held chart rules).number ≡ 0

  -- the reduction, and its file
  abbrev pub made : Diagram
  made = reduction (group_count (read_chart chart).chart) (rules_held chart rules).diagram

  abbrev pub bytes : List ℕ
  bytes = diagram_bytes made

  -- by the buffer before and after the call, and its answer
  pub record Reduces (out out' : List ℕ) (r : Answer) : Type 0 where
    -- the answer: the chart before the diagram, the buffer last
    pub chart_refused_lem : ((read_chart chart).number ≡ 0 → ⊥) → Refusal (read_chart chart).number 1 (read_chart chart).place 0 r
    pub rules_refused : (read_chart chart).number ≡ 0 → ((rules_held chart rules).number ≡ 0 → ⊥) → Refusal (rules_held chart rules).number 2 (rules_held chart rules).place 0 r
    pub buffer_short : Files → length out < length bytes → Refusal 7 0 0 0 r
    pub written : Files → length bytes ≤ length out → Written bytes out out' r
    pub no_cost : r.cost ≡ 0
    pub no_count : r.count ≡ 0
    -- the buffer: a refusal leaves it, and else what stands past the answer's length stays
    pub refused_length : (r.number ≡ 0 → ⊥) → r.length ≡ 0
    pub refused_file : (r.number ≡ 0 → ⊥) → out' ≡ out
    pub file_long : length out' ≡ length out
    pub file_rest : drop r.length out' ≡ drop r.length out

module _ (chart rules out out' : List ℕ) (r : Answer) (promise : ReduceCall chart rules out out' r) where
  by : {o : Load} → read_files lenient chart rules ≡ o → ReducePromise o out out' r
  by {o} e = subst (λ (x : Load). ReducePromise x out out' r) e promise

  -- refused by a check: the buffer stays
  stopped : (n f p : ℕ) → read_files lenient chart rules ≡ refused n f p → Refusal n f p 0 r × (out' ≡ out)
  stopped n f p e = let t = by e in (refusal_is n f p 0 r t.0, t.1)

  chart_bad : ((read_chart chart).number ≡ 0 → ⊥) → Refusal (read_chart chart).number 1 (read_chart chart).place 0 r × (out' ≡ out)
  chart_bad h = stopped _ _ _ (chart_refused_lem lenient chart rules h)

  rules_bad : (read_chart chart).number ≡ 0 → ((rules_held chart rules).number ≡ 0 → ⊥) → Refusal (rules_held chart rules).number 2 (rules_held chart rules).place 0 r × (out' ≡ out)
  rules_bad c h = stopped _ _ _ (rules_refused lenient chart rules c h)

  filed : Files chart rules → Filed (bytes chart rules) out out' r
  filed f = by (files_passed lenient chart rules f.chart_passes f.rules_pass)

  -- by which check the call is stopped, or that the files pass
  ends : Ended (bytes chart rules) out out' r
  ends =
      either (same_or_not (read_chart chart).number 0)
      (λ c. either (same_or_not (rules_held chart rules).number 0) (λ d. filed_ended _ out out' r (filed (record { chart_passes = c; rules_pass = d })))
      (λ h. let x = rules_bad c h in stops _ _ _ h x.0 x.1)) (λ h. let x = chart_bad h in stops _ _ _ h x.0 x.1)

  pub reduces : Reduces chart rules out out' r
  reduces = record {
    chart_refused_lem = λ h. (chart_bad h).0;
    rules_refused = λ c h. (rules_bad c h).0;
    buffer_short = λ f h. (filed_short (bytes chart rules) out out' r (filed f) h).0;
    written = λ f h. filed_written (bytes chart rules) out out' r (filed f) h;
    no_cost = (ended_free (bytes chart rules) out out' r ends).0;
    no_count = (ended_free (bytes chart rules) out out' r ends).1;
    refused_length = λ h. (ended_left (bytes chart rules) out out' r ends h).0;
    refused_file = λ h. (ended_left (bytes chart rules) out out' r ends h).1;
    file_long = ended_long (bytes chart rules) out out' r ends;
    file_rest = ended_rest (bytes chart rules) out out' r ends;
  }

  -- 8, 12 and 13 never come
  other_numbers : (o : Load) → read_files lenient chart rules ≡ o → (r.number ≡ 8 → ⊥) × (r.number ≡ 12 → ⊥) × (r.number ≡ 13 → ⊥)
  other_numbers (refused n f p) e =
      let x = (stopped n f p e).0 in
      let own = files_own lenient chart rules n f p e in
      (λ q. own.1 (sym x.number ∙ q), λ q. own.2 (sym x.number ∙ q), λ q. lenient_own chart rules n f p e (sym x.number ∙ q))
  other_numbers (ready c d) e =
      either (filed_number (diagram_bytes (reduction (group_count c) d)) out out' r (by e)) (λ z. (λ q. omega arith, λ q. omega arith, λ q. omega arith))
      (λ z. (λ q. omega arith, λ q. omega arith, λ q. omega arith))

  pub never_eight : r.number ≡ 8 → ⊥
  never_eight = (other_numbers (read_files lenient chart rules) refl).0

  pub never_large : r.number ≡ 12 → ⊥
  never_large = (other_numbers (read_files lenient chart rules) refl).1

  pub never_padded : r.number ≡ 13 → ⊥
  never_padded = (other_numbers (read_files lenient chart rules) refl).2

  -- and 7 not where 4,595 bytes are lent: a reduction has at most 510 nodes
  pub always_room : 4595 ≤ length out → r.number ≡ 7 → ⊥
  always_room h q =
      either (same_or_not (read_chart chart).number 0)
      (λ c. either (same_or_not (rules_held chart rules).number 0)
      (λ d. let f : Files chart rules = record { chart_passes = c; rules_pass = d } in
      let sound = diagram_accepted lenient rules (group_count (read_chart chart).chart) d in
      omega (arith, q, (filed_written (bytes chart rules) out out' r (filed f) (omega (arith, diagram_long (made chart rules), reduction_small _ _ sound, sound.few))).number))
      (λ b. (files_own lenient chart rules _ _ _ (rules_refused lenient chart rules c b)).0 (sym (rules_bad c b).0.number ∙ q)))
      (λ b. (files_own lenient chart rules _ _ _ (chart_refused_lem lenient chart rules b)).0 (sym (chart_bad b).0.number ∙ q))

-- a file that is accepted strictly holds the same diagram when padding is taken
pub held_strict : (chart rules : List ℕ) → (rules_read chart rules).number ≡ 0 → rules_held chart rules ≡ rules_read chart rules
held_strict chart rules = strict_lenient rules (group_count (read_chart chart).chart)
