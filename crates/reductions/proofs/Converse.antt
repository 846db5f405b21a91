-- The promise of a call that reduces a file follows from what a caller concludes of it (`Reduces`), so the two say the same, and a clause of either that is lost or
-- weakened is found here or in `Reduces`.
-- Assumes nothing.
use Rattle.std.specs.Prelude.{ℕ, ◌≡◌, List, ◌↔◌}
use Rattle.std.proofs.Common.{sym, ◌∙◌, subst, arith}
use Rattle.definitions.specs.Answers.{Load, ready, refused, read_files}
use Rattle.definitions.specs.Charts.{read_chart}
use Rattle.definitions.specs.Diagrams.{lenient}
use Rattle.definitions.specs.Promises.{ReducePromise, ReduceCall}
use Rattle.definitions.specs.declared.Answer.{Answer}
use Rattle.theory.specs.Basics.{either, same_or_not}
use Rattle.checks.specs.Outcome.{chart_refused_lem, rules_refused, files_passed}
use Rattle.demands.specs.Demands.{Refusal}
use Rattle.reductions.specs.Written.{is_refusal, filed_by}
use Rattle.reductions.specs.Reduces.{rules_held, bytes, Files, Reduces, reduces}

module _ (chart rules out out' : List ℕ) (r : Answer) (t : Reduces chart rules out out' r) where
  by : (o : Load) → read_files lenient chart rules ≡ o → ReducePromise o out out' r → ReduceCall chart rules out out' r
  by o e = subst (λ (x : Load). ReducePromise x out out' r) (sym e)

  -- the buffer under a refusal
  kept : (n f p : ℕ) → (n ≡ 0 → ⊥) → Refusal n f p 0 r → out' ≡ out
  kept n f p z a = t.refused_file (λ q. z (sym a.number ∙ q))

  stops : (n f p : ℕ) → (n ≡ 0 → ⊥) → Refusal n f p 0 r → read_files lenient chart rules ≡ refused n f p → ReduceCall chart rules out out' r
  stops n f p z a e = by (refused n f p) e (is_refusal n f p r a, kept n f p z a)

  passes : Files chart rules → ReduceCall chart rules out out' r
  passes f =
      by (ready (read_chart chart).chart (rules_held chart rules).diagram) (files_passed lenient chart rules f.chart_passes f.rules_pass)
      (filed_by (bytes chart rules) out out' r (λ h. let a = t.buffer_short f h in (a, kept 7 0 0 (λ z. omega arith) a)) (t.written f))

  pub converse : ReduceCall chart rules out out' r
  converse =
      either (same_or_not (read_chart chart).number 0)
      (λ c. either (same_or_not (rules_held chart rules).number 0) (λ d. passes (record { chart_passes = c; rules_pass = d }))
      (λ h. stops _ _ _ h (t.rules_refused c h) (rules_refused lenient chart rules c h))) (λ h. stops _ _ _ h (t.chart_refused_lem h) (chart_refused_lem lenient chart rules h))

pub equivalent : (chart rules out out' : List ℕ) (r : Answer) → ReduceCall chart rules out out' r ↔ Reduces chart rules out out' r
equivalent chart rules out out' r = (reduces chart rules out out' r, converse chart rules out out' r)
