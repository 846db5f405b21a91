-- How a call ends that writes a file into a lent buffer, over the buffer before and after (out') and the answer alone.
-- Assumes nothing.
use Rattle.std.specs.Prelude.{ℕ, ◌≤◌, ◌<◌, ◌≡◌, List, ◌++◌, ◌⊎◌, take, drop}
use Rattle.std.proofs.Math.Path.{sym, ap}
use Rattle.std.proofs.Common.{◌∙◌, ap₂, inl, inr, arith, length-append, length-drop}
use Rattle.std.proofs.Math.ListN.{length}
use Rattle.std.proofs.Math.Seq.{drop-append_seam, take-append_seam}
use borrow.Author.Tests.{lt-ltb, le-ltb}
use Rattle.definitions.specs.Answers.{refusal, accepted, file_answer, file_buffer, Filed}
use Rattle.definitions.specs.declared.Answer.{Answer}
use Rattle.theory.specs.Basics.{pick_true, pick_false, either, lt_or_le}
use Rattle.demands.specs.Demands.{Refusal}
use Rattle.demands.specs.Results.{refusal_is}

-- the answer of a call that wrote the file s: it stands at the buffer's front
pub record Written (s out out' : List ℕ) (r : Answer) : Type 0 where
  pub buffer : out' ≡ s ++ drop (length s) out
  pub number : r.number ≡ 0
  pub file : r.file ≡ 0
  pub place : r.place ≡ 0
  pub cost : r.cost ≡ 0
  pub length : r.length ≡ length s
  pub count : r.count ≡ 0

-- ---- an answer, by its parts and whole

pub is_refusal : (n f p : ℕ) (r : Answer) → Refusal n f p 0 r → r ≡ refusal n f p 0
is_refusal n f p r t =
    λ i. record { number = t.number i; file = t.file i; place = t.place i; cost = t.cost i; length = t.length i; count = t.count i }

-- ---- a file after every other check: 7, or it is written

module _ (s out out' : List ℕ) (r : Answer) where
  is_accepted : Written s out out' r → r ≡ accepted 0 (length s) 0
  is_accepted t =
      λ i. record { number = t.number i; file = t.file i; place = t.place i; cost = t.cost i; length = t.length i; count = t.count i }

  pub filed_short : Filed s out out' r → length out < length s → Refusal 7 0 0 0 r × (out' ≡ out)
  unfolding file_answer file_buffer
  filed_short f h = let u = lt-ltb (length out) (length s) h in (refusal_is 7 0 0 0 r (f.answer ∙ pick_true _ _ _ u), f.buffer ∙ pick_true _ _ _ u)

  pub filed_written : Filed s out out' r → length s ≤ length out → Written s out out' r
  unfolding file_answer file_buffer
  filed_written f h =
      let u = le-ltb (length out) (length s) h in
      let e : r ≡ accepted 0 (length s) 0 = f.answer ∙ pick_false _ _ _ u in
      record {
        buffer = f.buffer ∙ pick_false _ _ _ u;
        number = ap (λ (x : Answer). x.number) e;
        file = ap (λ (x : Answer). x.file) e;
        place = ap (λ (x : Answer). x.place) e;
        cost = ap (λ (x : Answer). x.cost) e;
        length = ap (λ (x : Answer). x.length) e;
        count = ap (λ (x : Answer). x.count) e;
      }

  pub filed_number : Filed s out out' r → (r.number ≡ 0) ⊎ (r.number ≡ 7)
  filed_number f = either (lt_or_le (length out) (length s)) (λ h. inr (filed_short f h).0.number) (λ h. inl (filed_written f h).number)

  -- and back
  pub filed_by : (length out < length s → Refusal 7 0 0 0 r × (out' ≡ out)) → (length s ≤ length out → Written s out out' r) → Filed s out out' r
  unfolding file_answer file_buffer
  filed_by short written =
      either (lt_or_le (length out) (length s))
      (λ h. let x = short h in let u = lt-ltb (length out) (length s) h in
      record { answer = is_refusal 7 0 0 r x.0 ∙ sym (pick_true _ _ _ u); buffer = x.1 ∙ sym (pick_true _ _ _ u) })
      (λ h. let w = written h in let u = le-ltb (length out) (length s) h in
      record { answer = is_accepted w ∙ sym (pick_false _ _ _ u); buffer = w.buffer ∙ sym (pick_false _ _ _ u) })

  -- ---- what holds however it ends

  pub data Ended : Type 0 where
    stops : (n f p : ℕ) → (n ≡ 0 → ⊥) → Refusal n f p 0 r → out' ≡ out → Ended
    fills : length s ≤ length out → Written s out out' r → Ended

  pub filed_ended : Filed s out out' r → Ended
  filed_ended f =
      either (lt_or_le (length out) (length s)) (λ h. let x = filed_short f h in stops 7 0 0 (λ z. omega arith) x.0 x.1) (λ h. fills h (filed_written f h))

  pub ended_free : Ended → (r.cost ≡ 0) × (r.count ≡ 0)
  ended_free (stops n f p z a b) = (a.cost, a.count)
  ended_free (fills h w) = (w.cost, w.count)

  pub ended_left : Ended → (r.number ≡ 0 → ⊥) → (r.length ≡ 0) × (out' ≡ out)
  ended_left (stops n f p z a b) h = (a.length, b)
  ended_left (fills s w) h = absurd (h w.number)

  pub ended_long : Ended → length out' ≡ length out
  ended_long (stops n f p z a b) = ap length b
  ended_long (fills h w) = omega (arith, ap length w.buffer, length-append s (drop (length s) out), length-drop (length s) out)

  pub ended_rest : Ended → drop r.length out' ≡ drop r.length out
  ended_rest (stops n f p z a b) = ap (drop r.length) b
  ended_rest (fills h w) =
      ap₂ drop w.length w.buffer ∙ drop-append_seam s (drop (length s) out) ∙ ap (λ (k : ℕ). drop k out) (sym w.length)

  -- the bytes that a caller takes for the file are the file
  pub written_is : Written s out out' r → take r.length out' ≡ s
  written_is w = ap₂ take w.length w.buffer ∙ take-append_seam s (drop (length s) out)
