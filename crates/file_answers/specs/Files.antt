-- Laws of a file in a lent buffer (`Filed` in `definitions`): what is answered and what the buffer then holds, where it is too short and where it is not.
-- Assumes nothing.
use Rattle.std.specs.Prelude.{ℕ, ◌≤◌, ◌<◌, ◌≡◌, List}
use Rattle.std.proofs.Math.Path.{sym}
use Rattle.std.proofs.Common.{◌∙◌, ap, lt-ltb, le-ltb}
use native.Mathlib.Omega.{arith}
use Rattle.std.proofs.Math.ListN.{length}
use Rattle.definitions.specs.Answers.{refusal, accepted, file_answer, file_buffer, Filed}
use Rattle.definitions.specs.declared.Answer.{Answer}
use Rattle.theory.specs.Basics.{pick_true, pick_false}
use Rattle.buffer.specs.Appending.{Appended}
use Rattle.buffer.specs.Appends.{append_front}

module _ (bytes room : ℕ) where
  pub answer_short : room < bytes → refusal 7 0 0 0 ≡ file_answer bytes room
  unfolding file_answer
  answer_short h = sym (pick_true _ _ _ (lt-ltb room bytes h))

  pub answer_whole : bytes ≤ room → accepted 0 bytes 0 ≡ file_answer bytes room
  unfolding file_answer
  answer_whole h = sym (pick_false _ _ _ (le-ltb room bytes h))

-- a call with this answer, for a file of so many bytes: it leaves a buffer that is too short as it was, or writes the file to the buffer's front
module _ (file out : List ℕ) (r : Answer) (bytes : ℕ) (long : length file ≡ bytes) (given : r ≡ file_answer bytes (length out)) where
  answer_is : r ≡ file_answer (length file) (length out)
  answer_is = given ∙ ap (λ (n : ℕ). file_answer n (length out)) (sym long)

  pub filed_short : length out < bytes → Filed file out out r
  unfolding file_buffer
  filed_short h = record { answer = answer_is; buffer = sym (pick_true _ _ _ (lt-ltb (length out) (length file) (omega arith))) }

  pub filed_whole : bytes ≤ length out → (out' : List ℕ) (end : ℕ) → Appended out 0 file out' end → Filed file out out' r
  unfolding file_buffer
  filed_whole h out' end w =
      let fits : length file ≤ length out = omega arith in
      record { answer = answer_is; buffer = append_front fits w ∙ sym (pick_false _ _ _ (le-ltb (length out) (length file) fits)) }
