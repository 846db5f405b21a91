-- One law for each part of the text: what its parts append, it appends.
-- Assumes nothing.
use Prim.Native.Nat.{ℕ, ◌≤◌, min}
use mathlib.Core.Path.{◌≡◌, sym, ◌∙◌, ap, subst}
use mathlib.Core.List.{List}
use borrow.Author.Tests.{eq-eqb, ne_eqb}
use lib.ListN.{length, take}
use Rattle.std.proofs.lemmas.List.{take_min}
use Rattle.definitions.specs.declared.Answer.{Answer}
use Rattle.theory.specs.Basics.{pick_true, pick_false}
use Rattle.buffer.specs.Appending.{Appended}
use Rattle.buffer.specs.Appends.{append_both, append_inside}
use Rattle.digits.specs.Decimal.{decimal}
use Rattle.report.specs.Text.{cost_word, settled_word, reached_word, refused_word, file_word, place_word, line_end}
use Rattle.report.specs.Text.{item, last_item, step_lines, plan_text, refused_text, report}

module _ {out o o' : List ℕ} {at r r' : ℕ} (h : at ≤ length out) where
  pub item_written : (word : List ℕ) (n : ℕ) → Appended out at word o r → Appended o r (decimal n) o' r' → Appended out at (item word n) o' r'
  unfolding item
  item_written word n p q = append_both h p q

  pub last_item_written : (word : List ℕ) (n : ℕ) → Appended out at (item word n) o r → Appended o r line_end o' r' → Appended out at (last_item word n) o' r'
  unfolding last_item
  last_item_written word n p q = append_both h p q

module _ {out a b c : List ℕ} {at r s t : ℕ} (h : at ≤ length out) where
  pub refused_written : (number file place : ℕ)
      → Appended out at (item refused_word number) a r → Appended a r (item file_word file) b s → Appended b s (last_item place_word place) c t
      → Appended out at (refused_text number file place) c t
  unfolding refused_text
  refused_written number file place p q w = append_both h p (append_both (append_inside h p) q w)

  pub plan_written : {d : List ℕ} {u : ℕ} (cost settled reached : ℕ) (steps : List ℕ)
      → Appended out at (last_item cost_word cost) a r → Appended a r (step_lines steps) b s
      → Appended b s (item settled_word settled) c t → Appended c t (last_item reached_word reached) d u
      → Appended out at (plan_text cost steps settled reached) d u
  unfolding plan_text
  plan_written {d} {u} cost settled reached steps p q w z =
      let first = append_inside h p in
      append_both h p (append_both first q (append_both (append_inside first q) w z))

-- ---- the whole

module _ {out o : List ℕ} {at r : ℕ} (guided : Answer) (plan : List ℕ) (sweep : Answer) where
  pub report_plan : (n : ℕ) → n ≡ min guided.length (length plan) → guided.number ≡ 0 → Appended out at (plan_text guided.cost (take n plan) guided.count sweep.count) o r
      → Appended out at (report guided plan sweep) o r
  unfolding report
  report_plan n q e p =
      subst (λ (z : List ℕ). Appended out at z o r)
      (ap (λ (steps : List ℕ). plan_text guided.cost steps guided.count sweep.count) (ap (λ (k : ℕ). take k plan) q ∙ take_min guided.length plan) ∙ sym (pick_true _ _ _ (eq-eqb _ _ e))) p

  pub report_refused : (guided.number ≡ 0 → ⊥) → Appended out at (refused_text guided.number guided.file guided.place) o r
      → Appended out at (report guided plan sweep) o r
  unfolding report
  report_refused e p = subst (λ (z : List ℕ). Appended out at z o r) (sym (pick_false _ _ _ (ne_eqb _ _ e))) p
