-- How long a text can be, by the widths of its numbers and the length of the plan slice.
-- Assumes nothing.
use Rattle.std.specs.Prelude.{ℕ, zero, suc, ◌+◌, ◌*◌, ◌≤◌, ◌<◌, refl, List, [], ◌∷◌, ◌++◌, eqb, length, get_or, take}
use Rattle.std.proofs.Common.{ap, arith, length-append}
use Rattle.definitions.specs.declared.Answer.{Answer}
use Rattle.theory.specs.Basics.{pick_cases, either}
use Rattle.digits.specs.Decimal.{decimal}
use Rattle.digits.specs.Lengths.{tens, decimal_few}
use Rattle.report.specs.Text.{item, last_item, cost_word, step_word, settled_word, reached_word, refused_word, file_word, place_word, step_lines, plan_text, refused_text, report}

item_few : (k : ℕ) (word : List ℕ) (n : ℕ) → n < tens (suc k) → length (item word n) ≤ length word + suc k
unfolding item
item_few k word n h = omega (arith, length-append word (decimal n), decimal_few k n h)

last_item_few : (k : ℕ) (word : List ℕ) (n : ℕ) → n < tens (suc k) → length (last_item word n) ≤ length word + suc k + 1
unfolding last_item
last_item_few k word n h = omega (arith, length-append (item word n) (10 ∷ []), item_few k word n h)

-- 11 bytes for each step of 16 bits
steps_few : (l : ℕ) (plan : List ℕ) → ((k : ℕ) → get_or plan k 0 < 65536) → length (step_lines (take l plan)) ≤ 11 * length plan
steps_few zero plan h = omega arith
steps_few (suc l) [] h = omega arith
steps_few (suc l) (x ∷ plan) h =
    omega (
      arith,
      length-append (last_item step_word x) (step_lines (take l plan)),
      last_item_few 4 step_word x (omega (arith, h 0)),
      steps_few l plan (λ k. h (suc k)),
    )

-- an answer's numbers are as wide as its fields
pub record Narrow (a : Answer) : Type 0 where
  pub number : a.number < 4294967296
  pub file : a.file < 4294967296
  pub place : a.place < 18446744073709551616
  pub cost : a.cost < 4294967296
  pub count : a.count < 18446744073709551616

plan_few : (cost settled reached l : ℕ) (plan : List ℕ) → cost < 4294967296 → settled < 18446744073709551616 → reached < 18446744073709551616
    → ((k : ℕ) → get_or plan k 0 < 65536) → length (plan_text cost (take l plan) settled reached) ≤ 74 + 11 * length plan
unfolding plan_text
plan_few cost settled reached l plan hc hs hr h =
    omega (
      arith,
      length-append (last_item cost_word cost) (step_lines (take l plan) ++ (item settled_word settled ++ last_item reached_word reached)),
      length-append (step_lines (take l plan)) (item settled_word settled ++ last_item reached_word reached),
      length-append (item settled_word settled) (last_item reached_word reached),
      last_item_few 9 cost_word cost (omega arith),
      steps_few l plan h,
      item_few 19 settled_word settled (omega arith),
      last_item_few 19 reached_word reached (omega arith),
    )

refused_few : (number file place : ℕ) → number < 4294967296 → file < 4294967296 → place < 18446744073709551616 → length (refused_text number file place) ≤ 74
unfolding refused_text
refused_few number file place hn hf hp =
    omega (
      arith,
      length-append (item refused_word number) (item file_word file ++ last_item place_word place),
      length-append (item file_word file) (last_item place_word place),
      item_few 9 refused_word number (omega arith),
      item_few 9 file_word file (omega arith),
      last_item_few 19 place_word place (omega arith),
    )

pub report_short : (guided sweep : Answer) (plan : List ℕ) → Narrow guided → Narrow sweep → ((k : ℕ) → get_or plan k 0 < 65536)
    → length (report guided plan sweep) ≤ 74 + 11 * length plan
unfolding report
report_short guided sweep plan g s h =
    either (pick_cases (eqb guided.number 0) _ _ (report guided plan sweep) refl)
    (λ x. omega (arith, ap length x.1, plan_few guided.cost guided.count sweep.count guided.length plan g.cost g.count s.count h))
    (λ x. omega (arith, ap length x.1, refused_few guided.number guided.file guided.place g.number g.file g.place))
