-- How many digits a number has.
-- Assumes nothing.
use Rattle.std.specs.Prelude.{ℕ, zero, suc, ◌*◌, ◌/◌, ◌%◌, ◌≤◌, ◌<◌, ◌≡◌, refl, [], ◌∷◌, ◌++◌, ltb, length}
use Rattle.std.proofs.Common.{ap, arith, lt-ltb, le-ltb, length-append}
use Rattle.theory.specs.Basics.{pick_true, pick_false, either, lt_or_le}
use Rattle.digits.specs.Decimal.{digit, digits_in, decimal}

digits_none : (n : ℕ) → digits_in zero n ≡ []
unfolding digits_in
digits_none n = refl

-- a number below 10 is one digit
pub digits_one : (k n : ℕ) → n < 10 → digits_in (suc k) n ≡ digit n ∷ []
unfolding digits_in
digits_one k n h = pick_true (ltb n 10) (digit n ∷ []) (digits_in k (n / 10) ++ (digit (n % 10) ∷ [])) (lt-ltb n 10 h)

pub digits_more : (k n : ℕ) → 10 ≤ n → digits_in (suc k) n ≡ digits_in k (n / 10) ++ (digit (n % 10) ∷ [])
unfolding digits_in
digits_more k n h = pick_false (ltb n 10) (digit n ∷ []) (digits_in k (n / 10) ++ (digit (n % 10) ∷ [])) (le-ltb n 10 h)

-- 10 to the power k
abbrev pub tens : ℕ → ℕ
tens zero = 1
tens (suc k) = 10 * tens k

-- a number below 10 to the power k + 1 has at most k + 1 digits
digits_few : (k f n : ℕ) → n < tens (suc k) → length (digits_in f n) ≤ suc k
digits_few k zero n h = omega (arith, ap length (digits_none n))
digits_few zero (suc f) n h = omega (arith, ap length (digits_one f n (omega arith)))
digits_few (suc k) (suc f) n h =
    either (lt_or_le n 10)
    (λ (l : n < 10). omega (arith, ap length (digits_one f n l)))
    (λ (l : 10 ≤ n). omega (
      arith,
      ap length (digits_more f n l),
      length-append (digits_in f (n / 10)) (digit (n % 10) ∷ []),
      digits_few k f (n / 10) (omega arith),
    ))

pub decimal_few : (k n : ℕ) → n < tens (suc k) → length (decimal n) ≤ suc k
unfolding decimal
decimal_few k n h = digits_few k (suc n) n h
