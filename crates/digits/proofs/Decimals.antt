-- Laws of `decimal`: the last digit and those before it, and the loop that writes them from the back.
-- Assumes nothing.
use Prim.Native.Nat.{ℕ, zero, suc, ◌+◌, ◌-◌, ◌*◌, ◌/◌, ◌%◌, ◌≤◌, ◌<◌}
use mathlib.Core.Path.{◌≡◌, refl, sym, ◌∙◌, ap, ap₂, subst}
use mathlib.Core.List.{List, [], ◌∷◌, ◌++◌, append_assoc, append-nil}
use native.Mathlib.Omega.{arith}
use native.Mathlib.Decide.{dec_lt}
use lib.ListN.{length, take, drop, set, replicate, length-set, length-drop}
use lib.Seq.{drop-cons, drop-set-lt, get_or-set_same, take_all}
use Rattle.buffer.specs.Appending.{Appended}
use Rattle.digits.specs.Decimal.{digit, digits_in, decimal}
use Rattle.digits.specs.Lengths.{tens, digits_one, digits_more}

-- any bound above the number gives the same digits
digits_same : (k m n : ℕ) → n < k → n < m → digits_in k n ≡ digits_in m n
digits_same zero m n h g = absurd (omega arith)
digits_same (suc k) zero n h g = absurd (omega arith)
digits_same (suc k) (suc m) n h g = go (dec_lt n 10) (digits_same k m (n / 10))
  where
    go : Dec (n < 10) → (n / 10 < k → n / 10 < m → digits_in k (n / 10) ≡ digits_in m (n / 10)) → digits_in (suc k) n ≡ digits_in (suc m) n
    go (yes l) f = digits_one k n l ∙ sym (digits_one m n l)
    go (no l) f =
        digits_more k n (omega arith)
        ∙ ap (λ (z : List ℕ). z ++ (digit (n % 10) ∷ [])) (f (omega arith) (omega arith))
        ∙ sym (digits_more m n (omega arith))

pub decimal_one : (n : ℕ) → n < 10 → decimal n ≡ digit n ∷ []
unfolding decimal
decimal_one n h = digits_one n n h

pub decimal_more : (n : ℕ) → 10 ≤ n → decimal n ≡ decimal (n / 10) ++ (digit (n % 10) ∷ [])
unfolding decimal
decimal_more n h = digits_more n n h ∙ ap (λ (z : List ℕ). z ++ (digit (n % 10) ∷ [])) (digits_same n (suc (n / 10)) (n / 10) (omega arith) (omega arith))

-- ---- the loop that writes the digits from the back of 20 bytes

-- the digits of n are those of what is left and then the bytes from `first` on; what is left has at most `first` digits
pub record Spelled (n : ℕ) (digits : List ℕ) (first left : ℕ) : Type 0 where
  pub same : decimal n ≡ decimal left ++ drop first digits
  pub long : length digits ≡ 20
  pub some : 1 ≤ first
  pub inside : first ≤ 20
  pub bound : left < tens first

-- a byte stored in front of the bytes from suc i on
stored : (d : List ℕ) (i v : ℕ) → i < length d → drop i (set d i v) ≡ v ∷ drop (suc i) d
stored d i v h =
    drop-cons (set d i v) i 0 (omega (arith, length-set d i v))
    ∙ ap₂ (λ (x : ℕ) (z : List ℕ). x ∷ z) (get_or-set_same d i v 0 h) (drop-set-lt (suc i) d i v (omega arith))

tens_quotient : (left t : ℕ) → left < 10 * t → left / 10 < t
tens_quotient left t h = omega arith

tens_down : (first left : ℕ) → 10 ≤ left → left < tens first → (2 ≤ first) × (left / 10 < tens (first - 1))
tens_down zero left h g = absurd (omega arith)
tens_down (suc zero) left h g = absurd (omega arith)
tens_down (suc (suc k)) left h g =
    let e : suc k ≡ suc (suc k) - 1 = omega arith in
    (omega arith, subst (λ (j : ℕ). left / 10 < tens j) e (tens_quotient left (tens (suc k)) g))

pub spell_start : (n : ℕ) → n < 18446744073709551616 → Spelled n (replicate 20 0) 20 n
spell_start n h = record { same = sym (append-nil (decimal n)); long = refl; some = omega arith; inside = omega arith; bound = omega arith }

module _ {n left first : ℕ} {digits : List ℕ} (t : Spelled n digits first left) where
  stored_first : (v : ℕ) → drop (first - 1) (set digits (first - 1) v) ≡ v ∷ drop first digits
  stored_first v =
      let e : suc (first - 1) ≡ first = omega (arith, t.some) in
      stored digits (first - 1) v (omega (arith, t.some, t.inside, t.long)) ∙ ap (λ (k : ℕ). v ∷ drop k digits) e

  pub spelled_long : (i v : ℕ) → 20 ≤ length (set digits i v)
  spelled_long i v = omega (arith, length-set digits i v, t.long)

  -- a turn: the last digit of what is left is stored
  pub spell_more : 10 ≤ left → Spelled n (set digits (first - 1) (48 + left % 10)) (first - 1) (left / 10)
  spell_more h = record {
    same =
        t.same
        ∙ ap (λ (z : List ℕ). z ++ drop first digits) (decimal_more left h)
        ∙ append_assoc (decimal (left / 10)) (digit (left % 10) ∷ []) (drop first digits)
        ∙ ap (λ (z : List ℕ). decimal (left / 10) ++ z) (sym (stored_first (48 + left % 10)));
    long = length-set digits (first - 1) (48 + left % 10) ∙ t.long;
    some = omega (arith, (tens_down first left h t.bound).0);
    inside = omega (arith, t.inside);
    bound = (tens_down first left h t.bound).1;
  }

  -- the end: what is left is one digit, and the part from it on is copied
  spelled : left < 10 → take (20 - (first - 1)) (drop (first - 1) (set digits (first - 1) (48 + left))) ≡ decimal n
  spelled h =
      let d : List ℕ = set digits (first - 1) (48 + left) in
      take_all (20 - (first - 1)) (drop (first - 1) d) (omega (arith, length-drop (first - 1) d, length-set digits (first - 1) (48 + left), t.long))
      ∙ stored_first (48 + left)
      ∙ sym (t.same ∙ ap (λ (z : List ℕ). z ++ drop first digits) (decimal_one left h))

  pub number_written : {out out' : List ℕ} {at r : ℕ} → left < 10
      → Appended out at (take (20 - (first - 1)) (drop (first - 1) (set digits (first - 1) (48 + left)))) out' r → Appended out at (decimal n) out' r
  number_written {out} {out'} {at} {r} h a = subst (λ (z : List ℕ). Appended out at z out' r) (spelled h) a
