-- Laws of `Appended`: no part, one byte, and two parts written one behind the other, which append the joined bytes.
-- Assumes nothing.
use Rattle.std.specs.Prelude.{ℕ, ◌+◌, ◌-◌, ◌≤◌, ◌<◌, min, ◌≡◌, List, [], ◌∷◌, ◌++◌, length, take, drop, set}
use Rattle.std.proofs.Common.{sym, ◌∙◌, ap, ap₂, append_assoc, append-nil, arith, add-one, length-append, take-append-drop, take_all, drop-drop}
use Rattle.std.proofs.Math.Decide.{dec_lt}
use Rattle.std.proofs.Math.Seq.{take-nil, paste, take-append-add, append_snoc}
use Rattle.std.proofs.lemmas.List.Edits.{length-paste, take-paste, drop-paste}
use Rattle.std.proofs.lemmas.List.{take-append-le, set_split}
use Rattle.buffer.specs.Appending.{Appended}

-- ---- no part, one byte, and two parts

pub append_none : (out : List ℕ) (at : ℕ) → Appended out at [] out at
append_none out at = record {
  end = omega arith;
  held = sym (ap (λ (z : List ℕ). take at out ++ z ++ drop at out) (take-nil (at - at)) ∙ ap (λ (z : List ℕ). z ++ drop at out) (append-nil (take at out)) ∙ take-append-drop at out);
}

-- one store
pub append_byte : (out : List ℕ) (at x : ℕ) → at < length out → Appended out at (x ∷ []) (set out at x) (at + 1)
append_byte out at x h =
    let a : at + 1 - at ≡ 1 = omega arith in
    record {
      end = omega arith;
      held =
          set_split out at x h ∙ ap (λ (i : ℕ). take at out ++ x ∷ drop i out) (sym (add-one at)) ∙ sym (append_snoc (take at out) x (drop (at + 1) out))
          ∙ ap (λ (k : ℕ). take at out ++ take k (x ∷ []) ++ drop (at + 1) out) (sym a);
    }

module _ {out : List ℕ} {at : ℕ} {x o : List ℕ} {r : ℕ} (h : at ≤ length out) (p : Appended out at x o r) where
  pasted : o ≡ paste out at x (r - at)
  pasted =
      let a : r ≡ at + (r - at) = omega (arith, p.end) in
      p.held ∙ ap (λ (n : ℕ). take at out ++ take (r - at) x ++ drop n out) a

  pub append_long : length o ≡ length out
  append_long = ap length pasted ∙ length-paste out at x (r - at) (omega (arith, p.end)) (omega (arith, p.end))

  pub append_inside : r ≤ length o
  append_inside = omega (arith, p.end, append_long)

  front : take r o ≡ take at out ++ take (r - at) x
  front =
      let a : r ≡ at + (r - at) = omega (arith, p.end) in
      ap₂ take a pasted ∙ take-paste out at x (r - at) h (omega (arith, p.end))

  back : drop r o ≡ drop r out
  back =
      let a : r ≡ at + (r - at) = omega (arith, p.end) in
      ap₂ drop a pasted ∙ drop-paste out at x (r - at) h (omega (arith, p.end)) ∙ ap (λ (n : ℕ). drop n out) (sym a)

  further : (m : ℕ) → drop (r + m) o ≡ drop (r + m) out
  further m = sym (drop-drop m r o) ∙ ap (drop m) back ∙ drop-drop m r out

-- the front of two joined lists, cut in the second one only behind all of the first
take_joined : (n m : ℕ) (x y : List ℕ) → n ≤ length x → (n < length x → m ≡ 0) → take (n + m) (x ++ y) ≡ take n x ++ take m y
take_joined n m x y h f = go (dec_lt n (length x))
  where
    go : Dec (n < length x) → take (n + m) (x ++ y) ≡ take n x ++ take m y
    go (yes l) =
        let a : n + m ≡ n = omega (arith, f l) in
        ap (λ (k : ℕ). take k (x ++ y)) a ∙ take-append-le n x y h ∙ sym (ap (λ (k : ℕ). take n x ++ take k y) (f l) ∙ append-nil (take n x))
    go (no l) =
        let a : n ≡ length x = omega arith in
        ap (λ (k : ℕ). take (k + m) (x ++ y)) a ∙ take-append-add x y m ∙ ap (λ (z : List ℕ). z ++ take m y) (sym (take_all n x (omega arith)))

-- the places behind two parts of x and y bytes in a buffer of `size` bytes
module _ (x y size at r r' : ℕ) (h : at ≤ size) (p : r ≡ at + min x (size - at)) (q : r' ≡ r + min y (size - r)) where
  end_both : r' ≡ at + min (x + y) (size - at)
  end_both = omega arith

  none_behind : r - at < x → r' - r ≡ 0
  none_behind l = omega arith

  fits_first : r - at ≤ x
  fits_first = omega arith

  steps_on : r + (r' - r) ≡ r'
  steps_on = omega arith

  rises : (at ≤ r) × (r ≤ r')
  rises = (omega arith, omega arith)

counts_both : (at r r' : ℕ) → (at ≤ r) × (r ≤ r') → r - at + (r' - r) ≡ r' - at
counts_both at r r' (h, g) = omega arith

pub append_both : {out : List ℕ} {at : ℕ} {x y o o' : List ℕ} {r r' : ℕ}
    → at ≤ length out → Appended out at x o r → Appended o r y o' r' → Appended out at (x ++ y) o' r'
append_both {out} {at} {x} {y} {o} {o'} {r} {r'} h p q =
    let e : r' ≡ r + min (length y) (length out - r) = q.end ∙ ap (λ (k : ℕ). r + min (length y) (k - r)) (append_long h p) in
    let a = steps_on (length x) (length y) (length out) at r r' h p.end e in
    let b = counts_both at r r' (rises (length x) (length y) (length out) at r r' h p.end e) in
    let rest : drop r' o ≡ drop r' out = ap (λ (k : ℕ). drop k o) (sym a) ∙ further h p (r' - r) ∙ ap (λ (k : ℕ). drop k out) a in
    let both : take (r' - at) (x ++ y) ≡ take (r - at) x ++ take (r' - r) y =
    ap (λ (k : ℕ). take k (x ++ y)) (sym b)
    ∙ take_joined (r - at) (r' - r) x y (fits_first (length x) (length y) (length out) at r r' h p.end e)
    (none_behind (length x) (length y) (length out) at r r' h p.end e) in
    record {
      end = end_both (length x) (length y) (length out) at r r' h p.end e ∙ ap (λ (k : ℕ). at + min k (length out - at)) (sym (length-append x y));
      held =
          q.held
          ∙ ap₂ (λ (s t : List ℕ). s ++ take (r' - r) y ++ t) (front h p) rest
          ∙ ap (λ (z : List ℕ). z ++ drop r' out) (append_assoc (take at out) (take (r - at) x) (take (r' - r) y) ∙ ap (λ (z : List ℕ). take at out ++ z) (sym both));
    }

-- ---- where all the bytes have room

pub append_whole : {out bytes out' : List ℕ} {at r : ℕ} → at + length bytes ≤ length out → Appended out at bytes out' r → r ≡ at + length bytes
append_whole h p = omega (arith, p.end)

-- from the buffer's front on
pub append_front : {out bytes out' : List ℕ} {r : ℕ} → length bytes ≤ length out → Appended out 0 bytes out' r → out' ≡ bytes ++ drop (length bytes) out
append_front {out} {bytes} {out'} {r} h p =
    let e : r ≡ length bytes = omega (arith, p.end) in
    let f : length bytes ≤ length bytes - 0 = omega arith in
    p.held ∙ ap (λ (i : ℕ). take 0 out ++ take (i - 0) bytes ++ drop i out) e ∙ ap (λ (l : List ℕ). take 0 out ++ l ++ drop (length bytes) out) (take_all (length bytes - 0) bytes f)
