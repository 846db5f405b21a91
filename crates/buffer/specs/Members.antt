-- The members of a list, written one behind the other: what a loop keeps that writes one in each turn.
-- Assumes nothing.
use Rattle.std.specs.Prelude.{ℕ, ◌+◌, ◌≤◌, ◌<◌, ◌≡◌, List, [], ◌∷◌, ◌++◌, length, get_or, take}
use Rattle.std.proofs.Common.{sym, ◌∙◌, ap, subst, append_assoc, append-nil, add-one, take-suc, take_all}
use Rattle.definitions.specs.Basics.{each}
use Rattle.buffer.specs.Appending.{Appended}
use Rattle.buffer.specs.Appends.{append_both}

module _ {A : Type 0} (f : A → List ℕ) where
  each_snoc : (xs : List A) (x : A) → each f (xs ++ x ∷ []) ≡ each f xs ++ f x
  each_snoc [] x = append-nil (f x)
  each_snoc (y ∷ xs) x = ap (λ (l : List ℕ). f y ++ l) (each_snoc xs x) ∙ sym (append_assoc (f y) (each f xs) (f x))

  -- one member more
  pub append_more : (xs ys : List A) (y : A) {out : List ℕ} {at : ℕ} {o : List ℕ} {r : ℕ} {o' : List ℕ} {r' : ℕ} → at ≤ length out → ys ≡ xs ++ y ∷ []
      → Appended out at (each f xs) o r → Appended o r (f y) o' r' → Appended out at (each f ys) o' r'
  append_more xs ys y {out} {at} {o} {r} {o'} {r'} h e p q =
      subst (λ (l : List ℕ). Appended out at l o' r') (sym (ap (each f) e ∙ each_snoc xs y)) (append_both h p q)

  -- of a list that stands in a slice, and all of it
  pub append_next : (xs : List A) (k : ℕ) (d : A) {out : List ℕ} {at : ℕ} {o : List ℕ} {r : ℕ} {o' : List ℕ} {r' : ℕ} → at ≤ length out → k < length xs
      → Appended out at (each f (take k xs)) o r → Appended o r (f (get_or xs k d)) o' r' → Appended out at (each f (take (k + 1) xs)) o' r'
  append_next xs k d h l p q = append_more (take k xs) (take (k + 1) xs) (get_or xs k d) h (ap (λ (i : ℕ). take i xs) (add-one k) ∙ take-suc xs k d l) p q

  pub append_all : (xs : List A) (k : ℕ) {out : List ℕ} {at : ℕ} {o : List ℕ} {r : ℕ} → length xs ≤ k
      → Appended out at (each f (take k xs)) o r → Appended out at (each f xs) o r
  append_all xs k {out} {at} {o} {r} h p = subst (λ (l : List A). Appended out at (each f l) o r) (take_all k xs h) p
