-- What the other definitions are written with: a choice by a test, optional numbers, and lists.
-- Assumes nothing.
use Rattle.std.specs.Prelude.{ℕ, zero, suc, ◌+◌, min, max, Bool, true, false, ◌||◌, cond, List, [], ◌∷◌, ◌++◌, eqb}
use Rattle.std.proofs.Math.Option.{Option, none, some}

-- x where the test passes, else y
unfoldable pub pick {ℓ} : {A : Type ℓ} → Bool → A → A → A
pick true x y = x
pick false x y = y

-- ---- optional numbers: a cost, or none

-- the smaller of two, where none is above every number
unfoldable pub smaller : Option ℕ → Option ℕ → Option ℕ
smaller none b = b
smaller (some x) none = some x
smaller (some x) (some y) = some (min x y)

-- the larger of two, none if either is none
unfoldable pub larger : Option ℕ → Option ℕ → Option ℕ
larger none b = none
larger (some x) none = none
larger (some x) (some y) = some (max x y)

-- the sum of two, none if either is none
unfoldable pub sum_of : Option ℕ → Option ℕ → Option ℕ
sum_of none b = none
sum_of (some x) none = none
sum_of (some x) (some y) = some (x + y)

abbrev pub is_some : Option ℕ → Bool
is_some none = false
is_some (some x) = true

-- the number that stands for none where tables hold optional costs
abbrev pub NONE : ℕ
NONE = 4294967295

-- ---- lists

-- the members that pass a test
abbrev pub keep {ℓ} : {A : Type ℓ} → (A → Bool) → List A → List A
keep p [] = []
keep p (x ∷ xs) = cond (p x) (x ∷ keep p xs) (keep p xs)

-- every member passes a test
abbrev pub every {ℓ} : {A : Type ℓ} → (A → Bool) → List A → Bool
every p [] = true
every p (x ∷ xs) = cond (p x) (every p xs) false

-- some member passes a test
abbrev pub any {ℓ} : {A : Type ℓ} → (A → Bool) → List A → Bool
any p [] = false
any p (x ∷ xs) = p x || any p xs

-- f of each member, joined
abbrev pub each {ℓ κ} : {A : Type ℓ} {B : Type κ} → (A → List B) → List A → List B
each f [] = []
each f (x ∷ xs) = f x ++ each f xs

-- n numbers from i on
abbrev pub run : ℕ → ℕ → List ℕ
run i zero = []
run i (suc n) = i ∷ run (suc i) n

-- the numbers below n
abbrev pub upto : ℕ → List ℕ
upto n = run 0 n

-- the least number of a list, none of the empty list
abbrev pub least : List ℕ → Option ℕ
least [] = none
least (x ∷ xs) = smaller (some x) (least xs)

-- the least number above every member of a list
abbrev pub above : List ℕ → ℕ
above [] = 0
above (x ∷ xs) = max (suc x) (above xs)

-- the members of a list as a set
abbrev pub has : List ℕ → ℕ → Bool
has [] j = false
has (e ∷ w) j = eqb j e || has w j
