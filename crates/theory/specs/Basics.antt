-- Laws of what the definitions are written with: a choice by a test, numbers in order, optional numbers, and lists.
-- Assumes nothing.
use Rattle.std.specs.Prelude.{ℕ, zero, suc, ◌+◌, ◌-◌, ◌≤◌, ◌<◌, min, max, ◌≡◌, refl, Bool, true, false, ◌&&◌, ◌||◌, cond, ◌⊎◌, ltb, length, get_or, set, drop}
use Rattle.std.proofs.Common.{sym, ◌∙◌, ap, inl, inr, add-one, arith, drop-set-lt, drop-drop, ltb-true, ltb-false}
use Rattle.std.proofs.Math.Bool.{and-eq-true_iff}
use mathlib.Core.List.Memᴰ
use mathlib.Core.List.{List, [], ◌∷◌, ◌++◌, map, Memᴰ}
use Rattle.std.proofs.Math.Option.{Option, none, some}
use Rattle.definitions.specs.Basics.{pick, smaller, larger, sum_of, keep, any, each, run, upto, least}

-- ---- tests

module _ {ℓ} {A : Type ℓ} where
  pub pick_true : (t : Bool) (x y : A) → t ≡ true → pick t x y ≡ x
  unfolding pick
  pick_true t x y e = rw e

  pub pick_false : (t : Bool) (x y : A) → t ≡ false → pick t x y ≡ y
  unfolding pick
  pick_false t x y e = rw e

-- by which branch a choice came to its value
pub pick_cases : {A : Type 0} (t : Bool) (x y z : A) → pick t x y ≡ z → ((t ≡ true) × (x ≡ z)) ⊎ ((t ≡ false) × (y ≡ z))
unfolding pick
pick_cases true x y z e = inl (refl, e)
pick_cases false x y z e = inr (refl, e)

pub both : (a b : Bool) → (a && b) ≡ true → (a ≡ true) × (b ≡ true)
both a b = (and-eq-true_iff a b).0

pub or_right : (a b : Bool) → b ≡ true → (a || b) ≡ true
or_right true b e = refl
or_right false b e = e

pub neither : (a b : Bool) → (a || b) ≡ false → (a ≡ false) × (b ≡ false)
neither true b e = absurd (let z : ◌≡◌ {A = ℕ} 0 1 = cc in omega arith)
neither false b e = (refl, e)

-- a test that does not pass
pub fails : (b : Bool) → (b ≡ true → ⊥) → b ≡ false
fails true f = absurd (f refl)
fails false f = refl

pub true_not_false : true ≡ false → ⊥
true_not_false e = let z : ◌≡◌ {A = ℕ} 0 1 = cc in omega arith

-- a case split with the case first, so that the types of what is bound are known where the bodies are read
pub either {ℓ κ μ} : {A : Type ℓ} {B : Type κ} {C : Type μ} → A ⊎ B → (A → C) → (B → C) → C
either (inl a) f g = f a
either (inr b) f g = g b

-- ---- order

pub lt_or_le : (a b : ℕ) → (a < b) ⊎ (b ≤ a)
lt_or_le a b = go (ltb a b) refl
  where
    go : (t : Bool) → ltb a b ≡ t → (a < b) ⊎ (b ≤ a)
    go true e = inl (ltb-true a b e)
    go false e = inr (ltb-false a b e)

pub data Order (a b : ℕ) : Type 0 where
  less : a < b → Order a b
  same : a ≡ b → Order a b
  more : b < a → Order a b

pub order : (a b : ℕ) → Order a b
order a b = either (lt_or_le a b) less (λ h. either (lt_or_le b a) more (λ i. same (omega arith)))

pub same_or_not : (a b : ℕ) → (a ≡ b) ⊎ (a ≡ b → ⊥)
same_or_not a b = go (order a b)
  where
    go : Order a b → (a ≡ b) ⊎ (a ≡ b → ⊥)
    go (less h) = inr (λ q. omega arith)
    go (same q) = inl q
    go (more h) = inr (λ q. omega arith)

-- ---- optional numbers

pub none_not_some : (x : ℕ) → none ≡ some x → ⊥
none_not_some x e = let z : ◌≡◌ {A = ℕ} 0 1 = cc in omega arith

pub some_inj : (x y : ℕ) → some x ≡ some y → x ≡ y
some_inj x y e = cc

-- what the operations compute to
pub larger_none_right : (a : Option ℕ) → larger a none ≡ none
unfolding larger
larger_none_right none = refl
larger_none_right (some x) = refl

pub sum_of_some : (x y : ℕ) → sum_of (some x) (some y) ≡ some (x + y)
unfolding sum_of
sum_of_some x y = refl

-- where the result is a number, the parts are
pub smaller_cases : (a b : Option ℕ) (k : ℕ) → smaller a b ≡ some k → (a ≡ some k) ⊎ (b ≡ some k)
unfolding smaller
smaller_cases none b k e = inr e
smaller_cases (some x) none k e = inl e
smaller_cases (some x) (some y) k e =
    let r : min x y ≡ k = some_inj (min x y) k e in
    either (lt_or_le x y) (λ l. let q : x ≡ k = omega arith in inl (ap (λ (n : ℕ). some n) q)) (λ l. let q : y ≡ k = omega arith in inr (ap (λ (n : ℕ). some n) q))

pub sum_of_parts : (a b : Option ℕ) (k : ℕ) → sum_of a b ≡ some k → (x y : ℕ) × (a ≡ some x) × (b ≡ some y) × (k ≡ x + y)
unfolding sum_of
sum_of_parts none b k e = absurd (none_not_some k e)
sum_of_parts (some x) none k e = absurd (none_not_some k e)
sum_of_parts (some x) (some y) k e = (x, y, refl, refl, some_inj k (x + y) (sym e))

pub larger_parts : (a b : Option ℕ) (k : ℕ) → larger a b ≡ some k → (x y : ℕ) × (a ≡ some x) × (b ≡ some y) × (k ≡ max x y)
unfolding larger
larger_parts none b k e = absurd (none_not_some k e)
larger_parts (some x) none k e = absurd (none_not_some k e)
larger_parts (some x) (some y) k e = (x, y, refl, refl, some_inj k (max x y) (sym e))

-- o is a number, and at most k
abbrev pub AtMost : Option ℕ → ℕ → Type 0
AtMost o k = (x : ℕ) × (o ≡ some x) × (x ≤ k)

-- none is at most nothing, some x is at most what x is at most
pub none_at_most : {X : Type 0} (k : ℕ) → AtMost none k → X
none_at_most k h = absurd (none_not_some h.0 h.1)

pub some_at_most : (x k : ℕ) → AtMost (some x) k → x ≤ k
some_at_most x k h = let e : x ≡ h.0 = some_inj x h.0 h.1 in omega arith

-- the number of an option that is at most k
pub at_most : (o : Option ℕ) (x k : ℕ) → o ≡ some x → AtMost o k → x ≤ k
at_most o x k e h = let q = some_inj x h.0 (sym e ∙ h.1) in omega arith

pub at_most_zero : (o : Option ℕ) → AtMost o 0 → o ≡ some 0
at_most_zero o h = let q : h.0 ≡ 0 = omega arith in h.1 ∙ ap (λ (x : ℕ). some x) q

pub weaken : (o : Option ℕ) (j k : ℕ) → AtMost o j → j ≤ k → AtMost o k
weaken o j k h le = (h.0, h.1, omega arith)

pub smaller_left : (a b : Option ℕ) (k : ℕ) → AtMost a k → AtMost (smaller a b) k
unfolding smaller
smaller_left none b k h = none_at_most k h
smaller_left (some x) none k h = h
smaller_left (some x) (some y) k h = (min x y, refl, omega (arith, some_at_most x k h))

pub smaller_right : (a b : Option ℕ) (k : ℕ) → AtMost b k → AtMost (smaller a b) k
unfolding smaller
smaller_right none b k h = h
smaller_right (some x) none k h = none_at_most k h
smaller_right (some x) (some y) k h = (min x y, refl, omega (arith, some_at_most y k h))

pub sum_of_at_most : (a b : Option ℕ) (j k : ℕ) → AtMost a j → AtMost b k → AtMost (sum_of a b) (j + k)
unfolding sum_of
sum_of_at_most none b j k h i = none_at_most j h
sum_of_at_most (some x) none j k h i = none_at_most k i
sum_of_at_most (some x) (some y) j k h i = (x + y, refl, omega (arith, some_at_most x j h, some_at_most y k i))

pub larger_at_most : (a b : Option ℕ) (k : ℕ) → AtMost a k → AtMost b k → AtMost (larger a b) k
unfolding larger
larger_at_most none b k h i = h
larger_at_most (some x) none k h i = i
larger_at_most (some x) (some y) k h i = (max x y, refl, omega (arith, some_at_most x k h, some_at_most y k i))

pub larger_left : (a b : Option ℕ) (k : ℕ) → AtMost (larger a b) k → AtMost a k
unfolding larger
larger_left none b k h = h
larger_left (some x) none k h = none_at_most k h
larger_left (some x) (some y) k h = (x, refl, omega (arith, some_at_most (max x y) k h))

pub larger_right : (a b : Option ℕ) (k : ℕ) → AtMost (larger a b) k → AtMost b k
unfolding larger
larger_right none b k h = none_at_most k h
larger_right (some x) none k h = h
larger_right (some x) (some y) k h = (y, refl, omega (arith, some_at_most (max x y) k h))

-- ---- lists

-- the members of what a test keeps
module _ {A : Type 0} (p : A → Bool) where
  pub keep_in : (xs : List A) {x : A} → Memᴰ x xs → p x ≡ true → Memᴰ x (keep p xs)
  keep_in [] m t = m
  keep_in (y ∷ ys) {x} m t = go (p y) refl (Memᴰ.cases_cons m) (λ m'. keep_in ys m' t)
    where
      go : (b : Bool) → p y ≡ b → (x ≡ y) ⊎ Memᴰ x ys → (Memᴰ x ys → Memᴰ x (keep p ys)) → Memᴰ x (keep p (y ∷ ys))
      go true e (inl q) ih = rw e (Memᴰ.head q)
      go true e (inr m) ih = rw e (Memᴰ.tail (ih m))
      go false e (inl q) ih = absurd (true_not_false (sym t ∙ ap p q ∙ e))
      go false e (inr m) ih = rw e (ih m)

  pub in_keep : (xs : List A) {x : A} → Memᴰ x (keep p xs) → Memᴰ x xs × (p x ≡ true)
  in_keep [] m = absurd (Memᴰ.not-nil m)
  in_keep (y ∷ ys) {x} m = go (p y) refl (in_keep ys) m
    where
      go : (b : Bool) → p y ≡ b → (Memᴰ x (keep p ys) → Memᴰ x ys × (p x ≡ true)) → Memᴰ x (cond b (y ∷ keep p ys) (keep p ys)) → Memᴰ x (y ∷ ys) × (p x ≡ true)
      go true e ih m = either (Memᴰ.cases_cons m) (λ q. (Memᴰ.head q, ap p q ∙ e)) (λ m'. (Memᴰ.tail (ih m').0, (ih m').1))
      go false e ih m = (Memᴰ.tail (ih m).0, (ih m).1)

-- the members of joined lists
module _ {A B : Type 0} (f : A → List B) where
  pub each_in : (xs : List A) {x : A} {y : B} → Memᴰ x xs → Memᴰ y (f x) → Memᴰ y (each f xs)
  each_in [] m n = absurd (Memᴰ.not-nil m)
  each_in (z ∷ zs) {x} {y} m n =
      either (Memᴰ.cases_cons m) (λ (q : x ≡ z). Memᴰ.append_left (each f zs) (rw q at n)) (λ m'. Memᴰ.append_right (f z) (each_in zs m' n))

  pub in_each : (xs : List A) {y : B} → Memᴰ y (each f xs) → (x : A) × Memᴰ x xs × Memᴰ y (f x)
  in_each [] m = absurd (Memᴰ.not-nil m)
  in_each (z ∷ zs) {y} m =
      either (Memᴰ.append_cases (f z) m) (λ n. (z, Memᴰ.head refl, n)) (λ n. let t = in_each zs n in (t.0, Memᴰ.tail t.1, t.2))

-- n numbers from i on: the members, how many, and each by its place
pub run_in : (i n e : ℕ) → i ≤ e → e < i + n → Memᴰ e (run i n)
run_in i zero e h l = absurd (omega arith)
run_in i (suc n) e h l =
    either (same_or_not e i) (λ q. Memᴰ.head q) (λ q. Memᴰ.tail (run_in (suc i) n e (omega arith) (omega arith)))

pub in_run : (i n : ℕ) {e : ℕ} → Memᴰ e (run i n) → (i ≤ e) × (e < i + n)
in_run i zero m = absurd (Memᴰ.not-nil m)
in_run i (suc n) {e} m =
    either (Memᴰ.cases_cons m) (λ (q : e ≡ i). omega arith) (λ (n' : Memᴰ e (run (suc i) n)). let t = in_run (suc i) n n' in omega arith)

module _ {A : Type 0} (f : ℕ → A) where
  pub length-map_run : (i n : ℕ) → length (map f (run i n)) ≡ n
  length-map_run i zero = refl
  length-map_run i (suc n) = omega (arith, length-map_run (suc i) n)

  pub get_d_map_run : (i n j : ℕ) (z : A) → j < n → get_or (map f (run i n)) j z ≡ f (i + j)
  get_d_map_run i zero j z h = absurd (omega arith)
  get_d_map_run i (suc n) zero z h = let q : i ≡ i + 0 = omega arith in ap f q
  get_d_map_run i (suc n) (suc j) z h = let q : suc i + j ≡ i + suc j = omega arith in get_d_map_run (suc i) n j z (omega arith) ∙ ap f q

  pub get_d_map_upto : (n j : ℕ) (z : A) → j < n → get_or (map f (upto n)) j z ≡ f j
  get_d_map_upto n j z h = let q : 0 + j ≡ j = omega arith in get_d_map_run 0 n j z h ∙ ap f q

-- one more entry, the entries before it as they were
module _ {A : Type 0} (f h : ℕ → A) where
  run_grown : (i n : ℕ) → ((j : ℕ) → j < i + n → h j ≡ f j) → map h (run i (suc n)) ≡ map f (run i n) ++ h (i + n) ∷ []
  run_grown i zero kept = let q : i ≡ i + 0 = omega arith in ap (λ (j : ℕ). h j ∷ []) q
  run_grown i (suc n) kept =
      let q : suc i + n ≡ i + suc n = omega arith in
      rw (kept i (omega arith), ← q) (ap (λ (l : List A). f i ∷ l) (run_grown (suc i) n (λ j l. kept j (omega arith))))

  pub upto_grown : (n : ℕ) (y : A) → ((j : ℕ) → j < n → h j ≡ f j) → h n ≡ y → map h (upto (n + 1)) ≡ map f (upto n) ++ y ∷ []
  upto_grown n y kept here =
      let q : 0 + n ≡ n = omega arith in
      rw (add-one n, ← here) (run_grown 0 n (λ j l. kept j (omega arith)) ∙ ap (λ (k : ℕ). map f (upto n) ++ h k ∷ []) q)

-- what stays past a number stays past a later one, after a store before that
pub rest_kept : (m n i v : ℕ) (l l₀ : List ℕ) → m ≤ n → i < n → drop m l ≡ drop m l₀ → drop n (set l i v) ≡ drop n l₀
rest_kept m n i v l l₀ h g e =
    let q : m + (n - m) ≡ n = omega arith in
    drop-set-lt n l i v g ∙ rw (← q) (sym (drop-drop (n - m) m l) ∙ ap (drop (n - m)) e ∙ drop-drop (n - m) m l₀)

-- members by their place
pub member_at : (xs : List ℕ) {x : ℕ} → Memᴰ x xs → (i : ℕ) × (i < length xs) × (get_or xs i 0 ≡ x)
member_at [] m = absurd (Memᴰ.not-nil m)
member_at (y ∷ ys) {x} m =
    either (Memᴰ.cases_cons m) (λ q. (0, omega arith, sym q)) (λ n. let t = member_at ys n in (suc t.0, omega (arith, t.1), t.2))

pub at_member : (xs : List ℕ) (i : ℕ) → i < length xs → Memᴰ (get_or xs i 0) xs
at_member [] i h = absurd (omega arith)
at_member (y ∷ ys) zero h = Memᴰ.head refl
at_member (y ∷ ys) (suc i) h = Memᴰ.tail (at_member ys i (omega arith))

-- the least is at most each member, and is one
pub least_lower : (xs : List ℕ) {x : ℕ} → Memᴰ x xs → AtMost (least xs) x
least_lower [] m = absurd (Memᴰ.not-nil m)
least_lower (y ∷ ys) {x} m =
    either (Memᴰ.cases_cons m) (λ (q : x ≡ y). smaller_left (some y) (least ys) x (y, refl, omega arith))
    (λ n. smaller_right (some y) (least ys) x (least_lower ys n))

pub least_in : (xs : List ℕ) {m : ℕ} → least xs ≡ some m → Memᴰ m xs
least_in [] e = absurd (none_not_some _ e)
least_in (y ∷ ys) {m} e =
    either (smaller_cases (some y) (least ys) m e) (λ q. Memᴰ.head (some_inj m y (sym q))) (λ q. Memᴰ.tail (least_in ys q))

-- ---- some member passes a test, by its place

module _ {A : Type 0} (p : A → Bool) (z : A) where
  pub any_at : (xs : List A) (i : ℕ) → i < length xs → p (get_or xs i z) ≡ true → any p xs ≡ true
  any_at [] i h e = absurd (omega arith)
  any_at (x ∷ xs) zero h e = rw e
  any_at (x ∷ xs) (suc i) h e = or_right (p x) (any p xs) (any_at xs i (omega arith) e)

  pub any_not : (xs : List A) → any p xs ≡ false → (i : ℕ) → i < length xs → p (get_or xs i z) ≡ true → ⊥
  any_not xs e i h t = true_not_false (sym (any_at xs i h t) ∙ e)

  pub any_none : (xs : List A) → ((i : ℕ) → i < length xs → p (get_or xs i z) ≡ true → ⊥) → any p xs ≡ false
  any_none [] n = refl
  any_none (x ∷ xs) n = let first : p x ≡ false = fails (p x) (n 0 (omega arith)) in rw first (any_none xs (λ i h. n (suc i) (omega arith)))
