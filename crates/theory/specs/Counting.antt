-- Counting by the pigeonhole principle: distinct numbers below p are at most p many, and distinct members of a list are no more than the list is long.
-- Assumes nothing.
use Rattle.std.specs.Prelude.{◌≡◌, ◌≢◌, ◌⊎◌, cond, ℕ, zero, suc, ◌≤◌, ◌<◌, eqb, length, get_or}
use Rattle.std.proofs.Common.{sym, ap, ◌∙◌, inl, inr, arith, eq-eqb, ne_eqb}
use mathlib.Core.List.{List, Memᴰ}
use Rattle.std.proofs.Math.Decide.{ℕ_discrete}
use Rattle.theory.specs.Basics.{Order, less, same, more, order, member_at}

-- g with v at i
upd : (ℕ → ℕ) → ℕ → ℕ → ℕ → ℕ
upd g i v j = cond (eqb j i) v (g j)

module _ (g : ℕ → ℕ) (i v j : ℕ) where
  upd_same : j ≡ i → upd g i v j ≡ v
  unfolding upd
  upd_same e = simp (eq-eqb j i e)

  upd_other : j ≢ i → upd g i v j ≡ g j
  unfolding upd
  upd_other n = simp (ne_eqb j i n)

-- the first n values of g are distinct
abbrev pub Distinct : (ℕ → ℕ) → ℕ → Type 0
Distinct g n = (i j : ℕ) → i < n → j < n → g i ≡ g j → i ≡ j

-- v is among the first n values, or not
find : (g : ℕ → ℕ) (v n : ℕ) → ((i : ℕ) × (i < n) × (g i ≡ v)) ⊎ ((i : ℕ) → i < n → g i ≢ v)
find g v zero = inr (λ i h e. omega arith)
find g v (suc n) = go (ℕ_discrete (g n) v) (find g v n)
  where
    go : Dec (g n ≡ v) → ((i : ℕ) × (i < n) × (g i ≡ v)) ⊎ ((i : ℕ) → i < n → g i ≢ v) → ((i : ℕ) × (i < suc n) × (g i ≡ v)) ⊎ ((i : ℕ) → i < suc n → g i ≢ v)
    go (yes e) t = inl (n, omega arith, e)
    go (no ne) (inl t) = inl (t.0, omega (arith, t.1), t.2)
    go (no ne) (inr f) = inr all
      where
        all : (i : ℕ) → i < suc n → g i ≢ v
        all i h e = at (ℕ_discrete i n)
          where
            at : Dec (i ≡ n) → ⊥
            at (yes d) = ne (ap g (sym d) ∙ e)
            at (no d) = f i (omega arith) e

-- the last value is moved to where p stood
module _ (g : ℕ → ℕ) (p n i₀ : ℕ) (below : (i : ℕ) → i < suc n → g i < suc p) (apart : Distinct g (suc n)) (l : i₀ < suc n) (e₀ : g i₀ ≡ p) where
  below_p : (i : ℕ) → i < n → upd g i₀ (g n) i < p
  below_p i h = go (ℕ_discrete i i₀)
    where
      go : Dec (i ≡ i₀) → upd g i₀ (g n) i < p
      go (yes e) = go' (ℕ_discrete (g n) p)
        where
          go' : Dec (g n ≡ p) → upd g i₀ (g n) i < p
          go' (yes d) = absurd (omega (arith, apart n i₀ (omega arith) l (d ∙ sym e₀)))
          go' (no d) = omega (arith, upd_same g i₀ (g n) i e, below n (omega arith))
      go (no e) = go' (ℕ_discrete (g i) p)
        where
          go' : Dec (g i ≡ p) → upd g i₀ (g n) i < p
          go' (yes d) = absurd (e (apart i i₀ (omega arith) l (d ∙ sym e₀)))
          go' (no d) = omega (arith, upd_other g i₀ (g n) i e, below i (omega arith))

  still : Distinct (upd g i₀ (g n)) n
  still i j hi hj e = go (ℕ_discrete i i₀) (ℕ_discrete j i₀)
    where
      go : Dec (i ≡ i₀) → Dec (j ≡ i₀) → i ≡ j
      go (yes a) (yes b) = a ∙ sym b
      go (yes a) (no b) = absurd (omega (arith, apart n j (omega arith) (omega arith) (sym (upd_same g i₀ (g n) i a) ∙ e ∙ upd_other g i₀ (g n) j b)))
      go (no a) (yes b) = absurd (omega (arith, apart i n (omega arith) (omega arith) (sym (upd_other g i₀ (g n) i a) ∙ e ∙ upd_same g i₀ (g n) j b)))
      go (no a) (no b) = apart i j (omega arith) (omega arith) (sym (upd_other g i₀ (g n) i a) ∙ e ∙ upd_other g i₀ (g n) j b)

pub pigeons : (p n : ℕ) (g : ℕ → ℕ) → ((i : ℕ) → i < n → g i < p) → Distinct g n → n ≤ p
pigeons p zero g below apart = omega arith
pigeons zero (suc n) g below apart = absurd (omega (arith, below 0 (omega arith)))
pigeons (suc p) (suc n) g below apart =
    go (find g p (suc n)) (λ i₀ l e. pigeons p n (upd g i₀ (g n)) (below_p g p n i₀ below apart l e) (still g p n i₀ below apart l e))
    (λ f. pigeons p (suc n) g (λ i h. omega (arith, below i h, f i h)) apart)
  where
    go : ((i : ℕ) × (i < suc n) × (g i ≡ p)) ⊎ ((i : ℕ) → i < suc n → g i ≢ p)
        → ((i : ℕ) → i < suc n → g i ≡ p → n ≤ p)
        → (((i : ℕ) → i < suc n → g i ≢ p) → suc n ≤ p)
        → suc n ≤ suc p
    go (inl t) a b = omega (arith, a t.0 t.1 t.2)
    go (inr f) a b = omega (arith, b f)

-- where one number below p is none of the values, there is room for one more
pub room : (p n q : ℕ) (g : ℕ → ℕ) → ((i : ℕ) → i < n → g i < p) → Distinct g n → q < p → ((i : ℕ) → i < n → g i ≢ q) → n < p
room p n q g below apart l out = pigeons p (suc n) (upd g n q) less' still'
  where
    less' : (i : ℕ) → i < suc n → upd g n q i < p
    less' i h = go (ℕ_discrete i n)
      where
        go : Dec (i ≡ n) → upd g n q i < p
        go (yes e) = omega (arith, upd_same g n q i e)
        go (no e) = omega (arith, upd_other g n q i e, below i (omega arith))

    still' : Distinct (upd g n q) (suc n)
    still' i j hi hj e = go (ℕ_discrete i n) (ℕ_discrete j n)
      where
        go : Dec (i ≡ n) → Dec (j ≡ n) → i ≡ j
        go (yes a) (yes b) = a ∙ sym b
        go (yes a) (no b) = absurd (out j (omega arith) (sym (upd_other g n q j b) ∙ sym e ∙ upd_same g n q i a))
        go (no a) (yes b) = absurd (out i (omega arith) (sym (upd_other g n q i a) ∙ e ∙ upd_same g n q j b))
        go (no a) (no b) = apart i j (omega arith) (omega arith) (sym (upd_other g n q i a) ∙ e ∙ upd_other g n q j b)

-- ---- distinct members of a list
placed : {g : ℕ → ℕ} {v n : ℕ} → ((i : ℕ) × (i < n) × (g i ≡ v)) ⊎ ((i : ℕ) → i < n → g i ≢ v) → ℕ
placed (inl t) = t.0
placed (inr f) = 0

placed_right : {g : ℕ → ℕ} {v n : ℕ} (s : ((i : ℕ) × (i < n) × (g i ≡ v)) ⊎ ((i : ℕ) → i < n → g i ≢ v)) (j : ℕ) → j < n → g j ≡ v → (placed s < n) × (g (placed s) ≡ v)
unfolding placed
placed_right (inl t) j h e = (t.1, t.2)
placed_right (inr f) j h e = absurd (f j h e)

-- n distinct values that are each among the m values of l are at most m
pub among : (n m : ℕ) (g l : ℕ → ℕ) → ((i : ℕ) → i < n → (j : ℕ) × (j < m) × (l j ≡ g i)) → Distinct g n → n ≤ m
among n m g l each apart = pigeons m n index (λ i h. (right i h).0) (λ i j hi hj e. apart i j hi hj (sym (right i hi).1 ∙ ap l e ∙ (right j hj).1))
  where
    index : ℕ → ℕ
    index i = placed (find l (g i) m)

    right : (i : ℕ) → i < n → (index i < m) × (l (index i) ≡ g i)
    right i h = placed_right (find l (g i) m) (each i h).0 (each i h).1 (each i h).2

-- no number stands twice in a list
abbrev pub Once : List ℕ → Type 0
Once xs = (i j : ℕ) → i < j → j < length xs → get_or xs i 0 ≡ get_or xs j 0 → ⊥

once_distinct : (xs : List ℕ) → Once xs → Distinct (λ (i : ℕ). get_or xs i 0) (length xs)
once_distinct xs once i j hi hj e = go (order i j)
  where
    go : Order i j → i ≡ j
    go (less h) = absurd (once i j h hj e)
    go (same q) = q
    go (more h) = absurd (once j i h hi (sym e))

-- a list of distinct members of l is no longer than l
pub list_among : (xs l : List ℕ) → ((i : ℕ) → i < length xs → Memᴰ (get_or xs i 0) l) → Once xs → length xs ≤ length l
list_among xs l each once =
    among (length xs) (length l) (λ (i : ℕ). get_or xs i 0) (λ (i : ℕ). get_or l i 0) (λ i h. member_at l (each i h)) (once_distinct xs once)
