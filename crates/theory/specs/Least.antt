-- The least number with a property as a relation to an optional number: the minimum of a set of costs, with its uniqueness and a rule for each operation.
-- Assumes nothing.
use Rattle.std.specs.Prelude.{ℕ, ◌+◌, ◌≤◌, min, ◌≡◌, refl, ◌⊎◌}
use Rattle.std.proofs.Common.{ap, inl, inr, arith}
use Rattle.std.proofs.Math.Option.{Option, none, some}
use Rattle.definitions.specs.Basics.{smaller, sum_of}
use Rattle.definitions.specs.Promises.{shown}
use Rattle.theory.specs.Basics.{either, lt_or_le, AtMost, at_most, none_not_some}

-- o is the least number with P: none where there is none
abbrev pub IsLeast : (ℕ → Type 0) → Option ℕ → Type 0
IsLeast P none = (k : ℕ) → P k → ⊥
IsLeast P (some m) = P m × ((k : ℕ) → P k → m ≤ k)

-- an option that is attained, and at most each number with P
pub least_of : (P : ℕ → Type 0) (o : Option ℕ) → ((m : ℕ) → o ≡ some m → P m) → ((k : ℕ) → P k → AtMost o k) → IsLeast P o
least_of P none attained lower = λ k p. let a = lower k p in none_not_some a.0 a.1
least_of P (some m) attained lower = (attained m refl, λ k p. at_most (some m) m k refl (lower k p))

pub least_unique : (P : ℕ → Type 0) (a b : Option ℕ) → IsLeast P a → IsLeast P b → a ≡ b
least_unique P none none h i = refl
least_unique P none (some y) h i = absurd (h y i.0)
least_unique P (some x) none h i = absurd (i x h.0)
least_unique P (some x) (some y) h i = let q : x ≡ y = omega (arith, h.1 y i.0, i.1 x h.0) in ap (λ (n : ℕ). some n) q

-- the same set, the same least
pub least_same : (P Q : ℕ → Type 0) (a : Option ℕ) → ((k : ℕ) → P k → Q k) → ((k : ℕ) → Q k → P k) → IsLeast P a → IsLeast Q a
least_same P Q none f g h = λ k q. h k (g k q)
least_same P Q (some x) f g h = (f x h.0, λ k q. h.1 k (g k q))

-- the least of two sets
pub least_either : (P Q : ℕ → Type 0) (a b : Option ℕ) → IsLeast P a → IsLeast Q b → IsLeast (λ k. P k ⊎ Q k) (smaller a b)
unfolding smaller
least_either P Q none none h i = λ k t. either t (h k) (i k)
least_either P Q none (some y) h i = (inr i.0, λ k t. either t (λ p. absurd (h k p)) (i.1 k))
least_either P Q (some x) none h i = (inl h.0, λ k t. either t (h.1 k) (λ q. absurd (i k q)))
least_either P Q (some x) (some y) h i = (
  either (lt_or_le x y) (λ l. let q : min x y ≡ x = omega arith in inl (rw q h.0)) (λ l. let q : min x y ≡ y = omega arith in inr (rw q i.0)),
  λ k t. either t (λ p. omega (arith, h.1 k p)) (λ q. omega (arith, i.1 k q)),
)

-- and of a set with c added to each member
abbrev pub More : ℕ → (ℕ → Type 0) → ℕ → Type 0
More c P k = (j : ℕ) × P j × (k ≡ c + j)

pub least_more : (c : ℕ) (P : ℕ → Type 0) (a : Option ℕ) → IsLeast P a → IsLeast (More c P) (sum_of (some c) a)
unfolding sum_of
least_more c P none h = λ k t. h t.0 t.1
least_more c P (some x) h = ((x, h.0, refl), λ k t. omega (arith, h.1 t.0 t.1))

-- v shows the least of the numbers with P
abbrev pub Shows : (ℕ → Type 0) → ℕ → Type 0
Shows P v = (o : Option ℕ) × IsLeast P o × (v ≡ shown o)

pub shows_same : (P Q : ℕ → Type 0) (v : ℕ) → ((m : ℕ) → P m → Q m) → ((m : ℕ) → Q m → P m) → Shows P v → Shows Q v
shows_same P Q v f h s = (s.0, least_same P Q s.0 f h s.1, s.2)
