-- Sums over the numbers below n, and how a count of a list's members is one.
-- Assumes nothing.
use Rattle.std.specs.Prelude.{ℕ, zero, suc, ◌+◌, ◌<◌, ◌≡◌, refl, Bool, true, false, length}
use Rattle.std.proofs.Common.{ap, arith}
use Rattle.definitions.specs.Basics.{pick, keep, run, upto}
use Rattle.theory.specs.Basics.{either, same_or_not}

-- the sum of f below n
unfoldable pub total : (ℕ → ℕ) → ℕ → ℕ
total f zero = 0
total f (suc n) = total f n + f n

pub total_same : (f h : ℕ → ℕ) (n : ℕ) → ((i : ℕ) → i < n → f i ≡ h i) → total f n ≡ total h n
unfolding total
total_same f h zero e = refl
total_same f h (suc n) e = omega (arith, total_same f h n (λ i l. e i (omega arith)), e n (omega arith))

-- one of the summands is one more
pub total_bump : (f h : ℕ → ℕ) (q n : ℕ) → q < n → h q ≡ f q + 1 → ((i : ℕ) → (i ≡ q → ⊥) → h i ≡ f i) → total h n ≡ total f n + 1
unfolding total
total_bump f h q zero l e o = absurd (omega arith)
total_bump f h q (suc n) l e o =
    either (same_or_not n q)
    (λ x. let y = total_same h f n (λ i k. o i (λ z. omega arith)) in let z : h n ≡ f n + 1 = rw x e in omega arith)
    (λ x. omega (arith, total_bump f h q n (omega arith) e o, o n x))

-- the members of a run that pass a test, counted
keep_first : (p : ℕ → Bool) (i n : ℕ) (b : Bool) → p i ≡ b → length (keep p (run i (suc n))) ≡ length (keep p (run (suc i) n)) + pick (p i) 1 0
unfolding pick
keep_first p i n true e = rw e (omega arith)
keep_first p i n false e = rw e (omega arith)

keep_run : (p : ℕ → Bool) (i n : ℕ) → length (keep p (run i n)) + total (λ k. pick (p k) 1 0) i ≡ total (λ k. pick (p k) 1 0) (i + n)
unfolding total
keep_run p i zero = let q : i + 0 ≡ i = omega arith in rw q (omega arith)
keep_run p i (suc n) =
    let q : i + suc n ≡ suc i + n = omega arith in
    rw q (omega (arith, keep_run p (suc i) n, keep_first p i n (p i) refl))

pub keep_total : (p : ℕ → Bool) (n : ℕ) → length (keep p (upto n)) ≡ total (λ k. pick (p k) 1 0) n
unfolding total
keep_total p n = let q : 0 + n ≡ n = omega arith in omega (arith, keep_run p 0 n, ap (total (λ k. pick (p k) 1 0)) q)
