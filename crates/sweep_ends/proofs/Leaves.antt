-- Laws of the small functions of the sweep: what `begin` leaves, and the count of the reached pairs.
-- Assumes nothing.
use Prim.Native.Nat.{ℕ, zero, suc, ◌+◌, ◌*◌, ◌≤◌, ◌<◌}
use mathlib.Core.Path.{◌≡◌, refl, sym, ◌∙◌, ap}
use mathlib.Core.List.{List}
use native.Mathlib.Omega.{arith}
use lib.ListN.{length, get_or, set, take}
use Rattle.std.specs.Prelude.{sum}
use Rattle.std.proofs.lemmas.List.Sums.{sum_by_more}
use borrow.Author.Tests.{eq-eqb, ne_eqb}
use Rattle.theory.specs.Basics.{pick_true, pick_false}
use Rattle.sweep_model.specs.Totals.{total}
use Rattle.sweep_rows.specs.Standing.{at}
use Rattle.sweep_model.specs.Model.{Rows, rows}
use Rattle.sweep_ends.specs.Begin.{begun_at}

module _ (base start root : ℕ) (r : Rows) where
  pub begun_none : root ≡ 0 → r ≡ begun_at base start root r
  unfolding begun_at
  begun_none h = sym (pick_true _ _ _ (eq-eqb root 0 h))

  pub begun_one : (root ≡ 0 → ⊥) → rows (set r.cost (base + root) 0) r.via (set r.nodes base root) (set r.counts start 1) ≡ begun_at base start root r
  unfolding begun_at
  begun_one h = sym (pick_false _ _ _ (ne_eqb root 0 h))

-- a sum over a list's front is that of its places
pub sum_total : (xs : List ℕ) (n : ℕ) → n ≤ length xs → sum (take n xs) ≡ total (at xs) n
unfolding total
sum_total xs zero h = refl
sum_total xs (suc n) h =
    let q : suc n ≡ n + 1 = omega arith in
    rw q (sum_by_more (λ x. x) xs n 0 (omega arith)) ∙ ap (λ k. k + get_or xs n 0) (sum_total xs n (omega arith))

pub sum_small : (xs : List ℕ) (n : ℕ) → n ≤ length xs → ((i : ℕ) → get_or xs i 0 < 4294967296) → sum (take n xs) ≤ n * 4294967296
sum_small xs zero h f = omega arith
sum_small xs (suc n) h f =
    let q : suc n ≡ n + 1 = omega arith in
    let more : sum (take (suc n) xs) ≡ sum (take n xs) + get_or xs n 0 = rw q (sum_by_more (λ x. x) xs n 0 (omega arith)) in
    omega (arith, more, sum_small xs n (omega arith) f, f n)
