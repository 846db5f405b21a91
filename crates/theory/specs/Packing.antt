-- Two numbers in one: the first times a base, and the second, which is below the base; and both taken out again.
-- Assumes nothing.
use Rattle.std.specs.Prelude.{ℕ, ◌+◌, ◌*◌, ◌/◌, ◌%◌, ◌<◌, ◌≡◌}
use Rattle.std.proofs.Common.{◌∙◌, ap, arith, mod-eq_of_lt}
use Rattle.std.proofs.Math.Nat.{mul-add-div_right, mul-add-mod_self_right, div-eq_of_lt}

abbrev pub pack : ℕ → ℕ → ℕ → ℕ
pack base x y = x * base + y

module _ (base x y p : ℕ) (q : p ≡ pack base x y) (h : y < base) where
  pub first_packed : p / base ≡ x
  first_packed =
      let some : 0 < base = omega arith in
      ap (λ (i : ℕ). i / base) q ∙ mul-add-div_right some x y ∙ omega (arith, div-eq_of_lt h)

  pub second_packed : p % base ≡ y
  second_packed = ap (λ (i : ℕ). i % base) q ∙ mul-add-mod_self_right x base y ∙ mod-eq_of_lt h
