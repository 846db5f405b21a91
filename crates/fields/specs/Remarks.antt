-- Remarks, which are passed over, and fields of one tag and length beside them.
-- Assumes nothing.
use Rattle.std.specs.Prelude.{ℕ, ◌+◌, ◌-◌, ◌≤◌, ◌<◌, ◌≡◌, Bool, ◌&&◌, List, leb, get_or}
use Rattle.std.proofs.Math.Path.{refl}
use Rattle.std.proofs.Common.{sym, ◌∙◌, ap}
use Rattle.std.proofs.Math.Bool.{true, false}
use Rattle.std.proofs.Math.ListN.{length}
use native.Mathlib.Omega.{arith}
use borrow.Author.Tests.{leb-true, leb-false, le-leb, lt-leb, lt-ltb}
use Rattle.definitions.specs.Basics.{pick}
use Rattle.definitions.specs.Fields.{two, Kind, passed_over, is_foreign, is_passed_over, length_fits, is_remark, only, or_remark, field_at}
use Rattle.definitions.specs.declared.Field.{Field}
use Rattle.definitions.specs.declared.Field.TheVariants.{Faulty, Passed, Whole}
use Rattle.definitions.specs.declared.Refusal.TheVariants.{Cut}
use Rattle.theory.specs.Basics.{true_not_false}
use Rattle.fields.specs.Positions.{field_short, field_passed, Within, within, only_known, only_length, HasField, only_has}

-- a remark's header stands at a place
unfoldable pub remark_at : List ℕ → ℕ → Bool
remark_at s at = leb 3 (length s - at) && is_remark (get_or s at 0)

-- ---- what a tag is

module _ (kind : ℕ → Kind) (tag : ℕ) where
  or_remark_lem : is_remark tag ≡ true → or_remark kind tag ≡ passed_over
  unfolding or_remark pick
  or_remark_lem p = rw p

  pub or_kind : is_remark tag ≡ false → or_remark kind tag ≡ kind tag
  unfolding or_remark pick
  or_kind p = rw p

  -- one that is not passed over is no remark
  pub or_given : is_passed_over (or_remark kind tag) ≡ false → is_remark tag ≡ false
  or_given p = go (is_remark tag) refl
    where
      go : (b : Bool) → is_remark tag ≡ b → b ≡ false
      go false e = refl
      go true e = absurd (true_not_false (sym (ap is_passed_over (or_remark_lem e)) ∙ p))

-- ---- at a place

module _ (s : List ℕ) (at : ℕ) where
  module _ (there : remark_at s at ≡ true) where
    both_true : (a b : Bool) → (a && b) ≡ true → (a ≡ true) × (b ≡ true)
    both_true true b p = (refl, p)
    both_true false b p = absurd (true_not_false (sym p))

    tests_hold : (leb 3 (length s - at) ≡ true) × (is_remark (get_or s at 0) ≡ true)
    unfolding remark_at
    tests_hold = both_true (leb 3 (length s - at)) (is_remark (get_or s at 0)) there

    pub remark_left : 3 ≤ length s - at
    remark_left = leb-true 3 (length s - at) tests_hold.0

    module _ (kind : ℕ → Kind) where
      is_over : or_remark kind (get_or s at 0) ≡ passed_over
      is_over = or_remark_lem kind (get_or s at 0) tests_hold.1

      fits : length_fits (or_remark kind (get_or s at 0)) (two s (at + 1)) ≡ true
      fits = ap (λ (k : Kind). length_fits k (two s (at + 1))) is_over

    module _ (said : ℕ) (read : said ≡ two s (at + 1)) where
      pub remark_cut : length s - at < 3 + said → (kind : ℕ → Kind) → Faulty Cut at ≡ field_at s at (or_remark kind)
      remark_cut p kind = field_short s at (or_remark kind) (omega (arith, remark_left)) remark_left (ap is_foreign (is_over kind)) (fits kind) (omega (arith, remark_left))

      pub remark_over : 3 + said ≤ length s - at → (kind : ℕ → Kind) → Passed (at + (3 + said)) ≡ field_at s at (or_remark kind)
      remark_over p kind =
          let e : at + (3 + said) ≡ at + 3 + two s (at + 1) = omega arith in
          ap Passed e
          ∙ field_passed s at (or_remark kind) (omega (arith, remark_left)) remark_left (ap is_foreign (is_over kind)) (fits kind) (omega arith) (ap is_passed_over (is_over kind))

  -- where none stands, only the other tags matter
  module _ (kind : ℕ → Kind) where
    other_same : (b : Bool) → leb 3 (length s - at) ≡ b → (b && is_remark (get_or s at 0)) ≡ false → field_at s at kind ≡ field_at s at (or_remark kind)
    unfolding field_at pick
    other_same true e p = rw (or_kind kind (get_or s at 0) p)
    other_same false e p = let q : length s - at < 3 = leb-false 3 (length s - at) e in simp (lt-ltb (length s - at) 3 q)

    no_remark : remark_at s at ≡ false → field_at s at kind ≡ field_at s at (or_remark kind)
    unfolding remark_at
    no_remark p = other_same (leb 3 (length s - at)) refl p

    pub remark_none : (h : Bool) → h ≡ remark_at s at → h ≡ false → (r : Field) → r ≡ field_at s at kind → r ≡ field_at s at (or_remark kind)
    remark_none h read p r e = e ∙ no_remark (sym read ∙ p)

-- ---- a field of one tag and length, whose tag is no remark's

module _ (s : List ℕ) (at tag len : ℕ) where
  pub has_whole : tag < 128 → HasField s at tag len → Whole at (at + 3) (at + 3 + len) ≡ field_at s at (or_remark (only tag len))
  unfolding remark_at
  has_whole h w =
      let other : is_remark (get_or s at 0) ≡ false = rw w.tagged (lt-leb 128 tag h) in
      only_has s at tag len w ∙ no_remark s at (only tag len) (rw (other, le-leb 3 (length s - at) (omega (arith, w.ends))))

  pub whole_has : (p a e : ℕ) (r : Field) → r ≡ field_at s at (or_remark (only tag len)) → r ≡ Whole p a e → HasField s at tag len
  whole_has p a e r given found =
      let w : Within s at (or_remark (only tag len)) p a e = within s at (or_remark (only tag len)) p a e (sym found ∙ given) in
      let k = or_kind (only tag len) (get_or s at 0) (or_given (only tag len) (get_or s at 0) w.given) in
      let long = only_length tag len (get_or s at 0) (two s (at + 1)) (rw k at w.fits) in
      record {
        ends = omega (arith, w.starts, w.ends, w.inside);
        tagged = only_known tag len (get_or s at 0) (rw k at w.known);
        long = long;
      }

  -- the rest of the file after it is shorter
  pub has_less : HasField s at tag len → length s - (at + 3 + len) < length s - at
  has_less w = omega (arith, w.ends)
