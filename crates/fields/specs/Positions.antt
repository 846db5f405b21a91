-- Where a field stands: one law for each case of `field_at`, what is known of a whole field, and the same for fields of one tag and length only.
-- Assumes nothing.
use Rattle.std.specs.Prelude.{ℕ, ◌+◌, ◌-◌, ◌≤◌, ◌<◌, Bool, not, List, ltb, leb, length, get_or}
use Rattle.std.proofs.Math.Path.{◌≡◌, refl}
use Rattle.std.proofs.Common.{sym, ◌∙◌, ap, length-take, length-drop, arith}
use Rattle.std.proofs.Math.Bool.{true, false}
use Rattle.std.proofs.Math.Dec.{eqb}
use Rattle.std.proofs.Math.Decide.{dec_lt}
use borrow.Author.Tests.{leb-false, ltb-false, eqb-true, eq-eqb, ne_eqb, not-false}
use Rattle.definitions.specs.Basics.{pick}
use Rattle.definitions.specs.Fields.{two, part, Kind, foreign, exactly, is_foreign, is_passed_over, length_fits, only, field_at}
use Rattle.definitions.specs.declared.Field.TheVariants.{Absent, Faulty, Passed, Whole}
use Rattle.definitions.specs.declared.Refusal.{Refusal}
use Rattle.definitions.specs.declared.Refusal.TheVariants.{Cut, Tag, Length, HeadLimit, StepOrder, NodeLimit, ShortSlice, NoLegalPlan, LongFile, StepTarget, DearStep, ManyNodes, Padding, GroupLimit}
use Rattle.definitions.specs.Refusals.{number}
use Rattle.theory.specs.Basics.{true_not_false}
use Rattle.theory.specs.Choices.{tests, past}

-- ---- fields of any kind

module _ (s : List ℕ) (at : ℕ) (kind : ℕ → Kind) where
  abbrev found : Kind
  found = kind (get_or s at 0)

  abbrev said : ℕ
  said = two s (at + 1)

  pub field_absent : length s ≤ at → Absent ≡ field_at s at kind
  unfolding field_at pick
  field_absent p = simp tests

  module _ (p : at < length s) where
    pub field_cut : length s - at < 3 → Faulty Cut at ≡ field_at s at kind
    unfolding field_at pick
    field_cut q = simp tests

    module _ (q : 3 ≤ length s - at) where
      pub field_foreign : is_foreign found ≡ true → Faulty Tag at ≡ field_at s at kind
      unfolding field_at pick
      field_foreign r = simp (r, tests)

      module _ (r : is_foreign found ≡ false) where
        pub field_unfit : length_fits found said ≡ false → Faulty Length at ≡ field_at s at kind
        unfolding field_at pick
        field_unfit t = simp (r, t, tests)

        module _ (t : length_fits found said ≡ true) where
          pub field_short : length s - at - 3 < said → Faulty Cut at ≡ field_at s at kind
          unfolding field_at pick
          field_short u = simp (r, t, tests)

          pub field_passed : said ≤ length s - at - 3 → is_passed_over found ≡ true → Passed (at + 3 + said) ≡ field_at s at kind
          unfolding field_at pick
          field_passed u o = simp (r, t, o, tests)

          pub field_whole : said ≤ length s - at - 3 → is_passed_over found ≡ false → Whole at (at + 3) (at + 3 + said) ≡ field_at s at kind
          unfolding field_at pick
          field_whole u o = simp (r, t, o, tests)

-- a refusal has a number other than 0
pub number_some : (refusal : Refusal) → 0 < number refusal
number_some Cut = omega arith
number_some Tag = omega arith
number_some Length = omega arith
number_some HeadLimit = omega arith
number_some StepOrder = omega arith
number_some NodeLimit = omega arith
number_some ShortSlice = omega arith
number_some NoLegalPlan = omega arith
number_some LongFile = omega arith
number_some StepTarget = omega arith
number_some DearStep = omega arith
number_some ManyNodes = omega arith
number_some Padding = omega arith
number_some GroupLimit = omega arith

-- a body stands inside the file, right after its header, with a length that its kind may have
pub record Within (s : List ℕ) (at : ℕ) (kind : ℕ → Kind) (place a e : ℕ) : Type 0 where
  pub placed : place ≡ at
  pub starts : a ≡ at + 3
  pub ends : e ≡ a + two s (at + 1)
  pub inside : e ≤ length s
  pub known : is_foreign (kind (get_or s at 0)) ≡ false
  pub fits : length_fits (kind (get_or s at 0)) (two s (at + 1)) ≡ true
  pub given : is_passed_over (kind (get_or s at 0)) ≡ false

unlike_absent : {p a e : ℕ} → Whole p a e ≡ Absent → ⊥
unlike_absent p = let z : ◌≡◌ {A = ℕ} 0 1 = cc in omega arith

pub unlike_faulty : {p a e : ℕ} {r : Refusal} {q : ℕ} → Whole p a e ≡ Faulty r q → ⊥
unlike_faulty p = let z : ◌≡◌ {A = ℕ} 0 1 = cc in omega arith

unlike_passed : {p a e f : ℕ} → Whole p a e ≡ Passed f → ⊥
unlike_passed p = let z : ◌≡◌ {A = ℕ} 0 1 = cc in omega arith

pub within : (s : List ℕ) (at : ℕ) (kind : ℕ → Kind) (place a e : ℕ) → Whole place a e ≡ field_at s at kind → Within s at kind place a e
unfolding field_at
within s at kind place a e p =
    let len = two s (at + 1) in
    let p1 = past (leb (length s) at) unlike_absent p in
    let p2 = past (ltb (length s - at) 3) unlike_faulty p1.1 in
    let p3 = past (is_foreign (kind (get_or s at 0))) unlike_faulty p2.1 in
    let p4 = past (not (length_fits (kind (get_or s at 0)) len)) unlike_faulty p3.1 in
    let p5 = past (ltb (length s - at - 3) len) unlike_faulty p4.1 in
    let p6 = past (is_passed_over (kind (get_or s at 0))) unlike_passed p5.1 in
    let ea : a ≡ at + 3 = cc p6.1 in
    let ee : e ≡ at + 3 + len = cc p6.1 in
    record {
      placed = cc p6.1;
      starts = ea;
      ends = omega arith;
      inside = omega (arith, leb-false (length s) at p1.0, ltb-false (length s - at) 3 p2.0, ltb-false (length s - at - 3) len p5.0);
      known = p3.0;
      fits = not-false _ p4.0;
      given = p6.0;
    }

-- a field that is passed over ends inside the file, after its place
pub record PassedWithin (s : List ℕ) (at e : ℕ) : Type 0 where
  pub later : at < e
  pub inside : e ≤ length s

passed_absent : {e : ℕ} → Passed e ≡ Absent → ⊥
passed_absent p = let z : ◌≡◌ {A = ℕ} 0 1 = cc in omega arith

passed_faulty : {e : ℕ} {r : Refusal} {q : ℕ} → Passed e ≡ Faulty r q → ⊥
passed_faulty p = let z : ◌≡◌ {A = ℕ} 0 1 = cc in omega arith

passed_end : (b : Bool) (e f p a : ℕ) → Passed e ≡ pick b (Passed f) (Whole p a f) → e ≡ f
unfolding pick
passed_end true e f p a q = cc
passed_end false e f p a q = absurd (unlike_passed (sym q))

pub passed_within : (s : List ℕ) (at : ℕ) (kind : ℕ → Kind) (e : ℕ) → Passed e ≡ field_at s at kind → PassedWithin s at e
unfolding field_at
passed_within s at kind e p =
    let len = two s (at + 1) in
    let p1 = past (leb (length s) at) passed_absent p in
    let p2 = past (ltb (length s - at) 3) passed_faulty p1.1 in
    let p3 = past (is_foreign (kind (get_or s at 0))) passed_faulty p2.1 in
    let p4 = past (not (length_fits (kind (get_or s at 0)) len)) passed_faulty p3.1 in
    let p5 = past (ltb (length s - at - 3) len) passed_faulty p4.1 in
    let ee : e ≡ at + 3 + len = passed_end (is_passed_over (kind (get_or s at 0))) e (at + 3 + len) at (at + 3) p5.1 in
    record {
      later = omega arith;
      inside = omega (arith, leb-false (length s) at p1.0, ltb-false (length s - at) 3 p2.0, ltb-false (length s - at - 3) len p5.0);
    }

-- ---- fields of one tag and length only

module _ (tag len : ℕ) where
  only_same : (found : ℕ) → found ≡ tag → only tag len found ≡ exactly len
  unfolding only pick
  only_same found p = rw (eq-eqb found tag p)

  only_other : (found : ℕ) → (found ≡ tag → ⊥) → only tag len found ≡ foreign
  unfolding only pick
  only_other found p = rw (ne_eqb found tag p)

  -- a tag that is known is that one
  pub only_known : (found : ℕ) → is_foreign (only tag len found) ≡ false → found ≡ tag
  unfolding only pick
  only_known found = go (eqb found tag) refl
    where
      go : (b : Bool) → eqb found tag ≡ b → is_foreign (pick b (exactly len) foreign) ≡ false → found ≡ tag
      go true e t = eqb-true found tag e
      go false e t = absurd (true_not_false t)

  -- a length that fits is that one
  pub only_length : (found said : ℕ) → length_fits (only tag len found) said ≡ true → said ≡ len
  unfolding only pick
  only_length found said = go (eqb found tag)
    where
      go : (b : Bool) → length_fits (pick b (exactly len) foreign) said ≡ true → said ≡ len
      go true t = eqb-true said len t
      go false t = let z : ◌≡◌ {A = ℕ} 0 1 = cc in absurd (omega arith)

-- a whole field of this tag and length stands at a place
pub record HasField (s : List ℕ) (at tag len : ℕ) : Type 0 where
  pub ends : at + (3 + len) ≤ length s
  pub tagged : get_or s at 0 ≡ tag
  pub long : two s (at + 1) ≡ len

-- r says whether it does
pub record Tells (r : Bool) (s : List ℕ) (at tag len : ℕ) : Type 0 where
  pub has : r ≡ true → HasField s at tag len
  pub lacks : r ≡ false → HasField s at tag len → ⊥

module _ (s : List ℕ) (at tag len : ℕ) (p : at < length s) (q : 3 ≤ length s - at) where
  pub only_tag : (get_or s at 0 ≡ tag → ⊥) → Faulty Tag at ≡ field_at s at (only tag len)
  only_tag r = field_foreign s at (only tag len) p q (ap is_foreign (only_other tag len (get_or s at 0) r))

  module _ (said : ℕ) (read : said ≡ two s (at + 1)) (r : get_or s at 0 ≡ tag) where
    known : is_foreign (only tag len (get_or s at 0)) ≡ false
    known = ap is_foreign (only_same tag len (get_or s at 0) r)

    fitting : length_fits (only tag len (get_or s at 0)) (two s (at + 1)) ≡ eqb said len
    fitting = rw (only_same tag len (get_or s at 0) r, read)

    pub only_unfit : (said ≡ len → ⊥) → Faulty Length at ≡ field_at s at (only tag len)
    only_unfit t = field_unfit s at (only tag len) p q known (fitting ∙ ne_eqb said len t)

    module _ (t : said ≡ len) where
      has_field : len ≤ length s - at - 3 → HasField s at tag len
      has_field u = record { ends = omega arith; tagged = r; long = sym read ∙ t }

      pub only_short : (HasField s at tag len → ⊥) → Faulty Cut at ≡ field_at s at (only tag len)
      only_short u = field_short s at (only tag len) p q known (fitting ∙ eq-eqb said len t) (go (dec_lt (length s - at - 3) len))
        where
          go : Dec (length s - at - 3 < len) → length s - at - 3 < two s (at + 1)
          go (yes h) = omega arith
          go (no h) = absurd (u (has_field (omega arith)))

pub only_has : (s : List ℕ) (at tag len : ℕ) → HasField s at tag len → Whole at (at + 3) (at + 3 + len) ≡ field_at s at (only tag len)
only_has s at tag len w =
    let p : at < length s = omega (arith, w.ends) in
    let q : 3 ≤ length s - at = omega (arith, w.ends) in
    let fits = fitting s at tag len p q (two s (at + 1)) refl w.tagged ∙ eq-eqb (two s (at + 1)) len w.long in
    let given = ap is_passed_over (only_same tag len (get_or s at 0) w.tagged) in
    ap (λ (k : ℕ). Whole at (at + 3) (at + 3 + k)) (sym w.long)
    ∙ field_whole s at (only tag len) p q (known s at tag len p q (two s (at + 1)) refl w.tagged) fits (omega (arith, w.ends, w.long)) given

-- of a whole field whose length is known: its body's ends are in order, and it is as long as that
module _ (s : List ℕ) (at : ℕ) (kind : ℕ → Kind) (p a e len : ℕ) (w : Within s at kind p a e) (long : two s (at + 1) ≡ len) where
  pub whole_order : a ≤ e
  whole_order = omega (arith, w.ends)

  pub whole_length : length (part s a e) ≡ len
  whole_length = simp (length-take, length-drop) (omega (arith, w.ends, w.inside))
