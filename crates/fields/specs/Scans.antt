-- The walk from field to field, over any grammar: one law for each case of a turn, what a reader's loop keeps, and an induction.
-- Assumes nothing.
use Prim.Native.Nat.{ℕ, zero, suc, pred, ◌+◌, ◌≤◌}
use Rattle.std.specs.Prelude.{◌≡◌, Bool, length, get_or}
use Rattle.std.proofs.Math.Path.{refl, sym}
use Rattle.std.proofs.Common.{◌∙◌, arith}
use Rattle.std.proofs.Math.Bool.{true, false}
use mathlib.Core.List.{List, [], ◌∷◌, ◌++◌}
use Rattle.std.proofs.Math.Dec.{eqb}
use borrow.Author.Tests.{eqb-true, eqb-false, eq-eqb, ne_eqb}
use Rattle.definitions.specs.Basics.{pick}
use Rattle.definitions.specs.Fields.{part, Kind, or_remark, field_at, on_field, Grammar, Scan, stopped, scan}
use Rattle.definitions.specs.declared.Field.{Field}
use Rattle.definitions.specs.declared.Field.TheVariants.{Absent, Faulty, Passed, Whole}
use Rattle.definitions.specs.declared.Refusal.{Refusal}
use Rattle.definitions.specs.Refusals.{number}
use Rattle.fields.specs.Positions.{field_absent, within, passed_within}

absent_faulty : {r : Refusal} {p : ℕ} → Absent ≡ Faulty r p → ⊥
absent_faulty p = let z : ◌≡◌ {A = ℕ} 0 1 = cc in omega arith

absent_passed : {e : ℕ} → Absent ≡ Passed e → ⊥
absent_passed p = let z : ◌≡◌ {A = ℕ} 0 1 = cc in omega arith

absent_whole : {p a e : ℕ} → Absent ≡ Whole p a e → ⊥
absent_whole p = let z : ◌≡◌ {A = ℕ} 0 1 = cc in omega arith

module _ {A : Type 0} (s : List ℕ) (g : Grammar A) where
  -- what a tag is after some elements, remarks with it
  abbrev kinds : List A → ℕ → Kind
  kinds before = or_remark (g.kind before)

  -- what is wrong with the body of the field at a place, and the elements with the one that it holds
  abbrev fault_of : ℕ → List A → ℕ → ℕ → ℕ
  fault_of p before a e = g.fault before (get_or s p 0) (part s a e)

  abbrev with : ℕ → List A → ℕ → ℕ → List A
  with p before a e = before ++ g.holds before (get_or s p 0) (part s a e) ∷ []

  -- ---- one turn. The turns left are enough for the bytes left, however many there are

  pub scan_absent : (turns at : ℕ) (before : List A) → Absent ≡ field_at s at (kinds before) → scan s g turns at before ≡ stopped before 0 0
  unfolding scan on_field
  scan_absent zero at before p = refl
  scan_absent (suc n) at before p = rw (← p)

  module _ (at : ℕ) (before : List A) where
    pub scan_faulty : (turns : ℕ) (refusal : Refusal) (place : ℕ) → length s ≤ at + turns → Faulty refusal place ≡ field_at s at (kinds before)
        → scan s g turns at before ≡ stopped before (number refusal) place
    unfolding scan on_field
    scan_faulty zero refusal place h p = absurd (absent_faulty (field_absent s at (kinds before) (omega arith) ∙ sym p))
    scan_faulty (suc n) refusal place h p = rw (← p)

    pub scan_passed : (turns e : ℕ) → length s ≤ at + turns → Passed e ≡ field_at s at (kinds before) → scan s g turns at before ≡ scan s g (pred turns) e before
    unfolding scan on_field
    scan_passed zero e h p = absurd (absent_passed (field_absent s at (kinds before) (omega arith) ∙ sym p))
    scan_passed (suc n) e h p = rw (← p)

    module _ (place a e : ℕ) (p : Whole place a e ≡ field_at s at (kinds before)) where
      pub scan_bad : (turns : ℕ) → length s ≤ at + turns → (fault_of place before a e ≡ 0 → ⊥) → scan s g turns at before ≡ stopped before (fault_of place before a e) place
      unfolding scan on_field pick
      scan_bad zero h b = absurd (absent_whole (field_absent s at (kinds before) (omega arith) ∙ sym p))
      scan_bad (suc n) h b = rw (← p, ne_eqb (fault_of place before a e) 0 b)

      pub scan_step : (turns : ℕ) → length s ≤ at + turns → fault_of place before a e ≡ 0 → scan s g turns at before ≡ scan s g (pred turns) e (with place before a e)
      unfolding scan on_field pick
      scan_step zero h b = absurd (absent_whole (field_absent s at (kinds before) (omega arith) ∙ sym p))
      scan_step (suc n) h b = rw (← p, eq-eqb (fault_of place before a e) 0 b)

  -- ---- what a reader's loop keeps

  -- from the first place on the walk gives what it gives from here on, after the elements before
  pub record Reading (first at : ℕ) (before : List A) : Type 0 where
    pub turns : ℕ
    pub same : scan s g (length s) first [] ≡ scan s g turns at before
    pub enough : length s ≤ at + turns

  pub reading_start : (first : ℕ) → Reading first first []
  reading_start first = record { turns = length s; same = refl; enough = omega arith }

  module _ (first at : ℕ) (before : List A) (read : Reading first at before) (r : Field) (given : r ≡ field_at s at (kinds before)) where
    pub reading_done : r ≡ Absent → scan s g (length s) first [] ≡ stopped before 0 0
    reading_done p = read.same ∙ scan_absent read.turns at before (sym p ∙ given)

    pub reading_faulty : (refusal : Refusal) (place : ℕ) → r ≡ Faulty refusal place → scan s g (length s) first [] ≡ stopped before (number refusal) place
    reading_faulty refusal place p = read.same ∙ scan_faulty at before read.turns refusal place read.enough (sym p ∙ given)

    pub reading_passed : (e : ℕ) → r ≡ Passed e → Reading first e before
    reading_passed e p = record {
      turns = pred read.turns;
      same = read.same ∙ scan_passed at before read.turns e read.enough (sym p ∙ given);
      enough = let w = passed_within s at (kinds before) e (sym p ∙ given) in omega (arith, read.enough, w.later);
    }

    module _ (place a e : ℕ) (found : r ≡ Whole place a e) (v : ℕ) (judged : v ≡ fault_of place before a e) where
      pub reading_bad : (v ≡ 0 → ⊥) → scan s g (length s) first [] ≡ stopped before v place
      reading_bad p = rw judged (read.same ∙ scan_bad at before place a e (sym found ∙ given) read.turns read.enough (λ q. p (judged ∙ q)))

      pub reading_step : v ≡ 0 → Reading first e (with place before a e)
      reading_step p = record {
        turns = pred read.turns;
        same = read.same ∙ scan_step at before place a e (sym found ∙ given) read.turns read.enough (sym judged ∙ p);
        enough = omega (arith, read.enough, within s at (kinds before) place a e (sym found ∙ given));
      }

  -- ---- a grammar that refuses less

  -- where no field is refused, fewer refusals change nothing
  module _ (less : List A → ℕ → List ℕ → ℕ) (weaker : (before : List A) (tag : ℕ) (b : List ℕ) → g.fault before tag b ≡ 0 → less before tag b ≡ 0) where
    abbrev milder : Grammar A
    milder = record { kind = g.kind; fault = less; holds = g.holds }

    -- what a whole field leads to
    abbrev found : Grammar A → ℕ → List A → ℕ → ℕ → ℕ → Scan A
    found h turns before p a e =
        pick (eqb (h.fault before (get_or s p 0) (part s a e)) 0) (scan s h turns e (before ++ h.holds before (get_or s p 0) (part s a e) ∷ []))
        (stopped before (h.fault before (get_or s p 0) (part s a e)) p)

    pub scan_milder : (turns at : ℕ) (before : List A) → (scan s g turns at before).number ≡ 0 → scan s milder turns at before ≡ scan s g turns at before
    unfolding scan on_field pick
    scan_milder zero at before e = refl
    scan_milder (suc n) at before e = go (field_at s at (kinds before)) (scan_milder n) e
      where
        chosen : (p a e' : ℕ) → ((at : ℕ) (before : List A) → (scan s g n at before).number ≡ 0 → scan s milder n at before ≡ scan s g n at before)
            → (b : Bool) → eqb (fault_of p before a e') 0 ≡ b
            → (pick b (scan s g n e' (with p before a e')) (stopped before (fault_of p before a e') p)).number ≡ 0
            → found milder n before p a e' ≡ pick b (scan s g n e' (with p before a e')) (stopped before (fault_of p before a e') p)
        chosen p a e' k true t z =
            rw (eq-eqb (less before (get_or s p 0) (part s a e')) 0 (weaker before (get_or s p 0) (part s a e') (eqb-true (fault_of p before a e') 0 t))) (k e' (with p before a e') z)
        chosen p a e' k false t z = absurd (eqb-false (fault_of p before a e') 0 t z)

        go : (r : Field) → ((at : ℕ) (before : List A) → (scan s g n at before).number ≡ 0 → scan s milder n at before ≡ scan s g n at before)
            → (on_field r (stopped before 0 0) (stopped before) (λ end. scan s g n end before) (found g n before)).number ≡ 0
            → on_field r (stopped before 0 0) (stopped before) (λ end. scan s milder n end before) (found milder n before)
            ≡ on_field r (stopped before 0 0) (stopped before) (λ end. scan s g n end before) (found g n before)
        go Absent k z = refl
        go (Faulty refusal place) k z = refl
        go (Passed end) k z = k end before z
        go (Whole p a e') k z = chosen p a e' k (eqb (fault_of p before a e') 0) refl z

  -- ---- what holds at the start, and is kept by each field that passes, holds of all that passed

  module _ (P : List A → Type 0)
      (keeps : (at place a e : ℕ) (before : List A) → Whole place a e ≡ field_at s at (kinds before) → fault_of place before a e ≡ 0 → P before → P (with place before a e))
    where
      -- what a whole field leads to
      abbrev on : ℕ → List A → ℕ → ℕ → ℕ → Scan A
      on turns before p a e = pick (eqb (fault_of p before a e) 0) (scan s g turns e (with p before a e)) (stopped before (fault_of p before a e) p)

      pub scan_keeps : (turns at : ℕ) (before : List A) → P before → P (scan s g turns at before).passed
      unfolding scan on_field pick
      scan_keeps zero at before p = p
      scan_keeps (suc n) at before p = go (field_at s at (kinds before)) refl (scan_keeps n)
        where
          -- by the test of a whole field's body
          chosen : (q a e : ℕ) → Whole q a e ≡ field_at s at (kinds before) → ((at : ℕ) (before : List A) → P before → P (scan s g n at before).passed)
              → (b : Bool) → eqb (fault_of q before a e) 0 ≡ b → P (pick b (scan s g n e (with q before a e)) (stopped before (fault_of q before a e) q)).passed
          chosen q a e w k true t = k e (with q before a e) (keeps at q a e before w (eqb-true (fault_of q before a e) 0 t) p)
          chosen q a e w k false t = p

          go : (r : Field) → r ≡ field_at s at (kinds before) → ((at : ℕ) (before : List A) → P before → P (scan s g n at before).passed)
              → P (on_field r (stopped before 0 0) (stopped before) (λ end. scan s g n end before) (on n before)).passed
          go Absent w k = p
          go (Faulty refusal place) w k = p
          go (Passed e) w k = k e before p
          go (Whole q a e) w k = chosen q a e w k (eqb (fault_of q before a e) 0) refl
