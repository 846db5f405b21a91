-- Files that agree from a place on are walked alike from there.
-- Assumes nothing.
use Prim.Native.Nat.{ℕ, zero, suc, ◌+◌, ◌-◌, ◌≤◌}
use Rattle.std.specs.Prelude.{◌≡◌, not, leb, ltb, eqb, length, take, drop}
use Rattle.std.proofs.Math.Path.{refl, ap, ap₂}
use Rattle.std.proofs.Common.{◌∙◌, arith}
use mathlib.Core.List.{List, [], ◌∷◌, ◌++◌}
use Rattle.std.proofs.Math.ListN.{get_or}
use Rattle.definitions.specs.Basics.{pick}
use Rattle.definitions.specs.Fields.{two, part, Kind, is_foreign, is_passed_over, length_fits, or_remark, field_at, on_field, Grammar, Scan, stopped, scan}
use Rattle.definitions.specs.declared.Field.{Field}
use Rattle.definitions.specs.declared.Field.TheVariants.{Absent, Faulty, Passed, Whole}
use Rattle.theory.specs.Choices.{both}

-- two files of one length with the same bytes from place n on
pub record SameFrom (n : ℕ) (s s' : List ℕ) : Type 0 where
  pub long : length s' ≡ length s
  pub byte : (i : ℕ) → n ≤ i → get_or s' i 0 ≡ get_or s i 0
  pub rest : (i : ℕ) → n ≤ i → drop i s' ≡ drop i s

-- another front of the same length
byte_past : (x y t : List ℕ) → length x ≡ length y → (i : ℕ) → length x ≤ i → get_or (x ++ t) i 0 ≡ get_or (y ++ t) i 0
byte_past [] [] t e i h = refl
byte_past [] (b ∷ y) t e i h = absurd (omega arith)
byte_past (a ∷ x) [] t e i h = absurd (omega arith)
byte_past (a ∷ x) (b ∷ y) t e zero h = absurd (omega arith)
byte_past (a ∷ x) (b ∷ y) t e (suc i) h = byte_past x y t (omega arith) i (omega arith)

rest_past : (x y t : List ℕ) → length x ≡ length y → (i : ℕ) → length x ≤ i → drop i (x ++ t) ≡ drop i (y ++ t)
rest_past [] [] t e i h = refl
rest_past [] (b ∷ y) t e i h = absurd (omega arith)
rest_past (a ∷ x) [] t e i h = absurd (omega arith)
rest_past (a ∷ x) (b ∷ y) t e zero h = absurd (omega arith)
rest_past (a ∷ x) (b ∷ y) t e (suc i) h = rest_past x y t (omega arith) i (omega arith)

long_past : (x y t : List ℕ) → length x ≡ length y → length (x ++ t) ≡ length (y ++ t)
long_past [] [] t e = refl
long_past [] (b ∷ y) t e = absurd (omega arith)
long_past (a ∷ x) [] t e = absurd (omega arith)
long_past (a ∷ x) (b ∷ y) t e = ap suc (long_past x y t (omega arith))

pub same_past : (x y t : List ℕ) → length y ≡ length x → SameFrom (length y) (x ++ t) (y ++ t)
same_past x y t e = record { long = long_past y x t e; byte = byte_past y x t e; rest = rest_past y x t e }

-- what stands at a place and where it leads is not before it
abbrev Onward : ℕ → Field → Type 0
Onward at Absent = Unit {0}
Onward at (Faulty number place) = Unit {0}
Onward at (Passed end) = at ≤ end
Onward at (Whole place start end) = (at ≤ place) × (at ≤ start) × (at ≤ end)

onward : (s : List ℕ) (at : ℕ) (kind : ℕ → Kind) → Onward at (field_at s at kind)
unfolding field_at
onward s at kind =
    both (Onward at) (leb (length s) at) tt
    (both (Onward at) (ltb (length s - at) 3) tt
    (both (Onward at) (is_foreign (kind (get_or s at 0))) tt
    (both (Onward at) (not (length_fits (kind (get_or s at 0)) (two s (at + 1)))) tt
    (both (Onward at) (ltb (length s - at - 3) (two s (at + 1))) tt
    (both (Onward at) (is_passed_over (kind (get_or s at 0))) (omega arith) (omega arith, omega arith, omega arith))))))

module _ {n : ℕ} {s s' : List ℕ} (m : SameFrom n s s') where
  same_field : (at : ℕ) (kind : ℕ → Kind) → n ≤ at → field_at s' at kind ≡ field_at s at kind
  unfolding field_at
  same_field at kind h = rw (m.long, m.byte at h, m.byte (at + 1) (omega arith), m.byte (at + 1 + 1) (omega arith))

  same_part : (a e : ℕ) → n ≤ a → part s' a e ≡ part s a e
  same_part a e h = ap (take (e - a)) (m.rest a h)

  module _ {A : Type 0} (g : Grammar A) where
    abbrev kinds : List A → ℕ → Kind
    kinds before = or_remark (g.kind before)

    -- a turn at a whole field, of a file and the walk on
    abbrev whole_turn : List ℕ → (ℕ → List A → Scan A) → List A → ℕ → ℕ → ℕ → Scan A
    whole_turn f on before place start end =
        let tag = get_or f place 0 in
        let body = part f start end in
        let fault = g.fault before tag body in
        pick (eqb fault 0) (on end (before ++ g.holds before tag body ∷ [])) (stopped before fault place)

    -- by what stands at a place, where the walks on are alike
    same_turn : (turns at : ℕ) (before : List A) → n ≤ at → ((end : ℕ) (more : List A) → n ≤ end → scan s' g turns end more ≡ scan s g turns end more) → (f : Field) → Onward at f
        → on_field f (stopped before 0 0) (stopped before) (λ end. scan s' g turns end before) (whole_turn s' (scan s' g turns) before)
        ≡ on_field f (stopped before 0 0) (stopped before) (λ end. scan s g turns end before) (whole_turn s (scan s g turns) before)
    unfolding on_field
    same_turn turns at before h on Absent o = refl
    same_turn turns at before h on (Faulty number place) o = refl
    same_turn turns at before h on (Passed end) o = on end before (omega arith)
    same_turn turns at before h on (Whole place start end) o =
        let tag = get_or s place 0 in
        let body = part s start end in
        ap₂ (λ (t : ℕ) (b : List ℕ). pick (eqb (g.fault before t b) 0) (scan s' g turns end (before ++ g.holds before t b ∷ [])) (stopped before (g.fault before t b) place))
        (m.byte place (omega arith)) (same_part start end (omega arith))
        ∙ ap (λ (r : Scan A). pick (eqb (g.fault before tag body) 0) r (stopped before (g.fault before tag body) place))
        (on end (before ++ g.holds before tag body ∷ []) (omega arith))

    pub same_scan : (turns at : ℕ) (before : List A) → n ≤ at → scan s' g turns at before ≡ scan s g turns at before
    unfolding scan
    same_scan zero at before h = refl
    same_scan (suc turns) at before h =
        ap (λ (f : Field). on_field f (stopped before 0 0) (stopped before) (λ end. scan s' g turns end before) (whole_turn s' (scan s' g turns) before)) (same_field at (kinds before) h)
        ∙ same_turn turns at before h (λ end more i. same_scan turns end more i) (field_at s at (kinds before)) (onward s at (kinds before))
