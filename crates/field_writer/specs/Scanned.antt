-- A field that is written is found, and fields that are written one behind the other are scanned back: for every grammar.
-- Assumes nothing.
use Rattle.std.specs.Prelude.{ℕ, pred, ◌+◌, ◌-◌, ◌≤◌, ◌≡◌, refl, true, false, List, [], ◌∷◌, ◌++◌, length, get_or, take}
use Rattle.std.proofs.Common.{sym, ◌∙◌, ap, ap₂, append_assoc, append-nil, arith, length-append, get_or-append-add}
use Rattle.std.proofs.Math.Seq.{get_or-append_seam, drop-append-add, take-append_seam}
use Rattle.definitions.specs.Basics.{each}
use Rattle.definitions.specs.Fields.{two, part, Kind, is_foreign, is_passed_over, is_remark, length_fits, or_remark, field_at, Grammar, scan, stopped}
use Rattle.definitions.specs.declared.Field.TheVariants.{Whole}
use Rattle.fields.specs.Positions.{field_absent, field_whole}
use Rattle.fields.specs.Remarks.{or_kind}
use Rattle.fields.specs.Scans.{scan_absent, scan_step}
use Rattle.definitions.specs.Bytes.{le2, field}

-- ---- one field, with bytes before it and behind it

module _ (before body behind : List ℕ) (tag : ℕ) where
  abbrev file : List ℕ
  file = before ++ (field tag body ++ behind)

  file_long : length file ≡ length before + (3 + length body + length behind)
  file_long = omega (arith, length-append before (field tag body ++ behind), length-append (field tag body) behind)

  said : two file (length before + 1) ≡ length body
  said =
      let e : length before + 1 + 1 ≡ length before + 2 = omega arith in
      let low = get_or-append-add before (field tag body ++ behind) 1 0 in
      let high = ap (λ (k : ℕ). get_or file k 0) e ∙ get_or-append-add before (field tag body ++ behind) 2 0 in
      omega arith

  pub tag_written : get_or file (length before) 0 ≡ tag
  tag_written = get_or-append_seam before tag ((le2 (length body) ++ body) ++ behind) 0

  pub field_at_written : (kind : ℕ → Kind) → is_foreign (kind tag) ≡ false → length_fits (kind tag) (length body) ≡ true → is_passed_over (kind tag) ≡ false
      → Whole (length before) (length before + 3) (length before + 3 + length body) ≡ field_at file (length before) kind
  field_at_written kind known fits given =
      ap (λ (k : ℕ). Whole (length before) (length before + 3) (length before + 3 + k)) (sym said)
      ∙ field_whole file (length before) kind (omega (arith, file_long)) (omega (arith, file_long)) (ap (λ (t : ℕ). is_foreign (kind t)) tag_written ∙ known)
      (ap₂ (λ (t k : ℕ). length_fits (kind t) k) tag_written said ∙ fits) (omega (arith, file_long, said)) (ap (λ (t : ℕ). is_passed_over (kind t)) tag_written ∙ given)

  pub part_written : part file (length before + 3) (length before + 3 + length body) ≡ body
  part_written =
      let e : length before + 3 + length body - (length before + 3) ≡ length body = omega arith in
      ap₂ take e (drop-append-add before (field tag body ++ behind) 3) ∙ take-append_seam body behind

-- ---- fields to the file's end, each written for a member, and all read as what is made of the members

module _ {A B : Type 0} (g : Grammar B) (tag : A → ℕ) (body : A → List ℕ) (made : List A → List B) where
  -- behind what is made of the members before it, a member's body is that of a field with its tag, passes, and holds what the member adds
  pub record Reads (before : List A) (x : A) : Type 0 where
    pub other : is_remark (tag x) ≡ false
    pub known : is_foreign (g.kind (made before) (tag x)) ≡ false
    pub given : is_passed_over (g.kind (made before) (tag x)) ≡ false
    pub fits : length_fits (g.kind (made before) (tag x)) (length (body x)) ≡ true
    pub passes : g.fault (made before) (tag x) (body x) ≡ 0
    pub same : made before ++ g.holds (made before) (tag x) (body x) ∷ [] ≡ made (before ++ x ∷ [])

  abbrev fields_of : List A → List ℕ
  fields_of xs = each (λ x. field (tag x) (body x)) xs

  module _ (all : List A) (reads : (before : List A) (x : A) (rest : List A) → all ≡ before ++ x ∷ rest → Reads before x) (s : List ℕ) where
    -- from any member on
    rest_written : (rest before : List A) (front : List ℕ) (turns : ℕ) → all ≡ before ++ rest → s ≡ front ++ fields_of rest → length s ≤ length front + turns
        → scan s g turns (length front) (made before) ≡ stopped (made all) 0 0
    rest_written [] before front turns split e h =
        let l : length s ≤ length front = omega (arith, ap length (e ∙ append-nil front)) in
        scan_absent s g turns (length front) (made before) (field_absent s (length front) (or_remark (g.kind (made before))) l)
        ∙ ap (λ (l : List A). stopped (made l) 0 0) (sym (split ∙ append-nil before))
    rest_written (x ∷ rest) before front turns split e h =
        let r = reads before x rest split in
        let n = length (body x) in
        let past = made before in
        let kind = or_kind (g.kind past) (tag x) r.other in
        let here : Whole (length front) (length front + 3) (length front + 3 + n) ≡ field_at s (length front) (or_remark (g.kind past))
        = rw e (field_at_written front (body x) (fields_of rest) (tag x) (or_remark (g.kind past)) (ap is_foreign kind ∙ r.known)
        (ap (λ (k : Kind). length_fits k (length (body x))) kind ∙ r.fits) (ap is_passed_over kind ∙ r.given)) in
        let got : part s (length front + 3) (length front + 3 + n) ≡ body x = rw e (part_written front (body x) (fields_of rest) (tag x)) in
        let tagged : get_or s (length front) 0 ≡ tag x = rw e (tag_written front (body x) (fields_of rest) (tag x)) in
        let next : length (front ++ field (tag x) (body x)) ≡ length front + 3 + n = omega (arith, length-append front (field (tag x) (body x))) in
        scan_step s g (length front) past (length front) (length front + 3) (length front + 3 + n) here turns h
        (ap₂ (λ (t : ℕ) (b : List ℕ). g.fault past t b) tagged got ∙ r.passes)
        ∙ ap₂ (λ (k : ℕ) (l : List B). scan s g (pred turns) k l) (sym next) (ap₂ (λ (t : ℕ) (b : List ℕ). past ++ g.holds past t b ∷ []) tagged got ∙ r.same)
        ∙ rest_written rest (before ++ x ∷ []) (front ++ field (tag x) (body x)) (pred turns) (split ∙ sym (append_assoc before (x ∷ []) rest))
        (e ∙ sym (append_assoc front (field (tag x) (body x)) (fields_of rest))) (omega (arith, next))

    pub scan_written : (front : List ℕ) → made [] ≡ [] → s ≡ front ++ fields_of all → scan s g (length s) (length front) [] ≡ stopped (made all) 0 0
    scan_written front none e = ap (scan s g (length s) (length front)) (sym none) ∙ rest_written all [] front (length s) refl e (omega arith)
