-- Tagged fields (REFERENCE 2.1, 3.2, 12): a one-byte tag, a two-byte length, a body (type-length-value). Numbers are unsigned, low byte first.
-- Assumes nothing.
use Rattle.std.specs.Prelude.{ℕ, zero, suc, ◌+◌, ◌-◌, ◌*◌, Bool, true, false, not, List, [], ◌∷◌, ◌++◌, leb, ltb, eqb, length, get_or, take, drop}
use Rattle.definitions.specs.Basics.{pick}
use Rattle.definitions.specs.declared.Field.{Field}
use Rattle.definitions.specs.declared.Field.TheVariants.{Absent, Faulty, Passed, Whole}
use Rattle.definitions.specs.declared.Refusal.TheVariants.{Cut, Tag, Length, LongFile}
use Rattle.definitions.specs.Refusals.{number}

-- the two-byte and the four-byte number at a place
abbrev pub two : List ℕ → ℕ → ℕ
two s at = get_or s at 0 + 256 * get_or s (at + 1) 0

abbrev pub four : List ℕ → ℕ → ℕ
four s at = two s at + 65536 * two s (at + 2)

-- the part of a file from a to before e
abbrev pub part : List ℕ → ℕ → ℕ → List ℕ
part s a e = take (e - a) (drop a s)

-- What a tag is at its place: not of this file, a field of exactly n bytes, a field of at least n bytes whose length is judged with its content, or
-- a field of any length that is passed over
pub data Kind : Type 0 where
  foreign : Kind
  exactly : ℕ → Kind
  at_least : ℕ → Kind
  passed_over : Kind

abbrev pub is_foreign : Kind → Bool
is_foreign foreign = true
is_foreign (exactly n) = false
is_foreign (at_least n) = false
is_foreign passed_over = false

abbrev pub is_passed_over : Kind → Bool
is_passed_over foreign = false
is_passed_over (exactly n) = false
is_passed_over (at_least n) = false
is_passed_over passed_over = true

-- a length is one that the kind may have
abbrev pub length_fits : Kind → ℕ → Bool
length_fits foreign len = false
length_fits (exactly n) len = eqb len n
length_fits (at_least n) len = leb n len
length_fits passed_over len = true

-- fields of one tag and length only
unfoldable pub only : ℕ → ℕ → ℕ → Kind
only tag len found = pick (eqb found tag) (exactly len) foreign

-- a remark's tag: 80 to FF (hexadecimal)
abbrev pub is_remark : ℕ → Bool
is_remark tag = leb 128 tag

-- after a file's head remarks are passed over; `kind` says what the other tags are
unfoldable pub or_remark : (ℕ → Kind) → ℕ → Kind
or_remark kind tag = pick (is_remark tag) passed_over (kind tag)

-- The field at a place where `kind` says what each tag is. In this order: header cut (1), tag (2), length (3), body cut (1)
unfoldable pub field_at : List ℕ → ℕ → (ℕ → Kind) → Field
field_at s at kind =
    let tag = get_or s at 0 in
    let len = two s (at + 1) in
    pick (leb (length s) at) Absent
    (pick (ltb (length s - at) 3) (Faulty Cut at)
    (pick (is_foreign (kind tag)) (Faulty Tag at)
    (pick (not (length_fits (kind tag) len)) (Faulty Length at)
    (pick (ltb (length s - at - 3) len) (Faulty Cut at)
    (pick (is_passed_over (kind tag)) (Passed (at + 3 + len))
    (Whole at (at + 3) (at + 3 + len)))))))

-- how many bytes a file may have
abbrev pub longest : ℕ
longest = 32768

-- A file's first field. Its length comes first: a file that is too long is 9, at the place of its first byte too many
unfoldable pub first_field : List ℕ → (ℕ → Kind) → Field
first_field s kind = pick (not (leb (length s) longest)) (Faulty LongFile longest) (field_at s 0 kind)

-- by cases on what stands in a file; a faulty field by its number and place
unfoldable pub on_field {ℓ} : {A : Type ℓ} → Field → A → (ℕ → ℕ → A) → (ℕ → A) → (ℕ → ℕ → ℕ → A) → A
on_field Absent absent faulty passed whole = absent
on_field (Faulty refusal place) absent faulty passed whole = faulty (number refusal) place
on_field (Passed end) absent faulty passed whole = passed end
on_field (Whole place start end) absent faulty passed whole = whole place start end

-- What a walk from field to field gives: what the fields hold that passed, and the number and place of the first faulty one, 0 and 0 where none is
pub record Scan (A : Type 0) : Type 0 where
  pub passed : List A
  pub number : ℕ
  pub place : ℕ

abbrev pub stopped : {A : Type 0} → List A → ℕ → ℕ → Scan A
stopped before number place = record { passed = before; number = number; place = place }

-- What the fields after a file's head may be and hold, remarks aside, each after the elements before it: what a tag is, what is wrong with the body of a
-- field that has it (0: nothing), and the element that the body holds
pub record Grammar (A : Type 0) : Type 0 where
  pub kind : List A → ℕ → Kind
  pub fault : List A → ℕ → List ℕ → ℕ
  pub holds : List A → ℕ → List ℕ → A

-- The fields from a place to the file's end. Remarks are passed over: they give no element, and their bodies are not looked at.
-- Each turn passes a field, so as many turns as the file has bytes are enough
module _ {A : Type 0} (s : List ℕ) (g : Grammar A) where
  unfoldable pub scan : ℕ → ℕ → List A → Scan A
  scan zero at before = stopped before 0 0
  scan (suc turns) at before =
      on_field (field_at s at (or_remark (g.kind before))) (stopped before 0 0) (stopped before)
      (λ end. scan turns end before)
      (λ place start end.
      let tag = get_or s place 0 in
      let body = part s start end in
      let fault = g.fault before tag body in
      let rest = scan turns end (before ++ g.holds before tag body ∷ []) in
      pick (eqb fault 0) rest (stopped before fault place))

-- The refused field: three header bytes and the body by its length, cut at the file's end
unfoldable pub field_bytes : List ℕ → ℕ → List ℕ
field_bytes s at = take (3 + two s (at + 1)) (drop at s)

-- from the chart (file 1) or from the diagram (file 2); empty for another file mark
unfoldable pub refused_field : List ℕ → List ℕ → ℕ → ℕ → List ℕ
refused_field chart rules file at = pick (eqb file 1) (field_bytes chart at) (pick (eqb file 2) (field_bytes rules at) [])
