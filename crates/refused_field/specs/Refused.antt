-- The bytes of the field at a place of a file, in it and past its end.
-- Assumes nothing.
use Rattle.std.specs.Prelude.{ℕ, ◌+◌, ◌-◌, ◌≤◌, min, ◌≡◌, List, [], length, drop}
use Rattle.std.proofs.Common.{drop_of_length-le, arith}
use Rattle.std.proofs.Math.ListN.{length-drop}
use Rattle.std.proofs.Math.Seq.{take-nil}
use Rattle.std.proofs.lemmas.List.{take_min}
use Rattle.definitions.specs.Fields.{two, part, field_bytes, refused_field}
use Rattle.theory.specs.Choices.{tests}
use Rattle.definitions.specs.Basics.{pick}

-- `end` is where the field ends
pub bytes_within : (s : List ℕ) (place end : ℕ) → end ≡ place + min (3 + two s (place + 1)) (length s - place) → part s place end ≡ field_bytes s place
unfolding field_bytes
bytes_within s place end ends =
    let e : end - place ≡ min (3 + two s (place + 1)) (length (drop place s)) = omega (arith, length-drop place s) in
    rw e (take_min (3 + two s (place + 1)) (drop place s))

-- at or past the end
pub bytes_past : (s : List ℕ) (place : ℕ) → length s ≤ place → [] ≡ field_bytes s place
unfolding field_bytes
bytes_past s place h = rw (drop_of_length-le s h, take-nil {A = ℕ} (3 + two s (place + 1)))

-- another file mark
pub bytes_none : (chart rules : List ℕ) (file place : ℕ) → (file ≡ 1 → ⊥) → (file ≡ 2 → ⊥) → [] ≡ refused_field chart rules file place
unfolding refused_field pick
bytes_none chart rules file place n p = simp tests
