-- Where the refused field lies: the part that is handed back belongs to one of the two lent slices.
-- Assumes nothing.
use Rattle.std.specs.Prelude.{ℕ, ◌+◌, ◌≤◌, ◌≡◌, List, ltb, eqb, length}
use Rattle.definitions.specs.Basics.{pick}
use Rattle.theory.specs.Choices.{tests}

-- the place i of a slice, by the slice's pointer: a block of memory and an offset in it
abbrev pub place_in : ℕ × ℕ → ℕ → ℕ × ℕ
place_in slice i = (slice.0, i + slice.1)

-- the pointer of the part of a file s: its place there, and at or past its end the chart's front
abbrev pub part_at : ℕ × ℕ → ℕ × ℕ → List ℕ → ℕ → ℕ × ℕ
part_at chart slice s place = pick (ltb place (length s)) (place_in slice place) chart

-- The part's pointer, by those of the slices: its place in the chart for file 1, in the diagram for file 2; an empty part is the chart's, at its front
unfoldable pub refused_at : ℕ × ℕ → ℕ × ℕ → List ℕ → List ℕ → ℕ → ℕ → ℕ × ℕ
refused_at chart rules s t file place = pick (eqb file 1) (part_at chart chart s place) (pick (eqb file 2) (part_at chart rules t place) chart)

module _ (chart rules : ℕ × ℕ) (s t : List ℕ) (file place : ℕ) where
  pub lies_past : length s ≤ place → chart ≡ part_at chart rules s place
  unfolding pick
  lies_past h = simp tests

  pub lies_none : (file ≡ 1 → ⊥) → (file ≡ 2 → ⊥) → chart ≡ refused_at chart rules s t file place
  unfolding refused_at pick
  lies_none n p = simp tests
