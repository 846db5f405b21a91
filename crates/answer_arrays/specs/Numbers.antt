-- An answer and the space needed as arrays of numbers.
-- Assumes nothing.
use Rattle.std.specs.Prelude.{ℕ, List, [], ◌∷◌}
use Rattle.definitions.specs.declared.Answer.{Answer}
use Rattle.space.specs.declared.Needed.{Needed}

abbrev pub numbers : Answer → List ℕ
numbers a = a.number ∷ a.file ∷ a.place ∷ a.cost ∷ a.length ∷ a.count ∷ []

abbrev pub space_numbers : Needed → List ℕ
space_numbers s = s.number ∷ s.file ∷ s.place ∷ s.work ∷ s.plan ∷ []
