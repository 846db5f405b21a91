-- What the exported calls promise: the promises of the calls below them, of an answer that stands in a lent array.
-- Assumes nothing.
use Rattle.std.specs.Prelude.{ℕ, ◌≡◌, List}
use Rattle.definitions.specs.declared.Answer.{Answer}
use Rattle.answer_arrays.specs.Numbers.{numbers}
use Rattle.planner.specs.declared.Answers.{Answers}

-- an answer that keeps the promise P stands in the array, and the call returns its number
pub record Given (P : Answer → Type 0) (array : List ℕ) (r : ℕ) : Type 0 where
  pub answer : Answer
  pub kept : P answer
  pub held : array ≡ numbers answer
  pub returned : r ≡ answer.number

-- the same of both searches' answers; the call returns the guided search's number
pub record BothGiven (P : Answers → Type 0) (swept found : List ℕ) (r : ℕ) : Type 0 where
  pub answers : Answers
  pub kept : P answers
  pub sweep_held : swept ≡ numbers answers.sweep
  pub guided_held : found ≡ numbers answers.guided
  pub returned : r ≡ answers.guided.number
