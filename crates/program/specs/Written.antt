-- What the program writes: the text of both searches' answers, in the space that it lends them.
-- Assumes nothing.
use Rattle.std.specs.Prelude.{ℕ, ◌≤◌, ◌≡◌, List, [], ◌∷◌, length}
use Rattle.definitions.specs.Answers.{Load, load}
use Rattle.definitions.specs.Promises.{SweepSlices, sweep_load, GuidedSlices, guided_load}
use Rattle.planner.specs.Both.{BothCall}
use Rattle.planner.specs.declared.Answers.{Answers}
use Rattle.report.specs.Text.{report}
use Rattle.buffer.specs.Appending.{Appended}

-- the checks of both files, with 4,096 work entries and 255 plan entries
abbrev pub program_load : List ℕ → List ℕ → Load
program_load chart rules = load chart rules (4096 ∷ []) 255

-- The buffer before and after (out'), and the text's length r: some answers and slices that the promise of both searches holds of, in that space, and the text
-- of these answers and of the guided search's plan slice at the front of the buffer. A buffer of 2,879 bytes holds every text
pub record Written (chart rules out out' : List ℕ) (r : ℕ) : Type 0 where
  pub answers : Answers
  pub lent : SweepSlices
  pub lent' : SweepSlices
  pub given : GuidedSlices
  pub given' : GuidedSlices
  pub both : BothCall chart rules lent lent' given given' answers
  pub sweep_space : sweep_load chart rules lent ≡ program_load chart rules
  pub guided_space : guided_load chart rules given ≡ program_load chart rules
  pub text : Appended out 0 (report answers.guided given'.plan answers.sweep) out' r
  pub short : length (report answers.guided given'.plan answers.sweep) ≤ 2879
