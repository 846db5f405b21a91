-- The numbers of refusals (REFERENCE 3): what the code names is a number in a file of answers, and in every definition.
-- Assumes nothing.
use Rattle.std.specs.Prelude.{ℕ, Result, Ok, Err}
use Rattle.definitions.specs.declared.Refusal.{Refusal}
use Rattle.definitions.specs.declared.Refusal.TheVariants.{Cut, Tag, Length, HeadLimit, StepOrder, NodeLimit, ShortSlice, NoLegalPlan, LongFile, StepTarget, DearStep, ManyNodes, Padding, GroupLimit}

abbrev pub number : Refusal → ℕ
number Cut = 1
number Tag = 2
number Length = 3
number HeadLimit = 4
number StepOrder = 5
number NodeLimit = 6
number ShortSlice = 7
number NoLegalPlan = 8
number LongFile = 9
number StepTarget = 10
number DearStep = 11
number ManyNodes = 12
number Padding = 13
number GroupLimit = 14

-- the number of what a check answers, 0 where it finds nothing
abbrev pub fault_number : {A : Type 0} → Result A Refusal → ℕ
fault_number (Ok a) = 0
fault_number (Err r) = number r
