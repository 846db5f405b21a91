-- What a head's and a step's body hold: the step that is read, as the code has it.
-- Assumes nothing.
use Rattle.std.specs.Prelude.{ℕ, ◌≤◌, ◌≡◌, List, length}
use Rattle.definitions.specs.Fields.{two}
use Rattle.definitions.specs.Charts.{grouped, step_of}
use Rattle.chart_fields.specs.declared.bodies.HeadBody.{HeadBody}
use Rattle.chart_fields.specs.declared.bodies.StepBody.{StepBody}

abbrev pub head_body : List ℕ → HeadBody
head_body b = record { stages = two b 0; start = two b 2; end = two b 4 }

-- a step's body has the bytes that its kind has
abbrev pub Long : ℕ → List ℕ → Type 0
Long tag b = (8 ≤ length b) × (tag ≡ grouped → 10 ≤ length b)

abbrev pub step_body : ℕ → ℕ → List ℕ → StepBody
step_body tag e b = let x = step_of tag e b in record { tag = tag; from = x.from; to = x.to; cost = x.cost; group = x.group }
