-- The text that the program writes for the answers of both searches, as bytes (ASCII).
-- Assumes nothing.
use Rattle.std.specs.Prelude.{ℕ, List, [], ◌∷◌, ◌++◌, eqb, take}
use Rattle.definitions.specs.Basics.{pick, each}
use Rattle.definitions.specs.declared.Answer.{Answer}
use Rattle.digits.specs.Decimal.{decimal}

-- ---- the words, with their spaces

-- `cost `
abbrev pub cost_word : List ℕ
cost_word = 99 ∷ 111 ∷ 115 ∷ 116 ∷ 32 ∷ []

-- `step `
abbrev pub step_word : List ℕ
step_word = 115 ∷ 116 ∷ 101 ∷ 112 ∷ 32 ∷ []

-- `settled `
abbrev pub settled_word : List ℕ
settled_word = 115 ∷ 101 ∷ 116 ∷ 116 ∷ 108 ∷ 101 ∷ 100 ∷ 32 ∷ []

-- ` reached `
abbrev pub reached_word : List ℕ
reached_word = 32 ∷ 114 ∷ 101 ∷ 97 ∷ 99 ∷ 104 ∷ 101 ∷ 100 ∷ 32 ∷ []

-- `refused `
abbrev pub refused_word : List ℕ
refused_word = 114 ∷ 101 ∷ 102 ∷ 117 ∷ 115 ∷ 101 ∷ 100 ∷ 32 ∷ []

-- ` file `
abbrev pub file_word : List ℕ
file_word = 32 ∷ 102 ∷ 105 ∷ 108 ∷ 101 ∷ 32 ∷ []

-- ` place `
abbrev pub place_word : List ℕ
place_word = 32 ∷ 112 ∷ 108 ∷ 97 ∷ 99 ∷ 101 ∷ 32 ∷ []

-- a line feed
abbrev pub line_end : List ℕ
line_end = 10 ∷ []

-- ---- the lines

-- a word and a number
unfoldable pub item : List ℕ → ℕ → List ℕ
item word n = word ++ decimal n

-- the same at the end of a line
unfoldable pub last_item : List ℕ → ℕ → List ℕ
last_item word n = item word n ++ line_end

-- a line for each step
abbrev pub step_lines : List ℕ → List ℕ
step_lines steps = each (last_item step_word) steps

-- a plan: its cost, its steps in order, and the counts of both searches
unfoldable pub plan_text : ℕ → List ℕ → ℕ → ℕ → List ℕ
plan_text cost steps settled reached = last_item cost_word cost ++ (step_lines steps ++ (item settled_word settled ++ last_item reached_word reached))

-- a refusal, in one line
unfoldable pub refused_text : ℕ → ℕ → ℕ → List ℕ
refused_text number file place = item refused_word number ++ (item file_word file ++ last_item place_word place)

-- the guided search's answer and its plan slice, and of the sweep's answer the count of reached pairs
unfoldable pub report : Answer → List ℕ → Answer → List ℕ
report guided plan sweep =
    pick (eqb guided.number 0)
    (plan_text guided.cost (take guided.length plan) guided.count sweep.count)
    (refused_text guided.number guided.file guided.place)
