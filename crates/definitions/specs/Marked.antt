-- The charts and diagrams of the marked cases: that of REFERENCE 14 and some smaller ones. proofs/Marked has the cases.
-- Assumes nothing.
use Rattle.std.specs.Prelude.{ℕ, [], ◌∷◌}
use Rattle.definitions.specs.Charts.{Chart, ChartStep, plain}
use Rattle.definitions.specs.Bytes.{chart_back}
use Rattle.definitions.specs.Diagrams.{Diagram, InnerNode}

-- a plain step, as it is written to a file: without a group
abbrev pub st : ℕ → ℕ → ℕ → ChartStep
st from to cost = record { tag = plain; from = from; to = to; cost = cost; group = 0 }

abbrev pub nd : ℕ → ℕ → ℕ → InnerNode
nd step lo hi = record { step = step; lo = lo; hi = hi }

-- the chart of REFERENCE 14: with the values of its file, and as it is read; its rule: step 0 needs step 2
abbrev pub values : Chart
values = record { stages = 5; start = 0; end = 4; steps = st 0 1 40 ∷ st 0 1 90 ∷ st 1 2 200 ∷ st 1 3 30 ∷ st 2 3 20 ∷ st 3 4 50 ∷ [] }

abbrev pub chart : Chart
chart = chart_back values

abbrev pub rules : Diagram
rules = record { root = 3; nodes = nd 2 0 1 ∷ nd 0 1 2 ∷ [] }

-- (g), (h): one stage, no steps; (j): two stages, from the second to the first; a diagram with no inner node
abbrev pub single : Chart
single = record { stages = 1; start = 0; end = 0; steps = [] }

abbrev pub backward : Chart
backward = record { stages = 2; start = 1; end = 0; steps = [] }

abbrev pub leaf : ℕ → Diagram
leaf n = record { root = n; nodes = [] }
