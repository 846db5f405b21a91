-- Small files, computed: the chart and the diagram of REFERENCE 14, and that what they must not be is refuted.
-- Assumes nothing.
use Rattle.std.specs.Prelude.{ℕ, ◌≡◌, refl, [], ◌∷◌, ◌++◌, take, replicate}
use Rattle.std.proofs.Common.{arith}
use Rattle.definitions.specs.Basics.{pick}
use Rattle.definitions.specs.Charts.{grouped}
use Rattle.definitions.specs.Marked.{values, rules}
use Rattle.definitions.specs.Bytes.{le2, le4, field, step_bytes, chart_bytes, diagram_bytes}

low_byte_first : le2 513 ++ le4 67305985 ≡ 1 ∷ 2 ∷ 1 ∷ 2 ∷ 3 ∷ 4 ∷ []
low_byte_first = refl

not_high_byte_first : le2 513 ≡ 2 ∷ 1 ∷ [] → ⊥
not_high_byte_first e = let z : ◌≡◌ {A = ℕ} 1 2 = cc in omega arith

-- the length is that of the body alone, and has two bytes
empty_field : field 128 [] ≡ 128 ∷ 0 ∷ 0 ∷ []
empty_field = refl

long_field : take 4 (field 128 (replicate 258 7)) ≡ 128 ∷ 2 ∷ 1 ∷ 7 ∷ []
long_field = refl

not_with_header : field 128 (7 ∷ []) ≡ 128 ∷ 4 ∷ 0 ∷ 7 ∷ [] → ⊥
not_with_header e = let z : ◌≡◌ {A = ℕ} 1 4 = cc in omega arith

-- the chart and the diagram of REFERENCE 14
chart_file_lem : chart_bytes values
    ≡ 1 ∷ 6 ∷ 0 ∷ 5 ∷ 0 ∷ 0 ∷ 0 ∷ 4 ∷ 0
    ∷ 2 ∷ 8 ∷ 0 ∷ 0 ∷ 0 ∷ 1 ∷ 0 ∷ 40 ∷ 0 ∷ 0 ∷ 0
    ∷ 2 ∷ 8 ∷ 0 ∷ 0 ∷ 0 ∷ 1 ∷ 0 ∷ 90 ∷ 0 ∷ 0 ∷ 0
    ∷ 2 ∷ 8 ∷ 0 ∷ 1 ∷ 0 ∷ 2 ∷ 0 ∷ 200 ∷ 0 ∷ 0 ∷ 0
    ∷ 2 ∷ 8 ∷ 0 ∷ 1 ∷ 0 ∷ 3 ∷ 0 ∷ 30 ∷ 0 ∷ 0 ∷ 0
    ∷ 2 ∷ 8 ∷ 0 ∷ 2 ∷ 0 ∷ 3 ∷ 0 ∷ 20 ∷ 0 ∷ 0 ∷ 0
    ∷ 2 ∷ 8 ∷ 0 ∷ 3 ∷ 0 ∷ 4 ∷ 0 ∷ 50 ∷ 0 ∷ 0 ∷ 0 ∷ []
unfolding pick
chart_file_lem = refl

-- a step that names its group
grouped_step : step_bytes (record { tag = grouped; from = 0; to = 1; cost = 40; group = 258 }) ≡ 3 ∷ 10 ∷ 0 ∷ 0 ∷ 0 ∷ 1 ∷ 0 ∷ 40 ∷ 0 ∷ 0 ∷ 0 ∷ 2 ∷ 1 ∷ []
unfolding pick
grouped_step = refl

diagram_file : diagram_bytes rules
    ≡ 17 ∷ 2 ∷ 0 ∷ 3 ∷ 0
    ∷ 18 ∷ 6 ∷ 0 ∷ 2 ∷ 0 ∷ 0 ∷ 0 ∷ 1 ∷ 0
    ∷ 18 ∷ 6 ∷ 0 ∷ 0 ∷ 0 ∷ 1 ∷ 0 ∷ 2 ∷ 0 ∷ []
diagram_file = refl
