-- No file is refused with 7, 8 or 12, and with 13 only where it is read strictly: it has one of the numbers of `file_number`.
-- Assumes nothing.
use Prim.Native.Nat.{ℕ}
use Rattle.std.specs.Prelude.{Bool, ◌≡◌, List}
use Rattle.std.proofs.Math.Bool.{true, false}
use Rattle.std.proofs.Math.Path.{refl}
use Rattle.definitions.specs.Charts.{read_chart}
use Rattle.definitions.specs.Diagrams.{strict, lenient, read_diagram}
use Rattle.definitions.specs.Answers.{refused, read_files}
use Rattle.demands.specs.Numbers.{file_number, no_file, chart_numbered, rules_numbered, files_number}

-- ---- so neither 7 nor 8, and 12 neither; 13 not where padding is taken

after_files : (mode : Bool) → (file_number mode 7 ≡ false) × (file_number mode 8 ≡ false) × (file_number mode 12 ≡ false)
after_files true = (refl, refl, refl)
after_files false = (refl, refl, refl)

pub chart_own : (s : List ℕ) → ((read_chart s).number ≡ 7 → ⊥) × ((read_chart s).number ≡ 8 → ⊥)
chart_own s = let n = chart_numbered strict s in (no_file strict _ 7 n refl, no_file strict _ 8 n refl)

pub rules_own : (s : List ℕ) (steps : ℕ) → ((read_diagram strict s steps).number ≡ 7 → ⊥) × ((read_diagram strict s steps).number ≡ 8 → ⊥)
rules_own s steps = let n = rules_numbered strict s steps in (no_file strict _ 7 n refl, no_file strict _ 8 n refl)

pub files_own : (mode : Bool) (chart rules : List ℕ) (number file place : ℕ) → read_files mode chart rules ≡ refused number file place
    → (number ≡ 7 → ⊥) × (number ≡ 8 → ⊥) × (number ≡ 12 → ⊥)
files_own mode chart rules number file place e =
    let n = files_number mode chart rules number file place e in
    let a = after_files mode in
    (no_file mode number 7 n a.0, no_file mode number 8 n a.1, no_file mode number 12 n a.2)

pub lenient_own : (chart rules : List ℕ) (number file place : ℕ) → read_files lenient chart rules ≡ refused number file place → number ≡ 13 → ⊥
lenient_own chart rules number file place e = no_file lenient number 13 (files_number lenient chart rules number file place e) refl
