-- From the outcome of the checks to what is prepared for a list.
-- Assumes nothing.
use Prim.Native.Nat.{ℕ}
use mathlib.Core.Path.{◌≡◌, sym, ◌∙◌, ap}
use mathlib.Core.List.{List, [], ◌∷◌}
use Rattle.definitions.specs.Answers.{load, load_work}
use Rattle.checks.specs.Outcome.{shortest, load_shortest, load_work_lem}

-- the shortest of the six slices decides
pub judged : (s u : List ℕ) (keys via heap pos stack log : ℕ) {lent : ℕ} → lent ≡ shortest keys (via ∷ heap ∷ pos ∷ stack ∷ log ∷ [])
    → load_work s u (keys ∷ via ∷ heap ∷ pos ∷ stack ∷ log ∷ []) ≡ load s u (lent ∷ []) 255
judged s u keys via heap pos stack log ew =
    sym (load_work_lem s u (keys ∷ via ∷ heap ∷ pos ∷ stack ∷ log ∷ []))
    ∙ load_shortest s u keys (via ∷ heap ∷ pos ∷ stack ∷ log ∷ []) 255 ∙ ap (λ (k : ℕ). load s u (k ∷ []) 255) (sym ew)
