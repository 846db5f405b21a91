-- What is written for some answers, computed from the definitions.
-- Assumes nothing.
use Rattle.std.specs.Prelude.{ℕ, ◌≡◌, refl, List, [], ◌∷◌}
use Rattle.definitions.specs.Basics.{pick}
use Rattle.definitions.specs.Answers.{refusal, accepted}
use Rattle.digits.specs.Decimal.{digits_in, decimal}
use Rattle.report.specs.Text.{item, last_item, plan_text, refused_text, report}

-- the plan slice holds more entries than the plan has steps
pub computed : List (List ℕ)
computed =
    report (accepted 200 3 4) (1 ∷ 3 ∷ 5 ∷ 7 ∷ []) (accepted 200 3 6)
    ∷ report (refusal 8 0 0 2) (1 ∷ []) (refusal 8 0 0 3)
    ∷ report (accepted 0 0 1) [] (accepted 0 0 1)
    ∷ report (refusal 11 1 16380 0) [] (refusal 11 1 16380 0)
    ∷ report (refusal 10 1 20 0) [] (refusal 10 1 20 0)
    ∷ []

-- `cost 200`, `step 1`, `step 3`, `step 5`, `settled 4 reached 6`; `refused 8 file 0 place 0`; `cost 0`, `settled 1 reached 1`; `refused 11 file 1 place 16380`;
-- `refused 10 file 1 place 20`
pub expected : List (List ℕ)
expected =
    (99 ∷ 111 ∷ 115 ∷ 116 ∷ 32 ∷ 50 ∷ 48 ∷ 48 ∷ 10
    ∷ 115 ∷ 116 ∷ 101 ∷ 112 ∷ 32 ∷ 49 ∷ 10
    ∷ 115 ∷ 116 ∷ 101 ∷ 112 ∷ 32 ∷ 51 ∷ 10
    ∷ 115 ∷ 116 ∷ 101 ∷ 112 ∷ 32 ∷ 53 ∷ 10
    ∷ 115 ∷ 101 ∷ 116 ∷ 116 ∷ 108 ∷ 101 ∷ 100 ∷ 32 ∷ 52 ∷ 32 ∷ 114 ∷ 101 ∷ 97 ∷ 99 ∷ 104 ∷ 101 ∷ 100 ∷ 32 ∷ 54 ∷ 10 ∷ [])
    ∷ (114 ∷ 101 ∷ 102 ∷ 117 ∷ 115 ∷ 101 ∷ 100 ∷ 32 ∷ 56 ∷ 32 ∷ 102 ∷ 105 ∷ 108 ∷ 101 ∷ 32 ∷ 48 ∷ 32 ∷ 112 ∷ 108 ∷ 97 ∷ 99 ∷ 101 ∷ 32 ∷ 48 ∷ 10 ∷ [])
    ∷ (99 ∷ 111 ∷ 115 ∷ 116 ∷ 32 ∷ 48 ∷ 10
    ∷ 115 ∷ 101 ∷ 116 ∷ 116 ∷ 108 ∷ 101 ∷ 100 ∷ 32 ∷ 49 ∷ 32 ∷ 114 ∷ 101 ∷ 97 ∷ 99 ∷ 104 ∷ 101 ∷ 100 ∷ 32 ∷ 49 ∷ 10 ∷ [])
    ∷ (114 ∷ 101 ∷ 102 ∷ 117 ∷ 115 ∷ 101 ∷ 100 ∷ 32 ∷ 49 ∷ 49 ∷ 32 ∷ 102 ∷ 105 ∷ 108 ∷ 101 ∷ 32 ∷ 49 ∷ 32 ∷ 112 ∷ 108 ∷ 97 ∷ 99 ∷ 101 ∷ 32 ∷ 49 ∷ 54 ∷ 51 ∷ 56 ∷ 48 ∷ 10 ∷ [])
    ∷ (114 ∷ 101 ∷ 102 ∷ 117 ∷ 115 ∷ 101 ∷ 100 ∷ 32 ∷ 49 ∷ 48 ∷ 32 ∷ 102 ∷ 105 ∷ 108 ∷ 101 ∷ 32 ∷ 49 ∷ 32 ∷ 112 ∷ 108 ∷ 97 ∷ 99 ∷ 101 ∷ 32 ∷ 50 ∷ 48 ∷ 10 ∷ [])
    ∷ []

pub examples : computed ≡ expected
unfolding computed expected pick digits_in decimal item last_item plan_text refused_text report
examples = refl
