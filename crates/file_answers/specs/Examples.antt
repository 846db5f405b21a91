-- Answers and buffers, computed.
-- Assumes nothing.
use Rattle.std.specs.Prelude.{ℕ, ◌≡◌, refl, List, [], ◌∷◌}
use Rattle.definitions.specs.Answers.{refusal, accepted, file_answer, file_buffer}
use Rattle.definitions.specs.Basics.{pick}

-- a file of three bytes in a buffer of four, of three and of two
buffers : List (List ℕ)
buffers =
    file_buffer (1 ∷ 2 ∷ 3 ∷ []) (9 ∷ 8 ∷ 7 ∷ 6 ∷ [])
    ∷ file_buffer (1 ∷ 2 ∷ 3 ∷ []) (9 ∷ 8 ∷ 7 ∷ [])
    ∷ file_buffer (1 ∷ 2 ∷ 3 ∷ []) (9 ∷ 8 ∷ [])
    ∷ []

buffers_hold : buffers ≡ (1 ∷ 2 ∷ 3 ∷ 6 ∷ []) ∷ (1 ∷ 2 ∷ 3 ∷ []) ∷ (9 ∷ 8 ∷ []) ∷ []
unfolding buffers file_buffer pick
buffers_hold = refl

answers_hold : file_answer 3 4 ∷ file_answer 3 3 ∷ file_answer 3 2 ∷ [] ≡ accepted 0 3 0 ∷ accepted 0 3 0 ∷ refusal 7 0 0 0 ∷ []
unfolding file_answer pick
answers_hold = refl
