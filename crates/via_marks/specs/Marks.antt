-- By what a pair was reached, in one number: the pair's own stage, the step that enters it and the node that the step left; and each taken out of it.
-- Assumes nothing.
use Rattle.std.specs.Prelude.{ℕ, ◌/◌, ◌%◌, ◌<◌, ◌≡◌}
use Rattle.theory.specs.Packing.{pack, first_packed, second_packed}

abbrev pub packed : ℕ → ℕ → ℕ → ℕ
packed s e n = pack 512 (pack 1024 s e) n

abbrev pub stage_in : ℕ → ℕ
stage_in mark = mark / 512 / 1024

abbrev pub step_in : ℕ → ℕ
step_in mark = mark / 512 % 1024

abbrev pub node_in : ℕ → ℕ
node_in mark = mark % 512

module _ (s e n mark : ℕ) (q : mark ≡ packed s e n) (exists : e < 1024) (inside : n < 512) where
  above : mark / 512 ≡ pack 1024 s e
  above = first_packed 512 (pack 1024 s e) n mark q inside

  pub stage_packed : stage_in mark ≡ s
  stage_packed = first_packed 1024 s e (mark / 512) above exists

  pub step_packed : step_in mark ≡ e
  step_packed = second_packed 1024 s e (mark / 512) above exists

  pub node_packed : node_in mark ≡ n
  node_packed = second_packed 512 (pack 1024 s e) n mark q inside
