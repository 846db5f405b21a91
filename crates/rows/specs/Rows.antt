-- Laws of the table of row starts: while it is filled, and for the searches.
-- Assumes nothing.
use Rattle.std.specs.Prelude.{ℕ, ◌*◌, ◌≤◌, ◌<◌, ◌≡◌, List, map, length, get_or, replicate}
use Rattle.std.proofs.Math.Path.{sym}
use Rattle.std.proofs.Common.{◌∙◌, arith, lt-ltb, le-ltb}
use Rattle.std.proofs.lemmas.List.{length-replicate, get_or-replicate}
use Rattle.std.proofs.Math.Seq.{ext_get_or}
use Rattle.definitions.specs.Basics.{upto}
use Rattle.definitions.specs.Pairs.{row_start, row_starts}
use Rattle.theory.specs.Basics.{either, lt_or_le, pick_true, pick_false, length-map_run, get_d_map_upto}

-- what the searches ask of it: the row of a stage of the chart starts at stage × N
pub row_at : (stages width s : ℕ) → stages ≤ 256 → s < stages → get_or (row_starts stages width) s 0 ≡ s * width
unfolding row_starts row_start
row_at stages width s h i = get_d_map_upto (row_start stages width) 256 s 0 (omega arith) ∙ pick_true _ _ _ (lt-ltb s stages i)

-- the rows below s are filled
pub record Filled (stages width s : ℕ) (row : List ℕ) : Type 0 where
  pub long : length row ≡ 256
  pub below : (t : ℕ) → t < s → get_or row t 0 ≡ t * width
  pub above : (t : ℕ) → s ≤ t → t < 256 → get_or row t 0 ≡ 0

module _ (stages width : ℕ) where
  pub filled_none : {row : List ℕ} → row ≡ replicate 256 0 → Filled stages width 0 row
  filled_none blank = rw blank (record {
    long = length-replicate {A = ℕ} 256 0;
    below = λ t h. absurd (omega arith);
    above = λ t h i. get_or-replicate {A = ℕ} 256 t 0 0 i;
  })

  pub filled_all : (s : ℕ) (row : List ℕ) → s ≡ stages → stages ≤ 256 → Filled stages width s row → row ≡ row_starts stages width
  unfolding row_starts row_start
  filled_all s row e h f =
      ext_get_or 0 row (map (row_start stages width) (upto 256)) (f.long ∙ sym (length-map_run (row_start stages width) 0 256))
      (λ i l.
      let k : i < 256 = omega (arith, f.long) in
      either (lt_or_le i stages)
      (λ q. f.below i (omega arith) ∙ sym (pick_true _ _ _ (lt-ltb i stages q)) ∙ sym (get_d_map_upto (row_start stages width) 256 i 0 k))
      (λ q. f.above i (omega arith) k ∙ sym (pick_false _ _ _ (le-ltb i stages q)) ∙ sym (get_d_map_upto (row_start stages width) 256 i 0 k)))
