-- The empty log, and a log with one more entry.
-- Assumes nothing.
use Rattle.std.specs.Prelude.{ℕ, ◌+◌, ◌<◌, ◌≡◌, List, [], ◌∷◌, ◌++◌, ◌⊎◌, length, get_or, set, take, drop}
use Rattle.std.proofs.Common.{sym, ◌∙◌, ap, inl, inr, arith, add-one, length-append, take-suc-set, drop-set-lt, drop-drop}
use Rattle.std.proofs.Math.ListN.{get_or-append}
use Rattle.std.proofs.Math.Seq.{get_or-append_seam}
use Rattle.definitions.specs.Ways.{Graph}
use Rattle.definitions.specs.Pairs.{Automaton, Estimate}
use Rattle.definitions.specs.Promises.{Settled}
use Rattle.theory.specs.Basics.{either, same_or_not}
use Rattle.guided_model.specs.State.{In}

-- the log before the first entry
pub nothing_settled : (g : Graph) (a : Automaton) (h : Estimate) → Settled g a h []
nothing_settled g a h = record {
  first = λ i. absurd (omega arith);
  inside = λ i b. absurd (omega arith);
  sums = λ i b. absurd (omega arith);
  rises = λ i j k m b c. absurd (omega arith);
  once = λ i j b c. absurd (omega arith);
  follows = λ j b c. absurd (omega arith);
}

module _ (log : List ℕ) (x : ℕ) where
  abbrev pub longer : List ℕ
  longer = log ++ x ∷ []

  pub longer_length : length longer ≡ length log + 1
  longer_length = length-append log (x ∷ [])

  pub longer_before : (i : ℕ) → i < length log → get_or longer i 0 ≡ get_or log i 0
  longer_before i h = get_or-append log (x ∷ []) 0 i h

  -- entry i of the longer log
  pub data Place (i : ℕ) : Type 0 where
    earlier : i < length log → get_or longer i 0 ≡ get_or log i 0 → Place i
    last : i ≡ length log → get_or longer i 0 ≡ x → Place i

  pub place : (i : ℕ) → i < length longer → Place i
  place i h =
      either (same_or_not i (length log)) (λ q. last q (ap (λ (j : ℕ). get_or longer j 0) q ∙ get_or-append_seam log x [] 0))
      (λ q. let b : i < length log = omega (arith, longer_length) in earlier b (longer_before i b))

  pub in_more : (p : ℕ) → In log p → In longer p
  in_more p t = (t.0, omega (arith, longer_length, t.1), longer_before t.0 t.1 ∙ t.2)

  pub in_last : In longer x
  in_last = (length log, omega (arith, longer_length), get_or-append_seam log x [] 0)

  pub in_cases : (p : ℕ) → In longer p → In log p ⊎ (p ≡ x)
  in_cases p t = go (place t.0 t.1)
    where
      go : Place t.0 → In log p ⊎ (p ≡ x)
      go (earlier b q) = inl (t.0, b, sym q ∙ t.2)
      go (last b q) = inr (sym t.2 ∙ q)

-- ---- the log slice

-- the next entry is written
pub take_next : (log : List ℕ) (count x : ℕ) → count < length log → take (count + 1) (set log count x) ≡ take count log ++ x ∷ []
take_next log count x h = rw add-one (take-suc-set log count x h)

-- the entries past it stay
pub drop_next : (log log₀ : List ℕ) (count x : ℕ) → drop count log ≡ drop count log₀ → drop (count + 1) (set log count x) ≡ drop (count + 1) log₀
drop_next log log₀ count x e =
    drop-set-lt (count + 1) log count x (omega arith) ∙ sym (drop-drop 1 count log) ∙ ap (λ (z : List ℕ). drop 1 z) e ∙ drop-drop 1 count log₀
