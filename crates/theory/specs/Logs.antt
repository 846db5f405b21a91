-- Laws of the log that a guided search promises: it has at most as many entries as there are pairs, and alone it keeps all that is promised of it.
-- Assumes nothing.
use Rattle.std.specs.Prelude.{ℕ, ◌-◌, ◌+◌, ◌≤◌, ◌≡◌, refl, length, get_or, take, drop}
use Rattle.std.proofs.Common.{sym, ◌∙◌, ap, subst, arith, length-take-le, drop-drop}
use mathlib.Core.List.{List, map, Memᴰ}
use Rattle.std.proofs.Math.Option.{Option}
use Rattle.std.proofs.Math.Seq.{take-length}
use Rattle.definitions.specs.Basics.{upto}
use Rattle.definitions.specs.Ways.{Graph}
use Rattle.definitions.specs.Pairs.{Automaton, Estimate, pairs}
use Rattle.definitions.specs.Promises.{Settled, Ended, Logged}
use Rattle.theory.specs.Basics.{length-map_run, get_d_map_upto, at_member}
use Rattle.theory.specs.Counting.{list_among}

-- what stays past a number stays past a later one
rest_later : (m n : ℕ) (l l₀ : List ℕ) → m ≤ n → drop m l ≡ drop m l₀ → drop n l ≡ drop n l₀
rest_later m n l l₀ h e = let q : m + (n - m) ≡ n = omega arith in rw (← q) (sym (drop-drop (n - m) m l) ∙ ap (drop (n - m)) e ∙ drop-drop (n - m) m l₀)

module _ (g : Graph) (a : Automaton) (h : Estimate) where
  abbrev all : List ℕ
  all = map (λ (i : ℕ). i) (upto (pairs g a))

  -- no more pairs are settled than there are
  settled_within : (log : List ℕ) → Settled g a h log → length log ≤ pairs g a
  settled_within log s =
      let long = length-map_run (λ (i : ℕ). i) 0 (pairs g a) in
      omega (
        arith,
        list_among log all (λ i l. subst (λ (p : ℕ). Memᴰ p all) (get_d_map_upto (λ (i : ℕ). i) (pairs g a) (get_or log i 0) 0 (s.inside i l))
            (at_member all (get_or log i 0) (omega (arith, s.inside i l)))) s.once,
      )

  module _ {best : Option ℕ} {count : ℕ} {log log' : List ℕ} (l : Logged g a h best count log log') where
    pub log_long : length (take count log') ≡ count
    log_long = length-take-le count log' (omega (arith, l.fits, l.long))

    pub log_alone : Logged g a h best (length (take count log')) (take count log') (take count log')
    log_alone = record {
      fits = omega arith;
      settled = subst (Settled g a h) (sym (take-length (take count log'))) l.settled;
      ended = subst (Ended g a h best) (sym (take-length (take count log'))) l.ended;
      few = omega (arith, log_long, l.few);
      long = refl;
      rest = refl;
    }

    -- the slice stays past the pairs
    pub log_past : drop (pairs g a) log' ≡ drop (pairs g a) log
    log_past = rest_later count (pairs g a) log' log (omega (arith, log_long, settled_within (take count log') l.settled)) l.rest
