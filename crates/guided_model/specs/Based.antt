-- How a search ends whose estimates at goals are `base`, not 0: its sums are all higher by `base`. With base 0 this is what the promises say.
-- Assumes nothing.
use Rattle.std.specs.Prelude.{ℕ, suc, ◌+◌, ◌-◌, ◌≤◌, ◌<◌, ◌≡◌, List, eqb, length, get_or, take, drop}
use Rattle.std.proofs.Math.Option.{Option, none, some}
use Rattle.std.proofs.Common.{arith}
use Rattle.definitions.specs.Ways.{Graph}
use Rattle.definitions.specs.Pairs.{Automaton, Estimate, reached_pairs}
use Rattle.definitions.specs.Promises.{least_cost_at, sum_at, goal_at, Complete, Settled, Ended, Logged}

module _ (g : Graph) (a : Automaton) (h : Estimate) where
  -- with a legal plan of the least cost m, whose sum is m + base
  pub record FoundFrom (base m : ℕ) (log : List ℕ) : Type 0 where
    pub some_entry : 0 < length log
    pub only_goal : (i : ℕ) → i < length log → goal_at g a h (get_or log i 0) ≡ eqb (suc i) (length log)
    pub goal_cost : least_cost_at g a h (get_or log (length log - 1) 0) ≡ some m
    pub below : Complete g a h (λ k. k < m + base) log
    pub none_above : (i k : ℕ) → i < length log → sum_at g a h (get_or log i 0) ≡ some k → k ≤ m + base

  abbrev pub EndedFrom : ℕ → Option ℕ → List ℕ → Type 0
  EndedFrom base none log = Ended g a h none log
  EndedFrom base (some m) log = FoundFrom base m log

  pub record LoggedFrom (base : ℕ) (best : Option ℕ) (count : ℕ) (log log' : List ℕ) : Type 0 where
    pub fits : count ≤ length log
    pub settled : Settled g a h (take count log')
    pub ended : EndedFrom base best (take count log')
    pub few : count ≤ length (reached_pairs g a)
    pub long : length log' ≡ length log
    pub rest : drop count log' ≡ drop count log

  ended_plain : (best : Option ℕ) (log : List ℕ) → EndedFrom 0 best log → Ended g a h best log
  ended_plain none log e = e
  ended_plain (some m) log e = record {
    some_entry = e.some_entry;
    only_goal = e.only_goal;
    goal_cost = e.goal_cost;
    below = λ p i k t l. e.below p i k t (omega arith);
    none_above = λ i k l t. omega (arith, e.none_above i k l t);
  }

  pub logged_plain : (best : Option ℕ) (count : ℕ) (log log' : List ℕ) → LoggedFrom 0 best count log log' → Logged g a h best count log log'
  logged_plain best count log log' l = record {
    fits = l.fits;
    settled = l.settled;
    ended = ended_plain best (take count log') l.ended;
    few = l.few;
    long = l.long;
    rest = l.rest;
  }
