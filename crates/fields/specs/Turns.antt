-- The turns of a walk over any file, whatever it keeps. What is said of a walk is said for every origin: where it began, and what its tables held then.
-- Assumes nothing.
use Rattle.std.specs.Prelude.{ℕ, ◌-◌, ◌≤◌, ◌<◌, List, length, Result, Ok, Err}
use Rattle.std.proofs.Common.{arith}

module _ {Origin Read Stop : Type 0} (s : List ℕ) (place : Read → ℕ) where
  -- One turn from the place `at`, by one field or by a run of them: it leaves the walk nearer to the file's end, with what is read so far, or the walk is over
  abbrev pub Turn : ℕ → (Origin → Type 0) → (Read → Origin → Type 0) → (Stop → Origin → Type 0) → Result Read Stop → Type 0
  Turn at From SoFar Over (Ok r) = (length s - place r < length s - at) × ((o : Origin) → From o → SoFar r o)
  Turn at From SoFar Over (Err e) = (o : Origin) → From o → Over e o

-- some turns of a run, from the place `at` to another
pub record Run {Origin : Type 0} (s : List ℕ) (at place : ℕ) (From SoFar : Origin → Type 0) : Type 0 where
  pub near : length s - place ≤ length s - at
  pub sofar : (o : Origin) → From o → SoFar o

module _ {Origin : Type 0} (s : List ℕ) (at : ℕ) (From : Origin → Type 0) where
  pub run_start : Run s at at From From
  run_start = record { near = omega arith; sofar = λ o x. x }

  module _ (mid : ℕ) (Mid : Origin → Type 0) (run : Run s at mid From Mid) where
    -- one turn more
    pub run_next : (next : ℕ) (SoFar : Origin → Type 0) → (length s - next < length s - mid) × ((o : Origin) → Mid o → SoFar o) → Run s at next From SoFar
    run_next next SoFar turn = record { near = omega (arith, run.near, turn.0); sofar = λ o x. turn.1 o (run.sofar o x) }

    -- and with it the run is a turn
    pub run_turn : {Read Stop : Type 0} (place : Read → ℕ) (SoFar : Read → Origin → Type 0) (Over : Stop → Origin → Type 0) (r : Result Read Stop)
        → Turn s place mid Mid SoFar Over r → Turn s place at From SoFar Over r
    run_turn place SoFar Over (Ok r) turn = (omega (arith, run.near, turn.0), λ o x. turn.1 o (run.sofar o x))
    run_turn place SoFar Over (Err e) turn = λ o x. turn o (run.sofar o x)
