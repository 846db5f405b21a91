-- The walk over the steps of a chart file, turn by turn.
-- Assumes nothing.
use Rattle.std.specs.Prelude.{ℕ, ◌≤◌, ◌≡◌, List, None, Result, Ok, Err, length}
use Rattle.definitions.specs.Charts.{ChartStep, last_from, last_group, step_grammar, scan_steps}
use Rattle.definitions.specs.Refusals.{number}
use Rattle.fields.specs.Scans.{Reading}
use Rattle.fields.specs.Turns.{Turn}
use Rattle.fields.specs.declared.fault.Stopped.{Stopped}
use Rattle.chart_fields.specs.declared.table.StepTable.{StepTable}
use Rattle.chart.specs.Kinds.{KindAfter}
use Rattle.chart.specs.Tables.{Room, Filled}
use Rattle.chart.specs.declared.reader.StepsRead.{StepsRead}

-- before the first step, which is due at a place
abbrev pub begun : ℕ → StepsRead
begun place = record { place = place; steps = 0; last = 0; group = 0; kind = None }

-- what is read so far at r, and that the rest of the walk is still to come
pub record SoFar (s : List ℕ) (first stages : ℕ) (table₀ table : StepTable) (r : StepsRead) : Type 0 where
  pub before : List ChartStep
  pub reading : Reading s (step_grammar stages) first r.place before
  pub counted : length before ≡ r.steps
  pub latest : last_from before ≡ r.last
  pub highest : last_group before ≡ r.group
  pub kind : KindAfter before r.kind
  pub filled : stages ≤ 256 → Room table₀ → Filled before table₀ table

-- the walk is over at r: the number and the place that it gives, and what the table holds
pub record Over (s : List ℕ) (first stages : ℕ) (table₀ table : StepTable) (number place : ℕ) (r : StepsRead) : Type 0 where
  pub numbered : (scan_steps s stages first).number ≡ number
  pub placed : (scan_steps s stages first).place ≡ place
  pub counted : length (scan_steps s stages first).passed ≡ r.steps
  pub highest : last_group (scan_steps s stages first).passed ≡ r.group
  pub filled : stages ≤ 256 → Room table₀ → Filled (scan_steps s stages first).passed table₀ table

-- at a fault
abbrev pub Stops : List ℕ → ℕ → ℕ → StepTable → StepTable → Stopped StepsRead → Type 0
Stops s first stages table₀ table e = Over s first stages table₀ table (number e.fault.refusal) e.fault.place e.passed

-- at the file's end or at a fault
abbrev pub Ends : List ℕ → ℕ → ℕ → StepTable → StepTable → Result StepsRead (Stopped StepsRead) → Type 0
Ends s first stages table₀ table (Ok r) = Over s first stages table₀ table 0 0 r
Ends s first stages table₀ table (Err e) = Stops s first stages table₀ table e

-- by its origin, the first place and the table then: what is read so far, and where the walk stops
abbrev pub SoFarAt : List ℕ → ℕ → StepTable → StepsRead → ℕ × StepTable → Type 0
SoFarAt s stages table r o = SoFar s o.0 stages o.1 table r

abbrev pub StopsAt : List ℕ → ℕ → StepTable → Stopped StepsRead → ℕ × StepTable → Type 0
StopsAt s stages table e o = Stops s o.0 stages o.1 table e

abbrev pub place_of : StepsRead → ℕ
place_of r = r.place

-- from t on, by one field or by a run of them
abbrev pub Takes : List ℕ → ℕ → StepsRead → StepTable → StepTable → Result StepsRead (Stopped StepsRead) → Type 0
Takes s stages t table table' = Turn s place_of t.place (SoFarAt s stages table t) (SoFarAt s stages table') (StopsAt s stages table')
