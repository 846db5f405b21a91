-- The whole chart: one law for each way out of `read_chart`, for its answer and for what the table holds.
-- Assumes nothing.
use Prim.Native.Nat.{ℕ}
use mathlib.Core.Logic.{◌⊎◌, inl, inr}
use mathlib.Core.Path.{◌≡◌, refl, ◌∙◌}
use mathlib.Core.List.{List}
use borrow.Author.Tests.{ne_eqb}
use native.Mathlib.Omega.{arith}
use Rattle.std.specs.Prelude.{Ok, Err}
use Rattle.definitions.specs.Basics.{pick}
use Rattle.definitions.specs.Fields.{two, part, only, first_field, on_field}
use Rattle.definitions.specs.Charts.{group_count, head_fault, chart_refused, with_steps, scan_steps, read_chart}
use Rattle.definitions.specs.Refusals.{number}
use Rattle.definitions.specs.declared.Field.{Field}
use Rattle.definitions.specs.declared.Field.TheVariants.{Absent, Faulty, Passed, Whole}
use Rattle.definitions.specs.declared.Refusal.{Refusal}
use Rattle.definitions.specs.declared.Refusal.TheVariants.{Tag}
use Rattle.fields.specs.Positions.{number_some}
use Rattle.fields.specs.declared.fault.Stopped.{Stopped}
use Rattle.chart_fields.specs.Bodies.{head_body}
use Rattle.chart_fields.specs.declared.bodies.HeadBody.{HeadBody}
use Rattle.chart_fields.specs.declared.table.StepTable.{StepTable}
use Rattle.chart.specs.Accepted.{groups_scanned}
use Rattle.chart.specs.Held.{nothing_filled}
use Rattle.chart.specs.Kinds.{groups_to}
use Rattle.chart.specs.Limits.{head_fits}
use Rattle.chart.specs.Tables.{Room, Filled, sizes_so_far, sizes_of, no_sizes, ChartAnswer}
use Rattle.chart.specs.Turns.{Over}
use Rattle.chart.specs.declared.reader.StepsRead.{StepsRead}
use Rattle.chart.specs.declared.sizes.ChartSizes.{ChartSizes}

-- the answer where no head passed
abbrev pub no_head : Refusal → ℕ → Stopped ChartSizes
no_head refusal place = record { fault = record { refusal = refusal; place = place }; passed = no_sizes }

-- no step passed, and the table stays
module _ (s : List ℕ) (refusal : Refusal) (p : ℕ) (e : read_chart s ≡ chart_refused (number refusal) p) where
  refused : (x : Stopped ChartSizes) → x ≡ no_head refusal p → ChartAnswer (read_chart s) (Err x)
  unfolding group_count
  refused x q = rw (q, e) (refl, refl, refl)

  untouched : (table : StepTable) → Room table → Filled (read_chart s).chart.steps table table
  untouched table = rw e (nothing_filled table)

module _ (s : List ℕ) (r : Field) (given : r ≡ first_field s (only 1 6)) where
  -- a remark is not looked for there
  module _ (found : (r ≡ Absent) ⊎ ((e : ℕ) × (r ≡ Passed e))) where
    empty : read_chart s ≡ chart_refused 2 0
    unfolding read_chart on_field
    empty = go found
      where
        go : (r ≡ Absent) ⊎ ((e : ℕ) × (r ≡ Passed e)) → read_chart s ≡ chart_refused 2 0
        go (inl q) = rw (← given, q)
        go (inr q) = rw (← given, q.1)

    pub chart_empty : (x : Stopped ChartSizes) → x ≡ no_head Tag 0 → ChartAnswer (read_chart s) (Err x)
    chart_empty = refused s Tag 0 empty

    pub chart_empty_filled : (table : StepTable) → Room table → Filled (read_chart s).chart.steps table table
    chart_empty_filled = untouched s Tag 0 empty

  module _ (k : Refusal) (p : ℕ) (found : r ≡ Faulty k p) where
    faulty : read_chart s ≡ chart_refused (number k) p
    unfolding read_chart on_field
    faulty = rw (← given, found)

    pub chart_faulty : (x : Stopped ChartSizes) → x ≡ no_head k p → ChartAnswer (read_chart s) (Err x)
    chart_faulty = refused s k p faulty

    pub chart_faulty_filled : (table : StepTable) → Room table → Filled (read_chart s).chart.steps table table
    chart_faulty_filled = untouched s k p faulty

  module _ (p a e : ℕ) (found : r ≡ Whole p a e) where
    module _ (k : Refusal) (judged : number k ≡ head_fault (part s a e)) where
      bad : read_chart s ≡ chart_refused (number k) p
      unfolding read_chart on_field pick
      bad = rw (← given, found, ← judged, ne_eqb (number k) 0 (λ z. omega (arith, number_some k)))

      pub chart_bad : (x : Stopped ChartSizes) → x ≡ no_head k p → ChartAnswer (read_chart s) (Err x)
      chart_bad = refused s k p bad

      pub chart_bad_filled : (table : StepTable) → Room table → Filled (read_chart s).chart.steps table table
      chart_bad_filled = untouched s k p bad

    module _ (passes : 0 ≡ head_fault (part s a e)) (h : HeadBody) (read : h ≡ head_body (part s a e)) where
      good : read_chart s ≡ with_steps (part s a e) (scan_steps s h.stages e)
      unfolding read_chart on_field pick
      good = rw (← given, found, ← passes, read)

      module _ (table table' : StepTable) (n q : ℕ) (y : StepsRead) (over : Over s e h.stages table table' n q y) where
        -- the last step's group is the highest
        sizes_are : (z : ChartSizes) → z ≡ sizes_so_far h y → z ≡ sizes_of (read_chart s).chart
        sizes_are z is = is ∙ go
          where
            groups_are : groups_to y.steps y.group ≡ group_count (read_chart s).chart
            groups_are = rw (← over.counted, ← over.highest) (rw good (rw read (groups_scanned s (two (part s a e) 0) (two (part s a e) 2) (two (part s a e) 4) e)))

            go : sizes_so_far h y ≡ sizes_of (read_chart s).chart
            go = rw (groups_are, ← over.counted, good, read)

        pub chart_number : (read_chart s).number ≡ n
        chart_number = rw good over.numbered

        pub chart_place : (read_chart s).place ≡ q
        chart_place = rw good over.placed

        pub chart_filled : Room table → Filled (read_chart s).chart.steps table table'
        chart_filled = rw good (over.filled (rw read (head_fits (part s a e) passes).few_stages))

      pub chart_good : (table table' : StepTable) (y : StepsRead) → Over s e h.stages table table' 0 0 y → (z : ChartSizes) → z ≡ sizes_so_far h y → ChartAnswer (read_chart s) (Ok z)
      chart_good table table' y over z is = (chart_number table table' 0 0 y over, chart_place table table' 0 0 y over, sizes_are table table' 0 0 y over z is)

      pub chart_stopped : (table table' : StepTable) (f : Stopped StepsRead) → Over s e h.stages table table' (number f.fault.refusal) f.fault.place f.passed
          → (z : ChartSizes) → z ≡ sizes_so_far h f.passed → ChartAnswer (read_chart s) (Err (record { fault = f.fault; passed = z }))
      chart_stopped table table' f over z is = (chart_number table table' _ _ f.passed over, chart_place table table' _ _ f.passed over, sizes_are table table' _ _ f.passed over z is)
