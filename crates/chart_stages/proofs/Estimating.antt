-- The loops over the steps that leave a stage and over the stages, in terms of the tables: one law for each way on.
-- Assumes nothing.
use Prim.Native.Nat.{ℕ, ◌+◌, ◌-◌, ◌≤◌, ◌<◌, min}
use mathlib.Core.Path.{◌≡◌, sym, ◌∙◌}
use mathlib.Core.List.{List}
use lib.ListN.{length, get_or, set, replicate}
use native.Mathlib.Omega.{arith}
use Rattle.definitions.specs.Basics.{NONE}
use Rattle.definitions.specs.Ways.{Graph}
use Rattle.definitions.specs.Plans.{graph, chart_estimate}
use Rattle.definitions.specs.declared.Shape.{Shape}
use Rattle.chart.specs.Tables.{Steps, chart_in}
use Rattle.chart.specs.Held.{held_count, held_to, held_cost}
use Rattle.chart_stages.specs.FirstSteps.{Firsts, first_leaves, first_rises, first_inside}
use Rattle.chart_stages.specs.HeldGraph.{held_firsts}
use Rattle.chart_stages.specs.Estimates.{EstimateTable, WayFrom, WayBy, Told, told_start, told_turn, told_is, by_none, by_turn, by_all}
use Rattle.chart_stages.specs.Leaving.{Staged, Leaving}
use Rattle.theory.specs.Least.{Shows}

-- ---- the steps that leave a stage

module _ {t : Steps} {start until : ℕ} {estimates : List ℕ} (x : Leaving t start until estimates) where
  abbrev g : Graph
  g = graph (chart_in x.z t)

  pub steps_rise : start ≤ until
  steps_rise = omega (arith, first_rises g x.valid x.s (x.s + 1) (omega arith), x.begins, x.ends)

  pub steps_end : until ≤ 1024
  steps_end = omega (arith, first_inside g x.valid (x.s + 1), x.valid.few, x.ends)

  pub none_yet : Shows (WayBy g start x.s) NONE
  none_yet = rw x.begins (by_none g x.valid x.s)

  -- step e, which leads to stage s
  module _ {e s : ℕ} (from_start : start ≤ e) (turns : e < until) (leads : s ≡ get_or t.to e 0) where
    leaves : (e < g.count) × (g.from e ≡ x.s)
    leaves = first_leaves g x.valid x.s e (omega (arith, x.begins)) (omega (arith, x.ends))

    held : e < x.z.steps
    held = omega (arith, leaves.0, held_count x.z.steps t)

    to_is : g.to e ≡ s
    to_is = held_to x.z.steps t e held ∙ sym leads

    cost_is : g.cost e ≡ get_or t.cost e 0
    cost_is = held_cost x.z.steps t e held

    pub to_below : s < 256
    to_below = omega (arith, to_is, x.valid.inside e leaves.0, x.valid.few_stages)

    pub step_turn : {known r : ℕ} → Shows (WayBy g e x.s) known → known ≤ NONE
        → r ≡ min known (get_or t.cost e 0 + get_or estimates s 0) → Shows (WayBy g (e + 1) x.s) r
    step_turn {known} {r} k h l = by_turn g x.valid x.s e leaves.0 leaves.1 estimates x.told known r k h (rw (to_is, cost_is) l)

  pub steps_done : {e r : ℕ} → e ≡ until → Shows (WayBy g e x.s) r → Shows (WayFrom g x.s) r
  steps_done {e} {r} q k = by_all g x.valid x.s x.early r (rw (← (q ∙ x.ends)) k)

-- ---- the stages

module _ {z : Shape} {t : Steps} {first : List ℕ} (on : Staged z t first) where
  abbrev G : Graph
  G = graph (chart_in z t)

  pub end_below : z.end.0 < 256
  end_below = omega (arith, on.valid.end_inside, on.valid.few_stages)

  pub firsts : Firsts G first
  firsts = held_firsts z t on.valid first on.firsts

  pub stages_start : {end : ℕ} → z.end.0 ≡ end → Told G end (set (replicate 256 NONE) end 0)
  stages_start q = rw (← q) (told_start G on.valid)

  -- one stage before s
  module _ {s : ℕ} {estimates : List ℕ} (before : 0 < s) (early : s ≤ z.end.0) (told : Told G s estimates) where
    pub told_after : Told G (s - 1 + 1) estimates
    told_after =
        let q : s - 1 + 1 ≡ s = omega arith in
        rw q told

    abbrev pub stage_leaving : Leaving t (get_or first (s - 1) 0) (get_or first (s - 1 + 1) 0) estimates
    stage_leaving = record {
      z = z;
      s = s - 1;
      valid = on.valid;
      begins = firsts.at (s - 1) (omega (arith, on.valid.end_inside));
      ends = firsts.at (s - 1 + 1) (omega (arith, on.valid.end_inside));
      early = omega arith;
      told = told_after;
    }

    pub stage_turn : length estimates ≡ 256 → {r : ℕ} → Shows (WayFrom G (s - 1)) r → Told G (s - 1) (set estimates (s - 1) r)
    stage_turn long {r} k = told_turn G on.valid (s - 1) estimates told_after long r k

  pub stages_done : {s : ℕ} {estimates : List ℕ} → s ≤ z.start.0 → length estimates ≡ 256 → Told G s estimates → EstimateTable (chart_in z t) estimates
  unfolding chart_estimate
  stages_done {s} {estimates} h long told = record { at = λ k l b. told_is G on.valid s estimates told k (omega arith) b; long = long }
