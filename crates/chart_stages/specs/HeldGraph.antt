-- The graph of a chart that stands in tables: its steps in order, and the first step of each stage.
-- Assumes nothing.
use Rattle.std.specs.Prelude.{ℕ, ◌<◌, ◌≡◌, List, length, get_or}
use Rattle.std.proofs.Common.{sym, ◌∙◌, arith}
use Rattle.definitions.specs.Plans.{graph}
use Rattle.definitions.specs.declared.Shape.{Shape}
use Rattle.theory.specs.Limits.{Valid}
use Rattle.chart.specs.Tables.{Steps, held_steps, chart_in}
use Rattle.chart.specs.Held.{held_count, held_from}
use Rattle.chart_stages.specs.FirstSteps.{leaving_below, first_step, SortedTable, FirstTable, Firsts, Split, split_is, splits}

-- ---- the first steps

module _ (z : Shape) (t : Steps) (v : Valid (graph (chart_in z t))) where
  abbrev count : ℕ
  count = z.steps

  pub held_sorted : SortedTable count t.from
  held_sorted = record {
    few = omega (arith, v.few, held_count count t);
    inside = λ e l.
        let i : e < length (held_steps count t) = omega (arith, held_count count t) in
        omega (arith, v.forward e i, v.inside e i, v.few_stages, held_from count t e l);
    sorted = λ e f h l. omega (arith, v.sorted e f h (omega (arith, held_count count t)), held_from count t e (omega arith), held_from count t f l);
  }

  pub held_firsts : (first : List ℕ) → FirstTable count z.stages t.from first → Firsts (graph (chart_in z t)) first
  held_firsts first table = record { at = λ s h. table.at s h ∙ sym (same s) }
    where
      old : (s : ℕ) → Split count (λ e. get_or t.from e 0) s (leaving_below count (λ e. get_or t.from e 0) s)
      old s = splits count (λ e. get_or t.from e 0) s held_sorted.sorted

      n : length (held_steps count t) ≡ count
      n = held_count count t

      same : (s : ℕ) → first_step (graph (chart_in z t)) s ≡ leaving_below count (λ e. get_or t.from e 0) s
      same s =
          split_is (length (held_steps count t)) (graph (chart_in z t)).from s (leaving_below count (λ e. get_or t.from e 0) s)
          (record {
            inside = omega (arith, n, (old s).inside);
            below = λ e l. omega (arith, held_from count t e (omega (arith, (old s).inside)), (old s).below e l);
            above = λ e l h. omega (arith, held_from count t e (omega (arith, n)), (old s).above e l (omega (arith, n)));
          })
