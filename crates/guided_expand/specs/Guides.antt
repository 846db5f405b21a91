-- What a search walks by: the chart and the diagram in tables, and an estimate that guides it, in tables too.
-- Assumes nothing.
use Rattle.std.specs.Prelude.{ℕ, ◌+◌, ◌*◌, ◌≤◌, ◌<◌, ◌≡◌, get_or}
use Rattle.std.proofs.Common.{sym, ◌∙◌, ap, arith, mul-le-mul_right}
use Rattle.checks.specs.Tables.{pairs_in}
use Rattle.definitions.specs.Pairs.{Estimate}
use Rattle.definitions.specs.declared.Shape.{Shape}
use Rattle.checks.specs.Ready.{Walk, Ready, graph_in, automaton_in, width_is, few_stages, few_nodes, row_start_lem}
use Rattle.guided_model.specs.State.{Guide}
use Rattle.guided_offers.specs.Estimates.{Estimates, Holds}

pub record Guides (z : Shape) (on : Walk) (t : Estimates) : Type 0 where
  pub ready : Ready z on
  pub h : Estimate
  pub guide : Guide (graph_in z on.read) (automaton_in z on.read) h
  pub holds : Holds z.start.0 h (z.nodes + 2) t

module _ {z : Shape} {on : Walk} (ready : Ready z on) where
  -- where the row of a stage s of the chart starts
  pub row_begins : (s : ℕ) → s < z.stages → get_or on.row s 0 ≡ s * (automaton_in z on.read).size
  row_begins s i = row_start_lem z on ready s i ∙ ap (λ (k : ℕ). s * k) (sym (width_is z on.read ready.tables))

  -- 256 rows of 512 pairs at most
  pub few_pairs : pairs_in z ≤ 131072
  few_pairs =
      let rows = mul-le-mul_right (z.nodes + 2) (few_stages z on.read ready.tables) in
      omega (arith, few_nodes z on.read ready.tables)
