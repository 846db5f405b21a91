-- Laws of `least_costs`: the cleared tables with the start's pair are those that the rows are relaxed from.
-- Assumes nothing.
use Prim.Native.Nat.{ℕ, ◌+◌, ◌-◌, ◌*◌, ◌<◌}
use mathlib.Core.Path.{◌≡◌, sym, ◌∙◌, ap, ap₂, subst}
use native.Mathlib.Omega.{arith}
use lib.Dec.{eqb}
use lib.ListN.{length, get_or, set, drop, replicate, length-append, length-replicate, length-drop, get_or-replicate, get_or-append}
use Rattle.checks.specs.Tables.{pairs_in}
use Rattle.definitions.specs.Basics.{NONE, pick}
use Rattle.definitions.specs.Ways.{Graph}
use Rattle.definitions.specs.Pairs.{Automaton, pair, pairs}
use Rattle.definitions.specs.declared.Shape.{Shape}
use Rattle.theory.specs.Pairs.{pair_inside}
use Rattle.sweep_model.specs.Model.{Rows, rows, begun, swept, relax_rows}
use Rattle.sweep_model.specs.Rows.{Table}
use Rattle.sweep_model.specs.Result.{Fresh, begun_table}
use Rattle.checks.specs.Ready.{Walk, Ready, graph_in, automaton_in, width_is, lawful_in, few_stages, row_start_lem}
use Rattle.sweep_rows.specs.Standing.{Row, at}
use Rattle.sweep_rows.specs.Leaving.{first_steps}
use Rattle.sweep_ends.specs.Begin.{begun_at}
use Rattle.sweep.specs.Runs.{Blank, cleared_costs, cleared}

module _ {z : Shape} {on : Walk} (y : Ready z on) where
  abbrev g : Graph
  g = graph_in z on.read

  abbrev a : Automaton
  a = automaton_in z on.read

  abbrev start : ℕ
  start = z.start.0

  abbrev root : ℕ
  root = z.root.0

  abbrev start_inside : start < z.stages
  start_inside = y.tables.valid.start_inside

  pub pairs_is : pairs g a ≡ pairs_in z
  pairs_is = ap (λ (k : ℕ). z.stages * k) (width_is z on.read y.tables)

  module _ {r : Rows} (blank : Blank z r) where
    cleared_long : length (cleared_costs z r.cost) ≡ length r.cost
    cleared_long =
        length-append (replicate (pairs_in z) NONE) (drop (pairs_in z) r.cost)
        ∙ omega (arith, length-replicate (pairs_in z) NONE, length-drop (pairs_in z) r.cost, blank.cost_fits)

    pub cleared_fresh : Fresh g a (cleared z r)
    cleared_fresh = record {
      cost_fits = omega (arith, pairs_is, cleared_long, blank.cost_fits);
      via_fits = omega (arith, pairs_is, blank.via_fits);
      nodes_fits = omega (arith, pairs_is, blank.nodes_fits);
      counts_fits = omega (arith, blank.counts_long, few_stages z on.read y.tables);
      no_cost = λ p h.
          let k : p < pairs_in z = omega (arith, pairs_is) in
          get_or-append (replicate (pairs_in z) NONE) (drop (pairs_in z) r.cost) 0 p (omega (arith, length-replicate (pairs_in z) NONE))
          ∙ get_or-replicate (pairs_in z) p NONE 0 k;
      no_node = λ s h. blank.no_node s (omega (arith, few_stages z on.read y.tables));
    }

  -- where the start's row starts
  abbrev base : ℕ
  base = get_or on.row start 0

  base_is : base ≡ start * a.size
  base_is = row_start_lem z on y start start_inside ∙ ap (λ (k : ℕ). start * k) (sym (width_is z on.read y.tables))

  module _ {r : Rows} (fresh : Fresh g a r) where
    pub begin_fits : (start < 256) × (base + root < length r.cost) × (base < length r.nodes)
    begin_fits =
        let p = pair_inside g a start root start_inside y.tables.sound.root_inside in (
          omega (arith, start_inside, few_stages z on.read y.tables),
          omega (arith, base_is, fresh.cost_fits),
          omega (arith, base_is, fresh.nodes_fits),
        )

    -- the start's pair is in the tables
    module _ {r' : Rows} (begins : r' ≡ begun_at base start root r) where
      begun_is : r' ≡ begun g a r
      unfolding begun begun_at
      begun_is =
          let first_place : base ≡ pair a start 0 = omega (arith, base_is) in
          begins ∙ ap₂ (λ (i j : ℕ). pick (eqb root 0) r (rows (set r.cost (i + root) 0) r.via (set r.nodes j root) (set r.counts start 1))) base_is first_place

      pub begun_row : Row z on start r'
      begun_row = record {
        ready = y;
        table = subst (Table g a start) (sym begun_is)
            (begun_table g a y.tables.valid (lawful_in z on.read y.tables) r fresh (at on.first) (first_steps z on y));
        stage = omega (arith, start_inside);
      }

      pub swept_is : {r'' : Rows} → r'' ≡ relax_rows g a (at on.first) start (z.stages - start) r' → r'' ≡ swept g a (at on.first) r
      unfolding swept
      swept_is e = e ∙ ap (relax_rows g a (at on.first) start (z.stages - start)) begun_is
