-- A node's steps in turn: what the loops of `relax_plain` and `relax_grouped` keep, with the node carried down to lo from step to step.
-- Assumes nothing.
use Prim.Native.Nat.{ℕ, zero, suc, ◌+◌, ◌-◌, ◌*◌, ◌≤◌, ◌<◌}
use mathlib.Core.Path.{◌≡◌, refl, sym, ◌∙◌, ap, ap₂, subst}
use mathlib.Core.List.{List}
use native.Mathlib.Omega.{arith}
use lib.Dec.{eqb}
use lib.ListN.{get_or}
use borrow.Author.Tests.{eq-eqb}
use Rattle.theory.specs.Ways.{step_cheap}
use Rattle.definitions.specs.Basics.{NONE, pick}
use Rattle.definitions.specs.Charts.{grouped}
use Rattle.definitions.specs.Diagrams.{Diagram, size, advance}
use Rattle.definitions.specs.Ways.{Graph}
use Rattle.definitions.specs.Pairs.{Automaton}
use Rattle.theory.specs.Basics.{pick_true, either}
use Rattle.theory.specs.Diagrams.{advance_leaf}
use Rattle.theory.specs.Variables.{next_is}
use Rattle.via_marks.specs.Marks.{packed}
use Rattle.diagram_fields.specs.Words.{Marked}
use Rattle.nodes.specs.Falling.{lo_falls}
use Rattle.nodes.specs.Walks.{lowered, Falls, Lowers, BranchesTo}
use Rattle.nodes.specs.Descending.{advance_lowered}
use Rattle.sweep_model.specs.Model.{Rows, cost_at, count_at, offer, relax_step, relax_steps}
use Rattle.sweep_model.specs.Rows.{Entry, entry_low}
use Rattle.sweep_model.specs.Offers.{pair_fits, roomy, place_fits}
use Rattle.sweep_model.specs.Sweeps.{step_made}
use Rattle.checks.specs.Ready.{Walk, graph_in, automaton_in, count_is, width_is, lawful_in, few_stages, few_nodes, few_steps, to_at, cost_at_lem, group_at, named_at, own_at, first_leave, first_order, row_start_lem}
use Rattle.checks.specs.Tables.{Named, Tables, chart_in, diagram_in}
use Rattle.definitions.specs.declared.Shape.{Shape}
use Rattle.sweep_offers.specs.Offers.{Open, Offering, stepped}
use Rattle.sweep_rows.specs.Standing.{Standing}

-- Such a loop before step e, with the node carried down to m: what is left to do comes to the same as the whole
pub record Walking (z : Shape) (on : Walk) (s n v begin until : ℕ) (r₀ r : Rows) (e m : ℕ) : Type 0 where
  pub begins : begin ≡ get_or on.first s 0
  pub ends : until ≡ get_or on.first (s + 1) 0
  pub standing : Standing z on s n v r
  pub same : relax_steps (graph_in z on.read) (automaton_in z on.read) n v begin (until - begin) r₀
      ≡ relax_steps (graph_in z on.read) (automaton_in z on.read) n v e (until - e) r
  pub later : begin ≤ e
  pub carried : (f : ℕ) → e ≤ f → f < until
      → advance (diagram_in z on.read) ((graph_in z on.read).group f) m ≡ advance (diagram_in z on.read) ((graph_in z on.read).group f) n
  pub down : m ≤ n

module _ {z : Shape} {on : Walk} {s n v begin until : ℕ} {r₀ r : Rows} {e m : ℕ} (w : Walking z on s n v begin until r₀ r e m) where
  abbrev g : Graph
  g = graph_in z on.read

  abbrev a : Automaton
  a = automaton_in z on.read

  abbrev d : Diagram
  d = diagram_in z on.read

  abbrev to : List ℕ
  to = on.read.steps.to

  abbrev cost : List ℕ
  cost = on.read.steps.cost

  abbrev row : List ℕ
  row = on.row

  abbrev standing : Standing z on s n v r
  standing = w.standing

  abbrev tables : Tables z on.read
  tables = standing.ready.tables

  small : m < size d
  small = omega (arith, w.down, standing.node)

  -- what the walk down to lo asks
  pub walk_marked : Marked on.read.inner.step
  walk_marked = standing.ready.tables.held.marked

  pub walk_falls : (k : ℕ) → k ≤ m → Falls on.read.inner.lo k
  walk_falls k h = lo_falls d on.read.inner.step on.read.inner.lo on.read.inner.hi standing.ready.tables.held k (omega (arith, small))

  module _ (more : e < until) where
    leaving : (e < z.steps) × (g.from e ≡ s)
    leaving = first_leave z on standing.ready s e standing.stage (omega (arith, w.later, w.begins)) (omega (arith, w.ends))

    pub walk_step : e < 1024
    walk_step = omega (arith, leaving.0, few_steps z on.read standing.ready.tables)

    exist : (f : ℕ) → f < until → f < g.count
    exist f h = omega (arith, w.ends, (first_order z on standing.ready s standing.stage).1, count_is z on.read tables)

    pub walk_named : Named on.read → get_or on.read.steps.tag e 0 ≡ grouped
    walk_named = named_at z on.read tables e leaving.0

    pub walk_own : (Named on.read → ⊥) → e ≡ get_or on.read.steps.group e 0
    walk_own = own_at z on.read tables e leaving.0

    -- the group k of step e, by which the node is advanced
    module _ {k : ℕ} (ek : k ≡ get_or on.read.steps.group e 0) where
      key_is : k ≡ g.group e
      key_is = ek ∙ group_at z on.read tables e leaving.0

      pub walk_key : k < 1024
      walk_key = omega (arith, key_is, tables.valid.few_groups e (exist e more))

    -- one step e out of the stage, to node t
    module _ (t : ℕ) (et : t ≡ a.next e n) where
      exists : e < g.count
      exists = omega (arith, leaving.0, count_is z on.read tables)

      to_is : get_or to e 0 ≡ g.to e
      to_is = to_at z on.read tables e leaving.0

      to_inside : g.to e < z.stages
      to_inside = tables.valid.inside e exists

      base_is : get_or row (get_or to e 0) 0 ≡ g.to e * a.size
      base_is =
          ap (λ (i : ℕ). get_or row i 0) to_is ∙ row_start_lem z on standing.ready (g.to e) to_inside
          ∙ ap (λ (w : ℕ). g.to e * w) (sym (width_is z on.read tables))

      cost_is : get_or cost e 0 ≡ g.cost e
      cost_is = cost_at_lem z on.read tables e leaving.0

      -- what the code does is the model's step
      stepped_is : stepped on.read.steps row e n v t r ≡ relax_step g a n v e r
      unfolding stepped relax_step
      stepped_is =
          ap (λ (i : ℕ). pick (eqb i 0) r (offer (get_or row (get_or to e 0) 0) (get_or to e 0) i (v + get_or cost e 0) (packed (get_or to e 0) e n) r)) et
          ∙ ap (λ (i : ℕ). pick (eqb (a.next e n) 0) r (offer i (get_or to e 0) (a.next e n) (v + get_or cost e 0) (packed (get_or to e 0) e n) r)) base_is
          ∙ ap₂ (λ (i j : ℕ). pick (eqb (a.next e n) 0) r (offer (g.to e * a.size) i (a.next e n) (v + j) (packed i e n) r)) to_is cost_is

      entry : Entry g a r (suc s) s n
      entry = either (standing.table.cell s n standing.stage standing.node) (λ u. absurd (omega (arith, standing.costs, standing.low))) (λ x. x)

      narrow : a.size ≤ 512
      narrow = omega (arith, width_is z on.read tables, few_nodes z on.read tables)

      -- the pair that the step leads to can take the offer
      takes : (t ≡ 0 → ⊥) → Open (get_or row (get_or to e 0) 0) (get_or to e 0) t r
      takes nt =
          let nz : a.next e n ≡ 0 → ⊥ = λ q. nt (et ∙ q) in
          let l = lawful_in z on.read tables in
          let fits = pair_fits g a tables.valid l s n e v r standing.table standing.stage standing.node standing.costs standing.low exists leaving.1 nz in
          let is-new : get_or r.cost (get_or row (get_or to e 0) 0 + t) 0 ≡ NONE → cost_at a.size r (g.to e) (a.next e n) ≡ NONE =
          λ q. ap₂ (λ (i j : ℕ). get_or r.cost (i + j) 0) (sym base_is) (sym et) ∙ q in
          let count-is' : get_or r.counts (get_or to e 0) 0 ≡ count_at r (g.to e) = ap (λ (i : ℕ). get_or r.counts i 0) to_is in
          record {
            stage = omega (arith, to_is, to_inside, few_stages z on.read tables);
            node = omega (arith, l.next_inside e n exists standing.node, narrow);
            cost_fits = omega (arith, base_is, fits, standing.table.cost_fits);
            via_fits = omega (arith, base_is, fits, standing.table.via_fits);
            list_fits = λ q. omega (
              arith,
              base_is,
              standing.table.nodes_fits,
              count-is',
              place_fits g a tables.valid l s n e v r standing.table standing.stage standing.node standing.costs standing.low exists leaving.1 nz (is-new q),
            );
            count_small = λ q. omega (
              arith,
              narrow,
              count-is',
              roomy g a tables.valid l s n e v r standing.table standing.stage standing.node standing.costs standing.low exists leaving.1 nz (is-new q),
            );
          }

      offering : Offering on.read.steps row e n v t r
      offering = record {
        exists = omega (arith, leaving.0, few_steps z on.read tables);
        inside = omega (arith, to_is, to_inside, few_stages z on.read tables);
        node = omega (arith, standing.node, narrow);
        low = omega (arith, cost_is, standing.costs, entry_low g a tables.valid r (suc s) s n entry, step_cheap g tables.valid e exists);
        takes = takes;
      }

      -- afterwards the node stands as before
      stands_on : Standing z on s n v (relax_step g a n v e r)
      stands_on =
          let m = step_made g a tables.valid (lawful_in z on.read tables) s n v standing.stage standing.node standing.low e r standing.table standing.costs exists leaving.1 in
          record {
            ready = standing.ready;
            table = m.table;
            stage = standing.stage;
            node = standing.node;
            costs = m.later.cost_same s n (omega arith) standing.node ∙ standing.costs;
            low = standing.low;
          }

    module _ {k m' : ℕ} (ek : k ≡ get_or on.read.steps.group e 0) (x : Lowers on.read.inner.step on.read.inner.lo k m m') where
      lowered_is : m' ≡ lowered d k m
      lowered_is = x.is d on.read.inner.hi standing.ready.tables.held small

      carried_on : (f : ℕ) → e ≤ f → f < until → advance d (g.group f) m' ≡ advance d (g.group f) n
      carried_on f h l =
          ap (advance d (g.group f)) lowered_is
          ∙ advance_lowered d standing.ready.tables.held.ordered k (g.group f) m (omega (arith, key_is ek, tables.valid.grouped e f h (exist f l)))
          ∙ w.carried f h l

      -- node 0 offers nothing, by no step
      dead : (c f : ℕ) → e ≤ f → f + c ≤ until → m' ≡ 0 → (r : Rows) → relax_steps g a n v f c r ≡ r
      unfolding relax_steps relax_step
      dead zero f h l q r = refl
      dead (suc c) f h l q r =
          let none : a.next f n ≡ 0 = next_is (chart_in z on.read) d f n ∙ sym (carried_on f h (omega arith)) ∙ ap (advance d (g.group f)) q
          ∙ advance_leaf d standing.ready.tables.held.ordered (g.group f) 0 (omega arith) in
          ap (relax_steps g a n v (suc f) c) (pick_true _ _ _ (eq-eqb _ 0 none)) ∙ dead c (suc f) (omega arith) (omega arith) q r

      pub walk_dead : m' ≡ 0 → r ≡ relax_steps g a n v begin (until - begin) r₀
      walk_dead q = sym (w.same ∙ dead (until - e) e (omega arith) (omega arith) q r)

      module _ {t : ℕ} (y : BranchesTo on.read.inner.step on.read.inner.hi k m' t) where
        advanced_is : t ≡ a.next e n
        advanced_is =
            (y on.read.inner.lo m x).is d standing.ready.tables.held small ∙ ap (λ (i : ℕ). advance d i m) (key_is ek) ∙ w.carried e (omega arith) more
            ∙ sym (next_is (chart_in z on.read) d e n)

        pub walk_offering : Offering on.read.steps row e n v t r
        walk_offering = offering t advanced_is

        pub walk_more : (r' : Rows) → r' ≡ stepped on.read.steps row e n v t r → Walking z on s n v begin until r₀ r' (e + 1) m'
        unfolding relax_steps
        walk_more r' q =
            let p = q ∙ stepped_is t advanced_is in
            let k : until - e ≡ suc (until - (e + 1)) = omega arith in
            let j : suc e ≡ e + 1 = omega arith in
            record {
              begins = w.begins;
              ends = w.ends;
              standing = subst (Standing z on s n v) (sym p) (stands_on t advanced_is);
              same = w.same ∙ ap (λ (i : ℕ). relax_steps g a n v e i r) k
                  ∙ ap₂ (λ (i : ℕ) (l : Rows). relax_steps g a n v i (until - (e + 1)) l) j (sym p);
              later = omega (arith, w.later);
              carried = λ f h l. carried_on f (omega arith) l;
              down = omega (arith, w.down, x.below);
            }

  pub walk_done : until ≤ e → r ≡ relax_steps g a n v begin (until - begin) r₀
  unfolding relax_steps
  walk_done h = let k : until - e ≡ 0 = omega arith in sym (w.same ∙ ap (λ (i : ℕ). relax_steps g a n v e i r) k)
