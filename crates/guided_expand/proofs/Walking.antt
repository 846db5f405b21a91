-- The loop of `settle_kind`: the steps before e have been offered, and the node is lowered for the group of one of them.
-- Assumes nothing.
use Prim.Native.Nat.{ℕ, ◌+◌, ◌≤◌, ◌<◌}
use mathlib.Core.Path.{◌≡◌, refl, sym, ◌∙◌, ap, subst}
use mathlib.Core.Bool.{Bool, true, false}
use native.Mathlib.Omega.{arith}
use lib.ListN.{length, get_or}
use Rattle.definitions.specs.Diagrams.{advance}
use Rattle.definitions.specs.Ways.{Graph}
use Rattle.definitions.specs.Pairs.{Automaton}
use Rattle.definitions.specs.declared.Shape.{Shape}
use Rattle.theory.specs.Variables.{next_is}
use Rattle.diagram_fields.specs.Words.{MARK, Nodes, Marked}
use Rattle.nodes.specs.Walks.{Falls, Lowers, BranchesTo}
use Rattle.nodes.specs.Falling.{lo_falls}
use Rattle.nodes.specs.Advancing.{lowers_zero, lowers_on, advancing_dead}
use Rattle.checks.specs.Tables.{Tables, chart_in, diagram_in, pairs_in}
use Rattle.checks.specs.Ready.{Walk, graph_in, automaton_in, count_is, width_is, few_stages, few_nodes, few_steps, group_at, own_at, first_leave, first_order}
use Rattle.guided_model.specs.Bounds.{dead_steps}
use Rattle.guided_model.specs.Moves.{expanded_none}
use Rattle.guided_offers.specs.Estimates.{Estimates}
use Rattle.guided_offers.specs.Work.{kept_same}
use Rattle.guided_expand.specs.Progress.{Progress, seen_in}
use Rattle.guided_expand.specs.Guides.{Guides}
use Rattle.guided_expand.specs.Kinds.{Kind, GroupOf}
use Rattle.guided_expand.specs.Opening.{source_stage, source_node, Opens, Opened, opens_on, opened_more, Opening, Leading}
use Rattle.guided_expand.specs.declared.steps.Source.{Source}

-- the steps of stage s, by the table of first steps
abbrev pub first_of : Walk → ℕ → ℕ
first_of on s = get_or on.first s 0

module _ {on : Walk} {t : Estimates} {from : Source} {pairs : ℕ} {x : Progress} (o : Opening on t from pairs x) where
  pub settles_stage : source_stage from < 256
  settles_stage = omega (arith, o.opens.settling.stage, few_stages o.z on.read o.by.ready.tables)

  pub settles_node : source_node from < 512
  settles_node = omega (
    arith,
    o.opens.settling.node,
    width_is o.z on.read o.by.ready.tables,
    few_nodes o.z on.read o.by.ready.tables,
  )

  pub settles_order : first_of on (source_stage from) ≤ first_of on (source_stage from + 1)
  settles_order = (first_order o.z on o.by.ready (source_stage from) o.opens.settling.stage).0

pub record Walking {z : Shape} {on : Walk} {t : Estimates} (by : Guides z on t) (from : Source) (pairs : ℕ) (x₀ x : Progress) (m e : ℕ) : Type 0 where
  pub for_group : ℕ
  pub not_later : (f : ℕ) → e ≤ f → f < first_of on (source_stage from + 1) → for_group ≤ (graph_in z on.read).group f
  pub lowers : Lowers on.read.inner.step on.read.inner.lo for_group (source_node from) m
  pub begun : first_of on (source_stage from) ≤ e
  pub opens : Opens by from pairs x
  pub opened : Opened by from (first_of on (source_stage from)) e x₀ x

-- no step is offered
opened_none : {z : Shape} {on : Walk} {t : Estimates} {by : Guides z on t} {from : Source} {pairs : ℕ} {x : Progress} → Opens by from pairs x → (first until : ℕ)
    → ((e : ℕ) → first ≤ e → e < until → (automaton_in z on.read).next e (source_node from) ≡ 0) → Opened by from first until x x
opened_none {z} {on} {t} {by} {from} {pairs} {x} o first until q = record {
  expanded = expanded_none (graph_in z on.read) (automaton_in z on.read) by.h (source_stage from) (source_node from) from.cost first until (seen_in (pairs_in z) x)
      (dead_steps by.guide (source_node from) first until q);
  kept = kept_same o.queue;
  blocks = refl;
}

pub walk_start : {on : Walk} {t : Estimates} {from : Source} {pairs : ℕ} {x : Progress} (o : Opening on t from pairs x) {m : ℕ} → m ≡ source_node from
    → Walking o.by from pairs x x m (first_of on (source_stage from))
walk_start {on} {t} {from} o q = record {
  for_group = 0;
  not_later = λ f i j. omega arith;
  lowers =
      subst (Lowers on.read.inner.step on.read.inner.lo 0 (source_node from)) (sym q)
      (lowers_zero on.read.inner.step on.read.inner.lo (source_node from));
  begun = omega arith;
  opens = o.opens;
  opened = opened_none o.opens (first_of on (source_stage from)) (first_of on (source_stage from)) (λ e i j. absurd (omega arith));
}

module _ {z : Shape} {on : Walk} {t : Estimates} {by : Guides z on t} {from : Source} {pairs : ℕ} {x₀ x : Progress} {m e : ℕ}
    (w : Walking by from pairs x₀ x m e) where
  abbrev s : ℕ
  s = source_stage from

  abbrev n : ℕ
  n = source_node from

  abbrev g : Graph
  g = graph_in z on.read

  abbrev a : Automaton
  a = automaton_in z on.read

  abbrev tables : Tables z on.read
  tables = by.ready.tables

  abbrev inner : Nodes
  inner = on.read.inner

  module _ (more : e < first_of on (s + 1)) where
    pub leaving : (e < z.steps) × (g.from e ≡ s)
    leaving = first_leave z on by.ready s e w.opens.settling.stage w.begun more

    pub walk_step : e < 1024
    walk_step = omega (arith, leaving.0, few_steps z on.read tables)

    exist : (f : ℕ) → f < first_of on (s + 1) → f < g.count
    exist f h = omega (arith, (first_order z on by.ready s w.opens.settling.stage).1, count_is z on.read tables)

    -- what the code takes for the step's group, by the kind of the steps
    pub walk_group : {k : ℕ} (grouped : Bool) → Kind grouped on.read → GroupOf grouped on.read.steps e k → k ≡ get_or on.read.steps.group e 0
    walk_group true named q = q
    walk_group false plain q = q ∙ own_at z on.read tables e leaving.0 plain

    -- the group k of step e, by which the node is advanced
    module _ {k : ℕ} (ek : k ≡ get_or on.read.steps.group e 0) where
      pub key_is : k ≡ g.group e
      key_is = ek ∙ group_at z on.read tables e leaving.0

      key_few : k < 1024
      key_few = omega (arith, key_is, tables.valid.few_groups e (exist e more))

      -- it is not above the groups of later steps
      rises : (f : ℕ) → e ≤ f → f < first_of on (s + 1) → k ≤ g.group f
      rises f h l = omega (arith, key_is, tables.valid.grouped e f h (exist f l))

      pub walk_falls : Marked inner.step × Falls inner.lo m × (k ≤ MARK)
      walk_falls = (
        tables.held.marked,
        lo_falls (diagram_in z on.read) inner.step inner.lo inner.hi tables.held m (omega (arith, w.lowers.below, w.opens.settling.node)),
        omega (arith, key_few),
      )

      module _ {r : ℕ} (low : Lowers inner.step inner.lo k m r) where
        pub lowered : Lowers inner.step inner.lo k n r
        lowered = lowers_on inner.step inner.lo w.for_group k n m r (omega (arith, key_is, w.not_later e (omega arith) more)) w.lowers low

        pub walk_branches : Marked inner.step × (r < 512) × (k < MARK)
        walk_branches = (
          tables.held.marked,
          omega (arith, lowered.below, w.opens.settling.node, width_is z on.read tables, few_nodes z on.read tables),
          omega (arith, key_few),
        )

        -- node 0: no further step leads to a pair
        pub walk_dead : r ≡ 0 → Opened by from (first_of on s) (first_of on (s + 1)) x₀ x
        walk_dead q =
            opened_more by from w.opened
            (opened_none w.opens e (first_of on (s + 1))
            (λ f i j. next_is (chart_in z on.read) (diagram_in z on.read) f n
            ∙ sym ((advancing_dead inner.step inner.lo inner.hi k (g.group f) n (rises f i j) (subst (Lowers inner.step inner.lo k n) q lowered)).is
            (diagram_in z on.read) tables.held w.opens.settling.node)))

        -- the step leads to node `to`
        module _ {to : ℕ} (b : BranchesTo inner.step inner.hi k r to) where
          abbrev pub walk_leading : Leading on t from pairs e to x
          walk_leading = record {
            z = z;
            by = by;
            opens = w.opens;
            exists = leaving.0;
            leaves = leaving.1;
            enters =
                (b inner.lo n lowered).is (diagram_in z on.read) tables.held w.opens.settling.node
                ∙ ap (λ (i : ℕ). advance (diagram_in z on.read) i n) key_is ∙ sym (next_is (chart_in z on.read) (diagram_in z on.read) e n);
          }

          -- and is offered
          pub walk_more : {x' : Progress} → length x'.slices.via ≡ length x.slices.via → Opened by from e (e + 1) x x' → Walking by from pairs x₀ x' r (e + 1)
          walk_more q o = record {
            for_group = k;
            not_later = λ f i j. rises f (omega arith) j;
            lowers = lowered;
            begun = omega (arith, w.begun);
            opens = opens_on by from q w.opens o;
            opened = opened_more by from w.opened o;
          }

  pub walk_done : e ≡ first_of on (s + 1) → Opened by from (first_of on s) (first_of on (s + 1)) x₀ x
  walk_done q = subst (λ (k : ℕ). Opened by from (first_of on s) k x₀ x) q w.opened
