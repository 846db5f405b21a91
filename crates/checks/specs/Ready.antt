-- All tables that a search walks, and what they say of the chart and the diagram, by index.
-- Assumes nothing.
use Rattle.std.specs.Prelude.{ℕ, ◌+◌, ◌*◌, ◌≤◌, ◌<◌, ◌≡◌, List, get_or}
use Rattle.std.proofs.Common.{sym, ◌∙◌, ap, arith}
use Rattle.definitions.specs.Charts.{no_step, grouped}
use Rattle.definitions.specs.Ways.{Graph}
use Rattle.definitions.specs.Pairs.{Automaton, row_starts}
use Rattle.definitions.specs.Plans.{graph, automaton}
use Rattle.theory.specs.Basics.{either}
use Rattle.theory.specs.Pairs.{Lawful, lawful}
use Rattle.chart.specs.Held.{held_count, held_from, held_to, held_cost, held_group, held_tag}
use Rattle.chart_stages.specs.FirstSteps.{FirstTable, Firsts, first_leaves, leaves_first, first_inside, first_rises}
use Rattle.chart_stages.specs.HeldGraph.{held_firsts}
use Rattle.diagram.specs.Held.{length_held}
use Rattle.rows.specs.Rows.{row_at}
use Rattle.checks.specs.declared.walk.WalkTables.{WalkTables}
use Rattle.checks.specs.Tables.{Read, read, Named, Tables, chart_in, diagram_in}
use Rattle.definitions.specs.declared.Shape.{Shape}

-- all tables that a search walks: what the files are read into, the first step of each stage, the start of each stage's row
pub record Walk : Type 0 where
  pub read : Read
  pub first : List ℕ
  pub row : List ℕ

abbrev pub walk : Read → List ℕ → List ℕ → Walk
walk t first row = record { read = t; first = first; row = row }

-- what the code's tables hold
abbrev pub walked : WalkTables → Walk
walked t = walk (read t.steps.now t.inner.now) t.first.now t.row.now

pub record Ready (z : Shape) (w : Walk) : Type 0 where
  pub tables : Tables z w.read
  pub firsts : FirstTable z.steps z.stages w.read.steps.from w.first
  pub rows : w.row ≡ row_starts z.stages (z.nodes + 2)

-- the graph and the automaton that the searches walk
abbrev pub graph_in : Shape → Read → Graph
graph_in z t = graph (chart_in z t)

abbrev pub automaton_in : Shape → Read → Automaton
automaton_in z t = automaton (chart_in z t) (diagram_in z t)

module _ (z : Shape) (t : Read) (in_tables : Tables z t) where
  pub count_is : (graph_in z t).count ≡ z.steps
  count_is = held_count z.steps t.steps

  pub width_is : (automaton_in z t).size ≡ z.nodes + 2
  width_is = ap (λ (n : ℕ). n + 2) (length_held z.nodes t.inner.step t.inner.lo t.inner.hi)

  pub lawful_in : Lawful (graph_in z t) (automaton_in z t)
  lawful_in = lawful (chart_in z t) (diagram_in z t) in_tables.sound

  pub few_stages : z.stages ≤ 256
  few_stages = in_tables.valid.few_stages

  pub few_nodes : z.nodes ≤ 510
  few_nodes = omega (arith, length_held z.nodes t.inner.step t.inner.lo t.inner.hi, in_tables.sound.few)

  pub few_steps : z.steps ≤ 1024
  few_steps = omega (arith, count_is, in_tables.valid.few)

  module _ (e : ℕ) (h : e < z.steps) where
    pub from_at : get_or t.steps.from e 0 ≡ (graph_in z t).from e
    from_at = sym (held_from z.steps t.steps e h)

    pub to_at : get_or t.steps.to e 0 ≡ (graph_in z t).to e
    to_at = sym (held_to z.steps t.steps e h)

    pub cost_at_lem : get_or t.steps.cost e 0 ≡ (graph_in z t).cost e
    cost_at_lem = sym (held_cost z.steps t.steps e h)

    pub group_at : get_or t.steps.group e 0 ≡ (graph_in z t).group e
    group_at = sym (held_group z.steps t.steps e h)

    -- by the kind of the first step: each names its group, or is one alone
    exists : e < (graph_in z t).count
    exists = omega (arith, count_is)

    tag_at : get_or t.steps.tag e 0 ≡ (get_or (chart_in z t).steps e no_step).tag
    tag_at = sym (held_tag z.steps t.steps e h)

    tag_first : get_or t.steps.tag e 0 ≡ get_or t.steps.tag 0 0
    tag_first = tag_at ∙ in_tables.kinds.alike e 0 exists (omega (arith, exists)) ∙ held_tag z.steps t.steps 0 (omega arith)

    pub named_at : Named t → get_or t.steps.tag e 0 ≡ grouped
    named_at q = tag_first ∙ q

    pub own_at : (Named t → ⊥) → e ≡ get_or t.steps.group e 0
    own_at n =
        sym (group_at ∙ in_tables.kinds.alone e exists
        (either (in_tables.kinds.tags e exists) (λ q. q) (λ q. absurd (n (sym tag_first ∙ tag_at ∙ q)))))

module _ (z : Shape) (w : Walk) (r : Ready z w) where
  abbrev g : Graph
  g = graph_in z w.read

  firsts_at : Firsts g w.first
  firsts_at = held_firsts z w.read.steps r.tables.valid w.first r.firsts

  abbrev same_count : g.count ≡ z.steps
  same_count = count_is z w.read r.tables

  -- the steps from the first one of a stage to before that of the next are those that leave it
  pub first_leave : (s e : ℕ) → s < z.stages → get_or w.first s 0 ≤ e → e < get_or w.first (s + 1) 0 → (e < z.steps) × (g.from e ≡ s)
  first_leave s e h i j =
      let x = first_leaves g r.tables.valid s e (omega (arith, firsts_at.at s (omega arith))) (omega (arith, firsts_at.at (s + 1) (omega arith))) in
      (omega (arith, same_count), x.1)

  pub first_all : (s e : ℕ) → s < z.stages → e < g.count → g.from e ≡ s → (get_or w.first s 0 ≤ e) × (e < get_or w.first (s + 1) 0)
  first_all s e h i q =
      let x = leaves_first g r.tables.valid s e i q in
      omega (arith, firsts_at.at s (omega arith), firsts_at.at (s + 1) (omega arith))

  pub first_order : (s : ℕ) → s < z.stages → (get_or w.first s 0 ≤ get_or w.first (s + 1) 0) × (get_or w.first (s + 1) 0 ≤ z.steps)
  first_order s h =
      omega (arith, firsts_at.at s (omega arith), firsts_at.at (s + 1) (omega arith), first_rises g r.tables.valid s (s + 1) (omega arith), first_inside g r.tables.valid (s + 1), same_count)

  pub row_start_lem : (s : ℕ) → s < z.stages → get_or w.row s 0 ≡ s * (z.nodes + 2)
  row_start_lem s h = ap (λ (l : List ℕ). get_or l s 0) r.rows ∙ row_at z.stages (z.nodes + 2) s r.tables.valid.few_stages h
