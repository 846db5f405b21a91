-- What is known where both files passed, and one law for each answer of `load`.
-- Assumes nothing.
use Prim.Native.Nat.{ℕ, ◌+◌, ◌-◌, ◌*◌, ◌≤◌, ◌<◌}
use mathlib.Core.Path.{◌≡◌, sym, ◌∙◌, ap, ap₂, subst}
use mathlib.Core.Bool.{true}
use mathlib.Core.List.{List, [], ◌∷◌}
use Rattle.std.specs.Prelude.{None, Result, Ok, Err}
use native.Mathlib.Omega.{arith}
use native.Mathlib.Nat.{mul-le-mul_right}
use lib.ListN.{length}
use borrow.Author.Tests.{le-leb, lt-leb}
use Rattle.definitions.specs.Charts.{ChartStep, group_count, read_chart}
use Rattle.definitions.specs.Charts as charts
use Rattle.definitions.specs.Diagrams.{Diagram, DiagramRead, InnerNode, strict, read_diagram}
use Rattle.definitions.specs.Refusals.{number}
use Rattle.definitions.specs.declared.Refusal.{Refusal}
use Rattle.definitions.specs.declared.Refusal.TheVariants.{ShortSlice}
use Rattle.fields.specs.Positions.{number_some}
use Rattle.fields.specs.declared.fault.Stopped.{Stopped}
use Rattle.chart_fields.specs.declared.table.StepTable.{StepTable}
use Rattle.checks.specs.Refusing.{FoundIn, refused_as}
use Rattle.checks.specs.declared.answers.Refused.{Refused}
use Rattle.checks.specs.declared.answers.InFile.TheVariants.{Chart, Rules}
use Rattle.definitions.specs.Plans.{graph}
use Rattle.theory.specs.Limits.{Small, OneKind, Valid, Sound}
use Rattle.theory.specs.Variables.{groups_few}
use Rattle.definitions.specs.Answers.{load, space_fits, work_need}
use Rattle.chart.specs.Tables as chart
use Rattle.chart.specs.Accepted.{Within, chart_accepted}
use Rattle.chart.specs.declared.sizes.ChartSizes.{ChartSizes}
use Rattle.diagram.specs.Files as files
use Rattle.diagram.specs.Held.{held_tables}
use Rattle.diagram.specs.Accepted.{diagram_accepted}
use Rattle.diagram.specs.declared.reader.DiagramSizes.{DiagramSizes}
use Rattle.checks.specs.Tables.{Read, read, Tables, LoadsAs, chart_in, diagram_in}
use Rattle.checks.specs.Outcome.{chart_refuses, rules_refuse, space_refuses, all_ready}
use Rattle.definitions.specs.declared.Shape.{Shape}

-- a refusal is one of the numbers from 1 on
number_not : (r : Refusal) → number r ≡ 0 → ⊥
number_not r q = omega (arith, number_some r)

-- what is lent is too short
abbrev short : Refused
short = record { refusal = ShortSlice; file = None; place = 0 }

module _ (s t : List ℕ) (work plan : ℕ) where
  -- the chart is refused
  pub chart_out : (r : Result ChartSizes (Stopped ChartSizes)) → chart.ChartAnswer (read_chart s) r → (x : Refused) → FoundIn Chart r (Err x)
      → load s t (work ∷ []) plan ≡ refused_as x
  chart_out r answer x found =
      let a = subst (chart.ChartAnswer (read_chart s)) found.1 answer in
      chart_refuses s t (work ∷ []) plan (λ q. number_not found.0.fault.refusal (sym a.0 ∙ q)) ∙ rw (a.0, a.1, found.2)

  module _ (x : ChartSizes) (answer : chart.ChartAnswer (read_chart s) (Ok x)) where
    chart_passed : (read_chart s).number ≡ 0
    chart_passed = answer.0

    accepted : Within (read_chart s).chart
    accepted = chart_accepted s chart_passed

    stages_is : x.stages ≡ (read_chart s).chart.stages
    stages_is = ap (λ (y : ChartSizes). y.stages) answer.2

    steps_is : x.steps ≡ length (read_chart s).chart.steps
    steps_is = ap (λ (y : ChartSizes). y.steps) answer.2

    groups_is : x.groups ≡ group_count (read_chart s).chart
    groups_is = ap (λ (y : ChartSizes). y.groups) answer.2

    pub few_groups : x.groups ≤ 1024
    few_groups = omega (arith, groups_is, groups_few (read_chart s).chart accepted.0)

    pub some_stages : 1 ≤ x.stages
    some_stages = omega (arith, stages_is, accepted.0.some_stages)

    abbrev d : DiagramRead
    d = read_diagram strict t (group_count (read_chart s).chart)

    same_file : read_diagram strict t x.groups ≡ d
    same_file = ap (read_diagram strict t) groups_is

    -- the diagram is refused
    pub rules_out : (r : Result DiagramSizes (Stopped DiagramSizes)) → files.diagram_end r ≡ files.diagram_answer (read_diagram strict t x.groups)
        → (z : Refused) → FoundIn Rules r (Err z) → load s t (work ∷ []) plan ≡ refused_as z
    rules_out r answer z found =
        let e = sym (ap files.diagram_end found.1) ∙ answer ∙ ap files.diagram_answer same_file in
        let n : number found.0.fault.refusal ≡ d.number = ap (λ (k : files.DiagramEnd). k.number) e in
        let p : found.0.fault.place ≡ d.place = ap (λ (k : files.DiagramEnd). k.place) e in
        rules_refuse s t (work ∷ []) plan chart_passed (λ q. number_not found.0.fault.refusal (n ∙ q)) ∙ rw (← n, ← p, found.2)

    module _ (y : DiagramSizes) (ey : files.diagram_end (Ok y) ≡ files.diagram_answer (read_diagram strict t x.groups)) where
      at_answer : files.diagram_end (Ok y) ≡ files.diagram_answer d
      at_answer = ey ∙ ap files.diagram_answer same_file

      module _ where
        rules_passed : d.number ≡ 0
        rules_passed = sym (ap (λ (k : files.DiagramEnd). k.number) at_answer)

        sound : Sound (group_count (read_chart s).chart) d.diagram
        sound = diagram_accepted strict t (group_count (read_chart s).chart) rules_passed

        nodes_is : y.nodes ≡ length d.diagram.nodes
        nodes_is = ap (λ (k : files.DiagramEnd). k.nodes) at_answer

        pub few_nodes : y.nodes ≤ 510
        few_nodes = omega (arith, nodes_is, sound.few)

        pub few_pairs : x.stages * (y.nodes + 2) ≤ 131072
        few_pairs =
            let a : x.stages ≤ 256 = omega (arith, stages_is, accepted.0.few_stages) in
            let b = mul-le-mul_right (y.nodes + 2) a in
            omega (arith, few_nodes)

        need_is : work_need (read_chart s).chart d.diagram ≡ x.stages * (y.nodes + 2)
        need_is = ap₂ (λ (i j : ℕ). i * (j + 2)) (sym stages_is) (sym nodes_is)

        pub work_refused : work < x.stages * (y.nodes + 2) → load s t (work ∷ []) plan ≡ refused_as short
        work_refused h = space_refuses s t (work ∷ []) plan chart_passed rules_passed (simp (lt-leb (work_need (read_chart s).chart d.diagram) work (omega (arith, need_is))))

        pub plan_refused : x.stages * (y.nodes + 2) ≤ work → plan < x.stages - 1 → load s t (work ∷ []) plan ≡ refused_as short
        plan_refused h k =
            space_refuses s t (work ∷ []) plan chart_passed rules_passed
            (simp (le-leb (work_need (read_chart s).chart d.diagram) work (omega (arith, need_is)), lt-leb ((read_chart s).chart.stages - 1) plan (omega (arith, stages_is))))

        module _ (steps steps₀ : StepTable) (inner : List ℕ) (fc : chart.Filled (read_chart s).chart.steps steps₀ steps)
            (fd : files.Filled (read_diagram strict t x.groups).diagram.nodes inner) (z : Shape)
            (zs : z.stages ≡ x.stages) (zb : z.start.0 ≡ x.start) (ze : z.end.0 ≡ x.end) (zc : z.steps ≡ x.steps) (zr : z.root.0 ≡ y.root) (zn : z.nodes ≡ y.nodes) where
          abbrev w : Read
          w = read steps inner

          abbrev C : charts.Chart
          C = (read_chart s).chart

          abbrev D : Diagram
          D = d.diagram

          mk : ℕ → ℕ → ℕ → List ChartStep → charts.Chart
          mk a b c l = record { stages = a; start = b; end = c; steps = l }

          -- the tables hold just what the files say
          same_steps : chart.held_steps z.steps (chart.steps_in steps) ≡ C.steps
          same_steps = ap (λ (k : ℕ). chart.held_steps k (chart.steps_in steps)) (zc ∙ steps_is) ∙ fc.held

          same_chart : chart_in z w ≡ C
          unfolding mk
          same_chart =
              ap (λ (l : List ChartStep). mk z.stages z.start.0 z.end.0 l) same_steps
              ∙ ap (λ (k : ℕ). mk k z.start.0 z.end.0 C.steps) (zs ∙ stages_is)
              ∙ ap (λ (k : ℕ). mk C.stages k z.end.0 C.steps) (zb ∙ ap (λ (y : ChartSizes). y.start) answer.2)
              ∙ ap (λ (k : ℕ). mk C.stages C.start k C.steps) (ze ∙ ap (λ (y : ChartSizes). y.end) answer.2)

          same_nodes : files.nodes_held z.nodes inner ≡ D.nodes
          same_nodes =
              let l : length (read_diagram strict t x.groups).diagram.nodes ≡ length D.nodes = ap (λ (w : DiagramRead). length w.diagram.nodes) same_file in
              ap (λ (k : ℕ). files.nodes_held k inner) (zn ∙ nodes_is ∙ sym l) ∙ fd.held ∙ ap (λ (w : DiagramRead). w.diagram.nodes) same_file

          root_is : z.root.0 ≡ D.root
          root_is = zr ∙ ap (λ (k : files.DiagramEnd). k.root) at_answer

          same_diagram : diagram_in z w ≡ D
          same_diagram = ap₂ (λ (k : ℕ) (l : List InnerNode). diagram k l) root_is same_nodes
            where
              diagram : ℕ → List InnerNode → Diagram
              diagram k l = record { root = k; nodes = l }

          in_tables : Tables z w
          in_tables =
              let so : Sound (group_count (chart_in z w)) (diagram_in z w) = subst (λ (c : charts.Chart). Sound (group_count c) (diagram_in z w)) (sym same_chart) (subst (Sound (group_count C)) (sym same_diagram) sound) in
              record {
                valid = subst (λ (c : charts.Chart). Valid (graph c)) (sym same_chart) accepted.0;
                small = subst (λ (c : charts.Chart). Small c) (sym same_chart) accepted.1;
                kinds = subst (λ (c : charts.Chart). OneKind c) (sym same_chart) accepted.3;
                sound = so;
                held = held_tables z.nodes w.inner.step w.inner.lo w.inner.hi z.root.0 so.ordered (omega (arith, few_nodes)) fd.marked;
              }

          pub loaded : x.stages * (y.nodes + 2) ≤ work → x.stages - 1 ≤ plan → LoadsAs (load s t (work ∷ []) plan) w (Ok z)
          loaded h k =
              let fits : space_fits C D (work ∷ []) plan ≡ true = simp (le-leb (work_need C D) work (omega (arith, need_is)), le-leb (C.stages - 1) plan (omega (arith, stages_is))) in
              (rw (same_chart, same_diagram) (all_ready s t (work ∷ []) plan chart_passed rules_passed fits), in_tables)
