-- An entry's answer, by how its search ended.
-- Assumes nothing.
use Prim.Native.Nat.{ℕ, ◌*◌, ◌≤◌, ◌<◌}
use mathlib.Core.Path.{◌≡◌, refl, sym, ◌∙◌, ap, ap₂, subst}
use mathlib.Core.Bool.{Bool, true, false, ◌&&◌}
use mathlib.Core.List.{List}
use mathlib.Core.Option.{Option, none, some}
use lib.Dec.{ltb}
use lib.ListN.{take}
use borrow.Author.Tests.{lt-ltb, le-ltb}
use Rattle.definitions.specs.Charts.{Chart, headed, group_count}
use Rattle.definitions.specs.Diagrams.{Diagram}
use Rattle.definitions.specs.Pairs.{pairs}
use Rattle.definitions.specs.Plans.{graph, automaton, cheapest, estimate, variable, variable_cost}
use Rattle.definitions.specs.Promises.{on_chart, answered_by, found_number, found_cost, CycledIf, CycleSlices, cycle_slices}
use Rattle.definitions.specs.declared.Cycle.{Cycle}
use Rattle.definitions.specs.declared.Shape.{Shape}
use Rattle.theory.specs.Logs.{log_long, log_alone, log_past}
use Rattle.checks.specs.Tables.{Read, chart_in, diagram_in, pairs_in}
use Rattle.checks.specs.Ready.{Walk, width_is}
use Rattle.checks.specs.Heads.{headed_shape, headed_ready}
use Rattle.guided_model.specs.Based.{LoggedFrom, logged_plain}
use Rattle.guided_offers.specs.Work.{Work, past_same}
use Rattle.std.specs.Prelude.{Some, None}
use Rattle.guided_ends.specs.declared.Goal.{Goal}
use Rattle.guided_ends.specs.declared.Ended as ended
use Rattle.guided_seek.specs.Seeks.{Seeking, Sought}
use Rattle.cycles.specs.Cycles.{work_of, Asking, Answered}

module _ {z : Shape} {on : Walk} {byNode : List ℕ} {x : CycleSlices} (ask : Asking z on byNode x) (c : Cycle) where
  abbrev t : Read
  t = on.read

  abbrev D : Diagram
  D = diagram_in z t

  -- its start or its end is no stage
  module _ {c' : Cycle} (e : c' ≡ answered_by c 4 0 0) where
    off : on_chart (chart_in z t) c ≡ false → Answered z t x x c c'
    off h = record {
      cycled = subst (λ (b : Bool). CycledIf b (chart_in z t) D c c') (sym h) e;
      past = record { work_past = past_same; log_past = refl };
    }

    pub start_off : z.stages ≤ c.start → Answered z t x x c c'
    start_off h = off (ap (λ (b : Bool). b && ltb c.end z.stages) (le-ltb c.start z.stages h))

    pub end_off : c.start < z.stages → z.stages ≤ c.end → Answered z t x x c c'
    end_off s h = off (ap₂ (λ (a b : Bool). a && b) (lt-ltb c.start z.stages s) (le-ltb c.end z.stages h))

  module _ (s : c.start < z.stages) (h : c.end < z.stages) where
    -- what its search asks
    pub entry_seeks : Seeking (headed_shape z c.start c.end) on byNode (work_of x) x.log
    unfolding group_count variable variable_cost
    entry_seeks = record {
      prepared = record {
        ready = headed_ready z c.start c.end s h ask.prepared.ready;
        nodes = record { prices = ask.prepared.nodes.prices; costs = ask.prepared.nodes.costs; by = ask.prepared.nodes.by };
      };
      space = record {
        keys_fit = ask.space.keys_fit;
        via_fits = ask.space.via_fits;
        heap_fits = ask.space.heap_fits;
        pos_fits = ask.space.pos_fits;
        stack_fits = ask.space.stack_fits;
        log_fits = ask.space.log_fits;
      };
    }

    abbrev C : Chart
    C = headed (chart_in z t) c.start c.end

    -- by the cost of a cheapest legal plan
    module _ {y : Work} {log' : List ℕ} {r : ended.Ended} (sought : Sought (headed_shape z c.start c.end) t (work_of x) x.log y log' r) {c' : Cycle} where
      answered : (o : Option ℕ) → cheapest C D ≡ o → LoggedFrom (graph C) (automaton C D) (estimate C D) 0 (cheapest C D) r.count x.log log'
          → c' ≡ answered_by c (found_number o) (found_cost o) r.count → Answered z t x (cycle_slices y.keys y.via y.heap y.pos y.stack log') c c'
      answered o best logged e =
          let l = logged_plain (graph C) (automaton C D) (estimate C D) (cheapest C D) r.count x.log log' logged in
          let on-chart : on_chart (chart_in z t) c ≡ true = ap₂ (λ (a b : Bool). a && b) (lt-ltb c.start z.stages s) (lt-ltb c.end z.stages h) in
          let width : pairs (graph C) (automaton C D) ≡ pairs_in z = ap (λ (k : ℕ). z.stages * k) (width_is z t ask.prepared.ready.tables) in
          record {
            cycled = subst (λ (b : Bool). CycledIf b (chart_in z t) D c c') (sym on-chart) (record {
              log = take r.count log';
              logged = log_alone (graph C) (automaton C D) (estimate C D) l;
              answered = e ∙ ap₂ (λ (o : Option ℕ) (k : ℕ). answered_by c (found_number o) (found_cost o) k) (sym best) (sym (log_long (graph C) (automaton C D) (estimate C D) l));
            });
            past = record { work_past = sought.past; log_past = rw (← width) (log_past (graph C) (automaton C D) (estimate C D) l) };
          }

      pub entry_found : {g : Goal} → r.goal ≡ Some g → c' ≡ answered_by c 0 g.cost r.count → Answered z t x (cycle_slices y.keys y.via y.heap y.pos y.stack log') c c'
      entry_found {g} f e = answered (some g.cost) (sought.goal g f).best (sought.goal g f).logged e

      pub entry_none : r.goal ≡ None → c' ≡ answered_by c 8 0 r.count → Answered z t x (cycle_slices y.keys y.via y.heap y.pos y.stack log') c c'
      entry_none f e = answered none (sought.no_goal f).best (sought.no_goal f).logged e
