-- From the end of the search to the promise.
-- Assumes nothing.
use Prim.Native.Nat.{ℕ, ◌+◌, ◌≤◌}
use mathlib.Core.Path.{◌≡◌, refl, ap, subst}
use mathlib.Core.List.{List}
use native.Mathlib.Omega.{arith}
use lib.ListN.{length}
use Rattle.std.specs.Prelude.{Option, Some, None}
use Rattle.definitions.specs.Charts.{Chart}
use Rattle.definitions.specs.Diagrams.{Diagram}
use Rattle.definitions.specs.Plans.{cheapest}
use Rattle.definitions.specs.Promises.{Logged, GuidedSlices, guided_slices}
use Rattle.definitions.specs.declared.Answer.{Answer}
use Rattle.definitions.specs.declared.Shape.{Shape}
use Rattle.trace.specs.Trails.{Trail, trail_short}
use Rattle.checks.specs.Tables.{Read, chart_in, diagram_in, Tables}
use Rattle.checks.specs.Ready.{Walk, graph_in, automaton_in, width_is, few_stages, few_nodes}
use Rattle.guided_model.specs.Based.{logged_plain}
use Rattle.guided_model.specs.Charts.{GoalSettled}
use Rattle.guided_offers.specs.Work.{Work}
use Rattle.guided_ends.specs.declared.Goal.{Goal}
use Rattle.guided_ends.specs.declared.Ended.{Ended}
use Rattle.guided_ends.specs.Ends.{Trails, Ending, Concludes}
use Rattle.guided_seek.specs.Seeks.{estimate_in, Prepared, Sought}
use Rattle.guided.specs.Runs.{work_of, Room, Runs}
use Rattle.guided.proofs.Planning.{outcome_some, outcome_none}

module _ {z : Shape} {on : Walk} {byNode : List ℕ} (p : Prepared z on byNode) {x : GuidedSlices} (room : Room z x)
    {y : Work} {log' : List ℕ} {e : Ended} (s : Sought z on.read (work_of x) x.log y log' e) (via_long : length y.via ≡ length x.via) where
  abbrev t : Read
  t = on.read

  abbrev in_tables : Tables z t
  in_tables = p.ready.tables

  abbrev C : Chart
  C = chart_in z t

  abbrev D : Diagram
  D = diagram_in z t

  trail_in : {via : List ℕ} {width node : ℕ} {w : List ℕ} → Trail via t.steps.from width z.start.0 z.end.0 node w → length w ≤ length x.plan
  trail_in w = omega (arith, trail_short w, in_tables.valid.end_inside, room.plan_fits)

  abbrev settled : (g : Goal) → e.goal ≡ Some g → GoalSettled C D (estimate_in z t) 0 y.via t.steps.from g.node.0 g.cost e.count x.log log'
  settled g f = s.goal g f

  abbrev trail_of : (g : Goal) → e.goal ≡ Some g → Trails z y.via t.steps on.row g
  trail_of g f = record {
    stages = z.stages;
    width = z.nodes + 2;
    rows = p.ready.rows;
    few = few_stages z t in_tables;
    narrow = omega (arith, few_nodes z t in_tables);
    fits = omega (arith, room.space.via_fits);
    stage = in_tables.valid.end_inside;
    node = omega (arith, (settled g f).inside, width_is z t in_tables);
    steps = (settled g f).steps;
    trail = subst (λ (k : ℕ). Trail y.via t.steps.from k z.start.0 z.end.0 g.node.0 (settled g f).steps) (width_is z t in_tables) (settled g f).trail;
  }

  pub found_traceable : Ending z y.via t.steps on.row e x.plan
  found_traceable = record { traceable = trail_of; fits = omega (arith, in_tables.valid.end_inside, room.plan_fits) }

  pub found_runs : {plan' : List ℕ} {r : Answer} → Concludes z y.via t.steps on.row e x.plan plan' r → length plan' ≡ length x.plan
      → Runs z t x (guided_slices y.keys y.via y.heap y.pos y.stack log' plan') r
  found_runs {plan'} {r} c l = go e.goal refl
    where
      logged_with : (k : ℕ) → r.count ≡ k → Logged (graph_in z t) (automaton_in z t) (estimate_in z t) (cheapest C D) k x.log log'
          → Logged (graph_in z t) (automaton_in z t) (estimate_in z t) (cheapest C D) r.count x.log log'
      logged_with k q w = rw q w

      go : (o : Option Goal) → e.goal ≡ o → Runs z t x (guided_slices y.keys y.via y.heap y.pos y.stack log' plan') r
      go (Some g) f =
          let a = c.found g f (trail_of g f) in
          record {
            outcome = outcome_some C D e.count x.plan g.cost (settled g f).steps plan' r (settled g f).best (settled g f).legal (settled g f).costs (trail_in (settled g f).trail)
                a.0 a.1 l;
            logged = logged_with e.count (ap (λ (i : Answer). i.count) a.0)
                (logged_plain (graph_in z t) (automaton_in z t) (estimate_in z t) (cheapest C D) e.count x.log log' (settled g f).logged);
            past = s.past;
          }
      go None f =
          let a = c.not_found f in
          let n = s.no_goal f in
          record {
            outcome = outcome_none C D e.count x.plan plan' r n.best a.0 a.1;
            logged = logged_with e.count (ap (λ (i : Answer). i.count) a.0)
                (logged_plain (graph_in z t) (automaton_in z t) (estimate_in z t) (cheapest C D) e.count x.log log' n.logged);
            past = s.past;
          }

-- what stands in the slices at the end
pub runs_as : {z : Shape} {t : Read} {x : GuidedSlices} {keys via heap pos stack log plan keys' via' heap' pos' stack' log' : List ℕ} {r : Answer}
    → Runs z t x (guided_slices keys via heap pos stack log plan) r → keys' ≡ keys → via' ≡ via → heap' ≡ heap → pos' ≡ pos → stack' ≡ stack → log' ≡ log
    → Runs z t x (guided_slices keys' via' heap' pos' stack' log' plan) r
runs_as m ek ev eh ep es el = rw (ek, ev, eh, ep, es, el) m
