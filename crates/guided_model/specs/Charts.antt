-- The guided search of a chart under a diagram: the loop over the log slice, and that it ends as promised.
-- Assumes nothing.
use Rattle.std.specs.Prelude.{ℕ, ◌+◌, ◌≤◌, ◌<◌, ◌≡◌, refl, true, false, List, length, get_or, set, take, drop}
use Rattle.std.proofs.Common.{sym, ◌∙◌, ap, ap₂, subst, subst₂, inr, arith, length-set, length-take}
use Rattle.std.proofs.Math.Option.{Option, none, some}
use Rattle.definitions.specs.Basics.{NONE}
use Rattle.definitions.specs.Charts.{Chart, group_count}
use Rattle.definitions.specs.Diagrams.{Diagram, size}
use Rattle.definitions.specs.Ways.{Graph, way_cost}
use Rattle.definitions.specs.Pairs.{Automaton, Estimate, pair, goal, least_cost}
use Rattle.definitions.specs.Plans.{graph, automaton, Legal, cheapest}
use Rattle.theory.specs.Limits.{Sound}
use Rattle.definitions.specs.Answers.{work_need}
use Rattle.definitions.specs.Promises.{goal_at, Settled}
use Rattle.theory.specs.Basics.{none_not_some}
use Rattle.theory.specs.Plans.{goal_legal, cheapest_some, cheapest_none}
use Rattle.theory.specs.BestFirst.{Invariant}
use Rattle.theory.specs.Product.{Edge, start_pair, estimate_at}
use Rattle.theory.specs.Agreement.{settled_few}
use Rattle.trace.specs.Trails.{Trail}
use Rattle.guided_model.specs.State.{Guide, Marks, Smallest, Without, without, In, Openable, cost_so_far, Searching}
use Rattle.guided_model.specs.Moves.{Expanded}
use Rattle.guided_model.specs.Logs.{nothing_settled, longer, take_next, drop_next}
use Rattle.guided_model.specs.Bounds.{stage_is, node_is}
use Rattle.guided_model.specs.Chosen.{chosen_log, chosen_room, chosen_sum}
use Rattle.guided_model.specs.Turns.{search_start, search_turn}
use Rattle.guided_model.specs.Ends.{empty_complete, empty_no_goal, goal_taken, goal_least, goal_found}
use Rattle.guided_model.specs.Traces.{traced}
use Rattle.guided_model.specs.Settling.{Located}
use Rattle.guided_model.specs.Based.{FoundFrom, EndedFrom, LoggedFrom}

module _ (c : Chart) (d : Diagram) (h : Estimate) where
  -- What holds at the loop's head: the first `count` entries of the log slice are the log, the others are as they were
  pub record Running (now : Marks) (log₀ log : List ℕ) (count floor : ℕ) : Type 0 where
    pub searching : Searching (graph c) (automaton c d) h now (take count log) floor
    pub few : count ≤ work_need c d
    pub fits : work_need c d ≤ length log
    pub long : length log ≡ length log₀
    pub past : drop count log ≡ drop count log₀

  -- what the search leaves where it settled a goal pair, of the end stage and a node, at the cost m
  pub record GoalSettled (base : ℕ) (via from : List ℕ) (node m count : ℕ) (log log' : List ℕ) : Type 0 where
    pub best : cheapest c d ≡ some m
    pub logged : LoggedFrom (graph c) (automaton c d) h base (cheapest c d) count log log'
    pub inside : node < size d
    pub steps : List ℕ
    pub trail : Trail via from (size d) c.start c.end node steps
    pub legal : Legal c d steps
    pub costs : way_cost (graph c) steps ≡ m

  -- what it leaves where it settled none
  pub record NoneSettled (base count : ℕ) (log log' : List ℕ) : Type 0 where
    pub best : cheapest c d ≡ none
    pub logged : LoggedFrom (graph c) (automaton c d) h base (cheapest c d) count log log'

module _ (c : Chart) (d : Diagram) (s : Sound (group_count c) d) {h : Estimate} (u : Guide (graph c) (automaton c d) h) where
  abbrev g : Graph
  g = graph c

  abbrev a : Automaton
  a = automaton c d

  -- a log slice whose first `count` entries are the log
  logged : (best : Option ℕ) (log log' : List ℕ) (count : ℕ) → Settled g a h (take count log') → EndedFrom g a h u.base best (take count log') → count ≤ length log
      → length log' ≡ length log → drop count log' ≡ drop count log → LoggedFrom g a h u.base best count log log'
  logged best log log' count x y i j k = record {
    fits = i;
    settled = x;
    ended = y;
    few = omega (arith, settled_few g a h (take count log') x, length-take count log');
    long = j;
    rest = k;
  }

  -- nothing is open
  ends_empty : (log₀ log : List ℕ) (count : ℕ) (Open : ℕ → Type 0) (cost : ℕ → ℕ)
      → Invariant ℕ (Edge g a) (start_pair g a) (estimate_at a h) (In (take count log)) Open cost → Settled g a h (take count log)
      → ((p : ℕ) → In (take count log) p → goal_at g a h p ≡ false) → ((k : ℕ) → Open k → ⊥)
      → count ≤ length log₀ → length log ≡ length log₀ → drop count log ≡ drop count log₀ → NoneSettled c d h u.base count log₀ log
  ends_empty log₀ log count Open cost inv settled no_goal empty fits long past =
      let best = cheapest_none c d u.valid s.ordered (empty_no_goal u (take count log) inv empty no_goal) in
      record {
        best = best;
        logged = logged (cheapest c d) log₀ log count settled
            (subst (λ (o : Option ℕ). EndedFrom g a h u.base o (take count log)) (sym best) (empty_complete u (take count log) inv empty))
            fits long past;
      }

  -- the start has no estimate: nothing is settled
  pub none_begun : (log : List ℕ) → h c.start d.root ≡ none → NoneSettled c d h u.base 0 log log
  none_begun log e =
      ends_empty log log 0 (λ k. ⊥) (λ k. 0)
      (record {
        settled = λ p i. absurd (omega (arith, i.1));
        opened = λ p o. absurd o;
        begun = λ r q. absurd (none_not_some r (sym e ∙ ap₂ h (sym (stage_is a c.start d.root _ s.root_inside refl))
            (sym (node_is a c.start d.root _ s.root_inside refl)) ∙ q));
        follows = λ p q k i. absurd (omega (arith, i.1));
      })
      (nothing_settled g a h) (λ p i. absurd (omega (arith, i.1))) (λ k o. o) (omega arith) refl refl

  pub running_start : (filled log : List ℕ) (now : Marks) (r : ℕ) → h c.start d.root ≡ some r
      → ((p : ℕ) → Openable g a h p → get_or filled p 0 ≡ NONE) → start_pair g a < length filled → now.keys ≡ set filled (start_pair g a) r
      → now.Open (start_pair g a) → ((k : ℕ) → now.Open k → k ≡ start_pair g a) → work_need c d ≤ length log → Running c d h now log log 0 0
  running_start filled log now r e clear fits stored here only room = record {
    searching = search_start u filled now r e clear fits stored here only;
    few = omega arith;
    fits = room;
    long = refl;
    past = refl;
  }

  -- nothing is open any more
  pub running_empty : {now : Marks} {log₀ log : List ℕ} {count floor : ℕ} → Running c d h now log₀ log count floor
      → ((k : ℕ) → now.Open k → ⊥) → NoneSettled c d h u.base count log₀ log
  running_empty {now} {log₀} {log} {count} r empty =
      ends_empty log₀ log count now.Open (cost_so_far g a h now.keys) r.searching.best r.searching.settled r.searching.no_goal empty
      (omega (arith, r.few, r.fits, r.long)) r.long r.past

  module _ {now : Marks} {log₀ log : List ℕ} {count floor : ℕ} (r : Running c d h now log₀ log count floor) {x : ℕ} (o : Smallest now x) where
    -- there is room for the next entry
    pub running_room : count < work_need c d
    running_room =
        omega (arith, chosen_room u r.searching o, length-take count log, r.few, r.fits)

    next_log : take (count + 1) (set log count x) ≡ longer (take count log) x
    next_log = take_next log count x (omega (arith, running_room, r.fits))

    -- a turn
    pub running_turn : {rest : ℕ → Type 0} → Without now x rest → (t n spent first until : ℕ) → Located g a x t n → spent ≡ cost_so_far g a h now.keys x
        → ((e : ℕ) → e < g.count → g.from e ≡ t → (first ≤ e) × (e < until))
        → {after : Marks} → Expanded g a h t n spent first until (without now rest) after
        → goal_at g a h x ≡ false → Running c d h after log₀ (set log count x) (count + 1) (get_or now.keys x 0)
    running_turn others t n spent first until p b all {after} m q = record {
      searching = subst (λ (z : List ℕ). Searching g a h after z (get_or now.keys x 0)) (sym next_log)
          (search_turn u r.searching o others t n spent p.node p.is b m.moved (λ e i f. let w = all e i f in m.offered e w.0 w.1) q);
      few = omega (arith, running_room);
      fits = omega (arith, r.fits, length-set log count x);
      long = length-set log count x ∙ r.long;
      past = drop_next log log₀ count x r.past;
    }

    -- a goal pair
    pub running_goal : (t n m : ℕ) (from : List ℕ) → ((e : ℕ) → e < g.count → get_or from e 0 ≡ g.from e)
        → Located g a x t n → t ≡ c.end → a.accepts n ≡ true → m ≡ cost_so_far g a h now.keys x → GoalSettled c d h u.base now.via from n m (count + 1) log₀ (set log count x)
    running_goal t n m from held p ends yes-at b =
        let i = p.node in
        let is : x ≡ pair a c.end n = p.is ∙ ap (λ (z : ℕ). pair a z n) ends in
        let goal-x = goal_taken u r.searching o n i is yes-at in
        let q = stage_is a c.end n x i is in
        let w = node_is a c.end n x i is in
        let least : least_cost g a c.end n ≡ some m
        = sym (ap₂ (least_cost g a) q w) ∙ (chosen_sum u r.searching o).0 ∙ ap (λ (z : ℕ). some z) (sym b) in
        let best : cheapest c d ≡ some m
        = cheapest_some c d u.valid s.ordered n m (sym (ap₂ (goal g a) q w) ∙ goal-x) least
        (λ k z. omega (arith, goal_least u r.searching o goal-x k z)) in
        let tr = traced u r.searching from held c.end n i (inr (subst now.Open is o.is_open)) in
        record {
          best = best;
          logged = logged (cheapest c d) log₀ (set log count x) (count + 1)
              (subst (λ (z : List ℕ). Settled g a h z) (sym next_log) (chosen_log u r.searching o))
              (subst₂ (λ (z : Option ℕ) (y : List ℕ). EndedFrom g a h u.base z y) (sym best) (sym next_log)
              (subst (λ (z : ℕ). FoundFrom g a h u.base z (longer (take count log) x)) (sym b)
              (goal_found u r.searching o goal-x)))
              (omega (arith, running_room, r.fits, r.long)) (length-set log count x ∙ r.long) (drop_next log log₀ count x r.past);
          inside = i;
          steps = tr.0.steps;
          trail = tr.1;
          legal = goal_legal c d u.valid s.ordered n _ yes-at tr.0;
          costs = tr.0.costs ∙ sym (b ∙ ap (λ (z : ℕ). cost_so_far g a h now.keys z) is);
        }
