-- One turn of the search: the pair y is taken, written to the log, and settled.
-- Assumes nothing.
use Prim.Native.Nat.{ℕ, ◌+◌, ◌-◌, ◌*◌, ◌≤◌, ◌<◌}
use mathlib.Core.Path.{◌≡◌, refl, sym, ◌∙◌, ap, ap₂, subst, subst₂}
use mathlib.Core.Bool.{Bool, true, false, ◌&&◌}
use mathlib.Core.List.{List}
use mathlib.Core.Logic.{inr}
use native.Mathlib.Omega.{arith}
use lib.Dec.{eqb}
use lib.ListN.{length, get_or, set, drop}
use borrow.Author.Tests.{eqb-true, eqb-false}
use Rattle.std.specs.Prelude.{Option, Some, None}
use Rattle.std.proofs.lemmas.Option.{none-some}
use Rattle.definitions.specs.Charts.{Chart}
use Rattle.definitions.specs.Diagrams.{Diagram}
use Rattle.definitions.specs.Pairs.{Estimate}
use Rattle.definitions.specs.Promises.{goal_at}
use Rattle.definitions.specs.declared.Shape.{Shape}
use Rattle.theory.specs.Basics.{either, same_or_not, both, true_not_false}
use Rattle.theory.specs.Product.{start_pair}
use Rattle.queue.specs.declared.Counts.{Counts}
use Rattle.queue.specs.Queue.{held, State, state, Contains, Taken}
use Rattle.queue.specs.Views.{Takes}
use Rattle.queue.specs.declared.Next.{Next}
use Rattle.queue.proofs.Facts.{contains_none, contains_pair, keys_fit}
use Rattle.checks.specs.Tables.{chart_in, diagram_in, pairs_in}
use Rattle.checks.specs.Ready.{Walk, count_is, few_stages, from_at, first_all, row_start_lem}
use Rattle.guided_model.specs.State.{Marks, marks, Smallest, Without, cost_so_far}
use Rattle.guided_model.specs.Moves.{Frontier, Expanded}
use Rattle.guided_model.specs.Chosen.{opened_low, chosen_frontier}
use Rattle.guided_model.specs.Settling.{Located, Settling, located_start, located_via, chosen_settling, no_goal_stage, no_goal_node}
use Rattle.guided_model.specs.Charts.{Running, GoalSettled, running_room, running_turn, running_goal, running_empty}
use Rattle.guided_offers.specs.Estimates.{Estimates, paired}
use Rattle.guided_keys.specs.Seen.{seen, seen_filled, seen_block}
use Rattle.guided_offers.specs.Work.{Work, work, Past, past_more}
use Rattle.guided_expand.specs.Progress.{Progress, progress, queue_of, seen_in}
use Rattle.guided_expand.specs.Guides.{Guides, few_pairs}
use Rattle.guided_places.specs.declared.Pair.{Pair}
use Rattle.guided_expand.specs.declared.steps.Source.{Source}
use Rattle.guided_expand.specs.Opening.{Opens, Opened, Opening}
use Rattle.guided_places.specs.Places.{GoalAt, stage_at, Placed}
use Rattle.guided_loop.specs.Search.{Turning, Searched, ended}
use Rattle.nodes.specs.Walks.{Falls}
use Rattle.nodes.specs.Falling.{lo_falls}
use Rattle.guided_ends.specs.declared.Goal.{Goal}
use Rattle.guided_ends.specs.declared.Ended.{Ended}
use Rattle.guided_places.proofs.Placing.{at_begin, at_mark}
use Rattle.guided_loop.proofs.Beginning.{g, a, tables, sound, width, narrow, pairs_are}

module _ {z : Shape} {on : Walk} {t : Estimates} (by : Guides z on t)
    {x₀ : Work} {log₀ : List ℕ} {x : Progress} {log : List ℕ} {floor count : ℕ} (w : Turning (by) x₀ log₀ x log floor count) where
  abbrev h : Estimate
  h = by.h

  abbrev C : Chart
  C = chart_in z on.read

  abbrev D : Diagram
  D = diagram_in z on.read

  -- the keys of all pairs
  abbrev keys : List ℕ
  keys = seen (pairs_in z) x.filled x.slices.keys

  -- that of an open pair stands in its slice
  open_key : (q : ℕ) → Contains (queue_of x) q → get_or keys q 0 ≡ get_or x.slices.keys q 0
  open_key q o =
      let i : q < length x.slices.keys = omega (arith, contains_pair w.queue o, keys_fit w.queue) in
      seen_filled (pairs_in z) x.filled x.slices.keys q i
      (seen_block (pairs_in z) x.filled x.slices.keys q i (opened_low by.guide w.running.searching q (inr o)))

  -- the queue held no pair: nothing is open any more
  pub turn_none : (q : State) {r : Option Next} → Takes (pairs_in z) floor (queue_of x) q r → r ≡ None → {e : Ended} → e.goal ≡ None → e.count ≡ count
      → Searched by x₀ log₀ (work q.keys x.slices.via q.heap q.pos q.stack) log e
  turn_none q taken is {e} ne k =
      let none : (held x.counts ≡ 0) × (q ≡ queue_of x) = subst (Takes (pairs_in z) floor (queue_of x) q) is taken in
      record {
        goal = λ g f. absurd (none-some g (sym ne ∙ f));
        no_goal = λ f. rw k (running_empty C D (sound by) by.guide w.running (λ i o. contains_none w.queue none.0 o));
        past = record {
          keys_past = ap (λ (i : State). drop (pairs_in z) i.keys) none.1 ∙ w.past.keys_past;
          via_past = w.past.via_past;
          heap_past = ap (λ (i : State). drop (pairs_in z) i.heap) none.1 ∙ w.past.heap_past;
          pos_past = ap (λ (i : State). drop (pairs_in z) i.pos) none.1 ∙ w.past.pos_past;
          stack_past = ap (λ (i : State). drop (pairs_in z) i.stack) none.1 ∙ w.past.stack_past;
        };
      }

  -- the pair that was taken
  pub turn_taken : {q : State} {r : Option Next} {next : Next} → Takes (pairs_in z) floor (queue_of x) q r → r ≡ Some next → Taken (pairs_in z) floor next.pair next.key (queue_of x) q
  turn_taken {q} {r} {next} taken is =
      let some : (0 < held x.counts) × Taken (pairs_in z) floor next.pair next.key (queue_of x) q × (next.counts ≡ q.counts) = subst (Takes (pairs_in z) floor (queue_of x) q) is taken in
      some.1

  module _ {begin y key : ℕ} {keys' heap' pos' stack' : List ℕ} {c' : Counts} (eb : begin ≡ start_pair (g by) (a by)) (ek : keys' ≡ x.slices.keys)
      (k : Taken (pairs_in z) floor y key (queue_of x) (state keys' heap' pos' stack' c')) where
    abbrev x' : Progress
    x' = progress (work keys' x.slices.via heap' pos' stack') x.filled c'

    -- the keys stay
    marks_are : seen_in (pairs_in z) x' ≡ marks keys x.slices.via (Contains (queue_of x'))
    marks_are = ap (λ (l : List ℕ). marks (seen (pairs_in z) x.filled l) x.slices.via (Contains (queue_of x'))) ek

    key_is : key ≡ get_or keys y 0
    key_is = k.its_key ∙ sym (open_key y k.was)

    smallest : Smallest (seen_in (pairs_in z) x) y
    smallest = record { is_open = k.was; least = λ q o. omega (arith, k.least q o, open_key q o, open_key y k.was) }

    others : Without (seen_in (pairs_in z) x) y (Contains (queue_of x'))
    others = record { kept = k.kept; only = k.only; gone = k.gone }

    -- there is room for it in the log, and its number is small
    pub turn_room : count < pairs_in z
    turn_room = omega (arith, running_room C D (sound by) by.guide w.running smallest, pairs_are by)

    pub turn_logs : (count < length log) × (y < 4294967296)
    turn_logs = (omega (arith, turn_room, w.running.fits, pairs_are by), omega (arith, k.pair, few_pairs by.ready))

    -- where it stands
    abbrev stage : ℕ
    stage = stage_at x.slices.via begin z.start.0 y

    abbrev At : ℕ → Type 0
    At s = (s * (a by).size ≤ y) × Located (g by) (a by) y s (y - s * (a by).size)

    by_mark : (y ≡ begin → ⊥) → At stage
    by_mark q =
        let v = located_via by.guide w.running.searching smallest (omega (arith, width by, narrow by)) (λ r. q (r ∙ sym eb)) in
        subst At (sym (at_mark x.slices.via begin z.start.0 y q)) v

    located_at : At stage
    located_at =
        either (same_or_not y begin)
        (λ q. subst At (sym (at_begin x.slices.via begin z.start.0 y q)) (located_start by.guide w.running.searching smallest (q ∙ eb)))
        by_mark

    row_at : get_or on.row stage 0 ≡ stage * (a by).size
    row_at = row_start_lem z on by.ready stage located_at.1.stage ∙ ap (λ (i : ℕ). stage * i) (sym (width by))

    pub turn_placed : Placed x.slices.via on.row begin z.start.0 y
    turn_placed = record {
      fits = omega (arith, k.pair, w.fits);
      stage = omega (arith, located_at.1.stage, few_stages z on.read (tables by));
      from_row = omega (arith, row_at, located_at.0);
      in_row = omega (arith, row_at, located_at.0, located_at.1.node, width by, narrow by);
    }

    -- the code finds its stage s and its node n
    module _ (pair : Pair) (is : (pair.stage.0 ≡ stage) × (get_or on.row pair.stage.0 0 + pair.node.0 ≡ y)) where
      abbrev s : ℕ
      s = pair.stage.0

      abbrev n : ℕ
      n = pair.node.0

      turn_located : Located (g by) (a by) y s n
      turn_located =
          let r : get_or on.row s 0 ≡ stage * (a by).size = ap (λ (i : ℕ). get_or on.row i 0) is.0 ∙ row_at in
          let e : y - stage * (a by).size ≡ n = omega (arith, is.1) in
          subst₂ (λ (i j : ℕ). Located (g by) (a by) y i j) (sym is.0) e located_at.1

      -- its node can be finished
      pub turn_falls : Falls on.read.inner.lo n
      turn_falls = lo_falls D on.read.inner.step on.read.inner.lo on.read.inner.hi (tables by).held n turn_located.node

      pub turn_inside : (s < 256) × (n < 512)
      turn_inside = (
        omega (arith, turn_located.stage, few_stages z on.read (tables by)),
        omega (arith, turn_located.node, width by, narrow by),
      )

      module _ {r : ℕ} (er : r ≡ paired t s n) where
        settles : (r ≤ get_or keys y 0) × (get_or keys y 0 - r ≡ cost_so_far (g by) (a by) h keys y)
            × Settling (g by) (a by) h s n (get_or keys y 0 - r) (get_or keys y 0)
        settles =
            chosen_settling by.guide w.running.searching smallest s n r turn_located
            (er ∙ by.holds s n turn_located.late turn_inside.0 (omega (arith, turn_located.node, width by)))

        pub turn_estimate : r ≤ key
        turn_estimate = omega (arith, settles.0, key_is)

        spent_is : key - r ≡ cost_so_far (g by) (a by) h keys y
        spent_is = ap (λ (i : ℕ). i - r) (key_is) ∙ settles.1

        -- the steps from it can be offered
        abbrev pub turn_source : Source
        turn_source = record { pair = pair; cost = key - r; key = key }

        pub turn_opens : {pairs : ℕ} → pairs ≡ pairs_in z → Opens (by) turn_source pairs x'
        turn_opens all = record {
          all = all;
          fits = w.fits;
          blocks = w.blocks;
          queue = k.queue;
          frontier = subst₂ (λ (m : Marks) (i : ℕ). Frontier (g by) (a by) h m i) (sym marks_are) (sym key_is)
              (chosen_frontier by.guide w.running.searching smallest others);
          settling = subst (λ (i : ℕ). Settling (g by) (a by) h s n (i - r) i) (sym key_is) settles.2;
        }

        abbrev pub turn_asks : {pairs : ℕ} → pairs ≡ pairs_in z → Opening on t turn_source pairs x'
        turn_asks all = record { z = z; by = by; opens = turn_opens all }

        module _ {goal-at : Bool} (tested : GoalAt on.read.inner.lo z.end.0 s n goal-at)
            {count' : ℕ} {log' : List ℕ} (logged : (count' ≡ count + 1) × (log' ≡ set log count y)) where
          eg : goal-at ≡ (eqb s z.end.0 && (a by).accepts n)
          eg = tested.is D on.read.inner.step on.read.inner.hi (tables by).held turn_located.node

          -- a goal pair
          pub turn_goal : goal-at ≡ true → Searched by x₀ log₀ x'.slices log' (ended (Some (record { node = pair.node; cost = key - r })) count')
          turn_goal q =
              let v = both (eqb s z.end.0) ((a by).accepts n) (sym eg ∙ q) in
              record {
                goal = λ i f.
                    let same : ◌≡◌ {A = Goal} (record { node = pair.node; cost = key - r }) i = cc in
                    subst (λ (i : Goal). GoalSettled C D h by.guide.base x.slices.via on.read.steps.from i.node.0 i.cost count' log₀ log') same
                    (subst₂ (λ (k : ℕ) (l : List ℕ). GoalSettled C D h by.guide.base x.slices.via on.read.steps.from n (key - r) k log₀ l)
                    (sym logged.0) (sym logged.1)
                    (running_goal C D (sound by) by.guide w.running smallest s n (key - r) on.read.steps.from
                    (λ f j. from_at z on.read (tables by) f (omega (arith, count_is z on.read (tables by))))
                    turn_located (eqb-true s z.end.0 v.0) v.1 spent_is));
                no_goal = λ f. absurd (none-some {A = Goal} (record { node = pair.node; cost = key - r }) (sym f));
                past = past_more w.past taken_past;
              }
            where
              taken_past : Past (pairs_in z) x.slices x'.slices
              taken_past = record { keys_past = ap (drop (pairs_in z)) ek; via_past = refl; heap_past = k.past.heap_past; pos_past = k.past.pos_past; stack_past = k.past.stack_past }

          no_goal : goal-at ≡ false → goal_at (g by) (a by) h y ≡ false
          no_goal q = go (eqb s z.end.0) refl ((a by).accepts n) refl
            where
              go : (i : Bool) → eqb s z.end.0 ≡ i → (j : Bool) → (a by).accepts n ≡ j → goal_at (g by) (a by) h y ≡ false
              go false d j f = no_goal_stage (g by) (a by) h y s n turn_located (λ m. eqb-false s z.end.0 d m)
              go true d false f = no_goal_node (g by) (a by) h y s n turn_located f
              go true d true f = let b : true ≡ false = sym (ap₂ (λ (i j : Bool). i && j) d f) ∙ sym eg ∙ q in absurd (true_not_false b)

          -- no goal pair: the steps from it were offered
          pub turn_more : goal-at ≡ false → {x'' : Progress} → length x''.slices.via ≡ length x.slices.via
              → Opened (by) turn_source (get_or on.first s 0) (get_or on.first (s + 1) 0) x' x''
              → Turning (by) x₀ log₀ x'' log' key count'
          turn_more q {x''} l o = record {
            queue = o.kept.queue;
            fits = omega (arith, w.fits);
            blocks = o.blocks ∙ w.blocks;
            running = subst₂ (λ (k : ℕ) (l : List ℕ). Running C D h (seen_in (pairs_in z) x'') log₀ l k key) (sym logged.0) (sym logged.1)
                (subst (λ (f : ℕ). Running C D h (seen_in (pairs_in z) x'') log₀ (set log count y) (count + 1) f) (sym key_is)
                (running_turn C D (sound by) by.guide w.running smallest others s n (key - r) (get_or on.first s 0) (get_or on.first (s + 1) 0)
                turn_located spent_is (λ e i f. first_all z on by.ready s e turn_located.stage i f)
                (subst (λ (m : Marks). Expanded (g by) (a by) h s n (key - r) (get_or on.first s 0) (get_or on.first (s + 1) 0) m (seen_in (pairs_in z) x'')) marks_are o.expanded) (no_goal q)));
            past = past_more w.past (record {
              keys_past = o.kept.past.keys_past ∙ ap (drop (pairs_in z)) ek;
              via_past = o.kept.past.via_past;
              heap_past = o.kept.past.heap_past ∙ k.past.heap_past;
              pos_past = o.kept.past.pos_past ∙ k.past.pos_past;
              stack_past = o.kept.past.stack_past ∙ k.past.stack_past;
            });
          }
