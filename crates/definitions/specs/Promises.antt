-- What the calls promise (REFERENCE 7 to 10, 16 to 18): their answer, and every lent slice after the call (plan', log' ..) by what it was before it (plan, log ..).
-- Left free are which of several cheapest plans is given, and so its length; the order of equal sums in the log and, through that alone, which pairs with a sum
-- equal to the plan's cost stand in it and so its count, here and in `CycleSearched`; and the entries of work slices that `Scratch` and, for a conjunction,
-- `ConjoinPromise` name.
-- Assumes nothing.
use Rattle.std.specs.Prelude.{ℕ, suc, ◌+◌, ◌-◌, ◌≤◌, ◌<◌, ◌≡◌, Bool, true, false, ◌&&◌, ltb, eqb, length, get_or, take, drop}
use mathlib.Core.List.{List, [], ◌∷◌, ◌++◌, map, Memᴰ}
use Rattle.std.proofs.Math.Option.{Option, none, some}
use Rattle.definitions.specs.Basics.{NONE, pick, upto}
use Rattle.definitions.specs.Charts.{Chart, headed, group_count}
use Rattle.definitions.specs.Diagrams.{Diagram, lenient}
use Rattle.definitions.specs.Ways.{Graph, way_cost}
use Rattle.definitions.specs.Pairs.{Automaton, Estimate, pair, pairs, stage_of, node_of, least_cost, goal, sum, reached_pairs}
use Rattle.definitions.specs.Plans.{graph, automaton, Legal, cheapest, estimate}
use Rattle.definitions.specs.Answers.{Load, ready, refused, read_files, load, load_work, work_need, refusal, accepted, LoadTwo, ready_two, refused_two, load_two, pair_need, file_answer, file_buffer, Filed}
use Rattle.definitions.specs.Bytes.{diagram_bytes}
use Rattle.definitions.specs.Reductions.{reduction, conjunction}
use Rattle.definitions.specs.declared.Answer.{Answer}
use Rattle.definitions.specs.declared.Cycle.{Cycle}

-- ---- the plan slice, for both searches

-- the first l entries are a legal plan that costs m, the further entries stay
pub record Planned (c : Chart) (d : Diagram) (m l : ℕ) (plan plan' : List ℕ) : Type 0 where
  pub fits : l ≤ length plan
  pub legal : Legal c d (take l plan')
  pub costs : way_cost (graph c) (take l plan') ≡ m
  pub long : length plan' ≡ length plan
  pub rest : drop l plan' ≡ drop l plan

-- The answer with its count k, by the cost of a cheapest legal plan: 8 exactly where there is none, and then the plan slice stays;
-- else a legal plan of that cost
abbrev pub Outcome : Option ℕ → Chart → Diagram → ℕ → List ℕ → List ℕ → Answer → Type 0
Outcome none c d k plan plan' r = (r ≡ refusal 8 0 0 k) × (plan' ≡ plan)
Outcome (some m) c d k plan plan' r = (r ≡ accepted m r.length k) × Planned c d m r.length plan plan'

-- ---- work slices

-- a work slice of which only this is promised: a refusal other than 8 leaves it, and so do the entries past stage count × N.
-- Its first stage count × N entries are left free
abbrev pub Scratch : Load → List ℕ → List ℕ → Type 0
Scratch (refused number file place) work work' = work' ≡ work
Scratch (ready c d) work work' = (length work' ≡ length work) × (drop (work_need c d) work' ≡ drop (work_need c d) work)

-- ---- the sweep (dynamic programming in topological order)

-- what the cost slice holds at a pair: the least cost if it is reached, else NONE (4,294,967,295)
abbrev pub shown : Option ℕ → ℕ
shown none = NONE
shown (some m) = m

unfoldable pub least_costs : Graph → Automaton → List ℕ
least_costs g a = map (λ p. shown (least_cost g a (stage_of a p) (node_of a p))) (upto (pairs g a))

-- the plan slice and the cost slice before and after, and the answer. The count is the number of reached pairs
abbrev pub Swept : Load → List ℕ → List ℕ → List ℕ → List ℕ → Answer → Type 0
Swept (refused number file place) plan plan' costs costs' r = (r ≡ refusal number file place 0) × (plan' ≡ plan) × (costs' ≡ costs)
Swept (ready c d) plan plan' costs costs' r =
    Outcome (cheapest c d) c d (length (reached_pairs (graph c) (automaton c d))) plan plan' r
    × (costs' ≡ least_costs (graph c) (automaton c d) ++ drop (work_need c d) costs)

-- ---- the guided search (A*), over any estimate h

module _ (g : Graph) (a : Automaton) (h : Estimate) where
  -- the least cost and the sum of a pair's number, and whether it is a goal pair
  abbrev pub least_cost_at : ℕ → Option ℕ
  least_cost_at p = least_cost g a (stage_of a p) (node_of a p)

  abbrev pub sum_at : ℕ → Option ℕ
  sum_at p = sum g a h (stage_of a p) (node_of a p)

  abbrev pub goal_at : ℕ → Bool
  goal_at p = goal g a (stage_of a p) (node_of a p)

  -- q follows from p by one step, on a way of least cost to it
  pub record Follows (p q : ℕ) : Type 0 where
    pub step : ℕ
    pub exists : step < g.count
    pub leaves : g.from step ≡ stage_of a p
    pub enters : q ≡ pair a (g.to step) (a.next step (node_of a p))
    pub before : ℕ
    pub least_before : least_cost_at p ≡ some before
    pub least : least_cost_at q ≡ some (before + g.cost step)

  -- The log of the settled pairs: the first is the pair of start and root; each is a reached pair with an estimate (it has a sum); the sums never fall;
  -- none stands twice; each after the first follows from an earlier one
  pub record Settled (log : List ℕ) : Type 0 where
    pub first : 0 < length log → get_or log 0 0 ≡ pair a g.start a.root
    pub inside : (i : ℕ) → i < length log → get_or log i 0 < pairs g a
    pub sums : (i : ℕ) → i < length log → (k : ℕ) × (sum_at (get_or log i 0) ≡ some k)
    pub rises : (i j k m : ℕ) → i ≤ j → j < length log → sum_at (get_or log i 0) ≡ some k → sum_at (get_or log j 0) ≡ some m → k ≤ m
    pub once : (i j : ℕ) → i < j → j < length log → get_or log i 0 ≡ get_or log j 0 → ⊥
    pub follows : (j : ℕ) → 0 < j → j < length log → (i : ℕ) × (i < j) × Follows (get_or log i 0) (get_or log j 0)

  -- every reached pair whose sum has the property Q is in the log
  abbrev pub Complete : (ℕ → Type 0) → List ℕ → Type 0
  Complete Q log = (p : ℕ) → p < pairs g a → (k : ℕ) → sum_at p ≡ some k → Q k → Memᴰ p log

  -- With a legal plan of the least cost m: the last entry is the only goal pair, its least cost is m, every reached pair whose sum is below m is in the log
  -- and none whose sum is above m
  pub record Found (m : ℕ) (log : List ℕ) : Type 0 where
    pub some_entry : 0 < length log
    pub only_goal : (i : ℕ) → i < length log → goal_at (get_or log i 0) ≡ eqb (suc i) (length log)
    pub goal_cost : least_cost_at (get_or log (length log - 1) 0) ≡ some m
    pub below : Complete (λ k. k < m) log
    pub none_above : (i k : ℕ) → i < length log → sum_at (get_or log i 0) ≡ some k → k ≤ m

  -- how the search ends, by the cost of a cheapest legal plan; where there is none, every reached pair with an estimate is in the log
  abbrev pub Ended : Option ℕ → List ℕ → Type 0
  Ended none log = Complete (λ k. Unit {0}) log
  Ended (some m) log = Found m log

  -- the log slice before and after: its first `count` entries are the log, its further entries stay; no more pairs are settled than are reached
  pub record Logged (best : Option ℕ) (count : ℕ) (log log' : List ℕ) : Type 0 where
    pub fits : count ≤ length log
    pub settled : Settled (take count log')
    pub ended : Ended best (take count log')
    pub few : count ≤ length (reached_pairs g a)
    pub long : length log' ≡ length log
    pub rest : drop count log' ≡ drop count log

-- the plan slice and the log slice before and after, and the answer. The count is the log's length
abbrev pub Guided : Load → List ℕ → List ℕ → List ℕ → List ℕ → Answer → Type 0
Guided (refused number file place) plan plan' log log' r = (r ≡ refusal number file place 0) × (plan' ≡ plan) × (log' ≡ log)
Guided (ready c d) plan plan' log log' r =
    Outcome (cheapest c d) c d r.count plan plan' r
    × Logged (graph c) (automaton c d) (estimate c d) (cheapest c d) r.count log log'

-- ---- whole calls: both files, every lent slice before and after, and the answer

-- the slices that a sweep is lent
pub record SweepSlices : Type 0 where
  pub cost : List ℕ
  pub via : List ℕ
  pub nodes : List ℕ
  pub plan : List ℕ

abbrev pub sweep_slices : List ℕ → List ℕ → List ℕ → List ℕ → SweepSlices
sweep_slices cost via nodes plan = record { cost = cost; via = via; nodes = nodes; plan = plan }

-- what the checks on both files and on these slices give
abbrev pub sweep_load : List ℕ → List ℕ → SweepSlices → Load
sweep_load chart rules x = load chart rules (length x.cost ∷ length x.via ∷ length x.nodes ∷ []) (length x.plan)

-- the answer and each slice, by what the checks give
pub record SweepPromise (o : Load) (before after : SweepSlices) (r : Answer) : Type 0 where
  pub swept : Swept o before.plan after.plan before.cost after.cost r
  pub via : Scratch o before.via after.via
  pub nodes : Scratch o before.nodes after.nodes

abbrev pub SweepCall : List ℕ → List ℕ → SweepSlices → SweepSlices → Answer → Type 0
SweepCall chart rules before after r = SweepPromise (sweep_load chart rules before) before after r

-- the slices that a guided search is lent
pub record GuidedSlices : Type 0 where
  pub keys : List ℕ
  pub via : List ℕ
  pub heap : List ℕ
  pub pos : List ℕ
  pub stack : List ℕ
  pub log : List ℕ
  pub plan : List ℕ

abbrev pub guided_slices : List ℕ → List ℕ → List ℕ → List ℕ → List ℕ → List ℕ → List ℕ → GuidedSlices
guided_slices keys via heap pos stack log plan = record { keys = keys; via = via; heap = heap; pos = pos; stack = stack; log = log; plan = plan }

abbrev pub guided_load : List ℕ → List ℕ → GuidedSlices → Load
guided_load chart rules x =
    load chart rules (length x.keys ∷ length x.via ∷ length x.heap ∷ length x.pos ∷ length x.stack ∷ length x.log ∷ []) (length x.plan)

pub record GuidedPromise (o : Load) (before after : GuidedSlices) (r : Answer) : Type 0 where
  pub guided : Guided o before.plan after.plan before.log after.log r
  pub keys : Scratch o before.keys after.keys
  pub via : Scratch o before.via after.via
  pub heap : Scratch o before.heap after.heap
  pub pos : Scratch o before.pos after.pos
  pub stack : Scratch o before.stack after.stack

abbrev pub GuidedCall : List ℕ → List ℕ → GuidedSlices → GuidedSlices → Answer → Type 0
GuidedCall chart rules before after r = GuidedPromise (guided_load chart rules before) before after r

-- ---- a list of starts and ends on one chart (REFERENCE 18)

-- an entry's start and end are stages of the chart
abbrev pub on_chart : Chart → Cycle → Bool
on_chart c x = ltb x.start c.stages && ltb x.end c.stages

-- an entry with its number, cost and count; its start and end stay
abbrev pub answered_by : Cycle → ℕ → ℕ → ℕ → Cycle
answered_by x number cost count = record { start = x.start; end = x.end; number = number; cost = cost; count = count }

-- number and cost of a search, by the cost of a cheapest legal plan
abbrev pub found_number : Option ℕ → ℕ
found_number none = 8
found_number (some m) = 0

abbrev pub found_cost : Option ℕ → ℕ
found_cost none = 0
found_cost (some m) = m

-- An entry before and after a guided search of the chart c. What that leaves free is free here too: the count is the length of some log that keeps
-- all that the guided search promises of its own
pub record CycleSearched (c : Chart) (d : Diagram) (x x' : Cycle) : Type 0 where
  pub log : List ℕ
  pub logged : Logged (graph c) (automaton c d) (estimate c d) (cheapest c d) (length log) log log
  pub answered : x' ≡ answered_by x (found_number (cheapest c d)) (found_cost (cheapest c d)) (length log)

-- by whether its start and end are stages: 4, with cost 0 and count 0, where one is not; else what a guided search gives on the chart with that start and end in its head
abbrev pub CycledIf : Bool → Chart → Diagram → Cycle → Cycle → Type 0
CycledIf false c d x x' = x' ≡ answered_by x 4 0 0
CycledIf true c d x x' = CycleSearched (headed c x.start x.end) d x x'

abbrev pub Cycled : Chart → Diagram → Cycle → Cycle → Type 0
Cycled c d x x' = CycledIf (on_chart c x) c d x x'

-- past the list
abbrev pub no_cycle : Cycle
no_cycle = record { start = 0; end = 0; number = 0; cost = 0; count = 0 }

-- each entry of the list, which stays as long as it was
pub record EachCycled (c : Chart) (d : Diagram) (list list' : List Cycle) : Type 0 where
  pub long : length list' ≡ length list
  pub each : (i : ℕ) → i < length list → Cycled c d (get_or list i no_cycle) (get_or list' i no_cycle)

-- the list before and after, and the answer: a refusal leaves every entry, and an accepted call answers all 0
abbrev pub Listed : Load → List Cycle → List Cycle → Answer → Type 0
Listed (refused number file place) list list' r = (r ≡ refusal number file place 0) × (list' ≡ list)
Listed (ready c d) list list' r = (r ≡ accepted 0 0 0) × EachCycled c d list list'

-- the slices that the call is lent: those of a guided search but for the plan slice
pub record CycleSlices : Type 0 where
  pub keys : List ℕ
  pub via : List ℕ
  pub heap : List ℕ
  pub pos : List ℕ
  pub stack : List ℕ
  pub log : List ℕ

abbrev pub cycle_slices : List ℕ → List ℕ → List ℕ → List ℕ → List ℕ → List ℕ → CycleSlices
cycle_slices keys via heap pos stack log = record { keys = keys; via = via; heap = heap; pos = pos; stack = stack; log = log }

abbrev pub cycles_load : List ℕ → List ℕ → CycleSlices → Load
cycles_load chart rules x = load_work chart rules (length x.keys ∷ length x.via ∷ length x.heap ∷ length x.pos ∷ length x.stack ∷ length x.log ∷ [])

-- the answer, the list and each slice, of which the log is left free too, by what the checks give
pub record CyclesPromise (o : Load) (before after : CycleSlices) (list list' : List Cycle) (r : Answer) : Type 0 where
  pub listed : Listed o list list' r
  pub keys : Scratch o before.keys after.keys
  pub via : Scratch o before.via after.via
  pub heap : Scratch o before.heap after.heap
  pub pos : Scratch o before.pos after.pos
  pub stack : Scratch o before.stack after.stack
  pub log : Scratch o before.log after.log

abbrev pub CyclesCall : List ℕ → List ℕ → CycleSlices → CycleSlices → List Cycle → List Cycle → Answer → Type 0
CyclesCall chart rules before after list list' r = CyclesPromise (cycles_load chart rules before) before after list list' r

-- ---- the conjunction of two diagram files over one chart, written as a file

-- 12 where the reduced diagram has more than 510 inner nodes, and then the buffer stays; else its file is written
unfoldable pub written_answer : Diagram → ℕ → Answer
written_answer made room = pick (ltb 510 (length made.nodes)) (refusal 12 0 0 0) (file_answer (length (diagram_bytes made)) room)

unfoldable pub written_buffer : Diagram → List ℕ → List ℕ
written_buffer made file = pick (ltb 510 (length made.nodes)) file (file_buffer (diagram_bytes made) file)

-- the slices that the call is lent
pub record ConjoinSlices : Type 0 where
  pub work : List ℕ
  pub file : List ℕ

abbrev pub conjoin_slices : List ℕ → List ℕ → ConjoinSlices
conjoin_slices work file = record { work = work; file = file }

-- by what the checks give. A refused call leaves both slices; else the file is that of the conjunction, and of the work slice the entries past those needed stay
-- and the first are left free
abbrev pub ConjoinPromise : LoadTwo → ConjoinSlices → ConjoinSlices → Answer → Type 0
ConjoinPromise (refused_two number file place) before after r = (r ≡ refusal number file place 0) × (after.file ≡ before.file) × (after.work ≡ before.work)
ConjoinPromise (ready_two c d e) before after r =
    (r ≡ written_answer (conjunction (group_count c) d e) (length before.file))
    × (after.file ≡ written_buffer (conjunction (group_count c) d e) before.file)
    × (length after.work ≡ length before.work) × (drop (pair_need d e) after.work ≡ drop (pair_need d e) before.work)

abbrev pub ConjoinCall : List ℕ → List ℕ → List ℕ → ConjoinSlices → ConjoinSlices → Answer → Type 0
ConjoinCall chart rules more before after r = ConjoinPromise (load_two chart rules more (length before.work)) before after r

-- ---- the reduction of a diagram file, written as a file

-- By what the checks give: a refused call leaves the buffer, else the reduction's file is written. A reduction never has too many nodes, and nothing is left free
abbrev pub ReducePromise : Load → List ℕ → List ℕ → Answer → Type 0
ReducePromise (refused number file place) out out' r = (r ≡ refusal number file place 0) × (out' ≡ out)
ReducePromise (ready c d) out out' r = Filed (diagram_bytes (reduction (group_count c) d)) out out' r

-- both files, of which padding in the diagram is taken, and the file buffer before and after
abbrev pub ReduceCall : List ℕ → List ℕ → List ℕ → List ℕ → Answer → Type 0
ReduceCall chart rules out out' r = ReducePromise (read_files lenient chart rules) out out' r
