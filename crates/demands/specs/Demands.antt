-- The three demands on both searches, for every pair of files, sound or broken, and for lent slices of every length. Read it from top to bottom.
-- Of the definitions it uses what the readers give (`read_chart`, `group_count`, `read_diagram`), legal plans and their cost (`Legal`, `way_cost`), the node at which a way
-- stands (`stands`), `advance`, `finish` and `estimate`, and the number NONE. `Demanded` proves it from what the calls promise (`SweepCall`, `GuidedCall`),
-- and `Converse` these from it.
-- Assumes nothing.
use Rattle.std.specs.Prelude.{ℕ, suc, ◌+◌, ◌-◌, ◌*◌, ◌/◌, ◌%◌, ◌≤◌, ◌<◌, ◌≡◌, List, [], ◌∷◌, ◌++◌, ◌⊎◌, ◌↔◌, length, get_or, drop}
use Rattle.std.proofs.Math.Option.{some}
use Rattle.definitions.specs.Basics.{NONE}
use Rattle.definitions.specs.Charts.{Chart, read_chart, group_count}
use Rattle.definitions.specs.Diagrams.{Diagram, strict, DiagramRead, read_diagram, size, advance, finish}
use Rattle.definitions.specs.Ways.{IsWay, end_of, way_cost}
use Rattle.definitions.specs.Pairs.{stands}
use Rattle.definitions.specs.Plans.{graph, automaton, variable, Legal, estimate}
use Rattle.definitions.specs.Promises.{SweepSlices, GuidedSlices}
use Rattle.definitions.specs.declared.Answer.{Answer}

-- ---- calls and their checks

-- one search: its work slices and its plan slice before and after the call, and its answer
pub record Call : Type 0 where
  pub works : List (List ℕ)
  pub works' : List (List ℕ)
  pub plan : List ℕ
  pub plan' : List ℕ
  pub answer : Answer

abbrev pub sweep_works : SweepSlices → List (List ℕ)
sweep_works x = x.cost ∷ x.via ∷ x.nodes ∷ []

abbrev pub sweep_call : SweepSlices → SweepSlices → Answer → Call
sweep_call before after r = record { works = sweep_works before; works' = sweep_works after; plan = before.plan; plan' = after.plan; answer = r }

abbrev pub guided_works : GuidedSlices → List (List ℕ)
guided_works x = x.keys ∷ x.via ∷ x.heap ∷ x.pos ∷ x.stack ∷ x.log ∷ []

abbrev pub guided_call : GuidedSlices → GuidedSlices → Answer → Call
guided_call before after r = record { works = guided_works before; works' = guided_works after; plan = before.plan; plan' = after.plan; answer = r }

-- the diagram file, read for the chart of the chart file
abbrev pub rules_read : List ℕ → List ℕ → DiagramRead
rules_read chart rules = read_diagram strict rules (group_count (read_chart chart).chart)

-- both files are accepted: they hold the chart c and the diagram d
pub record Files (chart rules : List ℕ) (c : Chart) (d : Diagram) : Type 0 where
  pub chart_passes : (read_chart chart).number ≡ 0
  pub rules_pass : (rules_read chart rules).number ≡ 0
  pub chart_held : (read_chart chart).chart ≡ c
  pub rules_held_lem : (rules_read chart rules).diagram ≡ d

-- the entries that each work slice needs: stage count × N
abbrev pub need : Chart → Diagram → ℕ
need c d = c.stages * size d

-- every slice is long enough; the plan slice needs stage count − 1 entries
pub record Space (x : Call) (c : Chart) (d : Diagram) : Type 0 where
  pub works : (i : ℕ) → i < length x.works → need c d ≤ length (get_or x.works i [])
  pub plan : c.stages - 1 ≤ length x.plan

-- all checks pass, for the chart c and the diagram d (exactly where `load` of the definitions is `ready c d`: `Checked`)
pub record Passes (chart rules : List ℕ) (x : Call) (c : Chart) (d : Diagram) : Type 0 where
  pub files : Files chart rules c d
  pub space : Space x c d

-- ---- demand 1: every call answers with a plan (0) or with the one refusal that its files and slices call for, and a refusal leaves the plan slice

-- the answer of a refusal, with its number, file and place and its count
pub record Refusal (n f p k : ℕ) (r : Answer) : Type 0 where
  pub number : r.number ≡ n
  pub file : r.file ≡ f
  pub place : r.place ≡ p
  pub cost : r.cost ≡ 0
  pub length : r.length ≡ 0
  pub count : r.count ≡ k

-- a slice after a call has the length that it had, and its entries from n on stay
pub record StaysFrom (n : ℕ) (slice slice' : List ℕ) : Type 0 where
  pub long : length slice' ≡ length slice
  pub rest : drop n slice' ≡ drop n slice

pub record Demand1 (chart rules : List ℕ) (x : Call) : Type 0 where
  -- the chart before the diagram, both before the space
  pub chart_refused_lem : ((read_chart chart).number ≡ 0 → ⊥) → Refusal (read_chart chart).number 1 (read_chart chart).place 0 x.answer
  pub rules_refused : (read_chart chart).number ≡ 0 → ((rules_read chart rules).number ≡ 0 → ⊥)
      → Refusal (rules_read chart rules).number 2 (rules_read chart rules).place 0 x.answer
  pub space_refused : (c : Chart) (d : Diagram) → Files chart rules c d → (Space x c d → ⊥) → Refusal 7 0 0 0 x.answer
  -- where all checks pass: a plan, or 8
  pub passed : (c : Chart) (d : Diagram) → Passes chart rules x c d → (x.answer.number ≡ 0) ⊎ (x.answer.number ≡ 8)
  -- a refusal leaves the plan slice, one other than 8 every lent slice; the work slices past their need always stay
  pub plan_stays : (x.answer.number ≡ 0 → ⊥) → x.plan' ≡ x.plan
  pub works_stay : (x.answer.number ≡ 0 → ⊥) → (x.answer.number ≡ 8 → ⊥) → x.works' ≡ x.works
  pub past_stays : (c : Chart) (d : Diagram) → Passes chart rules x c d → (i : ℕ) → StaysFrom (need c d) (get_or x.works i []) (get_or x.works' i [])

-- ---- demand 2: what stands in the plan slice is a legal plan that costs the sum of its steps; 8 comes exactly where all checks pass and no plan is legal

-- the plan slice holds the steps of a legal plan in order, its further entries stay
pub record Given (x : Call) (c : Chart) (d : Diagram) : Type 0 where
  pub steps : List ℕ
  pub legal : Legal c d steps
  pub cost : x.answer.cost ≡ way_cost (graph c) steps
  pub many : x.answer.length ≡ length steps
  pub fits : length steps ≤ length x.plan
  pub written : x.plan' ≡ steps ++ drop (length steps) x.plan
  pub no_file : x.answer.file ≡ 0
  pub no_place : x.answer.place ≡ 0

abbrev pub NoPlan : Chart → Diagram → Type 0
NoPlan c d = (w : List ℕ) → Legal c d w → ⊥

pub record Demand2 (chart rules : List ℕ) (x : Call) : Type 0 where
  pub given : x.answer.number ≡ 0 → (c : Chart) × (d : Diagram) × Passes chart rules x c d × Given x c d
  pub exactly : (x.answer.number ≡ 8) ↔ ((c : Chart) × (d : Diagram) × Passes chart rules x c d × NoPlan c d)
  pub eight : x.answer.number ≡ 8 → Refusal 8 0 0 x.answer.count x.answer

-- ---- demand 3: both searches agree, on a cheapest plan; what the sweep's cost slice and the guided search's log hold, and what they count

-- a legal plan is given where one exists, and none costs less
abbrev pub Cheapest : Chart → Diagram → Answer → Type 0
Cheapest c d r = (w : List ℕ) → Legal c d w → (r.number ≡ 0) × (r.cost ≤ way_cost (graph c) w)

-- no check refused the call: it gave a plan, or 8
abbrev pub Searched : Answer → Type 0
Searched r = (r.number ≡ 0) ⊎ (r.number ≡ 8)

-- The answers r of the sweep and q of the guided search. Where one alone is refused, its own slices are too short
pub record Agree (r q : Answer) : Type 0 where
  pub number : Searched r → Searched q → r.number ≡ q.number
  pub cost : Searched r → Searched q → r.cost ≡ q.cost
  pub fewer : Searched r → Searched q → q.count ≤ r.count
  pub refused : (Searched r → ⊥) → (Searched q → ⊥) → r ≡ q
  pub sweep_short : (Searched r → ⊥) → Searched q → Refusal 7 0 0 0 r
  pub guided_short : Searched r → (Searched q → ⊥) → Refusal 7 0 0 0 q

-- the entry i of a list is p
abbrev pub At : List ℕ → ℕ → ℕ → Type 0
At l i p = (i < length l) × (get_or l i 0 ≡ p)

abbrev pub Once : List ℕ → Type 0
Once l = (i j p : ℕ) → At l i p → At l j p → i ≡ j

-- A pair p is written stage × N + node, so its stage is p / N and its node p % N
module _ (c : Chart) (d : Diagram) where
  -- w is a way from the start that leads to the stage of p and stands at its node
  abbrev pub LeadsTo : ℕ → List ℕ → Type 0
  LeadsTo p w = IsWay (graph c) c.start w × (end_of (graph c) c.start w ≡ p / size d) × (stands (automaton c d) d.root w ≡ p % size d)

  -- the pair p is reached and its least cost is m: its node isn't 0, a way that leads to it costs m, and none costs less
  pub record Reached (p m : ℕ) : Type 0 where
    pub alive : p % size d ≡ 0 → ⊥
    pub way : (w : List ℕ) × LeadsTo p w × (way_cost (graph c) w ≡ m)
    pub least : (w : List ℕ) → LeadsTo p w → m ≤ way_cost (graph c) w

  -- the reached pair p has an estimate, and its sum is k
  pub record Sum (p k : ℕ) : Type 0 where
    pub cost : ℕ
    pub reached : Reached p cost
    pub left : ℕ
    pub estimated : estimate c d (p / size d) (p % size d) ≡ some left
    pub adds : k ≡ cost + left

  -- a goal pair: a reached pair of the end stage whose node finishes at 1
  pub record Goal (p : ℕ) : Type 0 where
    pub cost : ℕ
    pub reached : Reached p cost
    pub ends : p / size d ≡ c.end
    pub finishes : finish d (p % size d) ≡ 1

  -- the pair q follows from p by one step, on a way of least cost to it
  pub record Follows (p q : ℕ) : Type 0 where
    pub step : ℕ
    pub exists : step < length c.steps
    pub leaves : (graph c).from step ≡ p / size d
    pub enters : q ≡ (graph c).to step * size d + advance d (variable c step) (p % size d)
    pub cost : ℕ
    pub reached : Reached p cost
    pub least : Reached q (cost + (graph c).cost step)

  -- the sweep: its cost slice has at each pair the least cost if it is reached, else NONE (4,294,967,295); its count is the number of reached pairs
  pub record Sweeps (cost' : List ℕ) (r : Answer) : Type 0 where
    pub least : (p m : ℕ) → Reached p m → get_or cost' p 0 ≡ m
    pub unreached : (p : ℕ) → p < need c d → ((m : ℕ) → Reached p m → ⊥) → get_or cost' p 0 ≡ NONE
    pub pairs : List ℕ
    pub all : (p m : ℕ) → Reached p m → (i : ℕ) × At pairs i p
    pub only : (i p : ℕ) → At pairs i p → (m : ℕ) × Reached p m
    pub once : Once pairs
    pub counted : r.count ≡ length pairs

  -- the guided search: its log is the settled pairs in order, and its count how many they are
  pub record Settles (log log' : List ℕ) (r : Answer) : Type 0 where
    pub settled : List ℕ
    pub counted : r.count ≡ length settled
    pub fits : length settled ≤ length log
    pub written : log' ≡ settled ++ drop (length settled) log
    -- only reached pairs with an estimate, none twice, the sum never falling
    pub inside : (i p : ℕ) → At settled i p → p < need c d
    pub sums : (i p : ℕ) → At settled i p → (k : ℕ) × Sum p k
    pub once : Once settled
    pub rises : (i j p q k m : ℕ) → i ≤ j → At settled i p → At settled j q → Sum p k → Sum q m → k ≤ m
    -- the pair of start and root first, each later one after one from which it follows
    pub first : (p : ℕ) → At settled 0 p → p ≡ c.start * size d + d.root
    pub follows : (j q : ℕ) → 0 < j → At settled j q → (i p : ℕ) × (i < j) × At settled i p × Follows p q
    -- with a plan: every reached pair whose sum is below the reported cost and none above; the last is the only goal pair, and its least cost is the reported one
    pub below : r.number ≡ 0 → (p k : ℕ) → Sum p k → k < r.cost → (i : ℕ) × At settled i p
    pub none_above : r.number ≡ 0 → (i p k : ℕ) → At settled i p → Sum p k → k ≤ r.cost
    pub some_entry : r.number ≡ 0 → 0 < length settled
    pub last_goal : r.number ≡ 0 → (i p : ℕ) → At settled i p → suc i ≡ length settled → Goal p × Reached p r.cost
    pub only_goal : r.number ≡ 0 → (i p : ℕ) → At settled i p → Goal p → suc i ≡ length settled
    -- under 8: every reached pair with an estimate
    pub all : r.number ≡ 8 → (p k : ℕ) → Sum p k → (i : ℕ) × At settled i p

-- of a sweep and a guided search on the same files, by the slices that each was lent before and after
pub record Demand3 (chart rules : List ℕ) (lent lent' : SweepSlices) (r : Answer) (given given' : GuidedSlices) (q : Answer) : Type 0 where
  pub sweep_cheapest : (c : Chart) (d : Diagram) → Passes chart rules (sweep_call lent lent' r) c d → Cheapest c d r
  pub guided_cheapest : (c : Chart) (d : Diagram) → Passes chart rules (guided_call given given' q) c d → Cheapest c d q
  pub agree : Agree r q
  pub sweeps : (c : Chart) (d : Diagram) → Passes chart rules (sweep_call lent lent' r) c d → Sweeps c d lent'.cost r
  pub settles : (c : Chart) (d : Diagram) → Passes chart rules (guided_call given given' q) c d → Settles c d given.log given'.log q

-- ---- all demands, of both searches on the same files

pub record Demands (chart rules : List ℕ) (lent lent' : SweepSlices) (r : Answer) (given given' : GuidedSlices) (q : Answer) : Type 0 where
  pub sweep_1 : Demand1 chart rules (sweep_call lent lent' r)
  pub guided_1 : Demand1 chart rules (guided_call given given' q)
  pub sweep_2 : Demand2 chart rules (sweep_call lent lent' r)
  pub guided_2 : Demand2 chart rules (guided_call given given' q)
  pub both_3 : Demand3 chart rules lent lent' r given given' q
