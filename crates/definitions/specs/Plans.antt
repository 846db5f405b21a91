-- Legal plans of a chart under a diagram (REFERENCE 4), and the estimates of both (6).
-- Assumes nothing.
use Rattle.std.specs.Prelude.{ℕ, zero, suc, ◌≡◌, Bool, true, ◌&&◌, List, map, eqb, length, get_or}
use Rattle.std.proofs.Math.Option.{Option, none, some}
use Rattle.definitions.specs.Basics.{smaller, larger, sum_of, keep, upto, least, has}
use Rattle.definitions.specs.Charts.{Chart, no_step}
use Rattle.definitions.specs.Diagrams.{Diagram, size, descend, advance, finish, verdict}
use Rattle.definitions.specs.Ways.{Graph, IsWay, is_way, end_of, least_way}
use Rattle.definitions.specs.Pairs.{Automaton, Estimate, to_end}

-- the chart as the graph that the searches walk
abbrev pub graph : Chart → Graph
graph c = record {
  stages = c.stages;
  start = c.start;
  end = c.end;
  count = length c.steps;
  from = λ e. (get_or c.steps e no_step).from;
  to = λ e. (get_or c.steps e no_step).to;
  cost = λ e. (get_or c.steps e no_step).cost;
  group = λ e. (get_or c.steps e no_step).group;
}

-- the diagram's variable that a step sets: its group
unfoldable pub variable : Chart → ℕ → ℕ
variable c e = (graph c).group e

-- the steps that set a variable
abbrev pub steps_of : Chart → ℕ → List ℕ
steps_of c k = keep (λ e. eqb (variable c e) k) (upto (graph c).count)

-- what it costs to set a variable: the smallest cost among the steps of the group, none where it has no step
unfoldable pub variable_cost : Chart → ℕ → Option ℕ
variable_cost c k = least (map (graph c).cost (steps_of c k))

-- the diagram as the automaton that reads the steps of a way
abbrev pub automaton : Chart → Diagram → Automaton
automaton c d = record {
  size = size d;
  root = d.root;
  next = λ e n. advance d (variable c e) n;
  accepts = λ n. eqb (finish d n) 1;
}

-- the diagram says yes to the set of the groups of a way's steps, all other groups being absent: a group is present if at least one of its steps is taken
unfoldable pub says_yes : Chart → Diagram → List ℕ → Bool
says_yes c d w = eqb (verdict d (has (map (variable c) w)) d.root) 1

-- w is a plan: a way from start to end
abbrev pub IsPlan : Chart → List ℕ → Type 0
IsPlan c w = IsWay (graph c) c.start w × (end_of (graph c) c.start w ≡ c.end)

-- a legal plan
abbrev pub Legal : Chart → Diagram → List ℕ → Type 0
Legal c d w = IsPlan c w × (says_yes c d w ≡ true)

-- a way from the start is a legal plan, as a test
abbrev pub legal_way : Chart → Diagram → List ℕ → Bool
legal_way c d w = eqb (end_of (graph c) c.start w) c.end && says_yes c d w

unfoldable pub legal : Chart → Diagram → List ℕ → Bool
legal c d w = is_way (graph c) c.start w && legal_way c d w

-- the cost of a cheapest legal plan, or none where there is no legal plan
unfoldable pub cheapest : Chart → Diagram → Option ℕ
cheapest c d = least_way (graph c) c.start (legal_way c d)

-- the chart estimate of a stage: the least cost of a way from it to the end, or none
unfoldable pub chart_estimate : Chart → ℕ → Option ℕ
chart_estimate c s = to_end (graph c) s

-- the diagram estimate: none at node 0, 0 at node 1
abbrev pub leaf_estimate : ℕ → Option ℕ
leaf_estimate zero = none
leaf_estimate (suc n) = some 0

-- and at an inner node the smaller of that at lo and that at hi plus the group's cost; a group without steps has none, so that its hi is ignored
unfoldable pub diagram_estimate : Chart → Diagram → ℕ → Option ℕ
diagram_estimate c d n = descend d leaf_estimate (λ n x lo hi. smaller lo (sum_of (variable_cost c x.step) hi)) n

-- a pair's estimate: the larger of the two, none if either is none
unfoldable pub estimate : Chart → Diagram → Estimate
estimate c d s n = larger (chart_estimate c s) (diagram_estimate c d n)
