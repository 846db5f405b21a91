-- Pairs of a stage and a node (the states of the product; REFERENCE 5, 4.8, 6.4), which of them are reached, at what least cost, and which are goals.
-- Assumes nothing.
use Rattle.std.specs.Prelude.{ℕ, ◌+◌, ◌*◌, ◌/◌, ◌%◌, Bool, ◌&&◌, List, [], ◌∷◌, map, eqb, ltb}
use Rattle.std.proofs.Math.Option.{Option, none}
use Rattle.definitions.specs.Basics.{pick, is_some, sum_of, keep, upto}
use Rattle.definitions.specs.Ways.{GraphOf, Graph, end_of, least_way}

-- What the searches need of a rule diagram (an automaton that reads the steps of a way): `size` nodes, from node 0 no way is legal,
-- `next e n` is the node after step e at node n, and a way that ends at a node is legal where the node `accepts`
pub record Automaton : Type 0 where
  pub size : ℕ
  pub root : ℕ
  pub next : ℕ → ℕ → ℕ
  pub accepts : ℕ → Bool

-- the node got by advancing a node by the steps of a way in turn
unfoldable pub stands : Automaton → ℕ → List ℕ → ℕ
stands a n [] = n
stands a n (e ∷ w) = stands a (a.next e n) w

-- the least cost of the ways from the start that lead to stage s and stand at node n; none where there is no such way, and at node 0
unfoldable pub least_cost : Graph → Automaton → ℕ → ℕ → Option ℕ
least_cost g a s n =
    pick (eqb n 0) none (least_way g g.start (λ w. eqb (end_of g g.start w) s && eqb (stands a a.root w) n))

-- a pair is reached if its node isn't 0 and some way from the start leads to it
unfoldable pub reached : Graph → Automaton → ℕ → ℕ → Bool
reached g a s n = is_some (least_cost g a s n)

-- a goal pair: a reached pair of the end stage whose node finishes at 1
unfoldable pub goal : Graph → Automaton → ℕ → ℕ → Bool
goal g a s n = reached g a s n && eqb s g.end && a.accepts n

-- a pair is written stage × N + node
abbrev pub pair : Automaton → ℕ → ℕ → ℕ
pair a s n = s * a.size + n

abbrev pub stage_of : Automaton → ℕ → ℕ
stage_of a p = p / a.size

abbrev pub node_of : Automaton → ℕ → ℕ
node_of a p = p % a.size

-- where a stage's row of pairs starts, in a chart of so many stages and with N nodes: stage × N, and 0 past the stages
unfoldable pub row_start : ℕ → ℕ → ℕ → ℕ
row_start stages size s = pick (ltb s stages) (s * size) 0

-- the table of all row starts
unfoldable pub row_starts : ℕ → ℕ → List ℕ
row_starts stages size = map (row_start stages size) (upto 256)

-- how many pairs there are, reached or not
abbrev pub pairs : {C : Type 0} → GraphOf C → Automaton → ℕ
pairs g a = g.stages * a.size

-- the reached pairs, and the goal pairs, in the order of their numbers
unfoldable pub reached_pairs : Graph → Automaton → List ℕ
reached_pairs g a = keep (λ p. reached g a (stage_of a p) (node_of a p)) (upto (pairs g a))

unfoldable pub goal_pairs : Graph → Automaton → List ℕ
goal_pairs g a = keep (λ p. goal g a (stage_of a p) (node_of a p)) (upto (pairs g a))

-- the least cost of a way from a stage to the end, or none
unfoldable pub to_end : Graph → ℕ → Option ℕ
to_end g s = least_way g s (λ w. eqb (end_of g s w) g.end)

-- An estimate (heuristic) of each pair: a lower bound of what is left, or none. A reached pair's sum is its least cost plus its estimate
abbrev pub Estimate : Type 0
Estimate = ℕ → ℕ → Option ℕ

unfoldable pub sum : Graph → Automaton → Estimate → ℕ → ℕ → Option ℕ
sum g a h s n = sum_of (least_cost g a s n) (h s n)
