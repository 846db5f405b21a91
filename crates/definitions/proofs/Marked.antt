-- The marked cases (a) to (j), on the chart of REFERENCE 14 and four smaller ones, computed from the definitions.
-- Assumes nothing.
use Rattle.std.specs.Prelude.{ℕ, ◌≡◌, refl, Bool, cond, List, [], ◌∷◌, ◌++◌, map}
use Rattle.std.proofs.Math.Option.{Option, none, some}
use Rattle.definitions.specs.Basics.{pick, smaller, larger, sum_of, upto}
use Rattle.definitions.specs.Charts.{Chart}
use Rattle.definitions.specs.Bytes.{chart_back}
use Rattle.definitions.specs.Diagrams.{Diagram, descend, descend_in, advance, finish, verdict}
use Rattle.definitions.specs.Ways.{ways_in, ways, least_way, way_cost}
use Rattle.definitions.specs.Pairs.{stage_of, node_of, stands, least_cost, reached, goal, reached_pairs, goal_pairs, to_end, sum}
use Rattle.definitions.specs.Plans.{graph, variable, variable_cost, automaton, says_yes, legal, cheapest, chart_estimate, diagram_estimate, estimate}
use Rattle.definitions.specs.Marked.{st, nd, chart, rules, single, backward, leaf}

-- (i): the chart and the diagram whose goal pair is not at node 1
abbrev skip : Chart
skip = chart_back (record { stages = 3; start = 0; end = 2; steps = st 0 2 5 ∷ st 1 2 1 ∷ [] })

abbrev avoid : Diagram
avoid = record { root = 2; nodes = nd 1 1 0 ∷ [] }

-- a test is 1 or 0
abbrev flag : Bool → Option ℕ
flag b = some (cond b 1 0)

abbrev sums : List ℕ → List (Option ℕ)
sums ps = map (λ p. sum (graph chart) (automaton chart rules) (estimate chart rules) (stage_of (automaton chart rules) p) (node_of (automaton chart rules) p)) ps

-- the cost of a list of steps, and whether it is a legal plan
abbrev judged : List ℕ → List (Option ℕ)
judged w = some (way_cost (graph chart) w) ∷ flag (legal chart rules w) ∷ []

-- a row for each of (a) to (j)
pub computed : List (List (Option ℕ))
computed =
    (cheapest chart rules ∷ [])
    ∷ map some (reached_pairs (graph chart) (automaton chart rules))
    ∷ (map (chart_estimate chart) (upto 5) ++ map (diagram_estimate chart rules) (2 ∷ 3 ∷ []))
    ∷ sums (3 ∷ 5 ∷ 13 ∷ 17 ∷ 6 ∷ 9 ∷ [])
    ∷ judged (0 ∷ 3 ∷ 5 ∷ [])
    ∷ judged (0 ∷ 2 ∷ 4 ∷ 5 ∷ [])
    ∷ (cheapest single (leaf 1) ∷ flag (legal single (leaf 1) []) ∷ [])
    ∷ (cheapest single (leaf 0) ∷ [])
    ∷ (cheapest skip avoid ∷ flag (legal skip avoid (0 ∷ [])) ∷ map some (goal_pairs (graph skip) (automaton skip avoid)))
    ∷ (cheapest backward (leaf 1) ∷ [])
    ∷ []

-- the figures worked by hand
pub marked : List (List (Option ℕ))
marked =
    (some 200 ∷ [])
    ∷ (some 3 ∷ some 5 ∷ some 6 ∷ some 9 ∷ some 13 ∷ some 17 ∷ [])
    ∷ (some 150 ∷ some 100 ∷ some 100 ∷ some 50 ∷ some 0 ∷ some 200 ∷ some 0 ∷ [])
    ∷ (some 150 ∷ some 200 ∷ some 200 ∷ some 200 ∷ some 250 ∷ some 350 ∷ [])
    ∷ (some 150 ∷ some 0 ∷ [])
    ∷ (some 350 ∷ some 1 ∷ [])
    ∷ (some 0 ∷ some 1 ∷ [])
    ∷ (none ∷ [])
    ∷ (some 50 ∷ some 1 ∷ some 8 ∷ [])
    ∷ (none ∷ [])
    ∷ []

pub marked_holds : computed ≡ marked
unfolding computed marked pick smaller larger sum_of descend descend_in advance finish verdict ways_in ways least_way stands least_cost reached goal reached_pairs goal_pairs to_end sum variable variable_cost says_yes legal cheapest chart_estimate diagram_estimate estimate
marked_holds = refl
