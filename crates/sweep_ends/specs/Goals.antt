-- The choice of the cheapest goal pair in a row's list.
-- Assumes nothing.
use Rattle.std.specs.Prelude.{ℕ, ◌+◌, ◌≤◌, ◌<◌, ◌≡◌, Bool, true, false, List, length, get_or, Option, Some, None}
use Rattle.sweep_ends.specs.declared.goals.Best.{Best}

-- v is the cost of the pair of node n
pub record Costs (n v : ℕ) (b : Best) : Type 0 where
  pub cost : b.cost ≡ v
  pub node : b.node.0 ≡ n

-- what r is where node n costs v, and the best so far is b
abbrev pub Kept : ℕ → ℕ → Best → Option Best → Type 0
Kept n v b (Some r) = (v < b.cost → Costs n v r) × (b.cost ≤ v → r ≡ b)
Kept n v b None = ⊥

-- the better of the best so far and node n at cost v, if that is a goal
abbrev pub Better : ℕ → ℕ → Bool → Option Best → Option Best → Type 0
Better n v false best r = r ≡ best
Better n v true None (Some r) = Costs n v r
Better n v true None None = ⊥
Better n v true (Some b) r = Kept n v b r

-- the list's nodes stand in the slices
pub record Listed (base count : ℕ) (costs nodes : List ℕ) : Type 0 where
  pub place : (k : ℕ) → k < count → base + k < length nodes
  pub small : (k : ℕ) → k < count → get_or nodes (base + k) 0 < 512
  pub pair : (k : ℕ) → k < count → base + get_or nodes (base + k) 0 < length costs

-- b is a goal of least cost among the first `count` nodes of the list
pub record Cheapest (base count : ℕ) (costs nodes : List ℕ) (yes : List Bool) (b : Best) : Type 0 where
  pub least : (k : ℕ) → k < count → get_or yes (get_or nodes (base + k) 0) false ≡ true → b.cost ≤ get_or costs (base + get_or nodes (base + k) 0) 0
  pub one : (k : ℕ) × (k < count) × (get_or nodes (base + k) 0 ≡ b.node.0) × (get_or yes b.node.0 false ≡ true) × (get_or costs (base + b.node.0) 0 ≡ b.cost)

-- r is such a goal, where one of them is a goal
abbrev pub Chosen : (base count : ℕ) (costs nodes : List ℕ) (yes : List Bool) → Option Best → Type 0
Chosen base count costs nodes goals (Some b) = Cheapest base count costs nodes goals b
Chosen base count costs nodes goals None = (k : ℕ) → k < count → get_or goals (get_or nodes (base + k) 0) false ≡ false
