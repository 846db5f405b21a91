-- The unique table of a diagram, as two lists. In the first each node, from 2 on, stands at its number as one number (`word_of`), as in the table of any diagram; 0 and 1
-- are not the table's. In the second, of 1,024 numbers, the count of nodes is at 0, the next node of its chain at each node's number, and from 512 on the first node of
-- each of 512 chains; 0 where there is none.
-- Assumes nothing.
use Rattle.std.specs.Prelude.{ℕ, ◌+◌, ◌*◌, ◌/◌, ◌%◌, ◌≤◌, ◌<◌, ◌≡◌, List, [], ◌∷◌, ◌++◌, map, length, get_or, set, Option, Some, None}
use Rattle.definitions.specs.Basics.{upto}
use Rattle.definitions.specs.Diagrams.{InnerNode}
use Rattle.diagram_fields.specs.Words.{word_of, unpacked}

pub record UniqueTable : Type 0 where
  pub nodes : List ℕ
  pub chains : List ℕ

abbrev pub unique_table : List ℕ → List ℕ → UniqueTable
unique_table nodes chains = record { nodes = nodes; chains = chains }

abbrev pub inner_node : ℕ → ℕ → ℕ → InnerNode
inner_node v l h = record { step = v; lo = l; hi = h }

-- the node of a number, in one number; the next one of its chain; the first of a chain
abbrev pub node_at : UniqueTable → ℕ → ℕ
node_at t n = get_or t.nodes n 0

abbrev pub next_of : UniqueTable → ℕ → ℕ
next_of t n = get_or t.chains n 0

abbrev pub head_of : UniqueTable → ℕ → ℕ
head_of t k = get_or t.chains (512 + k) 0

-- how many nodes there are, and the nodes
abbrev pub count_in : UniqueTable → ℕ
count_in t = get_or t.chains 0 0

unfoldable pub nodes_in : UniqueTable → List InnerNode
nodes_in t = map (λ i. unpacked (node_at t (i + 2))) (upto (count_in t))

-- the chain that a node is in: bits 23 to 31 of its number times 2^32 / 1.618.. (multiplicative hashing)
unfoldable pub hash : ℕ → ℕ
hash w = w * 2654435769 / 8388608 % 512

-- Each chain goes through the nodes of one hash, from the last to the first: a chain's head is at least every node of its hash, and so is the next node of a
-- node for those before it
pub record Table (t : UniqueTable) : Type 0 where
  pub nodes_long : length t.nodes ≡ 512
  pub chains_long : length t.chains ≡ 1024
  pub few : count_in t ≤ 510
  pub fits : (n : ℕ) → 2 ≤ n → n < count_in t + 2 → node_at t n < 4294967296
  pub head_inside : (k : ℕ) → k < 512 → head_of t k < count_in t + 2
  pub head_hash : (k : ℕ) → k < 512 → 2 ≤ head_of t k → hash (node_at t (head_of t k)) ≡ k
  pub head_last : (n : ℕ) → 2 ≤ n → n < count_in t + 2 → n ≤ head_of t (hash (node_at t n))
  pub next_below : (n : ℕ) → 2 ≤ n → n < count_in t + 2 → next_of t n < n
  pub next_hash : (n : ℕ) → 2 ≤ n → n < count_in t + 2 → 2 ≤ next_of t n → hash (node_at t (next_of t n)) ≡ hash (node_at t n)
  pub next_last : (m n : ℕ) → 2 ≤ m → m < n → n < count_in t + 2 → hash (node_at t m) ≡ hash (node_at t n) → m ≤ next_of t n

-- no node of the table is w
abbrev pub Lacks : UniqueTable → ℕ → Type 0
Lacks t w = (n : ℕ) → 2 ≤ n → n < count_in t + 2 → node_at t n ≡ w → ⊥

-- r is the number of w
pub record Found (t : UniqueTable) (w r : ℕ) : Type 0 where
  pub inner : 2 ≤ r
  pub inside : r < count_in t + 2
  pub hit : node_at t r ≡ w

-- what a search for w answers: its number, or none where no node is w
abbrev pub Finds : UniqueTable → ℕ → Option ℕ → Type 0
Finds t w (Some r) = Found t w r
Finds t w None = Lacks t w

-- w is the last node
pub record Adds (t : UniqueTable) (w r : ℕ) (t' : UniqueTable) : Type 0 where
  pub number : r ≡ count_in t + 2
  pub stored : t'.nodes ≡ set t.nodes r w
  pub table : Table t'
  pub nodes : nodes_in t' ≡ nodes_in t ++ unpacked w ∷ []

-- r is the reference of the node of v, l and h
pub data Interned (t : UniqueTable) (v l h r : ℕ) (t' : UniqueTable) : Type 0 where
  alone : l ≡ h → r ≡ l → t' ≡ t → Interned t v l h r t'
  found : (l ≡ h → ⊥) → Found t (word_of (inner_node v l h)) r → t' ≡ t → Interned t v l h r t'
  added : (l ≡ h → ⊥) → Lacks t (word_of (inner_node v l h)) → count_in t < 510 → Adds t (word_of (inner_node v l h)) r t' → Interned t v l h r t'

-- there is no room for that node
pub record Full (t : UniqueTable) (v l h : ℕ) (t' : UniqueTable) : Type 0 where
  pub apart : l ≡ h → ⊥
  pub lacks : Lacks t (word_of (inner_node v l h))
  pub full : count_in t ≡ 510
  pub same : t' ≡ t

-- what interning a node of v, l and h answers: its reference, or none where there is no room for it
abbrev pub Interns : UniqueTable → ℕ → ℕ → ℕ → Option ℕ → UniqueTable → Type 0
Interns t v l h (Some r) t' = Interned t v l h r t'
Interns t v l h None t' = Full t v l h t'
