-- Reduced diagrams (REFERENCE 16, 17): what one is, and the one that says yes to just the sets with a property. In standard terms the reduced ordered binary decision
-- diagram of a Boolean function, which is unique: any two that are reduced and say yes to the same sets are equal.
-- Assumes nothing.
use Rattle.std.specs.Prelude.{ℕ, zero, suc, ◌+◌, ◌≤◌, ◌<◌, ◌≡◌, Bool, true, false, ◌&&◌, ◌||◌, List, [], ◌∷◌, ◌++◌, map, eqb, length}
use Rattle.definitions.specs.Basics.{pick, run, has}
use Rattle.definitions.specs.Diagrams.{Diagram, InnerNode, no_node, size, inner, descend, verdict}

-- ---- what a reduced diagram is

-- the diagram says yes to a set of groups
unfoldable pub accepts : Diagram → (ℕ → Bool) → Bool
accepts d set = eqb (verdict d set d.root) 1

-- the inner nodes that a walk from node n has left, after those that it had left before: children in field order (lo, then hi), each node once
unfoldable pub walk : Diagram → ℕ → List ℕ → List ℕ
walk d n = descend d (λ n left. left) (λ n x lo hi left. pick (has left n) left (hi (lo left) ++ n ∷ [])) n

-- No two nodes are alike, none has lo equal to hi, and the inner nodes, 2, 3, 4 .., stand in the order in which a walk from the root leaves them; so each can be
-- arrived at
pub record Reduced (d : Diagram) : Type 0 where
  pub root_inside : d.root < size d
  pub unlike : (m n : ℕ) → 2 ≤ m → m < size d → 2 ≤ n → n < size d → inner d m ≡ inner d n → m ≡ n
  pub forked : (n : ℕ) → 2 ≤ n → n < size d → (inner d n).lo ≡ (inner d n).hi → ⊥
  pub walked : walk d d.root [] ≡ run 2 (length d.nodes)

-- node n can be arrived at from the root
pub data Arrives (d : Diagram) : ℕ → Type 0 where
  at_root : Arrives d d.root
  at_lo : {n : ℕ} → Arrives d n → 2 ≤ n → Arrives d (inner d n).lo
  at_hi : {n : ℕ} → Arrives d n → 2 ≤ n → Arrives d (inner d n).hi

-- ---- decision trees

-- "no", "yes", or a node: its group, its lo and its hi
pub data Tree : Type 0 where
  no_leaf : Tree
  yes_leaf : Tree
  branch : ℕ → Tree → Tree → Tree

-- two trees are equal, as a test
unfoldable pub alike : Tree → Tree → Bool
alike no_leaf no_leaf = true
alike no_leaf yes_leaf = false
alike no_leaf (branch v l h) = false
alike yes_leaf no_leaf = false
alike yes_leaf yes_leaf = true
alike yes_leaf (branch v l h) = false
alike (branch v l h) no_leaf = false
alike (branch v l h) yes_leaf = false
alike (branch v l h) (branch w m k) = eqb v w && (alike l m && alike h k)

-- a node, or its child where both children are alike (MK)
unfoldable pub mk : ℕ → Tree → Tree → Tree
mk v l h = pick (alike l h) l (branch v l h)

-- a set with one group more
abbrev pub with : (ℕ → Bool) → ℕ → ℕ → Bool
with set v j = eqb j v || set j

-- The tree of a property of sets of groups: whether the sets have it that are `set` and any of the k groups from v on. It asks for each of these groups in turn,
-- but not where the answer makes no difference (Shannon's expansion)
unfoldable pub tree_of : ((ℕ → Bool) → Bool) → ℕ → ℕ → (ℕ → Bool) → Tree
tree_of f zero v set = pick (f set) yes_leaf no_leaf
tree_of f (suc k) v set = mk v (tree_of f k (suc v) set) (tree_of f k (suc v) (with set v))

-- ---- the diagram of a tree

-- the tree is among these
unfoldable pub member : Tree → List Tree → Bool
member t [] = false
member t (u ∷ us) = alike t u || member t us

-- its place among them, or how many there are
unfoldable pub position : Tree → List Tree → ℕ
position t [] = 0
position t (u ∷ us) = let r = position t us in pick (alike t u) 0 (suc r)

-- the nodes that a walk from a tree has left, after those that it had left before: lo's, hi's, its own, each once
unfoldable pub postorder : Tree → List Tree → List Tree
postorder no_leaf left = left
postorder yes_leaf left = left
postorder (branch v l h) left =
    let rest = postorder h (postorder l left) ++ branch v l h ∷ [] in
    pick (member (branch v l h) left) left rest

-- the reference of a tree: 0, 1, or the number of its node
unfoldable pub ref : List Tree → Tree → ℕ
ref nodes no_leaf = 0
ref nodes yes_leaf = 1
ref nodes (branch v l h) = position (branch v l h) nodes + 2

unfoldable pub numbered : List Tree → Tree → InnerNode
numbered nodes no_leaf = no_node
numbered nodes yes_leaf = no_node
numbered nodes (branch v l h) = record { step = v; lo = ref nodes l; hi = ref nodes h }

unfoldable pub nodes_of : List Tree → List InnerNode
nodes_of nodes = map (numbered nodes) nodes

unfoldable pub diagram_of : Tree → Diagram
diagram_of t = record { root = ref (postorder t []) t; nodes = nodes_of (postorder t []) }

-- ---- the diagrams that are written

-- the reduced diagram of a property of the sets of so many groups
unfoldable pub reduced_of : ℕ → ((ℕ → Bool) → Bool) → Diagram
reduced_of steps f = diagram_of (tree_of f steps 0 (λ j. false))

-- the reduction of a diagram over so many groups, those without steps too: yes exactly to the sets to which it says yes
unfoldable pub reduction : ℕ → Diagram → Diagram
reduction steps d = reduced_of steps (accepts d)

-- the conjunction of two diagrams over so many groups, those without steps too: yes exactly to the sets to which both say yes
unfoldable pub conjunction : ℕ → Diagram → Diagram → Diagram
conjunction steps d e = reduced_of steps (λ set. accepts d set && accepts e set)
