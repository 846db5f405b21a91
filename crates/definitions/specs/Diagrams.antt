-- The rule diagram (an ordered binary decision diagram), its file (REFERENCE 2.3, 2.4, 2.6), and how it is walked (4.3, 4.6, 4.7).
-- Assumes nothing.
use Rattle.std.specs.Prelude.{ℕ, zero, suc, ◌+◌, ◌-◌, Bool, true, false, not, ◌&&◌, ◌||◌, List, [], leb, ltb, eqb, length, get_or}
use Rattle.definitions.specs.Basics.{pick, any}
use Rattle.definitions.specs.Fields.{two, part, only, first_field, on_field, Grammar, Scan, scan}

-- an inner node. What is called its step is the variable that it asks for: a group of the chart's steps
pub record InnerNode : Type 0 where
  pub step : ℕ
  pub lo : ℕ
  pub hi : ℕ

pub record Diagram : Type 0 where
  pub root : ℕ
  pub nodes : List InnerNode

-- past the inner nodes
abbrev pub no_node : InnerNode
no_node = record { step = 0; lo = 0; hi = 0 }

-- N: the count of inner nodes plus 2
abbrev pub size : Diagram → ℕ
size d = length d.nodes + 2

-- the inner node of a number from 2 on
abbrev pub inner : Diagram → ℕ → InnerNode
inner d n = get_or d.nodes (n - 2) no_node

-- ---- the file

-- r may be a child of the node numbered `own`: it is below `own` and, if inner, asks for a larger group. `step_at` is the group of each node before
abbrev pub child_fits : (ℕ → ℕ) → ℕ → ℕ → ℕ → Bool
child_fits step_at own step r = ltb r own && (ltb r 2 || ltb step (step_at r))

-- what is wrong with a node's body after `count` nodes, over so many groups; 0: nothing.
-- At most 510 inner nodes; the group is none above the highest of the chart; lo and hi may be its children
unfoldable pub node_fault : ℕ → (ℕ → ℕ) → ℕ → List ℕ → ℕ
node_fault steps step_at count b =
    pick (leb 510 count) 6
    (pick (leb steps (two b 0)) 6
    (pick (not (child_fits step_at (count + 2) (two b 0) (two b 2))) 6
    (pick (not (child_fits step_at (count + 2) (two b 0) (two b 4))) 6 0)))

-- a node's body: group, lo, hi
abbrev pub inner_node_of : List ℕ → InnerNode
inner_node_of b = record { step = two b 0; lo = two b 2; hi = two b 4 }

-- the two ways of reading a diagram file: padding is refused, or taken, as it is by the reduction alone
abbrev pub strict : Bool
strict = true

abbrev pub lenient : Bool
lenient = false

-- group, lo and hi of two nodes are all equal
abbrev pub alike_nodes : InnerNode → InnerNode → Bool
alike_nodes x y = eqb x.step y.step && (eqb x.lo y.lo && eqb x.hi y.hi)

-- a node is padding behind the nodes before it: its lo equals its hi, or an earlier node is alike
unfoldable pub padding : List InnerNode → InnerNode → Bool
padding before x = eqb x.lo x.hi || any (alike_nodes x) before

-- what is wrong with a node's body behind the nodes before it, read in one of the two ways; 0: nothing. Padding (13) comes after the limits (6)
unfoldable pub node_fault_after : Bool → ℕ → List InnerNode → List ℕ → ℕ
node_fault_after mode steps before b =
    let beyond = node_fault steps (λ r. (get_or before (r - 2) no_node).step) (length before) b in
    pick (not (eqb beyond 0)) beyond
    (pick (mode && padding before (inner_node_of b)) 13 0)

-- A diagram file, read: the refusal's number and place, 0 and 0 where it is accepted, and the diagram as far as its fields passed
pub record DiagramRead : Type 0 where
  pub number : ℕ
  pub place : ℕ
  pub diagram : Diagram

abbrev pub diagram_read : ℕ → ℕ → ℕ → List InnerNode → DiagramRead
diagram_read number place root nodes = record { number = number; place = place; diagram = record { root = root; nodes = nodes } }

abbrev pub diagram_refused : ℕ → ℕ → DiagramRead
diagram_refused number place = diagram_read number place 0 []

-- the root comes after all nodes: 6 at place 0 where it is not below N
abbrev pub with_nodes : ℕ → Scan InnerNode → DiagramRead
with_nodes root x =
    pick (not (eqb x.number 0)) (diagram_read x.number x.place root x.passed)
    (pick (leb (length x.passed + 2) root) (diagram_read 6 0 root x.passed)
    (diagram_read 0 0 root x.passed))

-- after the head: nodes, of tag 12 (hexadecimal) and length 6, over so many groups
abbrev pub node_grammar : Bool → ℕ → Grammar InnerNode
node_grammar mode steps = record { kind = λ before. only 18 6; fault = λ before tag. node_fault_after mode steps before; holds = λ before tag. inner_node_of }

-- the nodes of a diagram file, from a place on
abbrev pub scan_nodes : Bool → List ℕ → ℕ → ℕ → Scan InnerNode
scan_nodes mode s steps at = scan s (node_grammar mode steps) (length s) at []

-- The head first, once; then nodes to the file's end. An empty file is 2 at place 0. (Before the head no field is passed over.) `mode`: strict or lenient
unfoldable pub read_diagram : Bool → List ℕ → ℕ → DiagramRead
read_diagram mode s steps =
    on_field (first_field s (only 17 2)) (diagram_refused 2 0) diagram_refused (λ end. diagram_refused 2 0)
    (λ place start end. with_nodes (two (part s start end) 0) (scan_nodes mode s steps end))

-- ---- the walk

-- Recursion down the diagram: `at` the numbers 0 and 1, and `inside` from an inner node's number, the node, and what its lo and hi give.
-- Children have lower numbers, so the number itself bounds the depth
module _ {A : Type 0} (d : Diagram) (at : ℕ → A) (inside : ℕ → InnerNode → A → A → A) where
  unfoldable pub descend_in : ℕ → ℕ → A
  descend_in zero n = at n
  descend_in (suc k) n =
      let l = descend_in k (inner d n).lo in
      let h = descend_in k (inner d n).hi in
      pick (ltb n 2) (at n) (inside n (inner d n) l h)

  unfoldable pub descend : ℕ → A
  descend n = descend_in n n

-- To advance a node by the group e of a step: to lo while the node is inner and its group is below e; if it is then inner and its group is e, to hi
unfoldable pub advance : Diagram → ℕ → ℕ → ℕ
advance d e n = descend d (λ n. n) (λ n x lo hi. pick (ltb x.step e) lo (pick (eqb x.step e) x.hi n)) n

-- To finish a node: to lo until 0 or 1
unfoldable pub finish : Diagram → ℕ → ℕ
finish d n = descend d (λ n. n) (λ n x lo hi. lo) n

-- The verdict on a set of groups, from a node on: to hi where the node's group is in the set, else to lo, until 0 or 1
unfoldable pub verdict : Diagram → (ℕ → Bool) → ℕ → ℕ
verdict d set n = descend d (λ n. n) (λ n x lo hi. pick (set x.step) hi lo) n
