-- The walk over the nodes of a diagram file, turn by turn.
-- Assumes nothing.
use Rattle.std.specs.Prelude.{ℕ, ◌+◌, ◌≤◌, ◌≡◌, Bool, ◌&&◌, List, ◌++◌, map, length, take, drop, get_or, Result, Ok, Err}
use Rattle.std.specs.Prelude.{◌⊎◌}
use Rattle.definitions.specs.Basics.{pick}
use Rattle.definitions.specs.Diagrams.{InnerNode, inner_node_of, node_fault, node_grammar, padding, scan_nodes, with_nodes}
use Rattle.definitions.specs.Refusals.{number}
use Rattle.definitions.specs.declared.Refusal.{Refusal}
use Rattle.fields.specs.Scans.{Reading}
use Rattle.fields.specs.Turns.{Turn}
use Rattle.fields.specs.declared.fault.Stopped.{Stopped}
use Rattle.diagram_fields.specs.Words.{word_of, step_of, unpacked}
use Rattle.unique_table.specs.Tables.{UniqueTable, Table, count_in, nodes_in}
use Rattle.diagram.specs.Files.{Room, nodes_end, nodes_answer, diagram_end, diagram_answer}
use Rattle.diagram.specs.declared.reader.NodesRead.{NodesRead}
use Rattle.diagram.specs.declared.reader.DiagramSizes.{DiagramSizes}

-- the table so far: from 2 on the nodes before, each in one number; what stood before them and behind them stays
pub record Stored (before : List InnerNode) (words₀ words : List ℕ) : Type 0 where
  pub front : take (length before + 2) words ≡ take 2 words₀ ++ map word_of before
  pub rest : drop (length before + 2) words ≡ drop (length before + 2) words₀
  pub room : Room words

-- What is read so far, and that the rest of the walk is still to come: the table and its chains hold the nodes before, so that the checks of those to come find their
-- steps, and one that is alike
pub record SoFar (mode : Bool) (s : List ℕ) (first groups : ℕ) (words₀ : List ℕ) (t : UniqueTable) (r : NodesRead) : Type 0 where
  pub chart : groups ≤ 1024
  pub before : List InnerNode
  pub reading : Reading s (node_grammar mode groups) first r.place before
  pub counted : length before ≡ r.nodes
  pub table : Table t
  pub nodes : nodes_in t ≡ before
  pub stored : Stored before words₀ t.nodes

-- before the walk: a table without nodes, over so many groups
pub record Fresh (groups : ℕ) (t : UniqueTable) : Type 0 where
  pub chart : groups ≤ 1024
  pub table : Table t
  pub none : count_in t ≡ 0

-- the walk is over: the answer, and what the table holds. (The chains are said for the contract's sake: nobody reads them then)
pub record Over (mode : Bool) (s : List ℕ) (first groups : ℕ) (words₀ : List ℕ) (t : UniqueTable) (r : Result ℕ (Stopped ℕ)) : Type 0 where
  pub few : (nodes_end r).nodes ≤ 510
  pub answer : nodes_end r ≡ nodes_answer (scan_nodes mode s groups first)
  pub chained : nodes_in t ≡ (scan_nodes mode s groups first).passed
  pub stored : Stored (scan_nodes mode s groups first).passed words₀ t.nodes

-- by its origin, the first place and the table then: what is read so far at r, and that the walk is over
abbrev pub SoFarAt : Bool → List ℕ → ℕ → UniqueTable → NodesRead → ℕ × List ℕ → Type 0
SoFarAt mode s groups t r o = SoFar mode s o.0 groups o.1 t r

abbrev pub OverAt : Bool → List ℕ → ℕ → UniqueTable → Stopped ℕ → ℕ × List ℕ → Type 0
OverAt mode s groups t e o = Over mode s o.0 groups o.1 t (Err e)

-- the walk is underway, whatever its origin
abbrev pub Underway : Bool → List ℕ → ℕ → UniqueTable → NodesRead → Type 0
Underway mode s groups t r = (o : ℕ × List ℕ) × SoFarAt mode s groups t r o

-- from r on, by one field or by a run of them
abbrev pub Takes : Bool → List ℕ → ℕ → NodesRead → UniqueTable → UniqueTable → Result NodesRead (Stopped ℕ) → Type 0
Takes mode s groups r t t' = Turn s (λ (x : NodesRead). x.place) r.place (SoFarAt mode s groups t r) (SoFarAt mode s groups t') (OverAt mode s groups t')

-- ---- a node's body, behind the nodes of a table

-- what is wrong with it by the limits, and whether it is padding; 0: nothing
abbrev pub limit_fault : ℕ → UniqueTable → ℕ → List ℕ → ℕ
limit_fault groups t count b = node_fault groups (λ k. step_of (get_or t.nodes k 0)) count b

abbrev pub padding_fault : Bool → UniqueTable → ℕ → ℕ
padding_fault mode t w = pick (mode && padding (nodes_in t) (unpacked w)) 13 0

-- the answer: its number where nothing is wrong with it, else the refusal
abbrev pub Judged : Bool → ℕ → UniqueTable → ℕ → List ℕ → Result ℕ Refusal → Type 0
Judged mode groups t count b (Ok w) = (0 ≡ limit_fault groups t count b) × (w ≡ word_of (inner_node_of b)) × (0 ≡ padding_fault mode t w)
Judged mode groups t count b (Err e) =
    (number e ≡ limit_fault groups t count b)
    ⊎ ((0 ≡ limit_fault groups t count b) × (number e ≡ padding_fault mode t (word_of (inner_node_of b))))

-- ---- the nodes and the root

-- behind the head, from the place `first` on
pub record Rest (mode : Bool) (s : List ℕ) (first root groups : ℕ) (words words' : List ℕ) (r : Result DiagramSizes (Stopped DiagramSizes)) : Type 0 where
  pub answer : diagram_end r ≡ diagram_answer (with_nodes root (scan_nodes mode s groups first))
  pub stored : Stored (scan_nodes mode s groups first).passed words words'
