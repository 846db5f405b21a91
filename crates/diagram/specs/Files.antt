-- What the reader of the diagram file answers, and what it leaves in the table.
-- Assumes nothing.
use Rattle.std.specs.Prelude.{ℕ, ◌+◌, ◌≡◌, Bool, List, ◌∷◌, ◌++◌, map, length, drop, Result, Ok, Err}
use Rattle.definitions.specs.Fields.{Scan}
use Rattle.definitions.specs.Diagrams.{InnerNode, read_diagram}
use Rattle.definitions.specs.Diagrams as diagrams
use Rattle.definitions.specs.Refusals.{number}
use Rattle.fields.specs.declared.fault.Stopped.{Stopped}
use Rattle.diagram_fields.specs.Words.{word_of, leaf, nodes_in, Marked}
use Rattle.diagram.specs.Tables.{held_nodes}
use Rattle.diagram.specs.declared.reader.DiagramSizes.{DiagramSizes}

-- the first `count` inner nodes
abbrev pub nodes_held : ℕ → List ℕ → List InnerNode
nodes_held count words = held_nodes count (nodes_in words).step (nodes_in words).lo (nodes_in words).hi

-- the table has 512 entries, as its type says.
pub record Room (words : List ℕ) : Type 0 where
  pub long : length words ≡ 512

-- the table after reading: the marked leaf at 0 and at 1, the nodes that passed from 2 on, and the other entries as they were
abbrev pub table_with : List InnerNode → List ℕ → List ℕ
table_with passed words = word_of leaf ∷ word_of leaf ∷ map word_of passed ++ drop (length passed + 2) words

-- nodes stand in a table, and its entries 0 and 1 are marked
pub record Filled (nodes : List InnerNode) (words : List ℕ) : Type 0 where
  pub marked : Marked (nodes_in words).step
  pub held : nodes_held (length nodes) words ≡ nodes

-- what a walk over the nodes answers, and what a file answers, in numbers: the refusal's number and place, 0 and 0 where it is accepted, and what passed
pub record NodesEnd : Type 0 where
  pub number : ℕ
  pub place : ℕ
  pub nodes : ℕ

pub record DiagramEnd : Type 0 where
  pub number : ℕ
  pub place : ℕ
  pub root : ℕ
  pub nodes : ℕ

abbrev pub nodes_end : Result ℕ (Stopped ℕ) → NodesEnd
nodes_end (Ok count) = record { number = 0; place = 0; nodes = count }
nodes_end (Err e) = record { number = number e.fault.refusal; place = e.fault.place; nodes = e.passed }

abbrev pub diagram_end : Result DiagramSizes (Stopped DiagramSizes) → DiagramEnd
diagram_end (Ok d) = record { number = 0; place = 0; root = d.root; nodes = d.nodes }
diagram_end (Err e) = record { number = number e.fault.refusal; place = e.fault.place; root = e.passed.root; nodes = e.passed.nodes }

-- the same, from what the definitions give
abbrev pub nodes_answer : Scan InnerNode → NodesEnd
nodes_answer x = record { number = x.number; place = x.place; nodes = length x.passed }

abbrev pub diagram_answer : diagrams.DiagramRead → DiagramEnd
diagram_answer x = record { number = x.number; place = x.place; root = x.diagram.root; nodes = length x.diagram.nodes }

-- the diagram file s over so many groups is read into the table, strictly or not
pub record Reads (mode : Bool) (s : List ℕ) (groups : ℕ) (words words' : List ℕ) (r : Result DiagramSizes (Stopped DiagramSizes)) : Type 0 where
  pub answer : diagram_end r ≡ diagram_answer (read_diagram mode s groups)
  pub table : words' ≡ table_with (read_diagram mode s groups).diagram.nodes words
