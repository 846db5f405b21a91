-- The unique table that the struct of the code holds: its nodes in a lent array, its chains in one of its own.
-- Assumes nothing.
use Rattle.std.specs.Prelude.{ℕ, ◌≡◌, refl, List, [], length}
use Rattle.unique_table.specs.declared.UniqueTable.{UniqueTable}
use Rattle.unique_table.specs.Tables as tables
use Rattle.unique_table.specs.Tables.{unique_table, nodes_in, Table}
use Rattle.unique_table.specs.Stores.{blank, empty_table, empty_nodes}

abbrev pub held : UniqueTable → tables.UniqueTable
held t = unique_table t.nodes.now t.chains

-- the nodes stay in the array that was lent
abbrev pub SameArray : UniqueTable → UniqueTable → Type 0
SameArray t t' = t'.nodes.ghost_name ≡ t.nodes.ghost_name

-- a table without nodes over an array that holds these words
pub record Blank (words : List ℕ) (t : tables.UniqueTable) : Type 0 where
  pub nodes : t.nodes ≡ words
  pub table : Table t
  pub empty : nodes_in t ≡ []

pub blank_table : (words : List ℕ) → length words ≡ 512 → Blank words (unique_table words blank)
blank_table words long = record { nodes = refl; table = empty_table words long; empty = empty_nodes words }
