-- The nodes of a unique table: how many there are, and each by its number.
-- Assumes nothing.
use Rattle.std.specs.Prelude.{ℕ, ◌+◌, ◌<◌, ◌≡◌, length, get_or}
use Rattle.definitions.specs.Diagrams.{no_node}
use Rattle.theory.specs.Basics.{length-map_run, get_d_map_upto}
use Rattle.diagram_fields.specs.Words.{unpacked}
use Rattle.unique_table.specs.Tables.{UniqueTable, node_at, count_in, nodes_in}

module _ (t : UniqueTable) where
  pub nodes_long : length (nodes_in t) ≡ count_in t
  unfolding nodes_in
  nodes_long = length-map_run (λ (i : ℕ). unpacked (node_at t (i + 2))) 0 (count_in t)

  pub node_listed : (k : ℕ) → k < count_in t → get_or (nodes_in t) k no_node ≡ unpacked (node_at t (k + 2))
  unfolding nodes_in
  node_listed k h = get_d_map_upto (λ (i : ℕ). unpacked (node_at t (i + 2))) (count_in t) k no_node h
