-- Laws of the tables, by index: what stands at a number is the inner node of that number.
-- Assumes nothing.
use Rattle.std.specs.Prelude.{ℕ, suc, ◌+◌, ◌-◌, ◌≤◌, ◌<◌, ◌≡◌, List, map, get_or, drop}
use Rattle.std.proofs.Math.Path.{refl, ap}
use Rattle.std.proofs.Common.{sym, ◌∙◌}
use Rattle.std.proofs.Math.ListN.{length, get_or-append, get_or-map}
use Rattle.std.proofs.lemmas.List.{length-map}
use Rattle.std.proofs.Math.Seq.{ext_get_or}
use native.Mathlib.Omega.{arith}
use Rattle.definitions.specs.Diagrams.{Diagram, InnerNode, no_node, size, inner}
use Rattle.theory.specs.Limits.{Ordered, Sound}
use Rattle.theory.specs.Basics.{length-map_run, get_d_map_upto}
use Rattle.diagram_fields.specs.Words.{word_of, unpacked, node_word, nodes_in, Marked, step_at_lem, lo_at, hi_at}
use Rattle.diagram.specs.Tables.{held_node, held_nodes, held_diagram, Held}
use Rattle.diagram.specs.Files.{nodes_held, table_with, Filled}

module _ (count : ℕ) (step lo hi : List ℕ) where
  pub length_held : length (held_nodes count step lo hi) ≡ count
  unfolding held_nodes
  length_held = length-map_run (λ (i : ℕ). held_node step lo hi (i + 2)) 0 count

  pub get_d_held : (n : ℕ) → 2 ≤ n → n < count + 2 → get_or (held_nodes count step lo hi) (n - 2) no_node ≡ held_node step lo hi n
  unfolding held_nodes
  get_d_held n h l =
      let q : n - 2 + 2 ≡ n = omega arith in
      get_d_map_upto (λ (i : ℕ). held_node step lo hi (i + 2)) count (n - 2) no_node (omega arith) ∙ ap (held_node step lo hi) q

  pub held_tables : (root : ℕ) → Ordered (held_diagram root count step lo hi) → count ≤ 510 → Marked step → Held (held_diagram root count step lo hi) step lo hi
  held_tables root o f m = record {
    ordered = o;
    few = omega (arith, length_held);
    nodes = ap (λ (k : ℕ). held_nodes k step lo hi) length_held;
    marked = m;
  }

-- the node that stands at a number, out of the entry there
module _ (words : List ℕ) (n : ℕ) where
  node_at : held_node (nodes_in words).step (nodes_in words).lo (nodes_in words).hi n ≡ unpacked (get_or words n 0)
  node_at = rw (step_at_lem, lo_at, hi_at)

-- the table after reading, where the nodes are a diagram's over a chart
module _ (steps : ℕ) (d : Diagram) (sound : Sound steps d) (chart : steps ≤ 1024) (words : List ℕ) where
  abbrev table : List ℕ
  table = table_with d.nodes words

  -- each node fits
  word_is : (i : ℕ) → i < length d.nodes → unpacked (word_of (get_or d.nodes i no_node)) ≡ get_or d.nodes i no_node
  word_is i h =
      let q : i + 2 - 2 ≡ i = omega arith in
      let o = sound.ordered in
      let few : i + 2 < 512 = omega (arith, sound.few) in
      rw q at (node_word (inner d (i + 2)) (omega (arith, sound.exist (i + 2) (omega arith) (omega arith))) (omega (arith, o.lo_below (i + 2) (omega arith)))
      (omega (arith, o.hi_below (i + 2) (omega arith))))

  entry_is : (i : ℕ) → i < length d.nodes → get_or table (i + 2) 0 ≡ word_of (get_or d.nodes i no_node)
  entry_is i h =
      let q : i + 2 ≡ suc (suc i) = omega arith in
      rw q (get_or-append (map word_of d.nodes) (drop (length d.nodes + 2) words) 0 i (omega (arith, length-map d.nodes word_of)) ∙ get_or-map word_of d.nodes i no_node)

  pub table_filled : Filled d.nodes table
  unfolding held_nodes
  table_filled = record {
    marked = record { at_no = refl; at_yes = refl };
    held =
        ext_get_or no_node (nodes_held (length d.nodes) table) d.nodes (length_held (length d.nodes) (nodes_in table).step (nodes_in table).lo (nodes_in table).hi) (λ i h.
        let l : i < length d.nodes = omega (arith, length_held (length d.nodes) (nodes_in table).step (nodes_in table).lo (nodes_in table).hi) in
        get_d_map_upto (λ (j : ℕ). held_node (nodes_in table).step (nodes_in table).lo (nodes_in table).hi (j + 2)) (length d.nodes) i no_node l
        ∙ node_at table (i + 2) ∙ ap unpacked (entry_is i l) ∙ word_is i l);
  }

module _ (d : Diagram) (step lo hi : List ℕ) (held : Held d step lo hi) where
  module _ (n : ℕ) (h : 2 ≤ n) (l : n < size d) where
    pub held_inner : inner d n ≡ held_node step lo hi n
    held_inner = ap (λ (x : List InnerNode). get_or x (n - 2) no_node) (sym held.nodes) ∙ get_d_held (length d.nodes) step lo hi n h l

    pub held_step_lem : (inner d n).step ≡ get_or step n 0
    held_step_lem = ap (λ (x : InnerNode). x.step) held_inner

    pub held_lo : (inner d n).lo ≡ get_or lo n 0
    held_lo = ap (λ (x : InnerNode). x.lo) held_inner

    pub held_hi : (inner d n).hi ≡ get_or hi n 0
    held_hi = ap (λ (x : InnerNode). x.hi) held_inner
