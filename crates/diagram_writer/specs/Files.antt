-- The diagram that stands in a unique table, and its file as it is written node by node.
-- Assumes nothing.
use Rattle.std.specs.Prelude.{ℕ, ◌+◌, ◌-◌, ◌*◌, ◌≤◌, ◌<◌, ◌≡◌, List, length, get_or, take, drop}
use Rattle.std.proofs.Common.{sym, ◌∙◌, ap, subst, arith, length-take, length-drop}
use Rattle.std.proofs.lemmas.List.{get_or-take, get_or-drop}
use Rattle.definitions.specs.Answers.{file_answer, Filed}
use Rattle.definitions.specs.Basics.{each}
use Rattle.definitions.specs.Bytes.{root_bytes, node_bytes, diagram_bytes}
use Rattle.definitions.specs.Diagrams.{InnerNode, Diagram, no_node}
use Rattle.definitions.specs.declared.Answer.{Answer}
use Rattle.buffer.specs.Appending.{Appended}
use Rattle.buffer.specs.Appends.{append_both}
use Rattle.diagram_fields.specs.Words.{step_of, lo_of, hi_of, unpacked}
use Rattle.field_writer.specs.Sizes.{diagram_long}
use Rattle.file_answers.specs.Files.{filed_short, filed_whole}
use Rattle.unique_table.specs.Nodes.{nodes_long, node_listed}
use Rattle.unique_table.specs.Tables.{UniqueTable, inner_node, Table, count_in, nodes_in}

abbrev pub drawn : ℕ → UniqueTable → Diagram
drawn root t = record { root = root; nodes = nodes_in t }

module _ (t : UniqueTable) where
  -- the words that the code reads, from 2 on: as many as the nodes
  module _ (count : ℕ) (table : Table t) (is-count : count ≡ count_in t) where
    abbrev words : List ℕ
    words = take (count + 2 - 2) (drop 2 t.nodes)

    pub words_long : length words ≡ length (nodes_in t)
    words_long = omega (arith, is-count, nodes_long t, table.few, table.nodes_long, length-take (count + 2 - 2) (drop 2 t.nodes), length-drop 2 t.nodes)

    -- one node written is the table's next
    pub node_appended : {k v l h : ℕ} {out out' : List ℕ} {at r : ℕ} → k < length words
        → v ≡ step_of (get_or words k 0) → l ≡ lo_of (get_or words k 0) → h ≡ hi_of (get_or words k 0)
        → Appended out at (node_bytes (inner_node v l h)) out' r → Appended out at (node_bytes (get_or (nodes_in t) k no_node)) out' r
    node_appended {k} {v} {l} {h} {out} {out'} {at} {r} b ev el eh p =
        let sum : 2 + k ≡ k + 2 = omega arith in
        let stands : get_or words k 0 ≡ get_or t.nodes (k + 2) 0 =
        get_or-take (count + 2 - 2) (drop 2 t.nodes) k 0 (omega (arith, b, words_long, nodes_long t, is-count)) ∙ get_or-drop 2 t.nodes k 0 ∙ ap (λ (i : ℕ). get_or t.nodes i 0) sum in
        let written : inner_node v l h ≡ unpacked (get_or words k 0) = λ i. inner_node (ev i) (el i) (eh i) in
        subst (λ (x : InnerNode). Appended out at (node_bytes x) out' r) (written ∙ ap unpacked stands ∙ sym (node_listed t k (omega (arith, b, words_long, nodes_long t)))) p

  module _ (root bytes : ℕ) (is-bytes : bytes ≡ 5 + 9 * count_in t) (out : List ℕ) (r : Answer) (given : r ≡ file_answer bytes (length out)) where
    file_long : length (diagram_bytes (drawn root t)) ≡ bytes
    file_long = diagram_long (drawn root t) ∙ omega (arith, nodes_long t)

    pub diagram_short : length out < bytes → Filed (diagram_bytes (drawn root t)) out out r
    diagram_short h = filed_short (diagram_bytes (drawn root t)) out r bytes file_long given h

    pub diagram_whole : bytes ≤ length out → (out₁ out₂ : List ℕ) (at end : ℕ) → Appended out 0 (root_bytes root) out₁ at
        → Appended out₁ at (each node_bytes (nodes_in t)) out₂ end → Filed (diagram_bytes (drawn root t)) out out₂ r
    diagram_whole h out₁ out₂ at end p q =
        filed_whole (diagram_bytes (drawn root t)) out r bytes file_long given h out₂ end (append_both (omega arith) p q)
