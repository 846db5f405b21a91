-- One law for each way out of `read_diagram`, and what it asks of the head's body.
-- Assumes nothing.
use Prim.Native.Nat.{ℕ, ◌+◌, ◌≤◌, ◌<◌}
use Rattle.std.specs.Prelude.{Result, Ok, Err}
use mathlib.Core.Path.{◌≡◌, refl, sym, ◌∙◌, ap, ap₂}
use mathlib.Core.Bool.{Bool, true, false}
use mathlib.Core.List.{List, [], ◌∷◌, ◌++◌, map}
use lib.Dec.{leb, eqb}
use lib.ListN.{length, take, set, length-set, take-append-drop}
use lib.Seq.{drop-set-lt}
use native.Mathlib.Omega.{arith}
use borrow.Author.Tests.{eq-eqb, ne_eqb, le-leb, lt-leb}
use Rattle.definitions.specs.Basics.{pick}
use Rattle.definitions.specs.Fields.{two, part, only, first_field, on_field, Scan}
use Rattle.definitions.specs.Diagrams.{InnerNode, diagram_read, diagram_refused, with_nodes, scan_nodes, read_diagram}
use Rattle.definitions.specs.Refusals.{number}
use Rattle.definitions.specs.declared.Refusal.{Refusal}
use Rattle.definitions.specs.declared.Refusal.TheVariants.{Tag, NodeLimit}
use Rattle.definitions.specs.declared.Field.{Field}
use Rattle.definitions.specs.declared.Field.TheVariants.{Absent, Faulty, Passed, Whole}
use Rattle.fields.specs.First.{first_length}
use Rattle.fields.specs.Positions.{number_some}
use Rattle.fields.specs.declared.fault.Stopped.{Stopped}
use Rattle.unique_table.specs.Tables.{UniqueTable}
use Rattle.diagram_fields.specs.Words.{word_of, leaf}
use Rattle.diagram.specs.Files.{Room, NodesEnd, nodes_end, table_with, diagram_end, diagram_answer, Reads}
use Rattle.diagram.specs.Turns.{Stored, Over, Rest}
use Rattle.diagram.proofs.Nodes.{nothing_stored}
use Rattle.diagram.specs.declared.reader.DiagramSizes.{DiagramSizes}

-- the table with its entries 0 and 1 marked
abbrev marks : List ℕ → ℕ → List ℕ
marks words w = set (set words 0 w) 1 w

marks_front : (words : List ℕ) (w : ℕ) → length words ≡ 512 → take 2 (marks words w) ≡ w ∷ w ∷ []
marks_front [] w h = absurd (omega arith)
marks_front (a ∷ []) w h = absurd (omega arith)
marks_front (a ∷ b ∷ r) w h = refl

module _ (words : List ℕ) (w : ℕ) (is : w ≡ word_of leaf) (room : Room words) where
  pub marks_room : Room (marks words w)
  marks_room = record { long = length-set (set words 0 w) 1 w ∙ length-set words 0 w ∙ room.long }

  -- nodes stored in the marked table
  marks_table : (passed : List InnerNode) (words' : List ℕ) → Stored passed (marks words w) words' → words' ≡ table_with passed words
  marks_table passed words' f =
      let n = length passed + 2 in
      let front = f.front ∙ ap (λ (l : List ℕ). l ++ map word_of passed) (marks_front words w room.long ∙ ap (λ (k : ℕ). k ∷ k ∷ []) is) in
      let rest = f.rest ∙ drop-set-lt n (set words 0 w) 1 w (omega arith) ∙ drop-set-lt n words 0 w (omega arith) in
      sym (take-append-drop n words') ∙ ap₂ (λ (a b : List ℕ). a ++ b) front rest

-- what `with_nodes` chooses
module _ (root : ℕ) (x : Scan InnerNode) where
  with_bad : (x.number ≡ 0 → ⊥) → with_nodes root x ≡ diagram_read x.number x.place root x.passed
  unfolding pick
  with_bad n = simp (ne_eqb x.number 0 n)

  with_root : x.number ≡ 0 → length x.passed + 2 ≤ root → with_nodes root x ≡ diagram_read 6 0 root x.passed
  unfolding pick
  with_root z l = simp (eq-eqb x.number 0 z, le-leb (length x.passed + 2) root l)

  with_good : x.number ≡ 0 → root < length x.passed + 2 → with_nodes root x ≡ diagram_read 0 0 root x.passed
  unfolding pick
  with_good z l = simp (eq-eqb x.number 0 z, lt-leb (length x.passed + 2) root l)

  -- in each choice the nodes are those that passed
  with_passed : (with_nodes root x).diagram.nodes ≡ x.passed
  unfolding pick
  with_passed = go (eqb x.number 0) refl (leb (length x.passed + 2) root) refl
    where
      go : (t : Bool) → eqb x.number 0 ≡ t → (v : Bool) → leb (length x.passed + 2) root ≡ v → (with_nodes root x).diagram.nodes ≡ x.passed
      go false p v q = rw p refl
      go true p true q = rw (p, q) refl
      go true p false q = rw (p, q) refl

-- ---- behind the head

module _ (mode : Bool) (s : List ℕ) (first root groups : ℕ) (words words' : List ℕ) (t : UniqueTable) where
  abbrev x : Scan InnerNode
  x = scan_nodes mode s groups first

  -- the answer, where the definition's choice is known
  chosen : (o : Result ℕ (Stopped ℕ)) → Over mode s first groups words t o → t.nodes ≡ words' → (r : Result DiagramSizes (Stopped DiagramSizes)) (k p : ℕ)
      → diagram_end r ≡ record { number = k; place = p; root = root; nodes = (nodes_end o).nodes }
      → with_nodes root x ≡ diagram_read k p root x.passed → Rest mode s first root groups words words' r
  chosen o over ends r k p q choice = record {
    answer = q ∙ ap (λ (n : ℕ). record { number = k; place = p; root = root; nodes = n }) (ap (λ (v : NodesEnd). v.nodes) over.answer) ∙ ap diagram_answer (sym choice);
    stored = rw (← ends) over.stored;
  }

  module _ (e : Stopped ℕ) (over : Over mode s first groups words t (Err e)) (ends : t.nodes ≡ words') where
    pub rest_bad : Rest mode s first root groups words words' (Err (record { fault = e.fault; passed = record { root = root; nodes = e.passed } }))
    rest_bad =
        let k = ap (λ (v : NodesEnd). v.number) over.answer in
        let p = ap (λ (v : NodesEnd). v.place) over.answer in
        chosen (Err e) over ends _ (number e.fault.refusal) e.fault.place refl
        (rw (k, p) (with_bad root x (λ z. omega (arith, number_some e.fault.refusal, k, z))))

  module _ (n : ℕ) (over : Over mode s first groups words t (Ok n)) (ends : t.nodes ≡ words') where
    none_bad : x.number ≡ 0
    none_bad = sym (ap (λ (v : NodesEnd). v.number) over.answer)

    count_is : n ≡ length x.passed
    count_is = ap (λ (v : NodesEnd). v.nodes) over.answer

    pub rest_root : n + 2 ≤ root → (e : Stopped DiagramSizes) → e ≡ record { fault = record { refusal = NodeLimit; place = 0 }; passed = record { root = root; nodes = n } }
        → Rest mode s first root groups words words' (Err e)
    rest_root l e q = chosen (Ok n) over ends (Err e) 6 0 (rw q refl) (with_root root x none_bad (omega (arith, count_is)))

    pub rest_good : root < n + 2 → Rest mode s first root groups words words' (Ok (record { root = root; nodes = n }))
    rest_good l = chosen (Ok n) over ends _ 0 0 refl (with_good root x none_bad (omega (arith, count_is)))

-- ---- the whole file

module _ (mode : Bool) (s : List ℕ) (groups : ℕ) (words : List ℕ) (room : Room words) (w : ℕ) (is : w ≡ word_of leaf) (r : Field) (given : r ≡ first_field s (only 17 2)) where
  -- a head that is not whole
  no_head : (k : Refusal) (p : ℕ) (e : Stopped DiagramSizes) → e ≡ record { fault = record { refusal = k; place = p }; passed = record { root = 0; nodes = 0 } }
      → read_diagram mode s groups ≡ diagram_refused (number k) p → Reads mode s groups words (marks words w) (Err e)
  no_head k p e v q = record {
    answer = rw (q, v) refl;
    table = rw q (marks_table words w is room [] (marks words w) (nothing_stored (marks words w) (marks_room words w is room)));
  }

  pub whole_absent : r ≡ Absent → (e : Stopped DiagramSizes) → e ≡ record { fault = record { refusal = Tag; place = 0 }; passed = record { root = 0; nodes = 0 } }
      → Reads mode s groups words (marks words w) (Err e)
  unfolding read_diagram on_field
  whole_absent found e v = no_head Tag 0 e v (rw (← given, found) refl)

  pub whole_faulty : (k : Refusal) (p : ℕ) → r ≡ Faulty k p → (e : Stopped DiagramSizes)
      → e ≡ record { fault = record { refusal = k; place = p }; passed = record { root = 0; nodes = 0 } } → Reads mode s groups words (marks words w) (Err e)
  unfolding read_diagram on_field
  whole_faulty k p found e v = no_head k p e v (rw (← given, found) refl)

  pub whole_over : (f : ℕ) → r ≡ Passed f → (e : Stopped DiagramSizes) → e ≡ record { fault = record { refusal = Tag; place = 0 }; passed = record { root = 0; nodes = 0 } }
      → Reads mode s groups words (marks words w) (Err e)
  unfolding read_diagram on_field
  whole_over f found e v = no_head Tag 0 e v (rw (← given, found) refl)

  module _ (p a e : ℕ) (found : r ≡ Whole p a e) (root : ℕ) (ro : root ≡ two (part s a e) 0) where
    read_is : read_diagram mode s groups ≡ with_nodes root (scan_nodes mode s groups e)
    unfolding read_diagram on_field
    read_is = rw (← given, found, ro) refl

    pub whole_rest : (words' : List ℕ) (x : Result DiagramSizes (Stopped DiagramSizes)) → Rest mode s e root groups (marks words w) words' x → Reads mode s groups words words' x
    whole_rest words' x rest = record {
      answer = rw read_is rest.answer;
      table =
          rw read_is (rw (with_passed root (scan_nodes mode s groups e)) (marks_table words w is room (scan_nodes mode s groups e).passed words' rest.stored));
    }

-- the head's body holds its number
pub whole_word : (s : List ℕ) (r : Field) → r ≡ first_field s (only 17 2) → (p a e : ℕ) → r ≡ Whole p a e → 0 + 1 < length (part s a e)
whole_word s r given p a e found = omega (arith, first_length s 17 2 p a e r given found)

pub ruleset whole-laws = (whole_absent, whole_faulty, whole_over, whole_word, whole_rest)
