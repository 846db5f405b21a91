-- A diagram that the reader accepts is within the limits: it is ordered, its steps exist, it has at most 510 inner nodes, and its root is one of its nodes; and it stands in the table.
-- Read strictly it holds no padding, and leniently it is the same.
-- Assumes nothing.
use Rattle.std.specs.Prelude.{ℕ, ◌+◌, ◌-◌, ◌≤◌, ◌<◌, Bool, not, List, [], ◌∷◌, ◌++◌, length, get_or, ◌⊎◌}
use Rattle.std.proofs.Math.Path.{◌≡◌, refl, ap}
use Rattle.std.proofs.Common.{sym, ◌∙◌, length-append, inl, inr, arith}
use Rattle.std.proofs.Math.Bool.{true, false}
use Rattle.std.proofs.Math.Dec.{leb, eqb}
use Rattle.std.proofs.Math.ListN.{get_or-append, get_or-eq_default}
use Rattle.std.proofs.Math.Seq.{get_or-append_seam}
use borrow.Author.Tests.{leb-false, eqb-false, ne_eqb}
use Rattle.definitions.specs.Basics.{pick}
use Rattle.definitions.specs.Fields.{two, part, only, first_field, on_field, Scan}
use Rattle.definitions.specs.Diagrams.{Diagram, InnerNode, no_node, size, inner, inner_node_of, strict, lenient, node_fault_after, DiagramRead, diagram_refused, with_nodes, node_grammar, scan_nodes, read_diagram}
use Rattle.theory.specs.Limits.{Ordered, Sound, Unpadded}
use Rattle.theory.specs.Padding.{unpadded, fault_within, fault_none}
use Rattle.definitions.specs.declared.Field.{Field}
use Rattle.definitions.specs.declared.Field.TheVariants.{Absent, Faulty, Passed, Whole}
use Rattle.fields.specs.Scans.{scan_milder, scan_keeps}
use Rattle.theory.specs.Basics.{pick_true, pick_false, either, lt_or_le, same_or_not, Order, less, same, more, order}
use Rattle.diagram.specs.Files.{table_with, Filled}
use Rattle.diagram.specs.Held.{table_filled}
use Rattle.diagram.specs.Limits.{Child, node_fits}

abbrev diagram : ℕ → List InnerNode → Diagram
diagram root nodes = record { root = root; nodes = nodes }

-- the limits without the root's
record Limited (root steps : ℕ) (nodes : List InnerNode) : Type 0 where
  ordered : Ordered (diagram root nodes)
  exist : (n : ℕ) → 2 ≤ n → n < length nodes + 2 → (inner (diagram root nodes) n).step < steps
  few : length nodes ≤ 510

module _ (root steps : ℕ) where
  none_limited : Limited root steps []
  none_limited = record {
    ordered = record {
      lo_below = λ n g. omega arith;
      hi_below = λ n g. omega arith;
      lo_later = λ n g i. absurd (omega arith);
      hi_later = λ n g i. absurd (omega arith);
    };
    exist = λ n g l. absurd (omega arith);
    few = omega arith;
  }

  module _ (xs : List InnerNode) (x : InnerNode) (was : Limited root steps xs) where
    abbrev next : Diagram
    next = diagram root (xs ++ x ∷ [])

    abbrev step_at : ℕ → ℕ
    step_at r = (get_or xs (r - 2) no_node).step

    old_node : (n : ℕ) → 2 ≤ n → n < length xs + 2 → inner next n ≡ inner (diagram root xs) n
    old_node n g h = get_or-append xs (x ∷ []) no_node (n - 2) (omega arith)

    new_node : (n : ℕ) → n ≡ length xs + 2 → inner next n ≡ x
    new_node n h = let q : n - 2 ≡ length xs = omega arith in rw q (get_or-append_seam xs x [] no_node)

    past_node : (n : ℕ) → length xs + 2 < n → inner next n ≡ no_node
    past_node n h = get_or-eq_default (xs ++ x ∷ []) no_node (omega (arith, length-append xs (x ∷ [])))

    step' : {a b : InnerNode} → a ≡ b → a.step ≡ b.step
    step' e = ap (λ (y : InnerNode). y.step) e

    -- what holds of one of the children at each node holds after one more node
    child_added : (f : InnerNode → ℕ) → f no_node ≡ 0 → Child step_at (length xs + 2) x.step (f x)
        → ((n : ℕ) → 2 ≤ n → Child (λ r. (inner (diagram root xs) r).step) n (inner (diagram root xs) n).step (f (inner (diagram root xs) n)))
        → (n : ℕ) → 2 ≤ n → Child (λ r. (inner next r).step) n (inner next n).step (f (inner next n))
    child_added f zero fits before n g = go (order n (length xs + 2))
      where
        go : Order n (length xs + 2) → Child (λ r. (inner next r).step) n (inner next n).step (f (inner next n))
        go (less l) =
            let e = ap f (old_node n g l) in
            let w = before n g in
            record {
              below = omega (arith, w.below);
              later = λ i. let j : 2 ≤ f (inner (diagram root xs) n) = omega arith in
                  rw e (omega (arith, step' (old_node n g l), step' (old_node (f (inner (diagram root xs) n)) j (omega (arith, w.below))), w.later j));
            }
        go (same q) =
            let e = ap f (new_node n q) in
            record {
              below = omega (arith, fits.below);
              later = λ i. let j : 2 ≤ f x = omega arith in
                  rw e (omega (arith, step' (new_node n q), step' (old_node (f x) j fits.below), fits.later j));
            }
        go (more m) = let e = ap f (past_node n m) in record { below = omega arith; later = λ i. absurd (omega arith) }

    node_added : (length xs < 510) → x.step < steps → Child step_at (length xs + 2) x.step x.lo → Child step_at (length xs + 2) x.step x.hi
        → Limited root steps (xs ++ x ∷ [])
    node_added few exists low high =
        let o = was.ordered in
        let l = child_added (λ y. y.lo) refl low (λ n g. record { below = o.lo_below n g; later = o.lo_later n g }) in
        let h = child_added (λ y. y.hi) refl high (λ n g. record { below = o.hi_below n g; later = o.hi_later n g }) in
        record {
          ordered = record { lo_below = λ n g. (l n g).below; hi_below = λ n g. (h n g).below; lo_later = λ n g. (l n g).later; hi_later = λ n g. (h n g).later };
          exist = λ n g i.
              either (lt_or_le n (length xs + 2)) (λ j. omega (arith, step' (old_node n g j), was.exist n g j))
              (λ j. let q : n ≡ length xs + 2 = omega (arith, length-append xs (x ∷ [])) in omega (arith, step' (new_node n q)));
          few = omega (arith, length-append xs (x ∷ []));
        }

  scanned : (mode : Bool) (s : List ℕ) (at : ℕ) → Limited root steps (scan_nodes mode s steps at).passed
  scanned mode s at =
      scan_keeps s (node_grammar mode steps) (Limited root steps)
      (λ at q a e before w t was.
      let f = node_fits steps (λ r. (get_or before (r - 2) no_node).step) (length before) (part s a e) (sym (fault_none mode steps before (part s a e) t).0) in
      node_added before (inner_node_of (part s a e)) was f.few f.exists f.lo f.hi)
      (length s) at [] none_limited

  -- where the nodes pass, the root is tested
  rooted : (x : Scan InnerNode) → Limited root steps x.passed → (with_nodes root x).number ≡ 0 → Sound steps (with_nodes root x).diagram
  unfolding pick
  rooted x l e = go (eqb x.number 0) refl (leb (length x.passed + 2) root) refl
    where
      go : (t : Bool) → eqb x.number 0 ≡ t → (u : Bool) → leb (length x.passed + 2) root ≡ u → Sound steps (with_nodes root x).diagram
      go false p u q = absurd (eqb-false x.number 0 p (rw p at e))
      go true p true q = let z : ◌≡◌ {A = ℕ} 6 0 = rw (p, q) at e in absurd (omega arith)
      go true p false q = rw (p, q) (record { ordered = l.ordered; exist = l.exist; few = l.few; root_inside = leb-false (length x.passed + 2) root q })

abbrev read_from : Bool → List ℕ → ℕ → Field → DiagramRead
read_from mode s steps r =
    on_field r (diagram_refused 2 0) diagram_refused (λ end. diagram_refused 2 0) (λ place start end. with_nodes (two (part s start end) 0) (scan_nodes mode s steps end))

from_field : (mode : Bool) (s : List ℕ) (steps : ℕ) (r : Field) → (read_from mode s steps r).number ≡ 0 → Sound steps (read_from mode s steps r).diagram
unfolding on_field
from_field mode s steps Absent e = absurd (omega arith)
from_field mode s steps (Passed p) e = absurd (omega arith)
from_field mode s steps (Faulty k p) e =
    let l = none_limited 0 steps in
    record { ordered = l.ordered; exist = l.exist; few = l.few; root_inside = omega arith }
from_field mode s steps (Whole p a b) e = rooted (two (part s a b) 0) steps (scan_nodes mode s steps b) (scanned (two (part s a b) 0) steps mode s b) e

pub diagram_accepted : (mode : Bool) (s : List ℕ) (steps : ℕ) → (read_diagram mode s steps).number ≡ 0 → Sound steps (read_diagram mode s steps).diagram
unfolding read_diagram
diagram_accepted mode s steps = from_field mode s steps (first_field s (only 17 2))

-- an accepted diagram stands in the table
pub accepted_filled : (mode : Bool) (s : List ℕ) (steps : ℕ) → (read_diagram mode s steps).number ≡ 0 → steps ≤ 1024 → (words words' : List ℕ)
    → words' ≡ table_with (read_diagram mode s steps).diagram.nodes words → Filled (read_diagram mode s steps).diagram.nodes words'
accepted_filled mode s steps passes few words words' e =
    rw e (table_filled steps (read_diagram mode s steps).diagram (diagram_accepted mode s steps passes) few words)

-- ---- what is read strictly holds no padding

module _ (root : ℕ) where
  none_unpadded : Unpadded (diagram root [])
  none_unpadded = record { unlike = λ m n g h i j e. absurd (omega arith); forked = λ n g h e. omega arith }

  module _ (xs : List InnerNode) (x : InnerNode) (was : Unpadded (diagram root xs)) (apart : x.lo ≡ x.hi → ⊥)
      (new : (i : ℕ) → i < length xs → get_or xs i no_node ≡ x → ⊥) where
    abbrev grown : Diagram
    grown = diagram root (xs ++ x ∷ [])

    -- an inner node is one of those before, or the new one
    which : (n : ℕ) → 2 ≤ n → n < size grown → ((n < length xs + 2) × (inner grown n ≡ inner (diagram root xs) n)) ⊎ ((n ≡ length xs + 2) × (inner grown n ≡ x))
    which n g h =
        either (lt_or_le n (length xs + 2)) (λ l. inl (l, get_or-append xs (x ∷ []) no_node (n - 2) (omega arith)))
        (λ l. let q : n ≡ length xs + 2 = omega (arith, length-append xs (x ∷ [])) in
        let r : n - 2 ≡ length xs = omega arith in
        inr (q, rw r (get_or-append_seam xs x [] no_node)))

    unlike_grown : (m n : ℕ) → 2 ≤ m → m < size grown → 2 ≤ n → n < size grown → inner grown m ≡ inner grown n → m ≡ n
    unlike_grown m n g h i j e =
        either (which m g h)
        (λ a. either (which n i j) (λ b. was.unlike m n g a.0 i b.0 (sym a.1 ∙ e ∙ b.1)) (λ b. absurd (new (m - 2) (omega (arith, a.0)) (sym a.1 ∙ e ∙ b.1))))
        (λ a. either (which n i j) (λ b. absurd (new (n - 2) (omega (arith, b.0)) (sym b.1 ∙ sym e ∙ a.1))) (λ b. omega (arith, a.0, b.0)))

    pub unpadded_grown : Unpadded (diagram root (xs ++ x ∷ []))
    unpadded_grown = record {
      unlike = unlike_grown;
      forked = λ n g h e.
          either (which n g h) (λ a. was.forked n g a.0 (ap (λ (y : InnerNode). y.lo) (sym a.1) ∙ e ∙ ap (λ (y : InnerNode). y.hi) a.1))
          (λ a. apart (ap (λ (y : InnerNode). y.lo) (sym a.1) ∙ e ∙ ap (λ (y : InnerNode). y.hi) a.1));
    }

  strictly : (s : List ℕ) (steps at : ℕ) → Unpadded (diagram root (scan_nodes strict s steps at).passed)
  strictly s steps at =
      scan_keeps s (node_grammar strict steps) (λ xs. Unpadded (diagram root xs))
      (λ at q a e before w t was.
      let x = inner_node_of (part s a e) in
      let u = unpadded before x (fault_none strict steps before (part s a e) t).1 in
      unpadded_grown before x was u.0 u.1)
      (length s) at [] none_unpadded

  with_unpadded : (x : Scan InnerNode) → Unpadded (diagram root x.passed) → Unpadded (with_nodes root x).diagram
  unfolding pick
  with_unpadded x u = go (eqb x.number 0) refl (leb (length x.passed + 2) root) refl
    where
      go : (t : Bool) → eqb x.number 0 ≡ t → (v : Bool) → leb (length x.passed + 2) root ≡ v → Unpadded (with_nodes root x).diagram
      go false p v q = rw p u
      go true p true q = rw (p, q) u
      go true p false q = rw (p, q) u

field_unpadded : (s : List ℕ) (steps : ℕ) (r : Field) → Unpadded (read_from strict s steps r).diagram
unfolding on_field
field_unpadded s steps Absent = none_unpadded 0
field_unpadded s steps (Passed p) = none_unpadded 0
field_unpadded s steps (Faulty k p) = none_unpadded 0
field_unpadded s steps (Whole p a b) = with_unpadded (two (part s a b) 0) (scan_nodes strict s steps b) (strictly (two (part s a b) 0) s steps b)

pub diagram_unpadded : (s : List ℕ) (steps : ℕ) → Unpadded (read_diagram strict s steps).diagram
unfolding read_diagram
diagram_unpadded s steps = field_unpadded s steps (first_field s (only 17 2))

-- ---- what is accepted strictly is accepted leniently, as the same diagram

module _ (s : List ℕ) (steps : ℕ) where
  milder_fault : (before : List InnerNode) (tag : ℕ) (b : List ℕ) → node_fault_after strict steps before b ≡ 0 → node_fault_after lenient steps before b ≡ 0
  milder_fault before tag b e = fault_within lenient steps before b (fault_none strict steps before b e).0 ∙ pick_false _ _ _ refl

  same_nodes : (at : ℕ) → (scan_nodes strict s steps at).number ≡ 0 → scan_nodes lenient s steps at ≡ scan_nodes strict s steps at
  same_nodes at = scan_milder s (node_grammar strict steps) (λ before tag. node_fault_after lenient steps before) milder_fault (length s) at []

  scanned_number : (root : ℕ) (x : Scan InnerNode) → (with_nodes root x).number ≡ 0 → x.number ≡ 0
  scanned_number root x e =
      either (same_or_not x.number 0) (λ z. z)
      (λ n. ap (λ (y : DiagramRead). y.number) (sym (pick_true _ _ _ (ap not (ne_eqb x.number 0 n)))) ∙ e)

  by_field : (r : Field) → (read_from strict s steps r).number ≡ 0 → read_from lenient s steps r ≡ read_from strict s steps r
  unfolding on_field
  by_field Absent e = refl
  by_field (Passed p) e = refl
  by_field (Faulty k p) e = refl
  by_field (Whole p a b) e = ap (with_nodes (two (part s a b) 0)) (same_nodes b (scanned_number (two (part s a b) 0) (scan_nodes strict s steps b) e))

  pub strict_lenient : (read_diagram strict s steps).number ≡ 0 → read_diagram lenient s steps ≡ read_diagram strict s steps
  unfolding read_diagram
  strict_lenient = by_field (first_field s (only 17 2))
