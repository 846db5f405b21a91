-- Reduced diagrams, for a reader: two that say yes to the same sets are equal, where the root stands, and that their files are read back, strictly too.
-- Assumes nothing.
use Rattle.std.specs.Prelude.{ℕ, zero, suc, ◌+◌, ◌≤◌, ◌<◌, ◌≡◌, refl, Bool, List, [], ◌∷◌, ◌++◌, length, get_or}
use Rattle.std.proofs.Common.{sym, ◌∙◌, ap, arith, length-append}
use Rattle.std.proofs.Math.Seq.{get_or-append_seam}
use Rattle.definitions.specs.Basics.{run}
use Rattle.definitions.specs.Bytes.{diagram_bytes}
use Rattle.definitions.specs.Diagrams.{Diagram, DiagramRead, size, inner, lenient, read_diagram}
use Rattle.definitions.specs.Reductions.{accepts, walk, Reduced}
use Rattle.theory.specs.Basics.{pick_false, true_not_false}
use Rattle.theory.specs.Limits.{Ordered, Sound, Unpadded}
use Rattle.field_writer.specs.RoundTrip.{diagram_read_back}
use Rattle.reduction_theory.specs.Reduction.{same_pruned}
use Rattle.reduction_theory.specs.Reduced.{walk_leaf, walk_inner, reduced_fixed}

-- Two reduced diagrams that say yes to the same sets are equal
pub reduced_same : (d e : Diagram) → Ordered d → Ordered e → Reduced d → Reduced e → ((s : ℕ → Bool) → accepts d s ≡ accepts e s) → d ≡ e
reduced_same d e o p r q a = sym (reduced_fixed d o r) ∙ same_pruned d e o p a ∙ reduced_fixed e p q

length_run : (i n : ℕ) → length (run i n) ≡ n
length_run i zero = refl
length_run i (suc n) = ap suc (length_run (suc i) n)

get_d_run : (i n j : ℕ) → j < n → get_or (run i n) j 0 ≡ i + j
get_d_run i zero j h = absurd (omega arith)
get_d_run i (suc n) zero h = omega arith
get_d_run i (suc n) (suc j) h = get_d_run (suc i) n j (omega arith) ∙ omega arith

module _ (d : Diagram) (o : Ordered d) (r : Reduced d) where
  -- with the root 0 or 1 there are no inner nodes
  pub root_alone : d.root < 2 → length d.nodes ≡ 0
  root_alone h = sym (length_run 2 (length d.nodes)) ∙ ap length (sym r.walked ∙ walk_leaf d o d.root [] h)

  -- an inner root is the last node
  pub root_last : 2 ≤ d.root → d.root + 1 ≡ size d
  root_last h =
      let before = walk d (inner d d.root).hi (walk d (inner d d.root).lo []) in
      let ends : run 2 (length d.nodes) ≡ before ++ d.root ∷ [] = sym r.walked ∙ walk_inner d o d.root [] h ∙ pick_false _ _ _ refl in
      let long : length d.nodes ≡ length before + 1 = sym (length_run 2 (length d.nodes)) ∙ ap length ends ∙ length-append before (d.root ∷ []) in
      let last : 2 + length before ≡ d.root =
      sym (get_d_run 2 (length d.nodes) (length before) (omega arith)) ∙ ap (λ (l : List ℕ). get_or l (length before) 0) ends ∙ get_or-append_seam before d.root [] 0 in
      omega arith

pub reduced_unpadded : (d : Diagram) → Reduced d → Unpadded d
reduced_unpadded d r = record { unlike = r.unlike; forked = r.forked }

-- ---- files

module _ (n : ℕ) (d : Diagram) (p : Sound n d) where
  -- within the limits the file of a reduced diagram is accepted over the same chart, strictly and not, and gives it back
  pub reduced_read : Reduced d → (mode : Bool) → read_diagram mode (diagram_bytes d) n ≡ record { number = 0; place = 0; diagram = d }
  reduced_read r mode = diagram_read_back n d p mode (λ e. reduced_unpadded d r)

  -- no other diagram has the same file
  pub bytes_same : (e : Diagram) → Sound n e → diagram_bytes d ≡ diagram_bytes e → d ≡ e
  bytes_same e q s =
      ap (λ (x : DiagramRead). x.diagram)
      (sym (diagram_read_back n d p lenient (λ z. absurd (true_not_false (sym z)))) ∙ ap (λ (t : List ℕ). read_diagram lenient t n) s
      ∙ diagram_read_back n e q lenient (λ z. absurd (true_not_false (sym z))))
