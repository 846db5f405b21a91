-- The diagram of a diagram's reduced tree has no more nodes than the diagram: each of its nodes stands for one of the diagram's, and for no other node's.
-- Assumes nothing.
use Rattle.std.specs.Prelude.{ℕ, ◌+◌, ◌-◌, ◌≤◌, ◌<◌, ◌≡◌, refl, List, [], ◌⊎◌, length, get_or}
use Rattle.std.proofs.Common.{sym, ◌∙◌, ap, subst, inl, inr}
use native.Mathlib.Omega.{arith}
use Rattle.definitions.specs.Diagrams.{Diagram, size, inner}
use Rattle.definitions.specs.Reductions.{Tree, no_leaf, yes_leaf, branch, member, position, postorder, ref}
use Rattle.theory.specs.Basics.{either, lt_or_le}
use Rattle.theory.specs.Counting.{among}
use Rattle.theory.specs.Diagrams.{induction}
use Rattle.theory.specs.Limits.{Ordered}
use Rattle.reduction_theory.specs.Numbering.{get_d_member, Sub, whole, in_lo, in_hi, post_adds, branch_inj}
use Rattle.reduction_theory.specs.Reduction.{leaf_not_branch, ref_leaf, tree_leaf, tree_inner, posted, of_length, root_canon}
use Rattle.reduction_theory.specs.Trees.{tree, pruned, clash, tree_same, mk_same, mk_apart}

sub_cases : {u t : Tree} → Sub u t → (u ≡ t) ⊎ ((v : ℕ) × (l : Tree) × (h : Tree) × (t ≡ branch v l h) × (Sub u l ⊎ Sub u h))
sub_cases whole = inl refl
sub_cases (in_lo {v} {l} {h} s) = inr (v, l, h, refl, inl s)
sub_cases (in_hi {v} {l} {h} s) = inr (v, l, h, refl, inr s)

-- the place of a tree among nodes, by its reference
at_place : (nodes : List Tree) (i : ℕ) (t : Tree) → ref nodes t ≡ i + 2 → position t nodes ≡ i
unfolding ref
at_place nodes i no_leaf e = absurd (omega arith)
at_place nodes i yes_leaf e = absurd (omega arith)
at_place nodes i (branch v l h) e = omega arith

module _ (d : Diagram) (o : Ordered d) where
  abbrev Part : ℕ → Type 0
  Part n = (u : Tree) → n < size d → Sub u (tree d n) → (m : ℕ) × (u ≡ tree d m) × (m < size d)

  -- a part of a node's tree is a node's tree
  tree_part : (n : ℕ) → Part n
  tree_part = induction d o Part leaf node
    where
      leaf : (n : ℕ) → n < 2 → Part n
      leaf n h u b s = either (sub_cases s) (λ e. (n, e, b)) (λ z. leaf_not_branch n z.0 z.1 z.2 h (sym (tree_leaf d o n h) ∙ z.3))

      node : (n : ℕ) → 2 ≤ n → Part (inner d n).lo → Part (inner d n).hi → Part n
      node n h fl fh u b s =
          let lo-in : (inner d n).lo < size d = omega (arith, o.lo_below n h) in
          let hi-in : (inner d n).hi < size d = omega (arith, o.hi_below n h) in
          either (tree_same (tree d (inner d n).lo) (tree d (inner d n).hi))
          (λ e. fl u lo-in (subst (λ (t : Tree). Sub u t) (tree_inner d o n h ∙ mk_same _ _ _ e) s))
          (λ k. either (sub_cases s) (λ e. (n, e, b))
          (λ z. let p = branch_inj _ _ _ _ _ _ (sym z.3 ∙ tree_inner d o n h ∙ mk_apart _ _ _ k) in
          either z.4 (λ q. fl u lo-in (subst (λ (t : Tree). Sub u t) p.1 q)) (λ q. fh u hi-in (subst (λ (t : Tree). Sub u t) p.2 q))))

  module _ (b : d.root < size d) where
    abbrev left : List Tree
    left = postorder (tree d d.root) []

    -- the i-th node left by the walk is the tree of an inner node, which has its place among them
    placed : (i : ℕ) → i < length left → (j : ℕ) × (j < length d.nodes) × (position (tree d (j + 2)) left ≡ i)
    placed i h =
        either (post_adds (tree d d.root) (get_or left i no_leaf) [] (get_d_member left i h)) (λ q. clash (sym q ∙ unfold member in refl))
        (λ s. let x = tree_part d.root (get_or left i no_leaf) b s in by x.0 x.1 x.2 (lt_or_le x.0 2))
      where
        once : ref left (get_or left i no_leaf) ≡ i + 2
        once = (posted (tree d d.root) (root_canon d o)).good.once i h

        by : (m : ℕ) → get_or left i no_leaf ≡ tree d m → m < size d → (m < 2) ⊎ (2 ≤ m) → (j : ℕ) × (j < length d.nodes) × (position (tree d (j + 2)) left ≡ i)
        by m e l (inl k) = absurd (omega (arith, once, ap (ref left) (e ∙ tree_leaf d o m k), ref_leaf left m k))
        by m e l (inr k) =
            let q : m - 2 + 2 ≡ m = omega arith in
            (m - 2, omega arith, ap (λ (n : ℕ). position (tree d n) left) q ∙ at_place left i (tree d m) (ap (ref left) (sym e) ∙ once))

    pub pruned_small : length (pruned d).nodes ≤ length d.nodes
    unfolding pruned
    pruned_small =
        omega (
          arith,
          of_length (tree d d.root) (root_canon d o),
          among (length left) (length d.nodes) (λ i. i) (λ j. position (tree d (j + 2)) left) placed (λ i j hi hj e. e),
        )
