-- Where a diagram has no padding, advancing a node does to its tree what hangs on the tree alone. So two such diagrams that say yes to the same sets go from tree to tree
-- alike, whatever their nodes' numbers are.
-- Assumes nothing.
use Rattle.std.specs.Prelude.{ℕ, ◌<◌, ◌≤◌, ◌≡◌, refl, Bool, true, false, eqb, ltb}
use Rattle.std.proofs.Common.{sym, ◌∙◌, ap, arith, lt-ltb, le-ltb, eq-eqb, ne_eqb}
use Rattle.definitions.specs.Basics.{pick}
use Rattle.definitions.specs.Diagrams.{Diagram, size, inner, advance}
use Rattle.definitions.specs.Reductions.{Tree, no_leaf, yes_leaf, branch}
use Rattle.theory.specs.Basics.{pick_true, pick_false, Order, less, same, more, order}
use Rattle.theory.specs.Diagrams.{induction, advance_leaf, advance_below, advance_at, advance_above}
use Rattle.theory.specs.Limits.{Ordered, Unpadded}
use Rattle.reduction_theory.specs.Reduced.{tree_node}
use Rattle.reduction_theory.specs.Reduction.{tree_leaf}
use Rattle.reduction_theory.specs.Trees.{leaf_tree, tree}

-- a tree, advanced by step v
unfoldable pub advanced : ℕ → Tree → Tree
advanced v no_leaf = no_leaf
advanced v yes_leaf = yes_leaf
advanced v (branch u l h) = let rest = advanced v l in pick (ltb u v) rest (pick (eqb u v) h (branch u l h))

leaf_stays : (v n : ℕ) → advanced v (leaf_tree n) ≡ leaf_tree n
unfolding leaf_tree advanced pick
leaf_stays v n = go (eqb n 1)
  where
    go : (b : Bool) → advanced v (pick b yes_leaf no_leaf) ≡ pick b yes_leaf no_leaf
    go true = refl
    go false = refl

module _ (v u : ℕ) (l h : Tree) where
  advanced_below : u < v → advanced v (branch u l h) ≡ advanced v l
  unfolding advanced
  advanced_below q = pick_true _ _ _ (lt-ltb u v q)

  advanced_at : u ≡ v → advanced v (branch u l h) ≡ h
  unfolding advanced
  advanced_at q = pick_false _ _ _ (le-ltb u v (omega arith)) ∙ pick_true _ _ _ (eq-eqb u v q)

  advanced_above : v < u → advanced v (branch u l h) ≡ branch u l h
  unfolding advanced
  advanced_above q = pick_false _ _ _ (le-ltb u v (omega arith)) ∙ pick_false _ _ _ (ne_eqb u v (λ e. omega arith))

module _ (d : Diagram) (o : Ordered d) (x : Unpadded d) (v : ℕ) where
  abbrev Goes : ℕ → Type 0
  Goes n = n < size d → tree d (advance d v n) ≡ advanced v (tree d n)

  pub advance_tree : (n : ℕ) → Goes n
  advance_tree = induction d o Goes leaf node
    where
      leaf : (n : ℕ) → n < 2 → Goes n
      leaf n h b = ap (tree d) (advance_leaf d o v n h) ∙ tree_leaf d o n h ∙ sym (leaf_stays v n) ∙ ap (advanced v) (sym (tree_leaf d o n h))

      node : (n : ℕ) → 2 ≤ n → Goes (inner d n).lo → Goes (inner d n).hi → Goes n
      node n h l r b = go (order (inner d n).step v)
        where
          is : tree d n ≡ branch (inner d n).step (tree d (inner d n).lo) (tree d (inner d n).hi)
          is = tree_node d o x.unlike x.forked n b h

          go : Order (inner d n).step v → tree d (advance d v n) ≡ advanced v (tree d n)
          go (less q) =
              ap (tree d) (advance_below d o v n h q) ∙ l (omega (arith, o.lo_below n h)) ∙ sym (ap (advanced v) is ∙ advanced_below v _ _ _ q)
          go (same q) = ap (tree d) (advance_at d o v n h q) ∙ sym (ap (advanced v) is ∙ advanced_at v _ _ _ q)
          go (more q) = ap (tree d) (advance_above d o v n h q) ∙ is ∙ sym (ap (advanced v) is ∙ advanced_above v _ _ _ q)
