-- Laws of the conjunction of two trees (`meet`): it is reduced, it says yes exactly where both do, and how one step takes it apart.
-- Assumes nothing.
use Rattle.std.specs.Prelude.{ℕ, suc, ◌≤◌, ◌<◌, ◌≡◌, refl, Bool, true, false, ◌&&◌, ltb, eqb}
use Rattle.std.proofs.Common.{sym, ◌∙◌, ap, arith, lt-ltb, le-ltb, eq-eqb, ne_eqb}
use Rattle.definitions.specs.Basics.{pick}
use Rattle.definitions.specs.Diagrams.{Diagram, inner}
use Rattle.definitions.specs.Reductions.{Tree, mk, no_leaf, yes_leaf, branch}
use Rattle.theory.specs.Basics.{pick_true, pick_false, Order, order, less, same, more}
use Rattle.theory.specs.Limits.{Ordered}
use Rattle.reduction_theory.specs.Trees.{says, tree, meet_node, meet, Canon, mk_canon, pick_both, mk_says, canonical}
use Rattle.reduction_theory.specs.Reduction.{tree_inner, tree_canon, root_canon}

-- what one meet is to be
abbrev Meets : Tree → Tree → Tree → Type 0
Meets t u r = ((s : ℕ → Bool) → says r s ≡ (says t s && says u s)) × ((k : ℕ) → Canon k t → Canon k u → Canon k r)

and_false : (b : Bool) → (b && false) ≡ false
and_false true = refl
and_false false = refl

and_true : (b : Bool) → (b && true) ≡ b
and_true true = refl
and_true false = refl

pick_and : (b x y z w : Bool) → pick b (x && z) (y && w) ≡ (pick b x y && pick b z w)
unfolding pick
pick_and true x y z w = refl
pick_and false x y z w = refl

pick_and_left : (b x y z : Bool) → pick b (x && z) (y && z) ≡ (pick b x y && z)
unfolding pick
pick_and_left true x y z = refl
pick_and_left false x y z = refl

pick_and_right : (b x z w : Bool) → pick b (x && z) (x && w) ≡ (x && pick b z w)
unfolding pick
pick_and_right true x z w = refl
pick_and_right false x z w = refl

node_meets : (v : ℕ) (l h : Tree) (f g : Tree → Tree) → ((u : Tree) → Meets l u (f u)) → ((u : Tree) → Meets h u (g u))
    → (u : Tree) → Meets (branch v l h) u (meet_node v (branch v l h) f g u)
unfolding meet_node says
node_meets v l h f g il ih no_leaf = (λ s. sym (and_false (says (branch v l h) s)), λ k c d. tt)
node_meets v l h f g il ih yes_leaf = (λ s. sym (and_true (says (branch v l h) s)), λ k c d. c)
node_meets v l h f g il ih (branch w m n) =
    go (order v w) (node_meets v l h f g il ih m) (node_meets v l h f g il ih n)
  where
    r' : Tree
    r' = pick (ltb v w) (mk v (f (branch w m n)) (g (branch w m n))) (pick (eqb v w) (mk v (f m) (g n)) (mk w (meet_node v (branch v l h) f g m) (meet_node v (branch v l h) f g n)))

    go : Order v w → Meets (branch v l h) m (meet_node v (branch v l h) f g m) → Meets (branch v l h) n (meet_node v (branch v l h) f g n)
        → Meets (branch v l h) (branch w m n) r'
    go (less q) im in' =
        let e : r' ≡ mk v (f (branch w m n)) (g (branch w m n)) = pick_true _ _ _ (lt-ltb v w q) in
        rw e (
          λ s. mk_says v (f (branch w m n)) (g (branch w m n)) s ∙ rw ((il (branch w m n)).0 s, (ih (branch w m n)).0 s) (pick_and_left (s v) (says h s) (says l s) (says (branch w m n) s)),
          λ k c d. mk_canon k v (f (branch w m n)) (g (branch w m n)) c.0 ((il (branch w m n)).1 (suc v) c.1 (q, d.1, d.2, d.3)) ((ih (branch w m n)).1 (suc v) c.2 (q, d.1, d.2, d.3)),
        )
    go (same q) im in' =
        let e : r' ≡ mk v (f m) (g n) = pick_false _ _ _ (le-ltb v w (omega arith)) ∙ pick_true _ _ _ (eq-eqb v w q) in
        rw e (
          λ s. mk_says v (f m) (g n) s ∙ rw ((il m).0 s, (ih n).0 s, ← q) (pick_and (s v) (says h s) (says l s) (says n s) (says m s)),
          λ k c d. mk_canon k v (f m) (g n) c.0 ((il m).1 (suc v) c.1 (rw q d.1)) ((ih n).1 (suc v) c.2 (rw q d.2)),
        )
    go (more q) im in' =
        let lo = meet_node v (branch v l h) f g m in
        let hi = meet_node v (branch v l h) f g n in
        let e : r' ≡ mk w lo hi = pick_false _ _ _ (le-ltb v w (omega arith)) ∙ pick_false _ _ _ (ne_eqb v w (λ z. omega arith)) in
        rw e (
          λ s. mk_says w lo hi s ∙ rw (im.0 s, in'.0 s) (pick_and_right (s w) (says (branch v l h) s) (says n s) (says m s)),
          λ k c d. mk_canon k w lo hi d.0 (im.1 (suc w) (q, c.1, c.2, c.3) d.1) (in'.1 (suc w) (q, c.1, c.2, c.3) d.2),
        )

pub meets : (t u : Tree) → Meets t u (meet t u)
unfolding meet says
meets no_leaf u = (λ s. refl, λ k c d. tt)
meets yes_leaf u = (λ s. refl, λ k c d. d)
meets (branch v l h) u = node_meets v l h (meet l) (meet h) (meets l) (meets h) u

-- a tree taken apart at a variable: by its own node, or not at all where its variables come later
abbrev pub Splits : ℕ → Tree → Tree → Tree → Type 0
Splits v t l h = Canon v t × Canon (suc v) l × Canon (suc v) h × ((s : ℕ → Bool) → says t s ≡ pick (s v) (says h s) (says l s))

-- one step of the conjunction, whichever of the two trees has the variable
pub meet_step : (v : ℕ) (t l h u m k : Tree) → Splits v t l h → Splits v u m k → meet t u ≡ mk v (meet l m) (meet h k)
meet_step v t l h u m k x y =
    canonical (meet t u) v (mk v (meet l m) (meet h k)) ((meets t u).1 v x.0 y.0)
    (mk_canon v v (meet l m) (meet h k) (omega arith) ((meets l m).1 (suc v) x.1 y.1) ((meets h k).1 (suc v) x.2 y.2))
    (λ s. rw ((meets t u).0 s, mk_says v (meet l m) (meet h k) s, (meets h k).0 s, (meets l m).0 s, x.3 s, y.3 s) (sym (pick_and (s v) (says h s) (says l s) (says k s) (says m s))))

module _ (d : Diagram) (o : Ordered d) where
  -- at its own variable a node splits into its children
  pub splits_own : (n : ℕ) → 2 ≤ n → Splits (inner d n).step (tree d n) (tree d (inner d n).lo) (tree d (inner d n).hi)
  splits_own n h = (
    tree_canon d o n (inner d n).step (λ i. omega arith),
    tree_canon d o (inner d n).lo (suc (inner d n).step) (λ i. o.lo_later n h i),
    tree_canon d o (inner d n).hi (suc (inner d n).step) (λ i. o.hi_later n h i),
    λ s. ap (λ (t : Tree). says t s) (tree_inner d o n h) ∙ mk_says (inner d n).step (tree d (inner d n).lo) (tree d (inner d n).hi) s,
  )

  -- before it, not at all
  pub splits_not : (v n : ℕ) → (2 ≤ n → v < (inner d n).step) → Splits v (tree d n) (tree d n) (tree d n)
  splits_not v n h =
      (tree_canon d o n v (λ i. omega (arith, h i)), tree_canon d o n (suc v) h, tree_canon d o n (suc v) h, λ s. sym (pick_both (s v) (says (tree d n) s)))

-- the conjunction of two diagrams' trees is reduced and ordered
pub meet_canon : (d e : Diagram) → Ordered d → Ordered e → Canon 0 (meet (tree d d.root) (tree e e.root))
meet_canon d e o p = (meets _ _).1 0 (root_canon d o) (root_canon e p)
