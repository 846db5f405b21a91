-- Laws of the reduced tree of a diagram and of the diagram of a reduced tree: the first says what the diagram says, and the second has that tree again.
-- Assumes nothing.
use Prim.Native.Nat.{ℕ, zero, suc, ◌+◌, ◌-◌, ◌≤◌, ◌<◌}
use Rattle.std.specs.Prelude.{◌≡◌, Bool, List, []}
use Rattle.std.proofs.Math.Path.{refl, sym, ap}
use Rattle.std.proofs.Common.{◌∙◌, subst, arith}
use Rattle.std.proofs.Math.Bool.{true, false}
use Rattle.std.proofs.Math.Dec.{eqb}
use Rattle.std.proofs.Math.ListN.{length, get_or, length-map, get_or-map, get_or-eq_default}
use Rattle.definitions.specs.Basics.{pick}
use Rattle.definitions.specs.Diagrams.{InnerNode, Diagram, no_node, size, inner, verdict}
use Rattle.definitions.specs.Reductions.{postorder, ref, numbered, nodes_of, diagram_of, accepts, Tree, mk, no_leaf, yes_leaf, branch}
use Rattle.theory.specs.Limits.{Ordered}
use Rattle.theory.specs.Basics.{pick_true, pick_false, either, lt_or_le}
use Rattle.theory.specs.Diagrams.{induction, descend_leaf, descend_inner, verdict_leaf, verdict_inner}
use Rattle.reduction_theory.specs.Trees.{leaf_tree, tree, pruned, says, Canon, leaf_canon, leaf_says, mk_canon, mk_apart, mk_says, canonical}
use Rattle.reduction_theory.specs.Numbering.{held, tree_at, ref_at, tree_at_inner, Good, good_nil, Posted, post_laws}

-- ---- the trees of 0 and 1

pub leaf_not_branch : {X : Type 0} (n v : ℕ) (l h : Tree) → n < 2 → leaf_tree n ≡ branch v l h → X
unfolding leaf_tree pick
leaf_not_branch zero v l h q e = absurd (let z : ◌≡◌ {A = ℕ} 0 1 = cc in omega arith)
leaf_not_branch (suc zero) v l h q e = absurd (let z : ◌≡◌ {A = ℕ} 0 1 = cc in omega arith)
leaf_not_branch (suc (suc n)) v l h q e = absurd (omega arith)

pub ref_leaf : (acc : List Tree) (n : ℕ) → n < 2 → ref acc (leaf_tree n) ≡ n
unfolding ref leaf_tree pick
ref_leaf acc zero h = refl
ref_leaf acc (suc zero) h = refl
ref_leaf acc (suc (suc n)) h = absurd (omega arith)

-- ---- the tree of a node

module _ (d : Diagram) (o : Ordered d) where
  pub tree_leaf : (n : ℕ) → n < 2 → tree d n ≡ leaf_tree n
  unfolding tree
  tree_leaf n h = descend_leaf d o _ _ n h

  pub tree_inner : (n : ℕ) → 2 ≤ n → tree d n ≡ mk (inner d n).step (tree d (inner d n).lo) (tree d (inner d n).hi)
  unfolding tree
  tree_inner n h = descend_inner d o _ _ n h

  -- the tree is reduced and ordered, of variables from the node's on
  pub tree_canon : (n k : ℕ) → (2 ≤ n → k ≤ (inner d n).step) → Canon k (tree d n)
  tree_canon =
      induction d o (λ n. (k : ℕ) → (2 ≤ n → k ≤ (inner d n).step) → Canon k (tree d n))
      (λ n h k b. rw (tree_leaf n h) (unfold leaf_tree in leaf_canon k (eqb n 1)))
      (λ n h l r k b. rw (tree_inner n h) (mk_canon k (inner d n).step (tree d (inner d n).lo) (tree d (inner d n).hi) (b h)
      (l (suc (inner d n).step) (λ q. o.lo_later n h q)) (r (suc (inner d n).step) (λ q. o.hi_later n h q))))

  -- it says what the diagram says
  pub tree_says : (s : ℕ → Bool) (n : ℕ) → says (tree d n) s ≡ eqb (verdict d s n) 1
  tree_says s =
      induction d o (λ n. says (tree d n) s ≡ eqb (verdict d s n) 1)
      (λ n h. rw (tree_leaf n h, verdict_leaf d o s n h) (unfold leaf_tree in leaf_says (eqb n 1) s))
      (λ n h l r. rw (tree_inner n h, verdict_inner d o s n h)
      (mk_says (inner d n).step (tree d (inner d n).lo) (tree d (inner d n).hi) s ∙ go n (s (inner d n).step) l r))
    where
      go : (n : ℕ) (b : Bool) → says (tree d (inner d n).lo) s ≡ eqb (verdict d s (inner d n).lo) 1
          → says (tree d (inner d n).hi) s ≡ eqb (verdict d s (inner d n).hi) 1
          → pick b (says (tree d (inner d n).hi) s) (says (tree d (inner d n).lo) s) ≡ eqb (pick b (verdict d s (inner d n).hi) (verdict d s (inner d n).lo)) 1
      go n true l r = pick_true true _ _ refl ∙ r ∙ ap (λ (x : ℕ). eqb x 1) (sym (pick_true true _ _ refl))
      go n false l r = pick_false false _ _ refl ∙ l ∙ ap (λ (x : ℕ). eqb x 1) (sym (pick_false false _ _ refl))

  pub accepts_says : (s : ℕ → Bool) → accepts d s ≡ says (tree d d.root) s
  unfolding accepts
  accepts_says s = sym (tree_says s d.root)

-- diagrams that say yes to the same sets have the same tree, and so the same diagram of it
pub same_trees : (d e : Diagram) → Ordered d → Ordered e → ((s : ℕ → Bool) → accepts d s ≡ accepts e s) → tree d d.root ≡ tree e e.root
same_trees d e o p a =
    canonical (tree d d.root) 0 (tree e e.root) (tree_canon d o d.root 0 (λ h. omega arith)) (tree_canon e p e.root 0 (λ h. omega arith))
    (λ s. sym (accepts_says d o s) ∙ a s ∙ accepts_says e p s)

pub same_pruned : (d e : Diagram) → Ordered d → Ordered e → ((s : ℕ → Bool) → accepts d s ≡ accepts e s) → pruned d ≡ pruned e
unfolding pruned
same_pruned d e o p a = ap diagram_of (same_trees d e o p a)

-- the diagram of a good list of nodes
module _ (acc : List Tree) (g : Good acc) (root : ℕ) where
  abbrev made : Diagram
  made = record { root = root; nodes = nodes_of acc }

  pub made_inner : (n : ℕ) → inner made n ≡ numbered acc (get_or acc (n - 2) no_leaf)
  unfolding nodes_of numbered
  made_inner n = get_or-map (numbered acc) acc (n - 2) no_leaf

  -- an entry is a node with its children before it, or past the list
  data Entry (n : ℕ) : Type 0 where
    inside : (v : ℕ) (l h : Tree) → n < length acc + 2 → get_or acc (n - 2) no_leaf ≡ branch v l h
        → inner made n ≡ record { step = v; lo = ref acc l; hi = ref acc h } → Entry n
    outside : length acc + 2 ≤ n → inner made n ≡ no_node → Entry n

  entry : (n : ℕ) → 2 ≤ n → Entry n
  unfolding numbered ref
  entry n h =
      either (lt_or_le n (length acc + 2)) (λ q. go (get_or acc (n - 2) no_leaf) refl q)
      (λ q. outside q (made_inner n ∙ ap (numbered acc) (get_or-eq_default acc no_leaf (omega arith))))
    where
      go : (t : Tree) → get_or acc (n - 2) no_leaf ≡ t → n < length acc + 2 → Entry n
      go no_leaf e q = absurd (omega (arith, g.once (n - 2) (omega arith), ap (ref acc) e))
      go yes_leaf e q = absurd (omega (arith, g.once (n - 2) (omega arith), ap (ref acc) e))
      go (branch v l h) e q = inside v l h q e (made_inner n ∙ ap (numbered acc) e)

  -- what stands at a reference
  made_ref : (t : Tree) → held acc t ≡ true → 2 ≤ ref acc t → inner made (ref acc t) ≡ numbered acc t
  made_ref t e h = made_inner (ref acc t) ∙ ap (numbered acc) (sym (tree_at_inner acc (ref acc t) h) ∙ (ref_at t acc e).0)

  later : (v : ℕ) (t : Tree) → Canon (suc v) t → 2 ≤ ref acc t → v < (numbered acc t).step
  unfolding ref numbered
  later v no_leaf c h = absurd (omega arith)
  later v yes_leaf c h = absurd (omega arith)
  later v (branch w m k) c h = c.0

  made_later : (v : ℕ) (t : Tree) → held acc t ≡ true → Canon (suc v) t → 2 ≤ ref acc t → v < (inner made (ref acc t)).step
  made_later v t e c h = rw (made_ref t e h) (later v t c h)

  entry_canon : (n v : ℕ) (l h : Tree) → get_or acc (n - 2) no_leaf ≡ branch v l h → Canon 0 (branch v l h)
  entry_canon n v l h e = subst (λ (t : Tree). Canon 0 t) e (g.canon (n - 2))

  lo_of_lem : (n v : ℕ) (l h : Tree) → 2 ≤ n → n < length acc + 2 → get_or acc (n - 2) no_leaf ≡ branch v l h → (held acc l ≡ true) × (ref acc l < n)
  lo_of_lem n v l h b q e = let x = g.lo_held (n - 2) v l h (omega arith) e in (x.0, omega (arith, x.1))

  hi_of : (n v : ℕ) (l h : Tree) → 2 ≤ n → n < length acc + 2 → get_or acc (n - 2) no_leaf ≡ branch v l h → (held acc h ≡ true) × (ref acc h < n)
  hi_of n v l h b q e = let x = g.hi_held (n - 2) v l h (omega arith) e in (x.0, omega (arith, x.1))

  pub made_ordered : Ordered made
  made_ordered = record {
    lo_below = λ n b. lo_below n b (entry n b);
    hi_below = λ n b. hi_below n b (entry n b);
    lo_later = λ n b. lo_later n b (entry n b);
    hi_later = λ n b. hi_later n b (entry n b);
  }
    where
      lo_below : (n : ℕ) → 2 ≤ n → Entry n → (inner made n).lo < n
      lo_below n b (inside v l h q e i) = rw i (lo_of_lem n v l h b q e).1
      lo_below n b (outside q i) = rw i (omega arith)

      hi_below : (n : ℕ) → 2 ≤ n → Entry n → (inner made n).hi < n
      hi_below n b (inside v l h q e i) = rw i (hi_of n v l h b q e).1
      hi_below n b (outside q i) = rw i (omega arith)

      lo_later : (n : ℕ) → 2 ≤ n → Entry n → 2 ≤ (inner made n).lo → (inner made n).step < (inner made (inner made n).lo).step
      lo_later n b (inside v l h q e i) = rw i (λ r. made_later v l (lo_of_lem n v l h b q e).0 (entry_canon n v l h e).1 r)
      lo_later n b (outside q i) = rw i (λ r. absurd (omega arith))

      hi_later : (n : ℕ) → 2 ≤ n → Entry n → 2 ≤ (inner made n).hi → (inner made n).step < (inner made (inner made n).hi).step
      hi_later n b (inside v l h q e i) = rw i (λ r. made_later v h (hi_of n v l h b q e).0 (entry_canon n v l h e).2 r)
      hi_later n b (outside q i) = rw i (λ r. absurd (omega arith))

  leaf_at : (n : ℕ) → n < 2 → leaf_tree n ≡ tree_at acc n
  unfolding leaf_tree tree_at pick
  leaf_at zero h = refl
  leaf_at (suc zero) h = refl
  leaf_at (suc (suc n)) h = absurd (omega arith)

  -- the tree of a number is the list's
  pub tree_made : (n : ℕ) → n < length acc + 2 → tree made n ≡ tree_at acc n
  tree_made =
      induction made made_ordered (λ n. n < length acc + 2 → tree made n ≡ tree_at acc n)
      (λ n h b. tree_leaf made made_ordered n h ∙ leaf_at n h)
      (λ n h il ih b. tree_inner made made_ordered n h ∙ go n h b (entry n h) il ih)
    where
      go : (n : ℕ) → 2 ≤ n → n < length acc + 2 → Entry n
          → ((inner made n).lo < length acc + 2 → tree made (inner made n).lo ≡ tree_at acc (inner made n).lo)
          → ((inner made n).hi < length acc + 2 → tree made (inner made n).hi ≡ tree_at acc (inner made n).hi)
          → mk (inner made n).step (tree made (inner made n).lo) (tree made (inner made n).hi) ≡ tree_at acc n
      go n h b (outside q i) il ih = absurd (omega arith)
      go n h b (inside v l k q e i) il ih =
          let xl = lo_of_lem n v l k h q e in
          let xh = hi_of n v l k h q e in
          let il' : ref acc l < length acc + 2 → tree made (ref acc l) ≡ tree_at acc (ref acc l) = rw i at il in
          let ih' : ref acc k < length acc + 2 → tree made (ref acc k) ≡ tree_at acc (ref acc k) = rw i at ih in
          rw (i, il' (omega (arith, xl.1)), ih' (omega (arith, xh.1)), (ref_at l acc xl.0).0, (ref_at k acc xh.0).0)
          (mk_apart v l k (entry_canon n v l k e).3 ∙ sym e ∙ sym (tree_at_inner acc n h))

  pub made_length : length (nodes_of acc) ≡ length acc
  unfolding nodes_of
  made_length = length-map acc (numbered acc)

  -- no two alike: the node decides the tree, and a tree stands once
  pub made_unlike : (m n : ℕ) → 2 ≤ m → m < size made → 2 ≤ n → n < size made → inner made m ≡ inner made n → m ≡ n
  made_unlike m n h b i c e =
      let z = made_length in
      let b' : m < length acc + 2 = omega arith in
      let c' : n < length acc + 2 = omega arith in
      let same_tree : tree made m ≡ tree made n =
      tree_inner made made_ordered m h ∙ ap (λ (x : InnerNode). mk x.step (tree made x.lo) (tree made x.hi)) e ∙ sym (tree_inner made made_ordered n i) in
      let at : get_or acc (m - 2) no_leaf ≡ get_or acc (n - 2) no_leaf =
      sym (tree_at_inner acc m h) ∙ sym (tree_made m b') ∙ same_tree ∙ tree_made n c' ∙ tree_at_inner acc n i in
      omega (arith, g.once (m - 2) (omega arith), g.once (n - 2) (omega arith), ap (ref acc) at)

  -- none with lo equal to hi
  pub made_forked : (n : ℕ) → 2 ≤ n → n < size made → (inner made n).lo ≡ (inner made n).hi → ⊥
  made_forked n h b = go (entry n h)
    where
      go : Entry n → (inner made n).lo ≡ (inner made n).hi → ⊥
      go (outside q i) = absurd (omega (arith, made_length))
      go (inside v l k q e i) =
          rw i (λ f. (entry_canon n v l k e).3 (sym (ref_at l acc (lo_of_lem n v l k h q e).0).0 ∙ ap (tree_at acc) f ∙ (ref_at k acc (hi_of n v l k h q e).0).0))

-- the nodes of a reduced tree are a good list, and the diagram that they make has that tree
module _ (t : Tree) (c : Canon 0 t) where
  pub posted : Posted t [] (postorder t [])
  posted = post_laws t 0 [] c good_nil

  pub of_ordered : Ordered (diagram_of t)
  unfolding diagram_of
  of_ordered = made_ordered (postorder t []) posted.good (ref (postorder t []) t)

  pub of_tree : tree (diagram_of t) (diagram_of t).root ≡ t
  unfolding diagram_of
  of_tree =
      let x = ref_at t (postorder t []) posted.holds in
      tree_made (postorder t []) posted.good (ref (postorder t []) t) (ref (postorder t []) t) x.1 ∙ x.0

  pub of_rooted : (diagram_of t).root < size (diagram_of t)
  unfolding diagram_of
  of_rooted = omega (arith, (ref_at t (postorder t []) posted.holds).1, made_length (postorder t []) posted.good (ref (postorder t []) t))

  pub of_unlike : (m n : ℕ) → 2 ≤ m → m < size (diagram_of t) → 2 ≤ n → n < size (diagram_of t) → inner (diagram_of t) m ≡ inner (diagram_of t) n → m ≡ n
  unfolding diagram_of
  of_unlike = made_unlike (postorder t []) posted.good (ref (postorder t []) t)

  pub of_forked : (n : ℕ) → 2 ≤ n → n < size (diagram_of t) → (inner (diagram_of t) n).lo ≡ (inner (diagram_of t) n).hi → ⊥
  unfolding diagram_of
  of_forked = made_forked (postorder t []) posted.good (ref (postorder t []) t)

  pub of_length : length (diagram_of t).nodes ≡ length (postorder t [])
  unfolding diagram_of
  of_length = made_length (postorder t []) posted.good (ref (postorder t []) t)

  pub of_number : (n : ℕ) → n < length (postorder t []) + 2 → tree (diagram_of t) n ≡ tree_at (postorder t []) n
  unfolding diagram_of
  of_number = tree_made (postorder t []) posted.good (ref (postorder t []) t)

pub root_canon : (d : Diagram) → Ordered d → Canon 0 (tree d d.root)
root_canon d o = tree_canon d o d.root 0 (λ h. omega arith)
