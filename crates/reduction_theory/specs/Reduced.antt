-- Laws of reduced diagrams: each is the diagram of its own tree, the diagram of every reduced tree is one, and each node of one is arrived at from the root.
-- Assumes nothing.
use Prim.Native.Nat.{ℕ, zero, suc, ◌+◌, ◌-◌, ◌≤◌, ◌<◌}
use Rattle.std.proofs.Math.Path.{◌≡◌, refl, ap}
use Rattle.std.proofs.Common.{sym, ◌∙◌, ap₂, subst, inl, inr, arith}
use Rattle.std.specs.Prelude.{Bool, true, false, ◌||◌, ◌⊎◌, eqb}
use mathlib.Core.List.{List, [], ◌∷◌, ◌++◌, map, map-append}
use Rattle.std.proofs.Math.ListN.{length, get_or, length-map, get_or-map}
use Rattle.std.proofs.Math.Seq.{ext_get_or}
use borrow.Author.Tests.{eqb-true, eqb-false, eq-eqb, ne_eqb}
use Rattle.definitions.specs.Basics.{pick, run, has}
use Rattle.definitions.specs.Diagrams.{InnerNode, Diagram, no_node, size, inner}
use Rattle.definitions.specs.Reductions.{member, position, postorder, ref, numbered, nodes_of, diagram_of, walk, Reduced, Arrives, at_root, at_lo, at_hi, Tree, alike, no_leaf, branch}
use Rattle.theory.specs.Limits.{Ordered}
use Rattle.theory.specs.Basics.{or_right, pick_true, pick_false, either, lt_or_le, length-map_run, get_d_map_run}
use Rattle.theory.specs.Diagrams.{induction, descend_leaf, descend_inner}
use Rattle.reduction_theory.specs.Trees.{leaf_tree, tree, pruned, Canon, clash, alike_same, apart_alike, mk_apart}
use Rattle.reduction_theory.specs.Numbering.{tree_at_inner, branch_inj}
use Rattle.reduction_theory.specs.Reduction.{leaf_not_branch, ref_leaf, tree_leaf, tree_inner, of_ordered, of_tree, of_rooted, of_unlike, of_forked, of_length, of_number}

module _ (d : Diagram) (o : Ordered d) where
  pub walk_leaf : (n : ℕ) (seen : List ℕ) → n < 2 → walk d n seen ≡ seen
  unfolding walk
  walk_leaf n seen h = ap (λ (f : List ℕ → List ℕ). f seen) (descend_leaf d o _ _ n h)

  pub walk_inner : (n : ℕ) (seen : List ℕ) → 2 ≤ n → walk d n seen ≡ pick (has seen n) seen (walk d (inner d n).hi (walk d (inner d n).lo seen) ++ n ∷ [])
  unfolding walk
  walk_inner n seen h = ap (λ (f : List ℕ → List ℕ). f seen) (descend_inner d o _ _ n h)

inner_same : (x y : InnerNode) → x.step ≡ y.step → x.lo ≡ y.lo → x.hi ≡ y.hi → x ≡ y
inner_same x y p q r = λ i. record { step = p i; lo = q i; hi = r i }

diagram_same : (d e : Diagram) → d.root ≡ e.root → d.nodes ≡ e.nodes → d ≡ e
diagram_same d e p q = λ i. record { root = p i; nodes = q i }

-- the tree of a node is a node, where the children's trees differ
module _ (d : Diagram) (o : Ordered d) (u : (m n : ℕ) → 2 ≤ m → m < size d → 2 ≤ n → n < size d → inner d m ≡ inner d n → m ≡ n)
    (f : (n : ℕ) → 2 ≤ n → n < size d → (inner d n).lo ≡ (inner d n).hi → ⊥) where
  abbrev Apart : ℕ → Type 0
  Apart k = (m n : ℕ) → m < k → n < k → m < size d → n < size d → tree d m ≡ tree d n → m ≡ n

  node_tree : (k n : ℕ) → n < suc k → n < size d → 2 ≤ n → Apart k
      → tree d n ≡ branch (inner d n).step (tree d (inner d n).lo) (tree d (inner d n).hi)
  node_tree k n h b i a =
      let l = o.lo_below n i in let r = o.hi_below n i in
      tree_inner d o n i ∙ mk_apart _ _ _ (λ e. f n i b (a (inner d n).lo (inner d n).hi (omega arith) (omega arith) (omega arith) (omega arith) e))

  no_branch : {X : Type 0} (n v : ℕ) (l h : Tree) → n < 2 → tree d n ≡ branch v l h → X
  no_branch n v l h i e = leaf_not_branch n v l h i (sym (tree_leaf d o n i) ∙ e)

  leaves_apart : (m n : ℕ) → m < 2 → n < 2 → leaf_tree m ≡ leaf_tree n → m ≡ n
  unfolding leaf_tree pick
  leaves_apart zero zero h i e = refl
  leaves_apart zero (suc zero) h i e = absurd (let z : ◌≡◌ {A = ℕ} 0 1 = cc in omega arith)
  leaves_apart zero (suc (suc n)) h i e = absurd (omega arith)
  leaves_apart (suc zero) zero h i e = absurd (let z : ◌≡◌ {A = ℕ} 0 1 = cc in omega arith)
  leaves_apart (suc zero) (suc zero) h i e = refl
  leaves_apart (suc zero) (suc (suc n)) h i e = absurd (omega arith)
  leaves_apart (suc (suc m)) n h i e = absurd (omega arith)

  -- different nodes have different trees, and so say yes to different sets
  apart_below : (k : ℕ) → Apart k
  apart_below zero m n h i bm bn e = absurd (omega arith)
  apart_below (suc k) m n h i bm bn e = go (apart_below k) (lt_or_le m 2) (lt_or_le n 2)
    where
      go : Apart k → (m < 2) ⊎ (2 ≤ m) → (n < 2) ⊎ (2 ≤ n) → m ≡ n
      go a (inl p) (inl q) = leaves_apart m n p q (sym (tree_leaf d o m p) ∙ e ∙ tree_leaf d o n q)
      go a (inl p) (inr q) = no_branch m _ _ _ p (e ∙ node_tree k n i bn q a)
      go a (inr p) (inl q) = no_branch n _ _ _ q (sym e ∙ node_tree k m h bm p a)
      go a (inr p) (inr q) =
          let x = branch_inj _ _ _ _ _ _ (sym (node_tree k m h bm p a) ∙ e ∙ node_tree k n i bn q a) in
          let ml = o.lo_below m p in let mh = o.hi_below m p in let nl = o.lo_below n q in let nh = o.hi_below n q in
          u m n p bm q bn (inner_same (inner d m) (inner d n) x.0
          (a (inner d m).lo (inner d n).lo (omega arith) (omega arith) (omega arith) (omega arith) x.1)
          (a (inner d m).hi (inner d n).hi (omega arith) (omega arith) (omega arith) (omega arith) x.2))

  pub trees_apart : (m n : ℕ) → m < size d → n < size d → tree d m ≡ tree d n → m ≡ n
  trees_apart m n h i = apart_below (size d) m n h i h i

  pub tree_node : (n : ℕ) → n < size d → 2 ≤ n → tree d n ≡ branch (inner d n).step (tree d (inner d n).lo) (tree d (inner d n).hi)
  tree_node n h i = node_tree n n (omega arith) h i (apart_below n)

  -- all below N
  abbrev pub Below : List ℕ → Type 0
  Below [] = Unit {0}
  Below (n ∷ ns) = (n < size d) × Below ns

  below_append : (xs ys : List ℕ) → Below xs → Below ys → Below (xs ++ ys)
  below_append [] ys p q = q
  below_append (x ∷ xs) ys p q = (p.0, below_append xs ys p.1 q)

  alike_eqb : (m n : ℕ) → m < size d → n < size d → alike (tree d m) (tree d n) ≡ eqb m n
  alike_eqb m n h i = go (eqb m n) refl
    where
      go : (b : Bool) → eqb m n ≡ b → alike (tree d m) (tree d n) ≡ eqb m n
      go true e = rw e (alike_same (tree d m) (tree d n) (ap (tree d) (eqb-true m n e)))
      go false e = rw e (apart_alike (tree d m) (tree d n) (λ q. eqb-false m n e (trees_apart m n h i q)))

  member_has : (n : ℕ) (seen : List ℕ) → n < size d → Below seen → member (tree d n) (map (tree d) seen) ≡ has seen n
  unfolding member
  member_has n [] h b = refl
  member_has n (m ∷ ms) h b = rw (alike_eqb n m h b.0, member_has n ms h b.1)

  post_node : (v : ℕ) (l h : Tree) (acc : List Tree) → postorder (branch v l h) acc ≡ pick (member (branch v l h) acc) acc (postorder h (postorder l acc) ++ branch v l h ∷ [])
  unfolding postorder
  post_node v l h acc = refl

  post_leaf : (n : ℕ) (acc : List Tree) → n < 2 → postorder (leaf_tree n) acc ≡ acc
  unfolding leaf_tree postorder pick
  post_leaf zero acc h = refl
  post_leaf (suc zero) acc h = refl
  post_leaf (suc (suc n)) acc h = absurd (omega arith)

  -- the walk over numbers is the walk over trees
  abbrev Follows : ℕ → Type 0
  Follows n = (seen : List ℕ) → n < size d → Below seen → Below (walk d n seen) × (postorder (tree d n) (map (tree d) seen) ≡ map (tree d) (walk d n seen))

  pub post_walk : (n : ℕ) → Follows n
  post_walk = induction d o Follows leaf node
    where
      leaf : (n : ℕ) → n < 2 → Follows n
      leaf n h seen i b = rw (walk_leaf d o n seen h, tree_leaf d o n h) (b, post_leaf n (map (tree d) seen) h)

      node : (n : ℕ) → 2 ≤ n → Follows (inner d n).lo → Follows (inner d n).hi → Follows n
      node n h fl fh seen i b = go (has seen n) refl
        where
          lo' : Below (walk d (inner d n).lo seen) × (postorder (tree d (inner d n).lo) (map (tree d) seen) ≡ map (tree d) (walk d (inner d n).lo seen))
          lo' = fl seen (omega (arith, o.lo_below n h)) b

          hi' : Below (walk d (inner d n).hi (walk d (inner d n).lo seen))
              × (postorder (tree d (inner d n).hi) (map (tree d) (walk d (inner d n).lo seen)) ≡ map (tree d) (walk d (inner d n).hi (walk d (inner d n).lo seen)))
          hi' = fh (walk d (inner d n).lo seen) (omega (arith, o.hi_below n h)) lo'.0

          same_test : member (tree d n) (map (tree d) seen) ≡ has seen n
          same_test = member_has n seen i b

          go : (t : Bool) → has seen n ≡ t → Below (walk d n seen) × (postorder (tree d n) (map (tree d) seen) ≡ map (tree d) (walk d n seen))
          go true e =
              let w = walk_inner d o n seen h ∙ pick_true _ _ _ e in
              rw w (b, ap (λ (x : Tree). postorder x (map (tree d) seen)) (tree_node n i h) ∙ post_node _ _ _ _ ∙ pick_true _ _ _ (ap (λ (x : Tree). member x (map (tree d) seen)) (sym (tree_node n i h)) ∙ same_test ∙ e))
          go false e =
              let w = walk_inner d o n seen h ∙ pick_false _ _ _ e in
              rw w (
                below_append (walk d (inner d n).hi (walk d (inner d n).lo seen)) (n ∷ []) hi'.0 (i, tt),
                ap (λ (x : Tree). postorder x (map (tree d) seen)) (tree_node n i h) ∙ post_node _ _ _ _
                    ∙ pick_false _ _ _ (ap (λ (x : Tree). member x (map (tree d) seen)) (sym (tree_node n i h)) ∙ same_test ∙ e)
                    ∙ rw (lo'.1, hi'.1, ← tree_node n i h) (sym (map-append (tree d) (walk d (inner d n).hi (walk d (inner d n).lo seen)) (n ∷ []))),
              )

  position_run : (c i n : ℕ) → i ≤ n → n < i + c → i + c ≤ size d → position (tree d n) (map (tree d) (run i c)) ≡ n - i
  unfolding position
  position_run zero i n h k b = absurd (omega arith)
  position_run (suc c) i n h k b =
      either (lt_or_le i n)
      (λ q. pick_false _ _ _ (alike_eqb n i (omega arith) (omega arith) ∙ ne_eqb n i (λ e. omega arith))
      ∙ ap suc (position_run c (suc i) n q (omega arith) (omega arith)) ∙ omega arith)
      (λ q. pick_true _ _ _ (alike_eqb n i (omega arith) (omega arith) ∙ eq-eqb n i (omega arith)) ∙ omega arith)

  ref_node : (acc : List Tree) (v : ℕ) (l h : Tree) → ref acc (branch v l h) ≡ position (branch v l h) acc + 2
  unfolding ref
  ref_node acc v l h = refl

  abbrev all' : List Tree
  all' = map (tree d) (run 2 (length d.nodes))

  ref_number : (n : ℕ) → n < size d → ref all' (tree d n) ≡ n
  ref_number n h =
      either (lt_or_le n 2) (λ q. ap (ref all') (tree_leaf d o n q) ∙ ref_leaf all' n q)
      (λ q. ap (ref all') (tree_node n h q) ∙ ref_node all' _ _ _ ∙ ap (λ (x : Tree). position x all' + 2) (sym (tree_node n h q))
      ∙ ap (λ (x : ℕ). x + 2) (position_run (length d.nodes) 2 n q (omega arith) (omega arith)) ∙ omega arith)

  numbered_node : (acc : List Tree) (v : ℕ) (l h : Tree) → numbered acc (branch v l h) ≡ record { step = v; lo = ref acc l; hi = ref acc h }
  unfolding numbered
  numbered_node acc v l h = refl

  numbered_inner : (n : ℕ) → 2 ≤ n → n < size d → numbered all' (tree d n) ≡ inner d n
  numbered_inner n h i =
      ap (numbered all') (tree_node n i h) ∙ numbered_node all' _ _ _
      ∙ inner_same _ (inner d n) refl (ref_number (inner d n).lo (omega (arith, o.lo_below n h))) (ref_number (inner d n).hi (omega (arith, o.hi_below n h)))

  nodes_same : nodes_of all' ≡ d.nodes
  unfolding nodes_of numbered
  nodes_same =
      ext_get_or no_node (nodes_of all') d.nodes (length-map all' (numbered all') ∙ length-map_run (tree d) 2 (length d.nodes))
      (λ i b.
      let k : i < length d.nodes = omega (arith, length-map all' (numbered all'), length-map_run (tree d) 2 (length d.nodes)) in
      get_or-map (numbered all') all' i no_leaf ∙ ap (numbered all') (get_d_map_run (tree d) 2 (length d.nodes) i no_leaf k)
      ∙ numbered_inner (2 + i) (omega arith) (omega arith)
      ∙ ap (λ (x : ℕ). get_or d.nodes x no_node) (omega arith))

  map_apart : (xs ys : List ℕ) → Below xs → Below ys → map (tree d) xs ≡ map (tree d) ys → xs ≡ ys
  map_apart [] [] p q e = refl
  map_apart [] (y ∷ ys) p q e = absurd (let z : ◌≡◌ {A = ℕ} 0 1 = cc in omega arith)
  map_apart (x ∷ xs) [] p q e = absurd (let z : ◌≡◌ {A = ℕ} 0 1 = cc in omega arith)
  map_apart (x ∷ xs) (y ∷ ys) p q e =
      let a : tree d x ≡ tree d y = cc in
      let b : map (tree d) xs ≡ map (tree d) ys = cc in
      ap₂ (λ (n : ℕ) (ns : List ℕ). n ∷ ns) (trees_apart x y p.0 q.0 a) (map_apart xs ys p.1 q.1 b)

  below_run : (i c : ℕ) → i + c ≤ size d → Below (run i c)
  below_run i zero h = tt
  below_run i (suc c) h = (omega arith, below_run (suc i) c (omega arith))

-- A reduced diagram is the diagram of its own tree
pub reduced_fixed : (d : Diagram) → Ordered d → Reduced d → pruned d ≡ d
unfolding pruned diagram_of
reduced_fixed d o r =
    let all : postorder (tree d d.root) [] ≡ map (tree d) (run 2 (length d.nodes))
    = (post_walk d o r.unlike r.forked d.root [] r.root_inside tt).1 ∙ ap (map (tree d)) r.walked in
    diagram_same _ d
    (ap (λ (a : List Tree). ref a (tree d d.root)) all ∙ ref_number d o r.unlike r.forked d.root r.root_inside)
    (ap nodes_of all ∙ nodes_same d o r.unlike r.forked)

-- The diagram of a reduced tree is reduced
module _ (t : Tree) (c : Canon 0 t) where
  list_numbers : postorder t [] ≡ map (tree (diagram_of t)) (run 2 (length (postorder t [])))
  list_numbers =
      ext_get_or no_leaf (postorder t []) _ (sym (length-map_run (tree (diagram_of t)) 2 (length (postorder t []))))
      (λ i b.
      sym (get_d_map_run (tree (diagram_of t)) 2 (length (postorder t [])) i no_leaf b ∙ of_number t c (2 + i) (omega arith)
      ∙ tree_at_inner (postorder t []) (2 + i) (omega arith) ∙ ap (λ (x : ℕ). get_or (postorder t []) x no_leaf) (omega arith)))

  pub of_reduced : Reduced (diagram_of t)
  of_reduced = record {
    root_inside = of_rooted t c;
    unlike = of_unlike t c;
    forked = of_forked t c;
    walked =
        let w = post_walk (diagram_of t) (of_ordered t c) (of_unlike t c) (of_forked t c) (diagram_of t).root [] (of_rooted t c) tt in
        map_apart (diagram_of t) (of_ordered t c) (of_unlike t c) (of_forked t c) _ _ w.0
        (below_run (diagram_of t) (of_ordered t c) (of_unlike t c) (of_forked t c) 2 (length (diagram_of t).nodes) (omega arith))
        (sym w.1 ∙ ap (λ (x : Tree). postorder x []) (of_tree t c) ∙ list_numbers ∙ ap (λ (k : ℕ). map (tree (diagram_of t)) (run 2 k)) (sym (of_length t c)));
  }

-- each number that a walk from an arrived number adds is arrived at
module _ (d : Diagram) (o : Ordered d) where
  abbrev Comes : ℕ → Type 0
  Comes n = (seen : List ℕ) (m : ℕ) → Arrives d n → has (walk d n seen) m ≡ true → (has seen m ≡ true) ⊎ Arrives d m

  has_cases : (m : ℕ) (xs ys : List ℕ) → has (xs ++ ys) m ≡ true → (has xs m ≡ true) ⊎ (has ys m ≡ true)
  has_cases m [] ys e = inr e
  has_cases m (x ∷ xs) ys e = go (eqb m x) (has_cases m xs ys) e
    where
      go : (b : Bool) → (has (xs ++ ys) m ≡ true → (has xs m ≡ true) ⊎ (has ys m ≡ true)) → (b || has (xs ++ ys) m) ≡ true → ((b || has xs m) ≡ true) ⊎ (has ys m ≡ true)
      go true ih e = inl refl
      go false ih e = ih e

  has_one : (m n : ℕ) → has (n ∷ []) m ≡ true → m ≡ n
  has_one m n e = go (eqb m n) refl e
    where
      go : (b : Bool) → eqb m n ≡ b → (b || false) ≡ true → m ≡ n
      go true q e = eqb-true m n q
      go false q e = clash (sym e)

  walk_comes : (n : ℕ) → Comes n
  walk_comes = induction d o Comes leaf node
    where
      leaf : (n : ℕ) → n < 2 → Comes n
      leaf n h seen m a e = inl (rw (walk_leaf d o n seen h) at e)

      node : (n : ℕ) → 2 ≤ n → Comes (inner d n).lo → Comes (inner d n).hi → Comes n
      node n h fl fh seen m a e = go (has seen n) (rw (walk_inner d o n seen h) at e)
        where
          go : (b : Bool) → has (pick b seen (walk d (inner d n).hi (walk d (inner d n).lo seen) ++ n ∷ [])) m ≡ true → (has seen m ≡ true) ⊎ Arrives d m
          go true e = inl (rw (pick_true true seen (walk d (inner d n).hi (walk d (inner d n).lo seen) ++ n ∷ []) refl) at e)
          go false e =
              let f = rw (pick_false false seen (walk d (inner d n).hi (walk d (inner d n).lo seen) ++ n ∷ []) refl) at e in
              either (has_cases m (walk d (inner d n).hi (walk d (inner d n).lo seen)) (n ∷ []) f)
              (λ p. either (fh (walk d (inner d n).lo seen) m (at_hi a h) p) (λ q. fl seen m (at_lo a h) q) inr)
              (λ p. inr (subst (λ (x : ℕ). Arrives d x) (sym (has_one m n p)) a))

  has_run : (c i n : ℕ) → i ≤ n → n < i + c → has (run i c) n ≡ true
  has_run zero i n h b = absurd (omega arith)
  has_run (suc c) i n h b =
      either (lt_or_le i n) (λ q. or_right (eqb n i) (has (run (suc i) c) n) (has_run c (suc i) n q (omega arith))) (λ q. rw (eq-eqb n i (omega arith)) refl)

  -- each node of a reduced diagram is arrived at from the root
  pub reduced_arrives : Reduced d → (n : ℕ) → 2 ≤ n → n < size d → Arrives d n
  reduced_arrives r n h b =
      either (walk_comes d.root [] n at_root (ap (λ (xs : List ℕ). has xs n) r.walked ∙ has_run (length d.nodes) 2 n h (omega arith))) (λ e. clash (sym e)) (λ a. a)
