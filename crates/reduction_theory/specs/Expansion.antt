-- Laws of Shannon's expansion (`tree_of`) and of the diagram of a property (`reduced_of`): it is reduced, it says yes to just the sets with the property, and for the
-- conjunction of two diagrams it is what taking both apart step by step gives.
-- Assumes nothing.
use Rattle.std.specs.Prelude.{ℕ, zero, suc, ◌+◌, ◌≤◌, ◌<◌, ◌≡◌, refl, true, false, ◌&&◌}
use Rattle.std.proofs.Math.Path.{sym, ap, ap₂}
use Rattle.std.proofs.Common.{◌∙◌, arith, eq-eqb, ne_eqb}
use Rattle.std.proofs.Math.Bool.{Bool}
use Rattle.std.proofs.Math.Dec.{eqb}
use Rattle.definitions.specs.Basics.{pick}
use Rattle.definitions.specs.Diagrams.{Diagram, size, inner, verdict}
use Rattle.definitions.specs.Reductions.{Tree, with, tree_of, diagram_of, reduced_of, reduction, conjunction, accepts, Reduced, no_leaf, yes_leaf}
use Rattle.theory.specs.Basics.{pick_true, pick_false, either, lt_or_le}
use Rattle.theory.specs.Diagrams.{induction, verdict_leaf, verdict_inner}
use Rattle.theory.specs.Limits.{Ordered, Sound}
use Rattle.reduction_theory.specs.Trees.{pruned, says, tree, meet, joined, Canon, leaf_canon, leaf_says, mk_canon, mk_says, canonical}
use Rattle.reduction_theory.specs.Reduction.{accepts_says, of_ordered, of_tree, root_canon}
use Rattle.reduction_theory.specs.Reduced.{of_reduced}
use Rattle.reduction_theory.specs.Meets.{meets, meet_canon}
use Rattle.reduction_theory.specs.Limits.{Steps, Under, under_pick, under_mk, of_steps}

-- the property hangs on the steps below n alone
abbrev pub Local : ((ℕ → Bool) → Bool) → ℕ → Type 0
Local f n = (s r : ℕ → Bool) → ((j : ℕ) → j < n → s j ≡ r j) → f s ≡ f r

-- ---- the tree

-- it is reduced and ordered
pub tree_of_canon : (f : (ℕ → Bool) → Bool) (k v : ℕ) (set : ℕ → Bool) → Canon v (tree_of f k v set)
unfolding tree_of
tree_of_canon f zero v set = leaf_canon v (f set)
tree_of_canon f (suc k) v set =
    mk_canon v v (tree_of f k (suc v) set) (tree_of f k (suc v) (with set v)) (omega arith) (tree_of_canon f k (suc v) set) (tree_of_canon f k (suc v) (with set v))

-- and its variables are the steps that it is asked for
pub tree_of_under : (f : (ℕ → Bool) → Bool) (n k v : ℕ) (set : ℕ → Bool) → v + k ≤ n → Under n (tree_of f k v set)
unfolding tree_of
tree_of_under f n zero v set h = under_pick n (f set) yes_leaf no_leaf tt tt
tree_of_under f n (suc k) v set h =
    under_mk n v (tree_of f k (suc v) set) (tree_of f k (suc v) (with set v)) (omega arith)
    (tree_of_under f n k (suc v) set (omega arith)) (tree_of_under f n k (suc v) (with set v) (omega arith))

with_own : (set : ℕ → Bool) (v : ℕ) → with set v v ≡ true
with_own set v = rw (eq-eqb v v refl)

with_other : (set : ℕ → Bool) (v j : ℕ) → (j ≡ v → ⊥) → with set v j ≡ set j
with_other set v j n = rw (ne_eqb j v n)

-- It says of a set what the property says, where `set` has the members of that set below v and none of the k steps from v on
pub tree_of_says : (f : (ℕ → Bool) → Bool) (k v : ℕ) (set s : ℕ → Bool) → Local f (v + k) → ((j : ℕ) → j < v → set j ≡ s j)
    → ((j : ℕ) → v ≤ j → j < v + k → set j ≡ false) → says (tree_of f k v set) s ≡ f s
unfolding tree_of
tree_of_says f zero v set s loc before after = leaf_says (f set) s ∙ loc set s (λ j h. before j (omega arith))
tree_of_says f (suc k) v set s loc before after =
    mk_says v (tree_of f k (suc v) set) (tree_of f k (suc v) (with set v)) s
    ∙ go (s v) refl (tree_of_says f k (suc v) set s loc') (tree_of_says f k (suc v) (with set v) s loc')
  where
    loc' : Local f (suc v + k)
    loc' = λ t r a. loc t r (λ j h. a j (omega arith))

    Said : (ℕ → Bool) → Type 0
    Said set = ((j : ℕ) → j < suc v → set j ≡ s j) → ((j : ℕ) → suc v ≤ j → j < suc v + k → set j ≡ false) → says (tree_of f k (suc v) set) s ≡ f s

    go : (b : Bool) → s v ≡ b → Said set → Said (with set v)
        → pick (s v) (says (tree_of f k (suc v) (with set v)) s) (says (tree_of f k (suc v) set) s) ≡ f s
    go true e lo hi =
        pick_true _ _ _ e
        ∙ hi (λ j h. either (lt_or_le j v) (λ q. with_other set v j (λ z. omega arith) ∙ before j q) (λ q. own j (omega arith)))
        (λ j h l. with_other set v j (λ z. omega arith) ∙ after j (omega arith) (omega arith))
      where
        own : (j : ℕ) → j ≡ v → with set v j ≡ s j
        own j q = ap (with set v) q ∙ with_own set v ∙ sym e ∙ ap s (sym q)
    go false e lo hi =
        pick_false _ _ _ e
        ∙ lo (λ j h. either (lt_or_le j v) (λ q. before j q) (λ q. own j (omega arith)))
        (λ j h l. after j (omega arith) (omega arith))
      where
        own : (j : ℕ) → j ≡ v → set j ≡ s j
        own j q = after j (omega arith) (omega arith) ∙ sym e ∙ ap s (sym q)

-- ---- the diagram of a property

module _ (n : ℕ) (f : (ℕ → Bool) → Bool) where
  abbrev expanded : Tree
  expanded = tree_of f n 0 (λ j. false)

  expanded_canon : Canon 0 expanded
  expanded_canon = tree_of_canon f n 0 (λ j. false)

  expanded_says : Local f n → (s : ℕ → Bool) → says expanded s ≡ f s
  expanded_says loc s = tree_of_says f n 0 (λ j. false) s (λ t r a. loc t r (λ j h. a j (omega arith))) (λ j h. absurd (omega arith)) (λ j h l. refl)

  pub reduced_of_ordered : Ordered (reduced_of n f)
  unfolding reduced_of
  reduced_of_ordered = of_ordered expanded expanded_canon

  pub reduced_of_reduced : Reduced (reduced_of n f)
  unfolding reduced_of
  reduced_of_reduced = of_reduced expanded expanded_canon

  pub reduced_of_steps : Steps (reduced_of n f) n
  unfolding reduced_of
  reduced_of_steps = of_steps expanded expanded_canon n (tree_of_under f n n 0 (λ j. false) (omega arith))

  pub reduced_of_accepts : Local f n → (s : ℕ → Bool) → accepts (reduced_of n f) s ≡ f s
  unfolding reduced_of
  reduced_of_accepts loc s =
      accepts_says (diagram_of expanded) (of_ordered expanded expanded_canon) s ∙ ap (λ (t : Tree). says t s) (of_tree expanded expanded_canon) ∙ expanded_says loc s

-- ---- the reduction, and the conjunction

-- a diagram over a chart of n steps hangs on these alone
module _ (n : ℕ) (d : Diagram) (p : Sound n d) where
  verdict_below : (s r : ℕ → Bool) → ((j : ℕ) → j < n → s j ≡ r j) → (m : ℕ) → m < size d → verdict d s m ≡ verdict d r m
  verdict_below s r a =
      let o = p.ordered in
      induction d o (λ m. m < size d → verdict d s m ≡ verdict d r m)
      (λ m h q. verdict_leaf d o s m h ∙ sym (verdict_leaf d o r m h))
      (λ m h l r' q. rw (
        verdict_inner d o s m h,
        verdict_inner d o r m h,
        a (inner d m).step (p.exist m h q),
        l (omega (arith, o.lo_below m h)),
        r' (omega (arith, o.hi_below m h)),
      ))

  pub accepts_local : Local (accepts d) n
  unfolding accepts
  accepts_local s r a = ap (λ (x : ℕ). eqb x 1) (verdict_below s r a d.root p.root_inside)

  -- the reduction is the diagram of the diagram's tree
  pub reduction_pruned : reduction n d ≡ pruned d
  unfolding reduction reduced_of pruned
  reduction_pruned =
      ap diagram_of (canonical (expanded n (accepts d)) 0 (tree d d.root) (expanded_canon n (accepts d)) (root_canon d p.ordered)
      (λ s. expanded_says n (accepts d) accepts_local s ∙ accepts_says d p.ordered s))

module _ (n : ℕ) (d e : Diagram) (p : Sound n d) (q : Sound n e) where
  pub both_local : Local (λ set. accepts d set && accepts e set) n
  both_local s r a = ap₂ (λ (x y : Bool). x && y) (accepts_local n d p s r a) (accepts_local n e q s r a)

  -- the conjunction is the diagram of the trees' conjunction
  pub conjunction_joined : conjunction n d e ≡ joined d e
  unfolding conjunction reduced_of joined
  conjunction_joined =
      let f : (ℕ → Bool) → Bool = λ set. accepts d set && accepts e set in
      ap diagram_of (canonical (expanded n f) 0 (meet (tree d d.root) (tree e e.root)) (expanded_canon n f) (meet_canon d e p.ordered q.ordered)
      (λ s. expanded_says n f both_local s ∙ ap₂ (λ (x y : Bool). x && y) (accepts_says d p.ordered s) (accepts_says e q.ordered s) ∙ sym ((meets _ _).0 s)))
