-- Decision trees and their laws. A reduced, ordered tree is determined by the sets it says yes to: the canonicity of reduced ordered decision diagrams, for trees.
-- Assumes nothing.
use Rattle.std.specs.Prelude.{ℕ, suc, ◌≤◌, ◌≡◌, refl, Bool, true, false, ◌&&◌, ◌⊎◌, ltb, eqb}
use Rattle.std.proofs.Common.{sym, ◌∙◌, subst, inl, inr, arith, eqb-true, eq-eqb, ne_eqb}
use Rattle.definitions.specs.Basics.{pick}
use Rattle.definitions.specs.Diagrams.{Diagram, descend}
use Rattle.definitions.specs.Reductions.{Tree, alike, mk, diagram_of, no_leaf, yes_leaf, branch}
use Rattle.theory.specs.Basics.{pick_true, pick_false, both, true_not_false, either, Order, order, less, same, more}

-- ---- trees of diagrams, and their conjunction

-- the tree says yes to a set
unfoldable pub says : Tree → (ℕ → Bool) → Bool
says no_leaf s = false
says yes_leaf s = true
says (branch v l h) s = pick (s v) (says h s) (says l s)

-- the reduced tree of a diagram from a node on
unfoldable pub leaf_tree : ℕ → Tree
leaf_tree n = pick (eqb n 1) yes_leaf no_leaf

unfoldable pub tree : Diagram → ℕ → Tree
tree d n = descend d leaf_tree (λ n x l h. mk x.step l h) n

-- the conjunction of a node t of the variable v and a tree, where f and g are the conjunctions of its lo and of its hi with any tree
unfoldable pub meet_node : ℕ → Tree → (Tree → Tree) → (Tree → Tree) → Tree → Tree
meet_node v t f g no_leaf = no_leaf
meet_node v t f g yes_leaf = t
meet_node v t f g (branch w m k) =
    let lo = meet_node v t f g m in
    let hi = meet_node v t f g k in
    pick (ltb v w) (mk v (f (branch w m k)) (g (branch w m k))) (pick (eqb v w) (mk v (f m) (g k)) (mk w lo hi))

-- the conjunction of two reduced trees, both taken apart at the lesser of their variables (APPLY of "and")
unfoldable pub meet : Tree → Tree → Tree
meet no_leaf u = no_leaf
meet yes_leaf u = u
meet (branch v l h) u = meet_node v (branch v l h) (meet l) (meet h) u

-- the diagram of a diagram's reduced tree, and that of the conjunction of two such trees
unfoldable pub pruned : Diagram → Diagram
pruned d = diagram_of (tree d d.root)

unfoldable pub joined : Diagram → Diagram → Diagram
joined d e = diagram_of (meet (tree d d.root) (tree e e.root))

-- ---- reduced, ordered trees

-- reduced, ordered, of variables from k on
abbrev pub Canon : ℕ → Tree → Type 0
Canon k no_leaf = Unit {0}
Canon k yes_leaf = Unit {0}
Canon k (branch v l h) = (k ≤ v) × Canon (suc v) l × Canon (suc v) h × (l ≡ h → ⊥)

pub clash : {X : Type 0} → true ≡ false → X
clash e = absurd (true_not_false e)

pub alike_equal : (t u : Tree) → alike t u ≡ true → t ≡ u
unfolding alike
alike_equal no_leaf no_leaf e = refl
alike_equal no_leaf yes_leaf e = clash (sym e)
alike_equal no_leaf (branch v l h) e = clash (sym e)
alike_equal yes_leaf no_leaf e = clash (sym e)
alike_equal yes_leaf yes_leaf e = refl
alike_equal yes_leaf (branch v l h) e = clash (sym e)
alike_equal (branch v l h) no_leaf e = clash (sym e)
alike_equal (branch v l h) yes_leaf e = clash (sym e)
alike_equal (branch v l h) (branch w m k) e =
    let x = both (eqb v w) (alike l m && alike h k) e in
    let y = both (alike l m) (alike h k) x.1 in
    cc (eqb-true v w x.0, alike_equal l m y.0, alike_equal h k y.1)

pub alike_self : (t : Tree) → alike t t ≡ true
unfolding alike
alike_self no_leaf = refl
alike_self yes_leaf = refl
alike_self (branch v l h) = simp (eq-eqb v v refl, alike_self l, alike_self h)

pub alike_same : (t u : Tree) → t ≡ u → alike t u ≡ true
alike_same t u e = subst (λ (x : Tree). alike t x ≡ true) e (alike_self t)

pub alike_apart : (t u : Tree) → alike t u ≡ false → t ≡ u → ⊥
alike_apart t u e q = clash (sym (alike_same t u q) ∙ e)

pub apart_alike : (t u : Tree) → (t ≡ u → ⊥) → alike t u ≡ false
apart_alike t u n = go (alike t u) refl
  where
    go : (b : Bool) → alike t u ≡ b → alike t u ≡ false
    go true e = absurd (n (alike_equal t u e))
    go false e = e

-- equal or not
pub tree_same : (t u : Tree) → (t ≡ u) ⊎ (t ≡ u → ⊥)
tree_same t u = go (alike t u) refl
  where
    go : (b : Bool) → alike t u ≡ b → (t ≡ u) ⊎ (t ≡ u → ⊥)
    go true e = inl (alike_equal t u e)
    go false e = inr (alike_apart t u e)

pub canon_weaken : (t : Tree) (j k : ℕ) → j ≤ k → Canon k t → Canon j t
canon_weaken no_leaf j k h c = tt
canon_weaken yes_leaf j k h c = tt
canon_weaken (branch v l r) j k h c = (omega arith, c.1, c.2, c.3)

pub mk_canon : (k v : ℕ) (l h : Tree) → k ≤ v → Canon (suc v) l → Canon (suc v) h → Canon k (mk v l h)
unfolding mk
mk_canon k v l h q c d = go (alike l h) refl
  where
    go : (b : Bool) → alike l h ≡ b → Canon k (pick (alike l h) l (branch v l h))
    go true e = rw (pick_true _ l (branch v l h) e) (canon_weaken l k (suc v) (omega arith) c)
    go false e = rw (pick_false _ l (branch v l h) e) (q, c, d, alike_apart l h e)

-- the tree of an outcome
pub leaf_canon : (k : ℕ) (b : Bool) → Canon k (pick b yes_leaf no_leaf)
unfolding pick
leaf_canon k true = tt
leaf_canon k false = tt

pub leaf_says : (b : Bool) (s : ℕ → Bool) → says (pick b yes_leaf no_leaf) s ≡ b
unfolding pick says
leaf_says true s = refl
leaf_says false s = refl

pub says_branch : (v : ℕ) (l h : Tree) (s : ℕ → Bool) → says (branch v l h) s ≡ pick (s v) (says h s) (says l s)
unfolding says
says_branch v l h s = refl

pub pick_both {ℓ} : {A : Type ℓ} (t : Bool) (x : A) → pick t x x ≡ x
unfolding pick
pick_both true x = refl
pick_both false x = refl

pub mk_same : (v : ℕ) (l h : Tree) → l ≡ h → mk v l h ≡ l
unfolding mk
mk_same v l h e = pick_true _ _ _ (alike_same l h e)

pub mk_apart : (v : ℕ) (l h : Tree) → (l ≡ h → ⊥) → mk v l h ≡ branch v l h
unfolding mk
mk_apart v l h n = pick_false _ _ _ (apart_alike l h n)

pub mk_says : (v : ℕ) (l h : Tree) (s : ℕ → Bool) → says (mk v l h) s ≡ pick (s v) (says h s) (says l s)
mk_says v l h s =
    either (tree_same l h)
    (λ e. rw (mk_same v l h e, ← e) (sym (pick_both (s v) (says l s))))
    (λ n. rw (mk_apart v l h n) (says_branch v l h s))

-- only variables from k on matter
pub says_local : (t : Tree) (k : ℕ) (s r : ℕ → Bool) → Canon k t → ((j : ℕ) → k ≤ j → s j ≡ r j) → says t s ≡ says t r
unfolding says
says_local no_leaf k s r c a = refl
says_local yes_leaf k s r c a = refl
says_local (branch v l h) k s r c a =
    rw (a v c.0, says_local l (suc v) s r c.1 (λ j q. a j (omega arith)), says_local h (suc v) s r c.2 (λ j q. a j (omega arith)))

-- a set with one variable put in or taken out
unfoldable pub put : (ℕ → Bool) → ℕ → Bool → ℕ → Bool
put s v b j = pick (eqb j v) b (s j)

pub put_at : (s : ℕ → Bool) (v : ℕ) (b : Bool) → put s v b v ≡ b
unfolding put
put_at s v b = pick_true _ _ _ (eq-eqb v v refl)

pub put_off : (s : ℕ → Bool) (v : ℕ) (b : Bool) (j : ℕ) → (j ≡ v → ⊥) → put s v b j ≡ s j
unfolding put
put_off s v b j n = pick_false _ _ _ (ne_eqb j v n)

-- what a tree says does not hang on a variable before its own
pub says_put : (t : Tree) (v : ℕ) (s : ℕ → Bool) (b : Bool) → Canon (suc v) t → says t (put s v b) ≡ says t s
says_put t v s b c = says_local t (suc v) (put s v b) s c (λ j q. put_off s v b j (λ e. omega arith))

-- the two children, from what the node says
pub says_hi : (v : ℕ) (l h : Tree) (s : ℕ → Bool) → Canon (suc v) h → says (branch v l h) (put s v true) ≡ says h s
says_hi v l h s c = rw (says_branch v l h (put s v true), put_at s v true, pick_true true (says h (put s v true)) (says l (put s v true)) refl) (says_put h v s true c)

pub says_lo : (v : ℕ) (l h : Tree) (s : ℕ → Bool) → Canon (suc v) l → says (branch v l h) (put s v false) ≡ says l s
says_lo v l h s c = rw (says_branch v l h (put s v false), put_at s v false, pick_false false (says h (put s v false)) (says l (put s v false)) refl) (says_put l v s false c)

-- the two say the same of every set
abbrev pub Agree : Tree → Tree → Type 0
Agree t u = (s : ℕ → Bool) → says t s ≡ says u s

-- t is determined by what it says
abbrev pub Fixed : Tree → Type 0
Fixed t = (k : ℕ) (u : Tree) → Canon k t → Canon k u → Agree t u → t ≡ u

-- a tree that agrees with a node of an earlier variable agrees with both children
agree_lo : (t : Tree) (v : ℕ) (l h : Tree) → Canon (suc v) t → Canon (suc v) l → Agree t (branch v l h) → Agree t l
agree_lo t v l h c d a s = sym (says_put t v s false c) ∙ a (put s v false) ∙ says_lo v l h s d

agree_hi : (t : Tree) (v : ℕ) (l h : Tree) → Canon (suc v) t → Canon (suc v) h → Agree t (branch v l h) → Agree t h
agree_hi t v l h c d a s = sym (says_put t v s true c) ∙ a (put s v true) ∙ says_hi v l h s d

flip : (t u : Tree) → Agree t u → Agree u t
flip t u a s = sym (a s)

fixed_no : Fixed no_leaf
unfolding says
fixed_no k no_leaf c d a = refl
fixed_no k yes_leaf c d a = clash (sym (a (λ j. true)))
fixed_no k (branch v l h) c d a =
    absurd (d.3 (sym (fixed_no (suc v) l tt d.1 (agree_lo no_leaf v l h tt d.1 a)) ∙ fixed_no (suc v) h tt d.2 (agree_hi no_leaf v l h tt d.2 a)))

fixed_yes : Fixed yes_leaf
unfolding says
fixed_yes k no_leaf c d a = clash (a (λ j. true))
fixed_yes k yes_leaf c d a = refl
fixed_yes k (branch v l h) c d a =
    absurd (d.3 (sym (fixed_yes (suc v) l tt d.1 (agree_lo yes_leaf v l h tt d.1 a)) ∙ fixed_yes (suc v) h tt d.2 (agree_hi yes_leaf v l h tt d.2 a)))

-- a node, where its children are determined
fixed_branch : (v : ℕ) (l h : Tree) → Fixed l → Fixed h → Fixed (branch v l h)
fixed_branch v l h fl fh k no_leaf c d a =
    absurd (c.3 (fl (suc v) no_leaf c.1 tt (flip no_leaf l (agree_lo no_leaf v l h tt c.1 (flip (branch v l h) no_leaf a))) ∙ sym (fh (suc v) no_leaf c.2 tt (flip no_leaf h (agree_hi no_leaf v l h tt c.2 (flip (branch v l h) no_leaf a))))))
fixed_branch v l h fl fh k yes_leaf c d a =
    absurd (c.3 (fl (suc v) yes_leaf c.1 tt (flip yes_leaf l (agree_lo yes_leaf v l h tt c.1 (flip (branch v l h) yes_leaf a))) ∙ sym (fh (suc v) yes_leaf c.2 tt (flip yes_leaf h (agree_hi yes_leaf v l h tt c.2 (flip (branch v l h) yes_leaf a))))))
fixed_branch v l h fl fh k (branch w m n) c d a =
    go (order v w) (fixed_branch v l h fl fh (suc w) m) (fixed_branch v l h fl fh (suc w) n)
  where
    go : Order v w → (Canon (suc w) (branch v l h) → Canon (suc w) m → Agree (branch v l h) m → branch v l h ≡ m)
        → (Canon (suc w) (branch v l h) → Canon (suc w) n → Agree (branch v l h) n → branch v l h ≡ n) → branch v l h ≡ branch w m n
    go (less q) im in' =
        let u = branch w m n in
        let cu : Canon (suc v) u = (q, d.1, d.2, d.3) in
        let b = flip (branch v l h) u a in
        absurd (c.3 (fl (suc v) u c.1 cu (flip u l (agree_lo u v l h cu c.1 b)) ∙ sym (fh (suc v) u c.2 cu (flip u h (agree_hi u v l h cu c.2 b)))))
    go (same q) im in' =
        let m' : Canon (suc v) m = rw q d.1 in
        let n' : Canon (suc v) n = rw q d.2 in
        let b = subst (λ (x : ℕ). Agree (branch v l h) (branch x m n)) (sym q) a in
        let el = fl (suc v) m c.1 m' (λ s. sym (says_lo v l h s c.1) ∙ b (put s v false) ∙ says_lo v m n s m') in
        let eh = fh (suc v) n c.2 n' (λ s. sym (says_hi v l h s c.2) ∙ b (put s v true) ∙ says_hi v m n s n') in
        cc
    go (more q) im in' =
        let ct : Canon (suc w) (branch v l h) = (q, c.1, c.2, c.3) in
        absurd (d.3 (sym (im ct d.1 (agree_lo (branch v l h) w m n ct d.1 a)) ∙ in' ct d.2 (agree_hi (branch v l h) w m n ct d.2 a)))

-- Canonicity: reduced, ordered trees that say yes to the same sets are equal
pub canonical : (t : Tree) → Fixed t
canonical no_leaf = fixed_no
canonical yes_leaf = fixed_yes
canonical (branch v l h) = fixed_branch v l h (canonical l) (canonical h)
