-- The variables of a tree and of its diagram: where those of a tree are below a number, so are the steps of its diagram's nodes.
-- Assumes nothing.
use Rattle.std.specs.Prelude.{ℕ, ◌-◌, ◌≤◌, ◌<◌, ◌≡◌, refl, Bool, true, false, [], length, get_or}
use Rattle.std.proofs.Common.{sym, ◌∙◌, ap, subst, arith}
use Rattle.definitions.specs.Basics.{pick}
use Rattle.definitions.specs.Diagrams.{Diagram, size, inner}
use Rattle.definitions.specs.Reductions.{Tree, alike, mk, member, postorder, ref, numbered, diagram_of, no_leaf, yes_leaf, branch}
use Rattle.theory.specs.Basics.{either}
use Rattle.reduction_theory.specs.Trees.{Canon, clash}
use Rattle.reduction_theory.specs.Numbering.{get_d_member, Sub, post_adds, whole, in_lo, in_hi}
use Rattle.reduction_theory.specs.Reduction.{made_inner, posted, of_length}

-- each node's step is below n
abbrev pub Steps : Diagram → ℕ → Type 0
Steps d n = (m : ℕ) → 2 ≤ m → m < size d → (inner d m).step < n

-- each variable of a tree is
abbrev pub Under : ℕ → Tree → Type 0
Under n no_leaf = Unit {0}
Under n yes_leaf = Unit {0}
Under n (branch v l h) = (v < n) × Under n l × Under n h

pub under_pick : (n : ℕ) (t : Bool) (x y : Tree) → Under n x → Under n y → Under n (pick t x y)
unfolding pick
under_pick n true x y p q = p
under_pick n false x y p q = q

pub under_mk : (n v : ℕ) (l h : Tree) → v < n → Under n l → Under n h → Under n (mk v l h)
unfolding mk
under_mk n v l h b p q = under_pick n (alike l h) l (branch v l h) p (b, p, q)

under_sub : (n : ℕ) {u t : Tree} → Sub u t → Under n t → Under n u
under_sub n whole p = p
under_sub n (in_lo s) p = under_sub n s p.1
under_sub n (in_hi s) p = under_sub n s p.2

pub of_steps : (t : Tree) → Canon 0 t → (n : ℕ) → Under n t → Steps (diagram_of t) n
unfolding diagram_of numbered ref
of_steps t c n p m h b =
    rw (made_inner (postorder t []) (posted t c).good (ref (postorder t []) t) m) (go (get_or (postorder t []) (m - 2) no_leaf) refl)
  where
    inside' : m - 2 < length (postorder t [])
    inside' = omega (arith, of_length t c)

    go : (u : Tree) → get_or (postorder t []) (m - 2) no_leaf ≡ u → (numbered (postorder t []) (get_or (postorder t []) (m - 2) no_leaf)).step < n
    go no_leaf e = absurd (omega (arith, (posted t c).good.once (m - 2) inside', ap (ref (postorder t [])) e))
    go yes_leaf e = absurd (omega (arith, (posted t c).good.once (m - 2) inside', ap (ref (postorder t [])) e))
    go (branch v l k) e =
        rw e (either (post_adds t (branch v l k) [] (subst (λ (x : Tree). member x (postorder t []) ≡ true) e (get_d_member (postorder t []) (m - 2) inside')))
        (λ q. clash (sym q ∙ unfold member in refl)) (λ s. (under_sub n s p).0))
