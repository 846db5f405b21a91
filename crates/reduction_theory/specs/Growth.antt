-- One more node: what a walk has left stays when it goes on, and the numbers of the nodes before do not change.
-- Assumes nothing.
use Rattle.std.specs.Prelude.{ℕ, suc, ◌<◌, ◌≡◌, Bool, true, false, List, [], ◌∷◌, ◌++◌, map, length}
use Rattle.std.proofs.Math.Path.{refl, ap}
use Rattle.std.proofs.Common.{sym, ◌∙◌, ap₂, append-nil, arith}
use Rattle.std.proofs.lemmas.List.{map-append}
use Rattle.std.proofs.Math.ListN.{get_or}
use Rattle.definitions.specs.Diagrams.{InnerNode}
use Rattle.definitions.specs.Reductions.{member, position, postorder, ref, numbered, nodes_of, Tree, mk, no_leaf, yes_leaf, branch}
use Rattle.theory.specs.Basics.{pick_true, pick_false, either}
use Rattle.reduction_theory.specs.Trees.{Canon, tree_same, mk_same, mk_apart}
use Rattle.reduction_theory.specs.Numbering.{held, member_position, ref_more, tree_at, ref_at, member_held, Good, Posted, post_laws}

-- the children of a node are held
abbrev Kid : List Tree → Tree → Type 0
Kid ts no_leaf = ⊥
Kid ts yes_leaf = ⊥
Kid ts (branch v l h) = (held ts l ≡ true) × (held ts h ≡ true)

abbrev Kids : List Tree → List Tree → Type 0
Kids ts [] = Unit {0}
Kids ts (u ∷ us) = Kid ts u × Kids ts us

all_kids : (ts us : List Tree) → ((i : ℕ) → i < length us → Kid ts (get_or us i no_leaf)) → Kids ts us
all_kids ts [] f = tt
all_kids ts (u ∷ us) f = (f 0 (omega arith), all_kids ts us (λ i h. f (suc i) (omega arith)))

module _ (ts : List Tree) (g : Good ts) where
  good_kid : (i : ℕ) → i < length ts → Kid ts (get_or ts i no_leaf)
  unfolding ref
  good_kid i h = go (get_or ts i no_leaf) refl
    where
      go : (t : Tree) → get_or ts i no_leaf ≡ t → Kid ts (get_or ts i no_leaf)
      go no_leaf e = absurd (omega (arith, g.once i h, ap (ref ts) e))
      go yes_leaf e = absurd (omega (arith, g.once i h, ap (ref ts) e))
      go (branch v l k) e = rw e ((g.lo_held i v l k h e).0, (g.hi_held i v l k h e).0)

  good_kids : Kids ts ts
  good_kids = all_kids ts ts good_kid

  -- a node that is held has its children held
  pub held_kid : (v : ℕ) (l h : Tree) → member (branch v l h) ts ≡ true → (held ts l ≡ true) × (held ts h ≡ true)
  held_kid v l h m =
      let x = member_position (branch v l h) ts m in
      ((g.lo_held (position (branch v l h) ts) v l h x.1 x.0).0, (g.hi_held (position (branch v l h) ts) v l h x.1 x.0).0)

pub ref_apart : (ts : List Tree) (t u : Tree) → held ts t ≡ true → held ts u ≡ true → ref ts t ≡ ref ts u → t ≡ u
ref_apart ts t u h k e = sym (ref_at t ts h).0 ∙ ap (tree_at ts) e ∙ (ref_at u ts k).0

numbered_more : (ts vs : List Tree) (u : Tree) → Kid ts u → numbered (ts ++ vs) u ≡ numbered ts u
unfolding numbered
numbered_more ts vs no_leaf k = absurd k
numbered_more ts vs yes_leaf k = absurd k
numbered_more ts vs (branch v l h) k = rw ((ref_more l ts vs k.0).1, (ref_more h ts vs k.1).1)

map_more : (ts vs us : List Tree) → Kids ts us → map (numbered (ts ++ vs)) us ≡ map (numbered ts) us
map_more ts vs [] k = refl
map_more ts vs (u ∷ us) k = ap₂ (λ (x : InnerNode) (xs : List InnerNode). x ∷ xs) (numbered_more ts vs u k.0) (map_more ts vs us k.1)

-- a new node at the end leaves the numbers of the others
pub nodes_snoc : (ts : List Tree) → Good ts → (v : ℕ) (l h : Tree) → held ts l ≡ true → held ts h ≡ true
    → nodes_of (ts ++ branch v l h ∷ []) ≡ nodes_of ts ++ record { step = v; lo = ref ts l; hi = ref ts h } ∷ []
unfolding nodes_of numbered
nodes_snoc ts g v l h p q =
    map-append (numbered (ts ++ branch v l h ∷ [])) ts (branch v l h ∷ [])
    ∙ ap₂ (λ (xs ys : List InnerNode). xs ++ ys) (map_more ts (branch v l h ∷ []) ts (good_kids ts g))
    (ap (λ (x : InnerNode). x ∷ []) (numbered_more ts (branch v l h ∷ []) (branch v l h) (p, q)))

pub post_held : (t : Tree) (ts : List Tree) → held ts t ≡ true → postorder t ts ≡ ts
unfolding postorder held
post_held no_leaf ts e = refl
post_held yes_leaf ts e = refl
post_held (branch v l h) ts e = pick_true _ _ _ e

pub post_node : (v : ℕ) (l h : Tree) (ts : List Tree) → member (branch v l h) ts ≡ false → postorder (branch v l h) ts ≡ postorder h (postorder l ts) ++ branch v l h ∷ []
unfolding postorder
post_node v l h ts e = pick_false _ _ _ e

module _ (ts : List Tree) (g : Good ts) (v : ℕ) (l h : Tree) (cl : Canon (suc v) l) (ch : Canon (suc v) h) where
  abbrev ts₁ : List Tree
  ts₁ = postorder l ts

  abbrev ts₂ : List Tree
  ts₂ = postorder h (postorder l ts)

  p₁ : Posted l ts ts₁
  p₁ = post_laws l (suc v) ts cl g

  -- what the children's walks leave, where a part was held before
  pub settled : held ts l ≡ true → held ts h ≡ true → ts₂ ≡ ts
  settled a b = ap (postorder h) (post_held l ts a) ∙ post_held h ts b

  -- the walk of the node goes on from its children's walks
  pub post_prefix : (tail : List Tree) × (postorder (mk v l h) ts ≡ ts₂ ++ tail)
  post_prefix = either (tree_same l h) alone (λ n. apart n (member (branch v l h) ts) refl)
    where
      alone : l ≡ h → (tail : List Tree) × (postorder (mk v l h) ts ≡ ts₂ ++ tail)
      alone e = ([], ap (λ (t : Tree). postorder t ts) (mk_same v l h e) ∙ sym (ap (λ (t : Tree). postorder t (postorder l ts)) (sym e) ∙ post_held l ts₁ p₁.holds) ∙ sym (append-nil ts₂))

      apart : (l ≡ h → ⊥) → (b : Bool) → member (branch v l h) ts ≡ b → (tail : List Tree) × (postorder (mk v l h) ts ≡ ts₂ ++ tail)
      apart n true m =
          let k = held_kid ts g v l h m in
          ([], ap (λ (t : Tree). postorder t ts) (mk_apart v l h n) ∙ post_held (branch v l h) ts (member_held (branch v l h) ts m) ∙ sym (settled k.0 k.1) ∙ sym (append-nil ts₂))
      apart n false m = (branch v l h ∷ [], ap (λ (t : Tree). postorder t ts) (mk_apart v l h n) ∙ post_node v l h ts m)
