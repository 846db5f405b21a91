-- The stack of a walk over pairs: the pairs whose walks have begun, each with the half that is being walked. What the walk will have left follows from it.
-- Assumes nothing.
use Rattle.std.specs.Prelude.{ℕ, zero, suc, ◌+◌, ◌≤◌, ◌<◌, ◌≡◌, refl, List, [], ◌++◌, ◌⊎◌, length, get_or, set}
use Rattle.std.proofs.Common.{sym, ◌∙◌, ap, ap₂, subst, arith, length-append, get_or-set_same, get_or-set_other}
use Rattle.definitions.specs.Diagrams.{Diagram, size}
use Rattle.definitions.specs.Reductions.{Tree, postorder, ref}
use Rattle.theory.specs.Limits.{Ordered}
use Rattle.diagram_fields.specs.Words.{word_of, unpacked, node_word}
use Rattle.unique_table.specs.Tables.{inner_node}
use Rattle.reduction_theory.specs.Numbering.{Good, post_laws}
use Rattle.reduction_theory.specs.Growth.{post_prefix}
use Rattle.apply.specs.Pairs.{top, lower, upper, pair_tree, down}

-- A frame: a pair of nodes and the reference of its lo half, 512 while that half is being walked. It is packed as an inner node is
abbrev pub frame_of : ℕ → ℕ → ℕ → ℕ
frame_of l a b = word_of (inner_node l b a)

pub frame_parts : (l a b : ℕ) → l ≤ 512 → a < 512 → b < 512 → unpacked (frame_of l a b) ≡ inner_node l b a
frame_parts l a b h i j = node_word (inner_node l b a) (omega arith) j i

module _ (d e : Diagram) where
  -- the halves of a pair
  abbrev pub lo_a : ℕ → ℕ → ℕ
  lo_a a b = lower d (top d e a b) a

  abbrev pub lo_b : ℕ → ℕ → ℕ
  lo_b a b = lower e (top d e a b) b

  abbrev pub hi_a : ℕ → ℕ → ℕ
  hi_a a b = upper d (top d e a b) a

  abbrev pub hi_b : ℕ → ℕ → ℕ
  hi_b a b = upper e (top d e a b) b

  abbrev pub lo_tree : ℕ → ℕ → Tree
  lo_tree a b = pair_tree d e (lo_a a b) (lo_b a b)

  abbrev pub hi_tree : ℕ → ℕ → Tree
  hi_tree a b = pair_tree d e (hi_a a b) (hi_b a b)

  -- a pair that is taken apart
  pub record Apart (a b : ℕ) : Type 0 where
    pub a_inside : a < size d
    pub b_inside : b < size e
    pub some : (2 ≤ a) ⊎ (2 ≤ b)

  -- The walk of the pair a, b, which begins where ts has been left, is that of a half of the pair p, q, whose own walk begins where us has been left: by the frame
  -- f of p, q
  pub data Entered (f p q : ℕ) (us : List Tree) (a b : ℕ) (ts : List Tree) : Type 0 where
    in_lo : f ≡ frame_of 512 p q → a ≡ lo_a p q → b ≡ lo_b p q → ts ≡ us → Entered f p q us a b ts
    in_hi : (l : ℕ) → l < 512 → f ≡ frame_of l p q → l ≡ ref (postorder (lo_tree p q) us) (lo_tree p q) → a ≡ hi_a p q → b ≡ hi_b p q
        → ts ≡ postorder (lo_tree p q) us → Entered f p q us a b ts

  module _ (A B : ℕ) where
    -- the walk of the pair a, b, from where ts has been left, is a part of the walk of the pair A, B, by the first k frames of a stack
    abbrev pub Stacked : List ℕ → ℕ → ℕ → ℕ → List Tree → Type 0
    Stacked stack zero a b ts = (a ≡ A) × (b ≡ B) × (ts ≡ [])
    Stacked stack (suc k) a b ts = (p q : ℕ) × (us : List Tree) × Apart p q × Good us × Stacked stack k p q us × Entered (get_or stack k 0) p q us a b ts

    -- frames from i on do not matter
    pub stacked_set : (stack : List ℕ) (k i f a b : ℕ) (ts : List Tree) → k ≤ i → Stacked stack k a b ts → Stacked (set stack i f) k a b ts
    stacked_set stack zero i f a b ts h s = s
    stacked_set stack (suc k) i f a b ts h (p, q, us, x, g, s, t) = (
      p,
      q,
      us,
      x,
      g,
      stacked_set stack k i f p q us (omega arith) s,
      subst (λ (z : ℕ). Entered z p q us a b ts) (sym (get_or-set_other stack i k f 0 (λ z. omega arith))) t,
    )

  module _ (o : Ordered d) (r : Ordered e) where
    -- a half is inside and of a smaller sum
    entered_falls : (f p q : ℕ) (us : List Tree) (a b : ℕ) (ts : List Tree) → Apart p q → Entered f p q us a b ts → (a + b < p + q) × (a < size d) × (b < size e)
    entered_falls f p q us a b ts x (in_lo z ea eb et) =
        let w = down d e o r p q x.some in
        let i = x.a_inside in
        let j = x.b_inside in
        (omega (arith, w.lo_falls), omega (arith, w.lo_a_lem), omega (arith, w.lo_b_lem))
    entered_falls f p q us a b ts x (in_hi l h z m ea eb et) =
        let w = down d e o r p q x.some in
        let i = x.a_inside in
        let j = x.b_inside in
        (omega (arith, w.hi_falls), omega (arith, w.hi_a_lem), omega (arith, w.hi_b_lem))

    module _ (A B : ℕ) (ia : A < size d) (ib : B < size e) (stack : List ℕ) where
      pub stacked_inside : (k a b : ℕ) (ts : List Tree) → Stacked A B stack k a b ts → (a < size d) × (b < size e)
      stacked_inside zero a b ts s = (omega (arith, s.0), omega (arith, s.1))
      stacked_inside (suc k) a b ts (p, q, us, x, g, s, t) = let y = entered_falls (get_or stack k 0) p q us a b ts x t in (y.1, y.2)

      pub stacked_depth : (k a b : ℕ) (ts : List Tree) → Stacked A B stack k a b ts → k + (a + b) ≤ A + B
      stacked_depth zero a b ts s = omega (arith, s.0, s.1)
      stacked_depth (suc k) a b ts (p, q, us, x, g, s, t) =
          omega (arith, stacked_depth k p q us s, (entered_falls (get_or stack k 0) p q us a b ts x t).0)

    -- the walk of a pair leaves no less than the walks of its halves
    grows : (a b : ℕ) (ts : List Tree) → Apart a b → Good ts
        → (length (postorder (lo_tree a b) ts) ≤ length (postorder (hi_tree a b) (postorder (lo_tree a b) ts)))
        × (length (postorder (hi_tree a b) (postorder (lo_tree a b) ts)) ≤ length (postorder (pair_tree d e a b) ts))
    grows a b ts x g =
        let w = down d e o r a b x.some in
        let v = top d e a b in
        let L = lo_tree a b in
        let H = hi_tree a b in
        let p₁ = post_laws L (suc v) ts w.lo_canon g in
        let p₂ = post_laws H (suc v) (postorder L ts) w.hi_canon p₁.good in
        let m = post_prefix ts g v L H w.lo_canon w.hi_canon in
        let q : postorder (pair_tree d e a b) ts ≡ postorder H (postorder L ts) ++ m.0 = ap (λ (u : Tree). postorder u ts) w.same_tree ∙ m.1 in
        (omega (arith, ap length p₂.extends, length-append (postorder L ts) p₂.added), omega (arith, ap length q, length-append (postorder H (postorder L ts)) m.0))

    -- so where a walk on the stack leaves too many nodes, the whole walk does
    pub overflow : (A B : ℕ) (stack : List ℕ) (k a b : ℕ) (ts : List Tree) → Stacked A B stack k a b ts
        → length (postorder (pair_tree d e a b) ts) ≤ length (postorder (pair_tree d e A B) [])
    overflow A B stack zero a b ts s =
        let z : postorder (pair_tree d e a b) ts ≡ postorder (pair_tree d e A B) [] =
        ap₂ (λ (m n : ℕ). postorder (pair_tree d e m n) ts) s.0 s.1 ∙ ap (postorder (pair_tree d e A B)) s.2 in
        omega (arith, ap length z)
    overflow A B stack (suc k) a b ts (p, q, us, x, g, s, in_lo z ea eb et) =
        let y : postorder (pair_tree d e a b) ts ≡ postorder (lo_tree p q) us =
        ap₂ (λ (m n : ℕ). postorder (pair_tree d e m n) ts) ea eb ∙ ap (postorder (lo_tree p q)) et in
        omega (arith, ap length y, (grows p q us x g).0, (grows p q us x g).1, overflow A B stack k p q us s)
    overflow A B stack (suc k) a b ts (p, q, us, x, g, s, in_hi l h z m ea eb et) =
        let y : postorder (pair_tree d e a b) ts ≡ postorder (hi_tree p q) (postorder (lo_tree p q) us) =
        ap₂ (λ (m n : ℕ). postorder (pair_tree d e m n) ts) ea eb ∙ ap (postorder (hi_tree p q)) et in
        omega (arith, ap length y, (grows p q us x g).1, overflow A B stack k p q us s)

  -- a frame is put on the stack: the walk goes on at its lo half, or at its hi half
  module _ (A B : ℕ) (stack : List ℕ) (k p q : ℕ) (us : List Tree) (s : Stacked A B stack k p q us) (x : Apart p q) (g : Good us) (room : k < length stack) where
    pub push_lo : Stacked A B (set stack k (frame_of 512 p q)) (suc k) (lo_a p q) (lo_b p q) us
    push_lo =
        (p, q, us, x, g, stacked_set A B stack k k (frame_of 512 p q) p q us (omega arith) s, in_lo (get_or-set_same stack k (frame_of 512 p q) 0 room) refl refl refl)

    pub push_hi : (l : ℕ) → l < 512 → l ≡ ref (postorder (lo_tree p q) us) (lo_tree p q)
        → Stacked A B (set stack k (frame_of l p q)) (suc k) (hi_a p q) (hi_b p q) (postorder (lo_tree p q) us)
    push_hi l h m =
        (p, q, us, x, g, stacked_set A B stack k k (frame_of l p q) p q us (omega arith) s, in_hi l h (get_or-set_same stack k (frame_of l p q) 0 room) m refl refl refl)
