-- Laws of the nodes that a walk leaves: each once, children before it, and their references do not change when the walk goes on.
-- Assumes nothing.
use Rattle.std.specs.Prelude.{ℕ, zero, suc, ◌+◌, ◌-◌, ◌≤◌, ◌<◌, ◌≡◌, Bool, ◌||◌, List, [], ◌∷◌, ◌++◌, ◌⊎◌, length, get_or}
use Rattle.std.proofs.Math.Path.{refl}
use Rattle.std.proofs.Common.{sym, ◌∙◌, ap, subst, append_assoc, append-nil, inl, inr, arith, length-append}
use Rattle.std.proofs.Math.Bool.{true, false}
use Rattle.std.proofs.Math.Numerals.{add-two}
use Rattle.std.proofs.Math.ListN.{get_or-append, get_or-eq_default}
use Rattle.std.proofs.Math.Seq.{get_or-append_seam}
use Rattle.definitions.specs.Basics.{pick}
use Rattle.definitions.specs.Reductions.{member, position, postorder, ref, Tree, alike, no_leaf, yes_leaf, branch}
use Rattle.theory.specs.Basics.{pick_true, pick_false, or_right, fails, either, lt_or_le}
use Rattle.reduction_theory.specs.Trees.{Canon, clash, alike_equal, alike_self, canon_weaken}

-- a tree has a reference among the nodes
unfoldable pub held : List Tree → Tree → Bool
held acc no_leaf = true
held acc yes_leaf = true
held acc (branch v l h) = member (branch v l h) acc

or_true : (a b : Bool) → (a || b) ≡ true → (a ≡ true) ⊎ (b ≡ true)
or_true true b e = inl refl
or_true false b e = inr e

pub member_position : (t : Tree) (us : List Tree) → member t us ≡ true → (get_or us (position t us) no_leaf ≡ t) × (position t us < length us)
unfolding member position
member_position t [] e = clash (sym e)
member_position t (u ∷ us) e = go (alike t u) refl (member_position t us)
  where
    go : (b : Bool) → alike t u ≡ b → (member t us ≡ true → (get_or us (position t us) no_leaf ≡ t) × (position t us < length us))
        → (get_or (u ∷ us) (pick (alike t u) 0 (suc (position t us))) no_leaf ≡ t) × (pick (alike t u) 0 (suc (position t us)) < length (u ∷ us))
    go true q ih = rw (pick_true _ 0 (suc (position t us)) q) (sym (alike_equal t u q), omega arith)
    go false q ih =
        let m : member t us ≡ true = rw q at e in
        rw (pick_false _ 0 (suc (position t us)) q) ((ih m).0, omega (arith, (ih m).1))

pub member_more : (t : Tree) (us vs : List Tree) → member t us ≡ true → (member t (us ++ vs) ≡ true) × (position t (us ++ vs) ≡ position t us)
unfolding member position
member_more t [] vs e = clash (sym e)
member_more t (u ∷ us) vs e = go (alike t u) refl (member_more t us vs)
  where
    go : (b : Bool) → alike t u ≡ b → (member t us ≡ true → (member t (us ++ vs) ≡ true) × (position t (us ++ vs) ≡ position t us))
        → ((alike t u || member t (us ++ vs)) ≡ true) × (pick (alike t u) 0 (suc (position t (us ++ vs))) ≡ pick (alike t u) 0 (suc (position t us)))
    go true q ih = rw q (refl, pick_true true 0 (suc (position t (us ++ vs))) refl ∙ sym (pick_true true 0 (suc (position t us)) refl))
    go false q ih =
        let m : member t us ≡ true = rw q at e in
        (rw q (ih m).0, rw (ih m).1)

pub member_last : (t : Tree) (us : List Tree) → member t us ≡ false → (member t (us ++ t ∷ []) ≡ true) × (position t (us ++ t ∷ []) ≡ length us)
unfolding member position pick
member_last t [] e = rw (alike_self t) (refl, refl)
member_last t (u ∷ us) e = go (alike t u) refl (member_last t us)
  where
    go : (b : Bool) → alike t u ≡ b → (member t us ≡ false → (member t (us ++ t ∷ []) ≡ true) × (position t (us ++ t ∷ []) ≡ length us))
        → ((alike t u || member t (us ++ t ∷ [])) ≡ true) × (pick (alike t u) 0 (suc (position t (us ++ t ∷ []))) ≡ suc (length us))
    go true q ih = clash (let x : true ≡ false = rw q at e in x)
    go false q ih =
        let m : member t us ≡ false = rw q at e in
        rw q ((ih m).0, ap suc (ih m).1)

pub get_d_member : (us : List Tree) (i : ℕ) → i < length us → member (get_or us i no_leaf) us ≡ true
unfolding member
get_d_member [] i h = absurd (omega arith)
get_d_member (u ∷ us) zero h = rw (alike_self u)
get_d_member (u ∷ us) (suc i) h = or_right (alike (get_or us i no_leaf) u) (member (get_or us i no_leaf) us) (get_d_member us i (omega arith))

-- references
pub ref_more : (t : Tree) (us vs : List Tree) → held us t ≡ true → (held (us ++ vs) t ≡ true) × (ref (us ++ vs) t ≡ ref us t)
unfolding held ref
ref_more no_leaf us vs e = (refl, refl)
ref_more yes_leaf us vs e = (refl, refl)
ref_more (branch v l h) us vs e = let x = member_more (branch v l h) us vs e in (x.0, rw x.1)

-- the tree of a reference
unfoldable pub tree_at : List Tree → ℕ → Tree
tree_at acc zero = no_leaf
tree_at acc (suc zero) = yes_leaf
tree_at acc (suc (suc i)) = get_or acc i no_leaf

pub ref_at : (t : Tree) (acc : List Tree) → held acc t ≡ true → (tree_at acc (ref acc t) ≡ t) × (ref acc t < length acc + 2)
unfolding held ref tree_at
ref_at no_leaf acc e = (refl, omega arith)
ref_at yes_leaf acc e = (refl, omega arith)
ref_at (branch v l h) acc e =
    let x = member_position (branch v l h) acc e in
    (tree_two (position (branch v l h) acc) ∙ x.0, omega (arith, x.1))
  where
    tree_two : (i : ℕ) → tree_at acc (i + 2) ≡ get_or acc i no_leaf
    tree_two i = rw add-two

pub tree_at_inner : (acc : List Tree) (n : ℕ) → 2 ≤ n → tree_at acc n ≡ get_or acc (n - 2) no_leaf
unfolding tree_at
tree_at_inner acc zero h = absurd (omega arith)
tree_at_inner acc (suc zero) h = absurd (omega arith)
tree_at_inner acc (suc (suc i)) h = rw (minus i)
  where
    minus : (i : ℕ) → suc (suc i) - 2 ≡ i
    minus i = omega arith

pub member_held : (t : Tree) (us : List Tree) → member t us ≡ true → held us t ≡ true
unfolding held
member_held no_leaf us e = refl
member_held yes_leaf us e = refl
member_held (branch v l h) us e = e

pub get_d_held : (us : List Tree) (i : ℕ) → i < length us → held us (get_or us i no_leaf) ≡ true
get_d_held us i q = member_held (get_or us i no_leaf) us (get_d_member us i q)

-- a part of a tree
pub data Sub (u : Tree) : Tree → Type 0 where
  whole : Sub u u
  in_lo : {v : ℕ} {l h : Tree} → Sub u l → Sub u (branch v l h)
  in_hi : {v : ℕ} {l h : Tree} → Sub u h → Sub u (branch v l h)

unfoldable pub weight : Tree → ℕ
weight no_leaf = 0
weight yes_leaf = 0
weight (branch v l h) = suc (weight l + weight h)

pub sub_weight : {u t : Tree} → Sub u t → weight u ≤ weight t
unfolding weight
sub_weight whole = omega arith
sub_weight (in_lo s) = omega (arith, sub_weight s)
sub_weight (in_hi s) = omega (arith, sub_weight s)

pub member_cases : (u : Tree) (xs ys : List Tree) → member u (xs ++ ys) ≡ true → (member u xs ≡ true) ⊎ (member u ys ≡ true)
unfolding member
member_cases u [] ys e = inr e
member_cases u (x ∷ xs) ys e = go (alike u x) (member_cases u xs ys) e
  where
    go : (b : Bool) → (member u (xs ++ ys) ≡ true → (member u xs ≡ true) ⊎ (member u ys ≡ true)) → (b || member u (xs ++ ys)) ≡ true
        → ((b || member u xs) ≡ true) ⊎ (member u ys ≡ true)
    go true ih e = inl refl
    go false ih e = ih e

pub member_one : (u t : Tree) → member u (t ∷ []) ≡ true → u ≡ t
unfolding member
member_one u t e = either (or_true (alike u t) false e) (λ q. alike_equal u t q) (λ q. clash (sym q))

-- a walk adds parts of its tree alone
pub post_adds : (t u : Tree) (acc : List Tree) → member u (postorder t acc) ≡ true → (member u acc ≡ true) ⊎ Sub u t
unfolding postorder
post_adds no_leaf u acc e = inl e
post_adds yes_leaf u acc e = inl e
post_adds (branch v l h) u acc e =
    go (member (branch v l h) acc) (post_adds l u acc) (post_adds h u (postorder l acc)) e
  where
    go : (b : Bool) → (member u (postorder l acc) ≡ true → (member u acc ≡ true) ⊎ Sub u l)
        → (member u (postorder h (postorder l acc)) ≡ true → (member u (postorder l acc) ≡ true) ⊎ Sub u h)
        → member u (pick b acc (postorder h (postorder l acc) ++ branch v l h ∷ [])) ≡ true → (member u acc ≡ true) ⊎ Sub u (branch v l h)
    go true il ih e = inl (rw (pick_true true acc (postorder h (postorder l acc) ++ branch v l h ∷ []) refl) at e)
    go false il ih e =
        let f = rw (pick_false false acc (postorder h (postorder l acc) ++ branch v l h ∷ []) refl) at e in
        either (member_cases u (postorder h (postorder l acc)) (branch v l h ∷ []) f)
        (λ m. either (ih m) (λ m'. either (il m') inl (λ s. inr (in_lo s))) (λ s. inr (in_hi s)))
        (λ m. inr (subst (λ (x : Tree). Sub u x) (member_one u (branch v l h) m) whole))

-- a node is not among what its children's walks add
pub post_new : (v : ℕ) (l h : Tree) (acc : List Tree) → member (branch v l h) acc ≡ false → member (branch v l h) (postorder h (postorder l acc)) ≡ false
unfolding weight
post_new v l h acc n =
    fails _ (λ e.
    either (post_adds h (branch v l h) (postorder l acc) e)
    (λ m. either (post_adds l (branch v l h) acc m) (λ m'. clash (sym m' ∙ n)) (λ s. absurd (omega (arith, sub_weight s))))
    (λ s. absurd (omega (arith, sub_weight s))))

-- a list of nodes as a walk makes it: each is a reduced, ordered node, stands once, and its children stand before it
pub record Good (acc : List Tree) : Type 0 where
  pub canon : (i : ℕ) → Canon 0 (get_or acc i no_leaf)
  pub once : (i : ℕ) → i < length acc → ref acc (get_or acc i no_leaf) ≡ i + 2
  pub lo_held : (i v : ℕ) (l h : Tree) → i < length acc → get_or acc i no_leaf ≡ branch v l h → (held acc l ≡ true) × (ref acc l < i + 2)
  pub hi_held : (i v : ℕ) (l h : Tree) → i < length acc → get_or acc i no_leaf ≡ branch v l h → (held acc h ≡ true) × (ref acc h < i + 2)

pub good_nil : Good []
good_nil = record { canon = λ i. tt; once = λ i h. absurd (omega arith); lo_held = λ i v l h q e. absurd (omega arith); hi_held = λ i v l h q e. absurd (omega arith) }

-- a list and one more: which of them an entry is
data Spot (acc : List Tree) (t : Tree) (i : ℕ) : Type 0 where
  old : i < length acc → get_or (acc ++ t ∷ []) i no_leaf ≡ get_or acc i no_leaf → Spot acc t i
  last : i ≡ length acc → get_or (acc ++ t ∷ []) i no_leaf ≡ t → Spot acc t i
  past : length acc < i → get_or (acc ++ t ∷ []) i no_leaf ≡ no_leaf → Spot acc t i

spot : (acc : List Tree) (t : Tree) (i : ℕ) → Spot acc t i
spot acc t i =
    either (lt_or_le i (length acc)) (λ h. old h (get_or-append acc (t ∷ []) no_leaf i h))
    (λ g. either (lt_or_le (length acc) i)
    (λ h. past h (get_or-eq_default (acc ++ t ∷ []) no_leaf (omega (arith, length-append acc (t ∷ [])))))
    (λ h. let q : i ≡ length acc = omega arith in last q (rw q (get_or-append_seam acc t [] no_leaf))))

not_less : {X : Type 0} (acc : List Tree) (t : Tree) (i : ℕ) → length acc < i → i < length (acc ++ t ∷ []) → X
not_less acc t i h g = absurd (omega (arith, length-append acc (t ∷ [])))

pub branch_inj : (v w : ℕ) (l h m k : Tree) → branch v l h ≡ branch w m k → (v ≡ w) × (l ≡ m) × (h ≡ k)
branch_inj v w l h m k e = (cc, cc, cc)

module _ (acc : List Tree) (g : Good acc) (v : ℕ) (l h : Tree) (c : Canon 0 (branch v l h)) (hl : held acc l ≡ true) (hh : held acc h ≡ true)
    (new : member (branch v l h) acc ≡ false) where
  abbrev t' : Tree
  t' = branch v l h

  abbrev acc' : List Tree
  acc' = acc ++ t' ∷ []

  snoc_canon : (i : ℕ) → Spot acc t' i → Canon 0 (get_or acc' i no_leaf)
  snoc_canon i (old q e) = rw e (g.canon i)
  snoc_canon i (last q e) = rw e c
  snoc_canon i (past q e) = rw e tt

  snoc_once : (i : ℕ) → i < length acc' → Spot acc t' i → ref acc' (get_or acc' i no_leaf) ≡ i + 2
  unfolding ref
  snoc_once i b (old q e) = rw e (stays (get_or acc i no_leaf) (get_d_held acc i q) ∙ g.once i q)
    where
      stays : (u : Tree) → held acc u ≡ true → ref acc' u ≡ ref acc u
      stays u x = (ref_more u acc (t' ∷ []) x).1
  snoc_once i b (last q e) = rw (e, q) (ap (λ (x : ℕ). x + 2) (member_last t' acc new).1)
  snoc_once i b (past q e) = not_less acc t' i q b

  snoc_lo : (i w : ℕ) (m k : Tree) → i < length acc' → get_or acc' i no_leaf ≡ branch w m k → Spot acc t' i → (held acc' m ≡ true) × (ref acc' m < i + 2)
  snoc_lo i w m k b f (old q e) =
      let x = g.lo_held i w m k q (sym e ∙ f) in let y = ref_more m acc (t' ∷ []) x.0 in (y.0, omega (arith, y.1, x.1))
  snoc_lo i w m k b f (last q e) =
      let x = branch_inj v w l h m k (sym e ∙ f) in let y = ref_more l acc (t' ∷ []) hl in
      rw (← x.1) (y.0, omega (arith, y.1, (ref_at l acc hl).1))
  snoc_lo i w m k b f (past q e) = not_less acc t' i q b

  snoc_hi : (i w : ℕ) (m k : Tree) → i < length acc' → get_or acc' i no_leaf ≡ branch w m k → Spot acc t' i → (held acc' k ≡ true) × (ref acc' k < i + 2)
  snoc_hi i w m k b f (old q e) =
      let x = g.hi_held i w m k q (sym e ∙ f) in let y = ref_more k acc (t' ∷ []) x.0 in (y.0, omega (arith, y.1, x.1))
  snoc_hi i w m k b f (last q e) =
      let x = branch_inj v w l h m k (sym e ∙ f) in let y = ref_more h acc (t' ∷ []) hh in
      rw (← x.2) (y.0, omega (arith, y.1, (ref_at h acc hh).1))
  snoc_hi i w m k b f (past q e) = not_less acc t' i q b

  pub good_snoc : Good (acc ++ branch v l h ∷ [])
  good_snoc = record {
    canon = λ i. snoc_canon i (spot acc t' i);
    once = λ i b. snoc_once i b (spot acc t' i);
    lo_held = λ i w m k b f. snoc_lo i w m k b f (spot acc t' i);
    hi_held = λ i w m k b f. snoc_hi i w m k b f (spot acc t' i);
  }

-- what a walk from t makes of a good list: it extends it, stays good, and holds t
pub record Posted (t : Tree) (acc out : List Tree) : Type 0 where
  pub added : List Tree
  pub extends : out ≡ acc ++ added
  pub good : Good out
  pub holds : held out t ≡ true

pub post_laws : (t : Tree) (k : ℕ) (acc : List Tree) → Canon k t → Good acc → Posted t acc (postorder t acc)
unfolding postorder
post_laws no_leaf k acc c g = record { added = []; extends = sym (append-nil acc); good = g; holds = unfold held in refl }
post_laws yes_leaf k acc c g = record { added = []; extends = sym (append-nil acc); good = g; holds = unfold held in refl }
post_laws (branch v l h) k acc c g =
    let p = post_laws l (suc v) acc c.1 g in
    go (member (branch v l h) acc) refl p (post_laws h (suc v) (postorder l acc) c.2 p.good)
  where
    go : (b : Bool) → member (branch v l h) acc ≡ b → Posted l acc (postorder l acc) → Posted h (postorder l acc) (postorder h (postorder l acc))
        → Posted (branch v l h) acc (pick (member (branch v l h) acc) acc (postorder h (postorder l acc) ++ branch v l h ∷ []))
    go true e p q = rw (pick_true _ acc (postorder h (postorder l acc) ++ branch v l h ∷ []) e) (record { added = []; extends = sym (append-nil acc); good = g; holds = unfold held in e })
    go false e p q =
        let kept = ref_more l (postorder l acc) q.added p.holds in
        let hl : held (postorder h (postorder l acc)) l ≡ true = rw q.extends kept.0 in
        let new = post_new v l h acc e in
        rw (pick_false _ acc (postorder h (postorder l acc) ++ branch v l h ∷ []) e)
        (record {
          added = (p.added ++ q.added) ++ branch v l h ∷ [];
          extends = rw (q.extends, p.extends) (simp append_assoc);
          good = good_snoc (postorder h (postorder l acc)) q.good v l h (canon_weaken (branch v l h) 0 k (omega arith) c) hl q.holds new;
          holds = unfold held in (member_last (branch v l h) (postorder h (postorder l acc)) new).0;
        })
