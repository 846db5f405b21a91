-- Laws of an ordered diagram: what its functions compute to at each node, and that the verdict on a list of variables that never fall is what the node
-- finishes at where the list stands.
-- Assumes nothing.
use Prim.Native.Nat.{ℕ, zero, suc, ◌≤◌, ◌<◌}
use Rattle.std.specs.Prelude.{◌≡◌, Bool, false}
use Rattle.std.proofs.Math.Path.{refl, sym}
use Rattle.std.proofs.Common.{◌∙◌, ap₂, arith}
use mathlib.Core.List.{List, [], ◌∷◌}
use borrow.Author.Tests.{lt-ltb, le-ltb, eq-eqb, ne_eqb}
use Rattle.definitions.specs.Basics.{pick, has}
use Rattle.definitions.specs.Diagrams.{Diagram, InnerNode, inner, descend_in, descend, advance, finish, verdict}
use Rattle.theory.specs.Limits.{Ordered}
use Rattle.theory.specs.Basics.{either, lt_or_le, Order, less, same, more, order}

-- ---- recursion down the diagram

-- induction
module _ (d : Diagram) (o : Ordered d) (P : ℕ → Type 0) (leaf : (n : ℕ) → n < 2 → P n)
    (node : (n : ℕ) → 2 ≤ n → P (inner d n).lo → P (inner d n).hi → P n) where
  below : (k n : ℕ) → n ≤ k → P n
  below zero n h = leaf n (omega arith)
  below (suc k) n h =
      either (lt_or_le n 2) (leaf n)
      (λ i. node n i (below k (inner d n).lo (omega (arith, o.lo_below n i))) (below k (inner d n).hi (omega (arith, o.hi_below n i))))

  pub induction : (n : ℕ) → P n
  induction n = below n n (omega arith)

-- what descend computes to at 0 and 1, and at an inner node
module _ {A : Type 0} (d : Diagram) (o : Ordered d) (at : ℕ → A) (inside : ℕ → InnerNode → A → A → A) where
  leaf_in : (k n : ℕ) → n < 2 → descend_in d at inside k n ≡ at n
  unfolding descend_in pick
  leaf_in zero n h = refl
  leaf_in (suc k) n h = simp (lt-ltb n 2 h)

  -- more turns than the number change nothing
  enough : (k j n : ℕ) → n ≤ k → n ≤ j → descend_in d at inside k n ≡ descend_in d at inside j n
  unfolding descend_in pick
  enough zero j n h i = sym (leaf_in j n (omega arith))
  enough (suc k) zero n h i = leaf_in (suc k) n (omega arith)
  enough (suc k) (suc j) n h i =
      either (lt_or_le n 2) (λ l. leaf_in (suc k) n l ∙ sym (leaf_in (suc j) n l))
      (λ g. simp (le-ltb n 2 g)
      (ap₂ (λ (x y : A). inside n (inner d n) x y)
      (enough k j (inner d n).lo (omega (arith, o.lo_below n g)) (omega (arith, o.lo_below n g)))
      (enough k j (inner d n).hi (omega (arith, o.hi_below n g)) (omega (arith, o.hi_below n g)))))

  pub descend_leaf : (n : ℕ) → n < 2 → descend d at inside n ≡ at n
  unfolding descend
  descend_leaf n h = leaf_in n n h

  pub descend_inner : (n : ℕ) → 2 ≤ n
      → descend d at inside n ≡ inside n (inner d n) (descend d at inside (inner d n).lo) (descend d at inside (inner d n).hi)
  unfolding descend descend_in pick
  descend_inner (suc k) h =
      simp (le-ltb (suc k) 2 h)
      (ap₂ (λ (x y : A). inside (suc k) (inner d (suc k)) x y)
      (enough k (inner d (suc k)).lo (inner d (suc k)).lo (omega (arith, o.lo_below (suc k) h)) (omega arith))
      (enough k (inner d (suc k)).hi (inner d (suc k)).hi (omega (arith, o.hi_below (suc k) h)) (omega arith)))
  descend_inner zero h = absurd (omega arith)

-- ---- lists of variables

-- never falling, from k on
abbrev pub Sorted : ℕ → List ℕ → Type 0
Sorted k [] = Unit {0}
Sorted k (e ∷ w) = (k ≤ e) × Sorted e w

pub sorted_out : (k : ℕ) (w : List ℕ) → Sorted k w → (j : ℕ) → j < k → has w j ≡ false
sorted_out k [] r j h = refl
sorted_out k (e ∷ w) r j h = simp (ne_eqb j e (λ q. omega arith), sorted_out e w r.1 j (omega arith))

-- the node got by advancing a node by the variables of a list in turn
abbrev pub advance_all : Diagram → ℕ → List ℕ → ℕ
advance_all d n [] = n
advance_all d n (e ∷ w) = advance_all d (advance d e n) w

-- ---- the functions of an ordered diagram

module _ (d : Diagram) (o : Ordered d) where
  pub advance_leaf : (e n : ℕ) → n < 2 → advance d e n ≡ n
  unfolding advance
  advance_leaf e n h = descend_leaf d o _ _ n h

  pub advance_below : (e n : ℕ) → 2 ≤ n → (inner d n).step < e → advance d e n ≡ advance d e (inner d n).lo
  unfolding advance pick
  advance_below e n h l = descend_inner d o _ _ n h ∙ simp (lt-ltb (inner d n).step e l)

  pub advance_at : (e n : ℕ) → 2 ≤ n → (inner d n).step ≡ e → advance d e n ≡ (inner d n).hi
  unfolding advance pick
  advance_at e n h q = descend_inner d o _ _ n h ∙ simp (le-ltb (inner d n).step e (omega arith), eq-eqb (inner d n).step e q)

  pub advance_above : (e n : ℕ) → 2 ≤ n → e < (inner d n).step → advance d e n ≡ n
  unfolding advance pick
  advance_above e n h g =
      descend_inner d o _ _ n h ∙ simp (le-ltb (inner d n).step e (omega arith), ne_eqb (inner d n).step e (λ q. omega arith))

  -- an inner node to which a node is advanced asks for a later variable
  pub advance_past : (e n : ℕ) → 2 ≤ advance d e n → e < (inner d (advance d e n)).step
  advance_past e =
      induction d o (λ n. 2 ≤ advance d e n → e < (inner d (advance d e n)).step) (λ n h g. absurd (omega (arith, advance_leaf e n h)))
      (λ n h l r. node n h l (order (inner d n).step e))
    where
      node : (n : ℕ) → 2 ≤ n → (2 ≤ advance d e (inner d n).lo → e < (inner d (advance d e (inner d n).lo)).step) → Order (inner d n).step e
          → 2 ≤ advance d e n → e < (inner d (advance d e n)).step
      node n h l (less q) = rw (advance_below e n h q) l
      node n h l (same q) = rw (advance_at e n h q) (λ g. omega (arith, o.hi_later n h g))
      node n h l (more q) = rw (advance_above e n h q) (λ g. q)

  -- so a second advance by the same variable changes nothing: two steps of one group on one way advance once
  pub advance_once : (e n : ℕ) → advance d e (advance d e n) ≡ advance d e n
  advance_once e n = either (lt_or_le (advance d e n) 2) (advance_leaf e (advance d e n)) (λ g. advance_above e (advance d e n) g (advance_past e n g))

  -- advancing never raises the number
  pub advance_le : (e n : ℕ) → advance d e n ≤ n
  advance_le e =
      induction d o (λ n. advance d e n ≤ n) (λ n h. omega (arith, advance_leaf e n h)) (λ n h l r. node n h l (order (inner d n).step e))
    where
      node : (n : ℕ) → 2 ≤ n → advance d e (inner d n).lo ≤ (inner d n).lo → Order (inner d n).step e → advance d e n ≤ n
      node n h l (less q) = omega (arith, advance_below e n h q, o.lo_below n h)
      node n h l (same q) = omega (arith, advance_at e n h q, o.hi_below n h)
      node n h l (more q) = omega (arith, advance_above e n h q)

  pub finish_leaf : (n : ℕ) → n < 2 → finish d n ≡ n
  unfolding finish
  finish_leaf n h = descend_leaf d o _ _ n h

  pub finish_inner : (n : ℕ) → 2 ≤ n → finish d n ≡ finish d (inner d n).lo
  unfolding finish
  finish_inner n h = descend_inner d o _ _ n h

  pub verdict_leaf : (set : ℕ → Bool) (n : ℕ) → n < 2 → verdict d set n ≡ n
  unfolding verdict
  verdict_leaf set n h = descend_leaf d o _ _ n h

  pub verdict_inner : (set : ℕ → Bool) (n : ℕ) → 2 ≤ n
      → verdict d set n ≡ pick (set (inner d n).step) (verdict d set (inner d n).hi) (verdict d set (inner d n).lo)
  unfolding verdict
  verdict_inner set n h = descend_inner d o _ _ n h

  -- only variables from the node's own on matter
  abbrev pub Local : (s t : ℕ → Bool) → ℕ → Type 0
  Local s t n = (k : ℕ) → (2 ≤ n → k ≤ (inner d n).step) → ((j : ℕ) → k ≤ j → s j ≡ t j) → verdict d s n ≡ verdict d t n

  pub verdict_local : (s t : ℕ → Bool) (n : ℕ) → Local s t n
  verdict_local s t =
      induction d o (Local s t) (λ n h k b a. verdict_leaf s n h ∙ sym (verdict_leaf t n h))
      (λ n h l r k b a.
      rw (
        verdict_inner s n h,
        verdict_inner t n h,
        a (inner d n).step (b h),
        l k (λ i. omega (arith, b h, o.lo_later n h i)) a,
        r k (λ i. omega (arith, b h, o.hi_later n h i)) a,
      ))

  -- a variable that is set first can be advanced by first
  pub verdict_advance : (e : ℕ) (w : List ℕ) → Sorted e w → (n : ℕ) → verdict d (has (e ∷ w)) n ≡ verdict d (has w) (advance d e n)
  unfolding pick
  verdict_advance e w r =
      induction d o (λ n. verdict d (has (e ∷ w)) n ≡ verdict d (has w) (advance d e n))
      (λ n h. rw (advance_leaf e n h, verdict_leaf (has (e ∷ w)) n h, verdict_leaf (has w) n h))
      (λ n h l r'. node n h l (order (inner d n).step e))
    where
      later : (j : ℕ) → suc e ≤ j → has (e ∷ w) j ≡ has w j
      later j h = simp (ne_eqb j e (λ q. omega arith))

      node : (n : ℕ) → 2 ≤ n
          → verdict d (has (e ∷ w)) (inner d n).lo ≡ verdict d (has w) (advance d e (inner d n).lo)
          → Order (inner d n).step e → verdict d (has (e ∷ w)) n ≡ verdict d (has w) (advance d e n)
      node n h l (less q) =
          rw (advance_below e n h q, verdict_inner (has (e ∷ w)) n h, sorted_out e (e ∷ w) (omega arith, r) (inner d n).step q) l
      node n h l (same q) =
          rw (advance_at e n h q, verdict_inner (has (e ∷ w)) n h, eq-eqb (inner d n).step e q)
          (verdict_local (has (e ∷ w)) (has w) (inner d n).hi (suc e) (λ i. omega (arith, o.hi_later n h i)) later)
      node n h l (more q) =
          rw (advance_above e n h q) (verdict_local (has (e ∷ w)) (has w) n (suc e) (λ i. omega arith) later)

  -- the verdict on the set of a list that never falls is what the node finishes at where the list stands
  pub verdict_stands : (w : List ℕ) (k n : ℕ) → Sorted k w → verdict d (has w) n ≡ finish d (advance_all d n w)
  unfolding verdict finish pick
  verdict_stands [] k n r = refl
  verdict_stands (e ∷ w) k n r = verdict_advance e w r.1 n ∙ verdict_stands w e (advance d e n) r.1
