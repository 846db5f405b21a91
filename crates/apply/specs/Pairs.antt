-- A pair of references into two diagrams, its tree (the conjunction of the two trees), and how one step takes it to two pairs with lower numbers.
-- Assumes nothing.
use Prim.Native.Nat.{ℕ, suc, ◌+◌, ◌*◌, ◌≤◌, ◌<◌, min}
use Rattle.std.specs.Prelude.{◌≡◌, ◌⊎◌, ltb, eqb}
use Rattle.std.proofs.Math.Path.{refl, ap, ap₂, subst}
use Rattle.std.proofs.Common.{sym, ◌∙◌, mul-le-mul_right}
use Rattle.std.proofs.Math.Bool.{true, false}
use Rattle.std.proofs.Math.Logic.{inl, inr}
use native.Mathlib.Omega.{arith}
use borrow.Author.Tests.{lt-ltb, le-ltb, eq-eqb, ne_eqb}
use Rattle.definitions.specs.Basics.{pick}
use Rattle.definitions.specs.Diagrams.{Diagram, inner}
use Rattle.theory.specs.Limits.{Ordered}
use Rattle.theory.specs.Basics.{pick_true, pick_false, either, lt_or_le, Order, order, less, same, more}
use Rattle.reduction_theory.specs.Trees.{leaf_tree, tree, meet_node, meet, Canon}
use Rattle.definitions.specs.Reductions.{Tree, mk, no_leaf, yes_leaf, branch}
use Rattle.reduction_theory.specs.Meets.{meets, Splits, meet_step, splits_own, splits_not}
use Rattle.reduction_theory.specs.Reduction.{tree_leaf, tree_canon}

-- the variable at which a pair is taken apart: the smaller of the two nodes', of the inner one alone where the other is 0 or 1
unfoldable pub top : Diagram → Diagram → ℕ → ℕ → ℕ
top d e a b = pick (ltb a 2) (inner e b).step (pick (ltb b 2) (inner d a).step (min (inner d a).step (inner e b).step))

-- a reference's children at a variable: its own where it is a node of the variable, else itself twice
unfoldable pub lower : Diagram → ℕ → ℕ → ℕ
lower d v n = pick (ltb n 2) n (pick (eqb (inner d n).step v) (inner d n).lo n)

unfoldable pub upper : Diagram → ℕ → ℕ → ℕ
upper d v n = pick (ltb n 2) n (pick (eqb (inner d n).step v) (inner d n).hi n)

-- the tree of a pair
unfoldable pub pair_tree : Diagram → Diagram → ℕ → ℕ → Tree
pair_tree d e a b = meet (tree d a) (tree e b)

-- a reference at a variable not past its own
data Side (d : Diagram) (v n : ℕ) : Type 0 where
  leaf : n < 2 → Side d v n
  own : 2 ≤ n → (inner d n).step ≡ v → Side d v n
  later : 2 ≤ n → v < (inner d n).step → Side d v n

module _ (d : Diagram) (o : Ordered d) where
  lower_law : (v n : ℕ) → Side d v n → (lower d v n ≤ n) × (upper d v n ≤ n) × Splits v (tree d n) (tree d (lower d v n)) (tree d (upper d v n))
  unfolding lower upper
  lower_law v n (leaf h) =
      rw (pick_true (ltb n 2) n (pick (eqb (inner d n).step v) (inner d n).lo n) (lt-ltb n 2 h), pick_true (ltb n 2) n (pick (eqb (inner d n).step v) (inner d n).hi n) (lt-ltb n 2 h))
      (omega arith, omega arith, splits_not d o v n (λ i. absurd (omega arith)))
  lower_law v n (own h e) =
      rw (
        le-ltb n 2 h,
        pick_false false n (pick (eqb (inner d n).step v) (inner d n).lo n) refl,
        pick_false false n (pick (eqb (inner d n).step v) (inner d n).hi n) refl,
        eq-eqb (inner d n).step v e,
        pick_true true (inner d n).lo n refl,
        pick_true true (inner d n).hi n refl,
      )
      (omega (arith, o.lo_below n h), omega (arith, o.hi_below n h), subst (λ (x : ℕ). Splits x (tree d n) (tree d (inner d n).lo) (tree d (inner d n).hi)) e (splits_own d o n h))
  lower_law v n (later h e) =
      rw (
        le-ltb n 2 h,
        pick_false false n (pick (eqb (inner d n).step v) (inner d n).lo n) refl,
        pick_false false n (pick (eqb (inner d n).step v) (inner d n).hi n) refl,
        ne_eqb (inner d n).step v (λ q. omega arith),
        pick_false false (inner d n).lo n refl,
        pick_false false (inner d n).hi n refl,
      )
      (omega arith, omega arith, splits_not d o v n (λ i. e))

  lower_own : (v n : ℕ) → 2 ≤ n → (inner d n).step ≡ v → (lower d v n < n) × (upper d v n < n)
  unfolding lower upper
  lower_own v n h e =
      rw (
        le-ltb n 2 h,
        pick_false false n (pick (eqb (inner d n).step v) (inner d n).lo n) refl,
        pick_false false n (pick (eqb (inner d n).step v) (inner d n).hi n) refl,
        eq-eqb (inner d n).step v e,
        pick_true true (inner d n).lo n refl,
        pick_true true (inner d n).hi n refl,
      )
      (o.lo_below n h, o.hi_below n h)

-- one step of a pair, and that it goes down
pub record Down (d e : Diagram) (a b : ℕ) : Type 0 where
  pub lo_a_lem : lower d (top d e a b) a ≤ a
  pub lo_b_lem : lower e (top d e a b) b ≤ b
  pub hi_a_lem : upper d (top d e a b) a ≤ a
  pub hi_b_lem : upper e (top d e a b) b ≤ b
  pub lo_falls : lower d (top d e a b) a + lower e (top d e a b) b < a + b
  pub hi_falls : upper d (top d e a b) a + upper e (top d e a b) b < a + b
  pub lo_canon : Canon (suc (top d e a b)) (pair_tree d e (lower d (top d e a b) a) (lower e (top d e a b) b))
  pub hi_canon : Canon (suc (top d e a b)) (pair_tree d e (upper d (top d e a b) a) (upper e (top d e a b) b))
  pub same_tree : pair_tree d e a b ≡ mk (top d e a b) (pair_tree d e (lower d (top d e a b) a) (lower e (top d e a b) b)) (pair_tree d e (upper d (top d e a b) a) (upper e (top d e a b) b))

module _ (d e : Diagram) (o : Ordered d) (p : Ordered e) where
  -- either side has the variable, and neither is past it
  sides : (a b : ℕ) → 2 ≤ a + b → (2 ≤ a) ⊎ (2 ≤ b) → Side d (top d e a b) a × Side e (top d e a b) b × (((2 ≤ a) × ((inner d a).step ≡ top d e a b)) ⊎ ((2 ≤ b) × ((inner e b).step ≡ top d e a b)))
  unfolding top
  sides a b z t =
      either (lt_or_le a 2)
      (λ h. let i : 2 ≤ b = either t (λ q. absurd (omega arith)) (λ q. q) in
      rw (pick_true (ltb a 2) (inner e b).step (pick (ltb b 2) (inner d a).step (min (inner d a).step (inner e b).step)) (lt-ltb a 2 h))
      (leaf h, own i refl, inr (i, refl)))
      (λ h. rw (pick_false (ltb a 2) (inner e b).step (pick (ltb b 2) (inner d a).step (min (inner d a).step (inner e b).step)) (le-ltb a 2 h))
      (either (lt_or_le b 2)
      (λ i. rw (pick_true (ltb b 2) (inner d a).step (min (inner d a).step (inner e b).step) (lt-ltb b 2 i)) (own h refl, leaf i, inl (h, refl)))
      (λ i. rw (pick_false (ltb b 2) (inner d a).step (min (inner d a).step (inner e b).step) (le-ltb b 2 i)) (two h i (order (inner d a).step (inner e b).step)))))
    where
      two : 2 ≤ a → 2 ≤ b → Order (inner d a).step (inner e b).step
          → Side d (min (inner d a).step (inner e b).step) a × Side e (min (inner d a).step (inner e b).step) b
          × (((2 ≤ a) × ((inner d a).step ≡ min (inner d a).step (inner e b).step)) ⊎ ((2 ≤ b) × ((inner e b).step ≡ min (inner d a).step (inner e b).step)))
      two h i (less q) = (own h (omega arith), later i (omega arith), inl (h, omega arith))
      two h i (same q) = (own h (omega arith), own i (omega arith), inl (h, omega arith))
      two h i (more q) = (later h (omega arith), own i (omega arith), inr (i, omega arith))

  pub down : (a b : ℕ) → (2 ≤ a) ⊎ (2 ≤ b) → Down d e a b
  unfolding pair_tree
  down a b t =
      let v = top d e a b in
      let s = sides a b (either t (λ h. omega arith) (λ h. omega arith)) t in
      let x = lower_law d o v a s.0 in
      let y = lower_law e p v b s.1 in
      record {
        lo_a_lem = x.0;
        lo_b_lem = y.0;
        hi_a_lem = x.1;
        hi_b_lem = y.1;
        lo_falls = either s.2 (λ q. omega (arith, x.0, y.0, (lower_own d o v a q.0 q.1).0)) (λ q. omega (arith, x.0, y.0, (lower_own e p v b q.0 q.1).0));
        hi_falls = either s.2 (λ q. omega (arith, x.1, y.1, (lower_own d o v a q.0 q.1).1)) (λ q. omega (arith, x.1, y.1, (lower_own e p v b q.0 q.1).1));
        lo_canon = (meets (tree d (lower d v a)) (tree e (lower e v b))).1 (suc v) x.2.1 y.2.1;
        hi_canon = (meets (tree d (upper d v a)) (tree e (upper e v b))).1 (suc v) x.2.2 y.2.2;
        same_tree = meet_step v (tree d a) (tree d (lower d v a)) (tree d (upper d v a)) (tree e b) (tree e (lower e v b)) (tree e (upper e v b)) x.2 y.2;
      }

-- ---- pairs that need no walk

module _ (d e : Diagram) (o : Ordered d) (p : Ordered e) where
  pub pair_canon : (a b : ℕ) → Canon 0 (pair_tree d e a b)
  pair_canon a b = unfold pair_tree in (meets (tree d a) (tree e b)).1 0 (tree_canon d o a 0 (λ i. omega arith)) (tree_canon e p b 0 (λ i. omega arith))

  pub pair_no_left : (b : ℕ) → pair_tree d e 0 b ≡ no_leaf
  unfolding pair_tree meet leaf_tree pick
  pair_no_left b = ap (λ (t : Tree). meet t (tree e b)) (tree_leaf d o 0 (omega arith))

  meet_no : (t : Tree) → meet t no_leaf ≡ no_leaf
  unfolding meet meet_node
  meet_no no_leaf = refl
  meet_no yes_leaf = refl
  meet_no (branch v l h) = refl

  pub pair_no_right : (a : ℕ) → pair_tree d e a 0 ≡ no_leaf
  unfolding pair_tree leaf_tree pick
  pair_no_right a = ap (λ (t : Tree). meet (tree d a) t) (tree_leaf e p 0 (omega arith)) ∙ meet_no (tree d a)

  pub pair_yes : pair_tree d e 1 1 ≡ yes_leaf
  unfolding pair_tree meet leaf_tree pick
  pair_yes = ap₂ meet (tree_leaf d o 1 (omega arith)) (tree_leaf e p 1 (omega arith))

-- ---- the places of pairs

pub pairs_apart : (n a b i j : ℕ) → b < n → j < n → a * n + b ≡ i * n + j → (a ≡ i) × (b ≡ j)
pairs_apart n a b i j h k e =
    either (lt_or_le a i) (λ q. let z = mul-le-mul_right n q in absurd (omega arith))
    (λ q. either (lt_or_le i a) (λ r. let z = mul-le-mul_right n r in absurd (omega arith))
    (λ r. let s : a ≡ i = omega arith in (s, let f : a * n + b ≡ a * n + j = subst (λ (x : ℕ). a * n + b ≡ x * n + j) (sym s) e in omega arith)))

pub pair_inside : (n m a b : ℕ) → a < m → b < n → a * n + b < m * n
pair_inside n m a b h k = let z = mul-le-mul_right n h in omega arith
