-- The walk over pairs: what its stack, the work entries and the table of nodes say between two of its turns.
-- Assumes nothing.
use Rattle.std.specs.Prelude.{ℕ, suc, ◌+◌, ◌*◌, ◌≤◌, ◌<◌, ◌≡◌, refl, true, List, ◌++◌, Option, Some, None, ltb, eqb, length, set}
use Rattle.std.proofs.Math.Path.{sym, ap, ap₂}
use Rattle.std.proofs.Common.{◌∙◌, get_or-set_same, get_or-set_other}
use Rattle.std.proofs.Math.Logic.{inl, inr}
use native.Mathlib.Omega.{arith}
use Rattle.std.proofs.Math.ListN.{get_or}
use borrow.Author.Tests.{ltb-true, eqb-true, eqb-false}
use Rattle.definitions.specs.Basics.{pick}
use Rattle.definitions.specs.Diagrams.{Diagram, size}
use Rattle.definitions.specs.Reductions.{Tree, no_leaf, yes_leaf, postorder, ref, nodes_of}
use Rattle.theory.specs.Basics.{pick_cases, either, lt_or_le, same_or_not}
use Rattle.unique_table.specs.Tables.{UniqueTable, nodes_in, Table}
use Rattle.reduction_theory.specs.Numbering.{held, ref_more, Good}
use Rattle.apply.specs.Pairs.{pair_tree, pair_no_left, pair_no_right, pair_yes, pairs_apart, pair_inside}
use Rattle.apply.specs.Operands.{Inside}
use Rattle.apply.specs.Stacks.{Apart, Stacked, stacked_depth}

-- ---- work entries

-- what the work entries tell: an entry below 512 is the reference of its pair
abbrev pub Known : Diagram → Diagram → List ℕ → List Tree → Type 0
Known d e work ts =
    (a b : ℕ) → a < size d → b < size e → get_or work (a * size e + b) 0 < 512
    → (held ts (pair_tree d e a b) ≡ true) × (get_or work (a * size e + b) 0 ≡ ref ts (pair_tree d e a b))

pub known_more : (d e : Diagram) (work : List ℕ) (ts us : List Tree) → Known d e work ts → Known d e work (ts ++ us)
known_more d e work ts us k a b h i q =
    let x = k a b h i q in let y = ref_more (pair_tree d e a b) ts us x.0 in (y.0, x.1 ∙ sym y.1)

pub known_set : (d e : Diagram) (work : List ℕ) (ts : List Tree) (a b r : ℕ) → a < size d → b < size e → a * size e + b < length work → Known d e work ts
    → held ts (pair_tree d e a b) ≡ true → r ≡ ref ts (pair_tree d e a b) → Known d e (set work (a * size e + b) r) ts
known_set d e work ts a b r ha hb l k m q i j hi hj =
    either (same_or_not (i * size e + j) (a * size e + b)) own other
  where
    other : (i * size e + j ≡ a * size e + b → ⊥) → get_or (set work (a * size e + b) r) (i * size e + j) 0 < 512
        → (held ts (pair_tree d e i j) ≡ true) × (get_or (set work (a * size e + b) r) (i * size e + j) 0 ≡ ref ts (pair_tree d e i j))
    other n = rw (get_or-set_other work (a * size e + b) (i * size e + j) r 0 n) (k i j hi hj)

    own : i * size e + j ≡ a * size e + b → get_or (set work (a * size e + b) r) (i * size e + j) 0 < 512
        → (held ts (pair_tree d e i j) ≡ true) × (get_or (set work (a * size e + b) r) (i * size e + j) 0 ≡ ref ts (pair_tree d e i j))
    own n s =
        let x = pairs_apart (size e) i j a b hj hb n in
        let z : pair_tree d e a b ≡ pair_tree d e i j = ap₂ (pair_tree d e) (sym x.0) (sym x.1) in
        (ap (held ts) (sym z) ∙ m, ap (λ (y : ℕ). get_or (set work (a * size e + b) r) y 0) n ∙ get_or-set_same work (a * size e + b) r 0 l ∙ q ∙ ap (ref ts) z)

-- ---- pairs that need no walk

-- the reference of a pair with 0, of 1 and 1, or of one that is done; none of any other
unfoldable pub known_in : List ℕ → ℕ → ℕ → ℕ → Option ℕ
known_in work width a b =
    pick (eqb a 0) (Some 0)
    (pick (eqb b 0) (Some 0)
    (pick (eqb (a + b) 2) (Some 1)
    (pick (ltb (get_or work (a * width + b) 0) 512) (Some (get_or work (a * width + b) 0)) None)))

-- an optional number as a number
abbrev told : Option ℕ → ℕ
told None = 0
told (Some n) = suc n

leaf_held : (ts : List Tree) → (held ts no_leaf ≡ true) × (held ts yes_leaf ≡ true) × (0 ≡ ref ts no_leaf) × (1 ≡ ref ts yes_leaf)
unfolding held ref
leaf_held ts = (refl, refl, refl, refl)

module _ (d e : Diagram) (left right : List ℕ) (width : ℕ) (work : List ℕ) (i : Inside d e left right width work) (ts : List Tree) (k : Known d e work ts)
    (a b : ℕ) (ia : a < size d) (ib : b < size e) where
  -- what is known is the pair's reference
  pub known_held : (r : ℕ) → Some r ≡ known_in work width a b → (r < 512) × (held ts (pair_tree d e a b) ≡ true) × (r ≡ ref ts (pair_tree d e a b))
  unfolding known_in
  known_held r is =
      let o = i.first.ordered in
      let p = i.second.ordered in
      either (pick_cases _ _ _ (Some r) (sym is))
      (λ (x : (eqb a 0 ≡ true) × (Some 0 ≡ Some r)).
      let t : 0 ≡ r = omega (arith, ap told x.1) in
      let z : pair_tree d e a b ≡ no_leaf = ap (λ (m : ℕ). pair_tree d e m b) (eqb-true a 0 x.0) ∙ pair_no_left d e o p b in
      (omega (arith, t), ap (held ts) z ∙ (leaf_held ts).0, sym t ∙ (leaf_held ts).2 ∙ ap (ref ts) (sym z)))
      (λ x. either (pick_cases _ _ _ (Some r) x.1)
      (λ (y : (eqb b 0 ≡ true) × (Some 0 ≡ Some r)).
      let t : 0 ≡ r = omega (arith, ap told y.1) in
      let z : pair_tree d e a b ≡ no_leaf = ap (λ (m : ℕ). pair_tree d e a m) (eqb-true b 0 y.0) ∙ pair_no_right d e o p a in
      (omega (arith, t), ap (held ts) z ∙ (leaf_held ts).0, sym t ∙ (leaf_held ts).2 ∙ ap (ref ts) (sym z)))
      (λ y. either (pick_cases _ _ _ (Some r) y.1)
      (λ (q : (eqb (a + b) 2 ≡ true) × (Some 1 ≡ Some r)).
      let t : 1 ≡ r = omega (arith, ap told q.1) in
      let fa = eqb-false a 0 x.0 in
      let fb = eqb-false b 0 y.0 in
      let sum = eqb-true (a + b) 2 q.0 in
      let ea : a ≡ 1 = omega arith in
      let eb : b ≡ 1 = omega arith in
      let z : pair_tree d e a b ≡ yes_leaf = ap₂ (pair_tree d e) ea eb ∙ pair_yes d e o p in
      (omega (arith, t), ap (held ts) z ∙ (leaf_held ts).1, sym t ∙ (leaf_held ts).3 ∙ ap (ref ts) (sym z)))
      (λ q. either (pick_cases _ _ _ (Some r) q.1)
      (λ s. done (ltb-true (get_or work (a * width + b) 0) 512 s.0) (omega (arith, ap told s.1)))
      (λ s. absurd (omega (arith, ap told s.1))))))
    where
      done : get_or work (a * width + b) 0 < 512 → get_or work (a * width + b) 0 ≡ r → (r < 512) × (held ts (pair_tree d e a b) ≡ true) × (r ≡ ref ts (pair_tree d e a b))
      done h q =
          let same-entry : get_or work (a * width + b) 0 ≡ get_or work (a * size e + b) 0 = ap (λ (m : ℕ). get_or work (a * m + b) 0) i.wide in
          let x = k a b ia ib (omega (arith, same-entry)) in
          (omega (arith, q), x.0, sym q ∙ same-entry ∙ x.1)

  -- a pair of which nothing is known is taken apart
  pub known_apart : None ≡ known_in work width a b → Apart d e a b
  unfolding known_in
  known_apart is =
      either (pick_cases _ _ _ None (sym is)) (λ x. absurd (omega (arith, ap told x.1)))
      (λ x. either (pick_cases _ _ _ None x.1) (λ y. absurd (omega (arith, ap told y.1)))
      (λ y. either (pick_cases _ _ _ None y.1) (λ q. absurd (omega (arith, ap told q.1)))
      (λ q. let fa = eqb-false a 0 x.0 in
      let fb = eqb-false b 0 y.0 in
      let fc = eqb-false (a + b) 2 q.0 in
      record { a_inside = ia; b_inside = ib; some = either (lt_or_le a 2) (λ h. inr (omega arith)) inl })))

-- ---- between two turns

-- the table holds what has been left so far
pub record State (d e : Diagram) (ts : List Tree) (work : List ℕ) (table : UniqueTable) : Type 0 where
  pub good : Good ts
  pub nodes : nodes_in table ≡ nodes_of ts
  pub known : Known d e work ts

-- the walk of the pair a, b is done, and r is its reference; k frames ask for it
pub record Returned (d e : Diagram) (A B : ℕ) (stack : List ℕ) (k r : ℕ) (work : List ℕ) (table : UniqueTable) : Type 0 where
  pub a : ℕ
  pub b : ℕ
  pub ts : List Tree
  pub stacked : Stacked d e A B stack k a b ts
  pub state : State d e (postorder (pair_tree d e a b) ts) work table
  pub at : r ≡ ref (postorder (pair_tree d e a b) ts) (pair_tree d e a b)
  pub small : r < 512

-- of two diagrams in tables, from a pair A, B
pub record Walking (stack work : List ℕ) (table : UniqueTable) (left right : List ℕ) (width k r : ℕ) : Type 0 where
  pub d : Diagram
  pub e : Diagram
  pub A : ℕ
  pub B : ℕ
  pub inside : Inside d e left right width work
  pub A-inside : A < size d
  pub B-inside : B < size e
  pub long : length stack ≡ 1024
  pub entries : Table table
  pub returned : Returned d e A B stack k r work table

-- before the walk of a pair a, b, which k frames ask for
pub record Descending (stack work left right : List ℕ) (width k a b : ℕ) : Type 0 where
  pub d : Diagram
  pub e : Diagram
  pub A : ℕ
  pub B : ℕ
  pub ts : List Tree
  pub inside : Inside d e left right width work
  pub A-inside : A < size d
  pub B-inside : B < size e
  pub long : length stack ≡ 1024
  pub known : Known d e work ts
  pub good : Good ts
  pub stacked : Stacked d e A B stack k a b ts

-- ---- the numbers that the code's own tests need

pub record Placed (width a b : ℕ) (work : List ℕ) : Type 0 where
  pub a_small : a < 512
  pub b_small : b < 512
  pub width_small : width ≤ 512
  pub inside : a * width + b < length work

pub placed : (d e : Diagram) (left right : List ℕ) (width : ℕ) (work : List ℕ) → Inside d e left right width work → (a b : ℕ) → a < size d → b < size e → Placed width a b work
placed d e left right width work i a b ha hb = record {
  a_small = omega (arith, i.first.few);
  b_small = omega (arith, i.second.few);
  width_small = omega (arith, i.wide, i.second.few);
  inside = rw i.wide (omega (arith, pair_inside (size e) (size d) a b ha hb, i.room));
}

-- so many frames at most
pub few_frames : (d e : Diagram) (left right : List ℕ) (width : ℕ) (work : List ℕ) → Inside d e left right width work → (A B : ℕ) → A < size d → B < size e
    → (stack : List ℕ) (k a b : ℕ) (ts : List Tree) → Stacked d e A B stack k a b ts → k + (a + b) ≤ 1022
few_frames d e left right width work i A B ia ib stack k a b ts s =
    omega (arith, stacked_depth d e i.first.ordered i.second.ordered A B ia ib stack k a b ts s, i.first.few, i.second.few)
