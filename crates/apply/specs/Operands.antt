-- Two diagrams in their tables: what the code reads there of a pair of nodes is the step at which the pair is taken apart, and its two halves.
-- Assumes nothing.
use Rattle.std.specs.Prelude.{ℕ, ◌*◌, ◌≤◌, ◌<◌, min, ◌≡◌, Bool, true, false, List, ◌⊎◌, eqb, length, get_or}
use Rattle.std.proofs.Math.Path.{sym, ap}
use Rattle.std.proofs.Common.{◌∙◌, lt-ltb, le-ltb, ne_eqb}
use native.Mathlib.Omega.{arith}
use Rattle.definitions.specs.Basics.{pick}
use Rattle.definitions.specs.Diagrams.{Diagram, InnerNode, size, inner}
use Rattle.theory.specs.Limits.{Ordered}
use Rattle.theory.specs.Basics.{pick_true, pick_false, either, lt_or_le}
use Rattle.diagram_fields.specs.Words.{step_of, lo_of, hi_of, unpacked, MARK}
use Rattle.apply.specs.Pairs.{top, lower, upper}

-- an ordered diagram stands in a table; its steps are below the mark of the numbers 0 and 1
pub record Operand (d : Diagram) (words : List ℕ) : Type 0 where
  pub ordered : Ordered d
  pub few : length d.nodes ≤ 510
  pub low : (n : ℕ) → 2 ≤ n → n < size d → (inner d n).step < MARK
  pub leaf : (n : ℕ) → n < 2 → step_of (get_or words n 0) ≡ MARK
  pub node : (n : ℕ) → 2 ≤ n → n < size d → unpacked (get_or words n 0) ≡ inner d n

-- a node's lo, or hi, where it tests the step v, else the node itself
unfoldable pub half_in : Bool → List ℕ → ℕ → ℕ → ℕ
half_in hi words v n = pick (eqb (step_of (get_or words n 0)) v) (pick hi (hi_of (get_or words n 0)) (lo_of (get_or words n 0))) n

-- the lesser of two nodes' steps
abbrev pub top_in : List ℕ → List ℕ → ℕ → ℕ → ℕ
top_in left right a b = min (step_of (get_or left a 0)) (step_of (get_or right b 0))

-- ---- what they are to the diagrams

module _ (d : Diagram) (words : List ℕ) (o : Operand d words) (v n : ℕ) (small : v < MARK) (b : n < size d) where
  lo_lower : half_in false words v n ≡ lower d v n
  unfolding half_in lower pick
  lo_lower =
      either (lt_or_le n 2)
      (λ h. pick_false _ _ _ (ne_eqb (step_of (get_or words n 0)) v (λ q. omega (arith, o.leaf n h))) ∙ sym (pick_true _ _ _ (lt-ltb n 2 h)))
      (λ h. ap (λ (x : InnerNode). pick (eqb x.step v) x.lo n) (o.node n h b) ∙ sym (pick_false _ _ _ (le-ltb n 2 h)))

  hi_upper : half_in true words v n ≡ upper d v n
  unfolding half_in upper pick
  hi_upper =
      either (lt_or_le n 2)
      (λ h. pick_false _ _ _ (ne_eqb (step_of (get_or words n 0)) v (λ q. omega (arith, o.leaf n h))) ∙ sym (pick_true _ _ _ (lt-ltb n 2 h)))
      (λ h. ap (λ (x : InnerNode). pick (eqb x.step v) x.hi n) (o.node n h b) ∙ sym (pick_false _ _ _ (le-ltb n 2 h)))

-- two diagrams in tables, and a work entry for each pair of their nodes, in rows of `width`
pub record Inside (d e : Diagram) (left right : List ℕ) (width : ℕ) (work : List ℕ) : Type 0 where
  pub first : Operand d left
  pub second : Operand e right
  pub wide : width ≡ size e
  pub room : size d * size e ≤ length work

module _ (d e : Diagram) (left right : List ℕ) (width : ℕ) (work : List ℕ) (i : Inside d e left right width work) (a b : ℕ) (ia : a < size d) (ib : b < size e)
    (some : (2 ≤ a) ⊎ (2 ≤ b)) where
  step_of_lem : (n : ℕ) → 2 ≤ n → n < size d → step_of (get_or left n 0) ≡ (inner d n).step
  step_of_lem n h l = ap (λ (x : InnerNode). x.step) (i.first.node n h l)

  step_of' : (n : ℕ) → 2 ≤ n → n < size e → step_of (get_or right n 0) ≡ (inner e n).step
  step_of' n h l = ap (λ (x : InnerNode). x.step) (i.second.node n h l)

  pub top_is : (top_in left right a b ≡ top d e a b) × (top_in left right a b < MARK)
  unfolding top
  top_is =
      either (lt_or_le a 2)
      (λ h. let j : 2 ≤ b = either some (λ q. absurd (omega arith)) (λ q. q) in
      let x = i.first.leaf a h in
      let y = step_of' b j ib in
      let z = i.second.low b j ib in
      (omega arith ∙ sym (pick_true _ _ _ (lt-ltb a 2 h)), omega arith))
      (λ h. let x = step_of_lem a h ia in
      let z = i.first.low a h ia in
      either (lt_or_le b 2)
      (λ j. let y = i.second.leaf b j in
      (omega arith ∙ sym (pick_false _ _ _ (le-ltb a 2 h) ∙ pick_true _ _ _ (lt-ltb b 2 j)), omega arith))
      (λ j. let y = step_of' b j ib in
      (omega arith ∙ sym (pick_false _ _ _ (le-ltb a 2 h) ∙ pick_false _ _ _ (le-ltb b 2 j)), omega arith)))

  module _ (v : ℕ) (least : v ≡ top_in left right a b) where
    pub step_top : v ≡ top d e a b
    step_top = least ∙ top_is.0

    pub step_small : v < MARK
    step_small = omega (arith, top_is.1)

    pub lo_first : half_in false left v a ≡ lower d (top d e a b) a
    lo_first = lo_lower d left i.first v a step_small ia ∙ ap (λ (x : ℕ). lower d x a) step_top

    pub lo_second : half_in false right v b ≡ lower e (top d e a b) b
    lo_second = lo_lower e right i.second v b step_small ib ∙ ap (λ (x : ℕ). lower e x b) step_top

    pub hi_first : half_in true left v a ≡ upper d (top d e a b) a
    hi_first = hi_upper d left i.first v a step_small ia ∙ ap (λ (x : ℕ). upper d x a) step_top

    pub hi_second : half_in true right v b ≡ upper e (top d e a b) b
    hi_second = hi_upper e right i.second v b step_small ib ∙ ap (λ (x : ℕ). upper e x b) step_top
