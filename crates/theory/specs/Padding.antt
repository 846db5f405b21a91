-- Padding in a diagram file: what the test for it finds, and what a node's check says that comes after the limits.
-- Assumes nothing.
use Rattle.std.specs.Prelude.{ℕ, ◌-◌, ◌<◌, ◌≡◌, refl, Bool, true, not, ◌&&◌, List, ◌⊎◌, eqb, length, get_or}
use Rattle.std.proofs.Common.{sym, inl, inr, arith, eq-eqb, ne_eqb, eqb-true}
use Rattle.std.proofs.Math.Bool.{false}
use Rattle.std.proofs.lemmas.Bool.{eqb-false, not-true, not-false}
use Rattle.definitions.specs.Basics.{pick, any}
use Rattle.definitions.specs.Diagrams.{InnerNode, no_node, alike_nodes, padding, inner_node_of, node_fault, node_fault_after}
use Rattle.theory.specs.Basics.{pick_true, pick_false, pick_cases, both, neither, either, or_right, any_at, any_not, any_none}

-- ---- two nodes

pub alike_self : (x : InnerNode) → alike_nodes x x ≡ true
alike_self x = simp (eq-eqb x.step x.step refl, eq-eqb x.lo x.lo refl, eq-eqb x.hi x.hi refl)

pub alike_equal : (x y : InnerNode) → alike_nodes x y ≡ true → x ≡ y
alike_equal x y t =
    let a = both (eqb x.step y.step) (eqb x.lo y.lo && eqb x.hi y.hi) t in
    let b = both (eqb x.lo y.lo) (eqb x.hi y.hi) a.1 in
    let s = eqb-true x.step y.step a.0 in
    let l = eqb-true x.lo y.lo b.0 in
    let h = eqb-true x.hi y.hi b.1 in
    rw (s, l, h)

-- ---- a node behind others

module _ (before : List InnerNode) (x : InnerNode) where
  pub padding_level : x.lo ≡ x.hi → padding before x ≡ true
  unfolding padding
  padding_level e = simp (eq-eqb x.lo x.hi e)

  pub padding_alike : (i : ℕ) → i < length before → get_or before i no_node ≡ x → padding before x ≡ true
  unfolding padding
  padding_alike i h e = or_right (eqb x.lo x.hi) (any (alike_nodes x) before) (any_at (alike_nodes x) no_node before i h (rw e (alike_self x)))

  pub padding_none : (x.lo ≡ x.hi → ⊥) → ((i : ℕ) → i < length before → get_or before i no_node ≡ x → ⊥) → padding before x ≡ false
  unfolding padding
  padding_none f n =
      let u = any_none (alike_nodes x) no_node before (λ i h t. n i h (sym (alike_equal x (get_or before i no_node) t))) in
      simp (ne_eqb x.lo x.hi f, u)

  pub unpadded : padding before x ≡ false → (x.lo ≡ x.hi → ⊥) × ((i : ℕ) → i < length before → get_or before i no_node ≡ x → ⊥)
  unfolding padding
  unpadded e =
      let n = neither (eqb x.lo x.hi) (any (alike_nodes x) before) e in
      (eqb-false x.lo x.hi n.0, λ i h q. any_not (alike_nodes x) no_node before n.1 i h (rw q (alike_self x)))

-- ---- the check of a node's body

module _ (mode : Bool) (steps : ℕ) (before : List InnerNode) (b : List ℕ) where
  -- which limit it breaks
  abbrev pub beyond : ℕ
  beyond = node_fault steps (λ r. (get_or before (r - 2) no_node).step) (length before) b

  pub fault_beyond : (beyond ≡ 0 → ⊥) → node_fault_after mode steps before b ≡ beyond
  unfolding node_fault_after
  fault_beyond n = pick_true _ _ _ (simp (ne_eqb beyond 0 n))

  pub fault_within : beyond ≡ 0 → node_fault_after mode steps before b ≡ pick (mode && padding before (inner_node_of b)) 13 0
  unfolding node_fault_after
  fault_within z = pick_false _ _ _ (simp (eq-eqb beyond 0 z))

  -- a body that passes is within the limits, and no padding where that is refused
  pub fault_none : node_fault_after mode steps before b ≡ 0 → (beyond ≡ 0) × ((mode && padding before (inner_node_of b)) ≡ false)
  unfolding node_fault_after
  fault_none e =
      either (pick_cases (not (eqb beyond 0)) beyond (pick (mode && padding before (inner_node_of b)) 13 0) 0 e)
      (λ x. absurd (eqb-false beyond 0 (not-true (eqb beyond 0) x.0) x.1))
      (λ x. (eqb-true beyond 0 (not-false (eqb beyond 0) x.0), allowed (pick_cases (mode && padding before (inner_node_of b)) 13 0 0 x.1)))
    where
      allowed : (((mode && padding before (inner_node_of b)) ≡ true) × (◌≡◌ {A = ℕ} 13 0)) ⊎ (((mode && padding before (inner_node_of b)) ≡ false) × (◌≡◌ {A = ℕ} 0 0))
          → (mode && padding before (inner_node_of b)) ≡ false
      allowed (inl y) = absurd (omega (arith, y.1))
      allowed (inr y) = y.0
