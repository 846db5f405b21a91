-- A number that falls in each turn of the walk. A frame weighs 1 once its lo half is done, and before that more than all frames can that are put on the stack
-- after it, since these are of pairs with smaller sums.
-- Assumes nothing.
use Rattle.std.specs.Prelude.{ℕ, zero, suc, ◌+◌, ◌≤◌, ◌<◌, ◌≡◌, refl, List, eqb, length, get_or, set}
use Rattle.std.proofs.Common.{◌∙◌, ap₂, arith, get_or-set_same, get_or-set_other, eq-eqb, ne_eqb}
use Rattle.std.proofs.Math.Path.{ap}
use Rattle.definitions.specs.Basics.{pick}
use Rattle.definitions.specs.Diagrams.{InnerNode}
use Rattle.theory.specs.Basics.{pick_true, pick_false}
use Rattle.diagram_fields.specs.Words.{unpacked}
use Rattle.apply.specs.Stacks.{frame_of, frame_parts}

unfoldable pub power : ℕ → ℕ
power zero = 1
power (suc n) = power n + power n

pub power_suc : (n : ℕ) → power (suc n) ≡ power n + power n
unfolding power
power_suc n = refl

pub power_some : (n : ℕ) → 1 ≤ power n
unfolding power
power_some zero = omega arith
power_some (suc n) = omega (arith, power_some n)

pub power_rises : (m n : ℕ) → m ≤ n → power m ≤ power n
unfolding power
power_rises zero n h = power_some n
power_rises (suc m) zero h = absurd (omega arith)
power_rises (suc m) (suc n) h = let z = power_rises m n (omega arith) in omega arith

-- of a frame, by its three numbers
unfoldable pub weight_of : InnerNode → ℕ
weight_of x = pick (eqb x.step 512) (power (suc (x.hi + x.lo))) 1

-- of the first k frames of a stack
unfoldable pub weights : List ℕ → ℕ → ℕ
weights stack zero = 0
weights stack (suc k) = weights stack k + weight_of (unpacked (get_or stack k 0))

pub weights_suc : (stack : List ℕ) (k : ℕ) → weights stack (suc k) ≡ weights stack k + weight_of (unpacked (get_or stack k 0))
unfolding weights
weights_suc stack k = refl

pub weights_set : (stack : List ℕ) (k i f : ℕ) → k ≤ i → weights (set stack i f) k ≡ weights stack k
unfolding weights
weights_set stack zero i f h = refl
weights_set stack (suc k) i f h =
    ap₂ (λ (m n : ℕ). m + weight_of (unpacked n)) (weights_set stack k i f (omega arith)) (get_or-set_other stack i k f 0 (λ z. omega arith))

module _ (a b : ℕ) (ha : a < 512) (hb : b < 512) where
  open_weight : weight_of (unpacked (frame_of 512 a b)) ≡ power (suc (a + b))
  unfolding weight_of
  open_weight = ap weight_of (frame_parts 512 a b (omega arith) ha hb) ∙ pick_true _ _ _ (eq-eqb 512 512 refl)

  half_weight : (l : ℕ) → l < 512 → weight_of (unpacked (frame_of l a b)) ≡ 1
  unfolding weight_of
  half_weight l h = ap weight_of (frame_parts l a b (omega arith) ha hb) ∙ pick_false _ _ _ (ne_eqb l 512 (λ z. omega arith))

  module _ (stack : List ℕ) (k : ℕ) where
    -- a frame as it stands on the top
    pub top_open : get_or stack k 0 ≡ frame_of 512 a b → weights stack (suc k) ≡ weights stack k + power (suc (a + b))
    top_open e = weights_suc stack k ∙ ap (λ (f : ℕ). weights stack k + weight_of (unpacked f)) e ∙ ap (λ (n : ℕ). weights stack k + n) open_weight

    pub top_half : (l : ℕ) → l < 512 → get_or stack k 0 ≡ frame_of l a b → weights stack (suc k) ≡ weights stack k + 1
    top_half l h e = weights_suc stack k ∙ ap (λ (f : ℕ). weights stack k + weight_of (unpacked f)) e ∙ ap (λ (n : ℕ). weights stack k + n) (half_weight l h)

    -- and as it is put there
    pub put_open : k < length stack → weights (set stack k (frame_of 512 a b)) (suc k) ≡ weights stack k + power (suc (a + b))
    put_open h =
        weights_suc (set stack k (frame_of 512 a b)) k
        ∙ ap₂ (λ (m f : ℕ). m + weight_of (unpacked f)) (weights_set stack k k (frame_of 512 a b) (omega arith)) (get_or-set_same stack k (frame_of 512 a b) 0 h)
        ∙ ap (λ (n : ℕ). weights stack k + n) open_weight

    pub put_half : (l : ℕ) → l < 512 → k < length stack → weights (set stack k (frame_of l a b)) (suc k) ≡ weights stack k + 1
    put_half l i h =
        weights_suc (set stack k (frame_of l a b)) k
        ∙ ap₂ (λ (m f : ℕ). m + weight_of (unpacked f)) (weights_set stack k k (frame_of l a b) (omega arith)) (get_or-set_same stack k (frame_of l a b) 0 h)
        ∙ ap (λ (n : ℕ). weights stack k + n) (half_weight l i)
