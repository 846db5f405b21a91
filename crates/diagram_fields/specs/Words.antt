-- The table of inner nodes: at each number its node in one number, its step, its hi and its lo.
-- Assumes nothing.
use Rattle.std.specs.Prelude.{ℕ, ◌/◌, ◌%◌, ◌<◌, ◌≡◌, refl, List, map, get_or}
use Rattle.std.proofs.Common.{◌∙◌, ap, mod-eq_of_lt, arith}
use Rattle.std.proofs.Math.ListN.{get_or-map}
use Rattle.definitions.specs.Diagrams.{InnerNode}
use Rattle.theory.specs.Packing.{pack, first_packed, second_packed}

-- A step has 14 bits, a child 9. A larger step is cut; no chart has one
abbrev pub word_of : InnerNode → ℕ
word_of x = pack 512 (pack 512 (x.step % 16384) x.hi) x.lo

-- what is taken out of such a number
abbrev pub step_of : ℕ → ℕ
step_of w = w / 512 / 512

abbrev pub lo_of : ℕ → ℕ
lo_of w = w % 512

abbrev pub hi_of : ℕ → ℕ
hi_of w = w / 512 % 512

abbrev pub unpacked : ℕ → InnerNode
unpacked w = record { step = step_of w; lo = lo_of w; hi = hi_of w }

-- a node that fits is what is taken out
pub node_word : (x : InnerNode) → x.step < 16384 → x.lo < 512 → x.hi < 512 → unpacked (word_of x) ≡ x
node_word x s l h =
    let upper = pack 512 (x.step % 16384) x.hi in
    let first = first_packed 512 upper x.lo (word_of x) refl l in
    let step = ap (λ (k : ℕ). k / 512) first ∙ first_packed 512 (x.step % 16384) x.hi upper refl h ∙ mod-eq_of_lt s in
    let lo = second_packed 512 upper x.lo (word_of x) refl l in
    let hi = ap (λ (k : ℕ). k % 512) first ∙ second_packed 512 (x.step % 16384) x.hi upper refl h in
    rw (step, lo, hi)

-- and a number of 32 bits is what its node is put into
pub word_node : (w : ℕ) → w < 4294967296 → word_of (unpacked w) ≡ w
word_node w h = omega arith

-- the largest number that a step's part can hold; no step has it
abbrev pub MARK : ℕ
MARK = 16383

-- what stands at 0 and at 1
abbrev pub leaf : InnerNode
leaf = record { step = MARK; lo = 0; hi = 0 }

-- ---- the table

-- the steps, the los and the his in it
pub record Nodes : Type 0 where
  pub step : List ℕ
  pub lo : List ℕ
  pub hi : List ℕ

abbrev pub nodes_in : List ℕ → Nodes
nodes_in words = record { step = map step_of words; lo = map lo_of words; hi = map hi_of words }

-- what stands at a number, out of the entry there
module _ (words : List ℕ) (n : ℕ) where
  pub step_at_lem : get_or (nodes_in words).step n 0 ≡ step_of (get_or words n 0)
  step_at_lem = get_or-map step_of words n 0

  pub lo_at : get_or (nodes_in words).lo n 0 ≡ lo_of (get_or words n 0)
  lo_at = get_or-map lo_of words n 0

  pub hi_at : get_or (nodes_in words).hi n 0 ≡ hi_of (get_or words n 0)
  hi_at = get_or-map hi_of words n 0

-- entries 0 and 1 of the steps are no step's number, so that a walk that stops where the step is not below a given one stops at 0 and at 1
pub record Marked (step : List ℕ) : Type 0 where
  pub at_no : get_or step 0 0 ≡ MARK
  pub at_yes : get_or step 1 0 ≡ MARK
