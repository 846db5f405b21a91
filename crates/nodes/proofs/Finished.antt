-- The loops of `finishes` and of `fill_finishing`: their invariants, with one law for each way on.
use Prim.Native.Nat.{ℕ, zero, suc, ◌+◌, ◌≤◌, ◌<◌}
use mathlib.Core.Path.{◌≡◌, sym, ◌∙◌, ap}
use mathlib.Core.Bool.{Bool, true, false}
use mathlib.Core.List.{List}
use lib.Dec.{eqb}
use lib.ListN.{length, get_or, set, length-set}
use lib.Seq.{get_or-set_same, get_or-set_other}
use native.Mathlib.Omega.{arith}
use borrow.Author.Count.{below_more}
use Rattle.definitions.specs.Diagrams.{Diagram, size, finish}
use Rattle.theory.specs.Limits.{Ordered}
use Rattle.theory.specs.Diagrams.{finish_leaf, finish_inner}
use Rattle.diagram.specs.Tables.{Held}
use Rattle.diagram.specs.Held.{held_lo}
use Rattle.nodes.specs.Walks.{Falls, Finishes}
use Rattle.nodes.proofs.Children.{child_below}

-- an inner node of a held diagram finishes where the node at its lo does
finish_lo : (d : Diagram) (step lo hi : List ℕ) → Held d step lo hi → (n : ℕ) → 2 ≤ n → n < size d → finish d n ≡ finish d (get_or lo n 0)
finish_lo d step lo hi h n i l = finish_inner d h.ordered n i ∙ ap (finish d) (held_lo d step lo hi h n i l)

-- ---- one node

-- the walk from node n has come to m
pub record Walked (lo : List ℕ) (n m : ℕ) : Type 0 where
  pub below : m ≤ n
  pub same : (d : Diagram) (step hi : List ℕ) → Held d step lo hi → n < size d → finish d n ≡ finish d m

module _ (lo : List ℕ) (n : ℕ) where
  module _ (falls : Falls lo n) (m : ℕ) (w : Walked lo n m) where
    pub walk_next : 2 ≤ m → (v : ℕ) → v ≡ get_or lo m 0 → Walked lo n v
    walk_next i v is = record {
      below = omega (arith, falls.below m i w.below, w.below);
      same = λ d step hi h l. w.same d step hi h l ∙ finish_lo d step lo hi h m i (omega (arith, w.below)) ∙ ap (finish d) (sym is);
    }

    pub walk_done : m < 2 → Finishes lo n (eqb m 1)
    walk_done i = record { is = λ d step hi h l. sym (ap (λ (k : ℕ). eqb k 1) (w.same d step hi h l ∙ finish_leaf d h.ordered m i)) }

-- ---- all nodes

-- the entries of the nodes below n are right
pub record Passed (lo : List ℕ) (count : ℕ) (yes : List Bool) (n : ℕ) : Type 0 where
  pub long : length yes ≡ 512
  pub few : n ≤ count + 2
  pub inner : 2 ≤ n
  pub is : (d : Diagram) (step hi : List ℕ) → Held d step lo hi → length d.nodes ≤ count → (k : ℕ) → k < n → k < size d → get_or yes k false ≡ eqb (finish d k) 1

module _ (lo : List ℕ) (count : ℕ) where
  pub passed_start : (old : List Bool) → length old ≡ 512 → Passed lo count (set (set old 0 false) 1 true) 2
  passed_start old long = record {
    long = length-set (set old 0 false) 1 true ∙ long';
    few = omega arith;
    inner = omega arith;
    is = λ d step hi h f. leaves d h.ordered;
  }
    where
      long' : length (set old 0 false) ≡ 512
      long' = length-set old 0 false ∙ long

      leaves : (d : Diagram) → Ordered d → (k : ℕ) → k < 2 → k < size d → get_or (set (set old 0 false) 1 true) k false ≡ eqb (finish d k) 1
      leaves d o zero i l = rw (finish_leaf d o 0 i) (get_or-set_other (set old 0 false) 1 0 true false (omega arith) ∙ get_or-set_same old 0 false false (omega arith))
      leaves d o (suc zero) i l = rw (finish_leaf d o 1 i) (get_or-set_same (set old 0 false) 1 true false (omega (arith, long')))
      leaves d o (suc (suc k)) i l = absurd (omega arith)

  module _ (yes : List Bool) (n : ℕ) (now : Passed lo count yes n) where
    pub passed_next : Falls lo (count + 1) → n < count + 2 → (v : ℕ) → v ≡ get_or lo n 0 → Passed lo count (set yes n (get_or yes v false)) (n + 1)
    passed_next f l v lo-is = record {
      long = length-set yes n (get_or yes v false) ∙ now.long;
      few = omega arith;
      inner = omega (arith, now.inner);
      is = λ d step hi h g.
          below_more (λ (k : ℕ). k < size d → get_or (set yes n (get_or yes v false)) k false ≡ eqb (finish d k) 1) n
          (λ k i j. get_or-set_other yes n k (get_or yes v false) false (λ q. omega arith) ∙ now.is d step hi h g k i j)
          (λ j. get_or-set_same yes n (get_or yes v false) false (omega (arith, now.long, f.inside))
          ∙ now.is d step hi h g v (omega (arith, below)) (omega (arith, below))
          ∙ ap (λ (k : ℕ). eqb k 1) (ap (finish d) lo-is ∙ sym (finish_lo d step lo hi h n now.inner j)));
    }
      where
        below : get_or lo n 0 < n
        below = child_below lo count n f now.inner l

pub ruleset passed-laws = (passed_start, passed_next)
