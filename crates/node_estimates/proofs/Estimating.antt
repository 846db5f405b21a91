-- The loop of `fill_diagram_estimates`: its invariant, with one law for each way on.
use Prim.Native.Nat.{ℕ, zero, suc, ◌+◌, ◌*◌, ◌≤◌, ◌<◌, min}
use mathlib.Core.Path.{◌≡◌, refl, ◌∙◌, subst}
use mathlib.Core.Logic.{◌⊎◌}
use mathlib.Core.List.{List}
use mathlib.Core.Option.{Option, none, some}
use lib.ListN.{length, get_or, set, length-set}
use lib.Seq.{get_or-set_same, get_or-set_other}
use native.Mathlib.Omega.{arith}
use borrow.Author.Count.{below_more}
use Rattle.definitions.specs.Basics.{NONE, smaller, sum_of}
use Rattle.definitions.specs.Charts.{Chart, group_count}
use Rattle.definitions.specs.Diagrams.{Diagram, size}
use Rattle.theory.specs.Limits.{Ordered, Sound}
use Rattle.theory.specs.Limits as limits
use Rattle.theory.specs.Variables.{variable_cost_cheap}
use Rattle.definitions.specs.Plans.{diagram_estimate}
use Rattle.definitions.specs.Promises.{shown}
use Rattle.theory.specs.Basics.{either, lt_or_le}
use Rattle.theory.specs.Estimates.{diagram_estimate_leaf, diagram_estimate_inner}
use Rattle.diagram.specs.Tables.{Held}
use Rattle.nodes.specs.Walks.{Falls}
use Rattle.diagram.specs.Held.{held_step_lem, held_lo, held_hi}
use Rattle.node_estimates.specs.Estimates.{Priced, Costs, Estimated}
use Rattle.nodes.proofs.Children.{child_below}

-- each inner node below adds at most one step's cost, so that an estimate of node n is at most 1,000,000 × n, far below the mark
abbrev Small : ℕ → ℕ → Type 0
Small n v = v < NONE → v ≤ 1000000 * n

-- v shows the estimate of node n
abbrev Shows : ℕ → ℕ → Option ℕ → Type 0
Shows n v none = v ≡ NONE
Shows n v (some m) = (v ≡ m) × (m ≤ 1000000 * n)

shows_is : (n v : ℕ) (o : Option ℕ) → Shows n v o → v ≡ shown o
shows_is n v none s = s
shows_is n v (some m) s = s.0

-- what is joined of two nodes below n
module _ (k low high r i j n : ℕ) (join : r ≡ min low (high + k)) (cheap : (k ≤ 1000000) ⊎ (k ≡ NONE)) (li : i < n) (lj : j < n) (few : n < 512) where
  joined_small : Small i low → Small j high → Small n r
  joined_small si sj g =
      either (lt_or_le low (high + k)) (λ q. omega (arith, join, si (omega (arith, join))))
      (λ q. either cheap (λ c. omega (arith, join, sj (omega (arith, join)))) (λ c. absurd (omega (arith, join))))

  -- a group without steps adds nothing
  joined_none : (l h : Option ℕ) → Shows i low l → k ≡ NONE → Shows n r (smaller l (sum_of none h))
  unfolding smaller sum_of
  joined_none none h sl q = omega (arith, join)
  joined_none (some x) h sl q = omega (arith, join)

  joined_some : (l h : Option ℕ) → Shows i low l → Shows j high h → k ≤ 1000000 → Shows n r (smaller l (sum_of (some k) h))
  unfolding smaller sum_of
  joined_some none none sl sh c = omega (arith, join)
  joined_some (some x) none sl sh c = omega (arith, join)
  joined_some none (some y) sl sh c = omega (arith, join)
  joined_some (some x) (some y) sl sh c = omega (arith, join)

  joined_shows : (l h p : Option ℕ) → Shows i low l → Shows j high h → k ≡ shown p → ((m : ℕ) → p ≡ some m → m ≤ 1000000) → Shows n r (smaller l (sum_of p h))
  joined_shows l h none sl sh q few = joined_none l h sl q
  joined_shows l h (some m) sl sh q few = subst (λ (x : ℕ). Shows n r (smaller l (sum_of (some x) h))) q (joined_some l h sl sh (omega (arith, few m refl)))

-- the entries of the nodes below n are right
pub record Estimating (step lo hi cost : List ℕ) (count : ℕ) (r : List ℕ) (n : ℕ) : Type 0 where
  pub long : length r ≡ 512
  pub few : n ≤ count + 2
  pub inner : 2 ≤ n
  pub small : (k : ℕ) → k < n → Small k (get_or r k 0)
  pub shows : (c : Chart) (d : Diagram) → limits.Small c × Costs c cost → Held d step lo hi → Sound (group_count c) d → length d.nodes ≤ count
      → (k : ℕ) → k < n → k < size d → Shows k (get_or r k 0) (diagram_estimate c d k)

module _ (step lo hi cost : List ℕ) (count : ℕ) where
  abbrev start : List ℕ → List ℕ
  start old = set (set old 0 NONE) 1 0

  pub estimating_start : (old : List ℕ) → length old ≡ 512 → Estimating step lo hi cost count (start old) 2
  estimating_start old long = record {
    long = length-set (set old 0 NONE) 1 0 ∙ long';
    few = omega arith;
    inner = omega arith;
    small = leaf_small;
    shows = λ c d p h s f. leaf_shows c d h.ordered;
  }
    where
      long' : length (set old 0 NONE) ≡ 512
      long' = length-set old 0 NONE ∙ long

      none_at : get_or (start old) 0 0 ≡ NONE
      none_at = get_or-set_other (set old 0 NONE) 1 0 0 0 (omega arith) ∙ get_or-set_same old 0 NONE 0 (omega arith)

      zero_at : get_or (start old) 1 0 ≡ 0
      zero_at = get_or-set_same (set old 0 NONE) 1 0 0 (omega (arith, long'))

      leaf_small : (k : ℕ) → k < 2 → Small k (get_or (start old) k 0)
      leaf_small zero l g = absurd (omega (arith, none_at))
      leaf_small (suc zero) l g = omega (arith, zero_at)
      leaf_small (suc (suc k)) l g = absurd (omega arith)

      leaf_shows : (c : Chart) (d : Diagram) → Ordered d → (k : ℕ) → k < 2 → k < size d → Shows k (get_or (start old) k 0) (diagram_estimate c d k)
      leaf_shows c d o zero l g = rw (diagram_estimate_leaf c d o 0 l) none_at
      leaf_shows c d o (suc zero) l g = rw (diagram_estimate_leaf c d o 1 l) (zero_at, omega arith)
      leaf_shows c d o (suc (suc k)) l g = absurd (omega arith)

  module _ (r : List ℕ) (n : ℕ) (found : Estimating step lo hi cost count r n) where
    pub estimating_done : count + 2 ≤ n → Estimated step lo hi cost count r
    estimating_done q = record {
      is = λ c d p h s f k l. shows_is k (get_or r k 0) (diagram_estimate c d k) (found.shows c d p h s f k (omega arith) l);
      small = λ k l. found.small k (omega arith);
    }

    module _ (priced : Priced step cost count) (l : n < count + 2) where
      pub estimating_step : (k : ℕ) → k ≡ get_or step n 0 → k < 1024
      estimating_step k is = omega (arith, priced.inside n found.inner l)

      module _ (los : Falls lo (count + 1)) (his : Falls hi (count + 1)) (k low high v : ℕ) (ek : k ≡ get_or step n 0) (el : low ≡ get_or lo n 0) (eh : high ≡ get_or hi n 0)
          (joins : v ≡ min (get_or r low 0) (get_or r high 0 + get_or cost k 0)) where
        join : v ≡ min (get_or r (get_or lo n 0) 0) (get_or r (get_or hi n 0) 0 + get_or cost (get_or step n 0) 0)
        join =
            subst (λ (i : ℕ). v ≡ min (get_or r i 0) (get_or r (get_or hi n 0) 0 + get_or cost (get_or step n 0) 0)) el
            (subst (λ (i : ℕ). v ≡ min (get_or r low 0) (get_or r i 0 + get_or cost (get_or step n 0) 0)) eh
            (subst (λ (i : ℕ). v ≡ min (get_or r low 0) (get_or r high 0 + get_or cost i 0)) ek joins))

        -- the stored value at n, and the others as they were
        here : get_or (set r n v) n 0 ≡ v
        here = get_or-set_same r n v 0 (omega (arith, found.long, los.inside))

        there : (k : ℕ) → k < n → get_or (set r n v) k 0 ≡ get_or r k 0
        there k i = get_or-set_other r n k v 0 (λ q. omega arith)

        lo_less : get_or lo n 0 < n
        lo_less = child_below lo count n los found.inner l

        hi_less : get_or hi n 0 < n
        hi_less = child_below hi count n his found.inner l

        new_shows : (c : Chart) (d : Diagram) → limits.Small c × Costs c cost → Held d step lo hi → Sound (group_count c) d → length d.nodes ≤ count
            → n < size d → Shows n v (diagram_estimate c d n)
        new_shows c d p h s f i =
            rw (
              diagram_estimate_inner c d h.ordered n found.inner,
              held_lo d step lo hi h n found.inner i,
              held_hi d step lo hi h n found.inner i,
              held_step_lem d step lo hi h n found.inner i,
            )
            (joined_shows (get_or cost (get_or step n 0) 0) _ _ v (get_or lo n 0) (get_or hi n 0) n join (priced.cheap n found.inner l) lo_less hi_less
            (omega (arith, los.inside)) _ _ _
            (found.shows c d p h s f (get_or lo n 0) lo_less (omega (arith, lo_less))) (found.shows c d p h s f (get_or hi n 0) hi_less (omega (arith, hi_less)))
            (p.1 (get_or step n 0) (omega (arith, s.exist n found.inner i, held_step_lem d step lo hi h n found.inner i))) (variable_cost_cheap c (get_or step n 0) p.0))

        pub estimating_next : Estimating step lo hi cost count (set r n v) (n + 1)
        estimating_next = record {
          long = length-set r n v ∙ found.long;
          few = omega arith;
          inner = omega (arith, found.inner);
          small =
              below_more (λ (k : ℕ). Small k (get_or (set r n v) k 0)) n (λ k i. rw (there k i) (found.small k i))
              (rw here (joined_small (get_or cost (get_or step n 0) 0) _ _ v (get_or lo n 0) (get_or hi n 0) n join (priced.cheap n found.inner l) lo_less hi_less
              (omega (arith, los.inside)) (found.small (get_or lo n 0) lo_less) (found.small (get_or hi n 0) hi_less)));
          shows = λ c d p h s f.
              below_more (λ (k : ℕ). k < size d → Shows k (get_or (set r n v) k 0) (diagram_estimate c d k)) n
              (λ k i j. rw (there k i) (found.shows c d p h s f k i j)) (λ j. rw here (new_shows c d p h s f j));
        }

pub ruleset estimating-laws = (estimating_start, estimating_done, estimating_step, estimating_next)
