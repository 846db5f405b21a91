-- What the groups of a chart cost, in a table: the column of costs where each step is a group alone, and else a table that is filled step by step.
-- The groups of a diagram that stands in the tables are priced by it.
-- Assumes nothing.
use Rattle.std.specs.Prelude.{ℕ, ◌+◌, ◌≤◌, ◌<◌, min, ◌≡◌, refl, List, ◌⊎◌, length, get_or, set, replicate}
use Rattle.std.proofs.Common.{sym, ◌∙◌, ap, subst, inl, inr, length-set, get_or-set_same, get_or-set_other}
use Rattle.std.proofs.Math.Option.{Option, none, some}
use Rattle.std.proofs.lemmas.List.{get_or-replicate, length-replicate}
use native.Mathlib.Omega.{arith}
use Rattle.definitions.specs.Basics.{NONE, smaller}
use Rattle.definitions.specs.Charts.{Chart, no_step, plain, group_count}
use Rattle.definitions.specs.Diagrams.{Diagram}
use Rattle.theory.specs.Limits.{Small, OneKind, Valid, Sound}
use Rattle.theory.specs.Basics.{same_or_not}
use Rattle.theory.specs.Least.{IsLeast, Shows, shows_same, least_unique, least_same, least_either}
use Rattle.theory.specs.Variables.{SetAt, variable_cost_least, variable_cost_cheap, groups_few, alone_groups, alone_cost}
use Rattle.definitions.specs.Plans.{graph, variable_cost}
use Rattle.definitions.specs.Promises.{shown}
use Rattle.diagram.specs.Tables.{Held}
use Rattle.diagram.specs.Held.{held_step_lem}
use Rattle.node_estimates.specs.Estimates.{Priced, Costs}

-- the costs of the steps, where the first one is plain, and so each is a group alone
pub costs_of : (c : Chart) (cost : List ℕ) → OneKind c → ((get_or c.steps 0 no_step).tag ≡ plain) ⊎ ((graph c).count ≡ 0)
    → ((k : ℕ) → k < (graph c).count → get_or cost k 0 ≡ (graph c).cost k) → Costs c cost
costs_of c cost kinds first has k h = has k inside ∙ ap shown (sym (alone_cost c alone k inside))
  where
    alone : (e : ℕ) → e < (graph c).count → (graph c).group e ≡ e
    alone e i = go first
      where
        go : ((get_or c.steps 0 no_step).tag ≡ plain) ⊎ ((graph c).count ≡ 0) → (graph c).group e ≡ e
        go (inl q) = kinds.alone e i (kinds.alike e 0 i (omega arith) ∙ q)
        go (inr q) = absurd (omega arith)

    inside : k < (graph c).count
    inside = omega (arith, alone_groups c alone)

-- ---- a table that is filled step by step

-- some step below e of the group k costs m
pub record SetBy (c : Chart) (e k m : ℕ) : Type 0 where
  pub step : ℕ
  pub below : step < e
  pub exists : step < (graph c).count
  pub of : (graph c).group step ≡ k
  pub costs : (graph c).cost step ≡ m

-- each entry shows the least cost among the steps below e of its group
pub record PricesTo (c : Chart) (e : ℕ) (price : List ℕ) : Type 0 where
  pub long : length price ≡ 1024
  pub at : (k : ℕ) → k < 1024 → Shows (SetBy c e k) (get_or price k 0)

module _ (c : Chart) where
  pub prices_start : PricesTo c 0 (replicate 1024 NONE)
  prices_start = record {
    long = length-replicate {A = ℕ} 1024 NONE;
    at = λ k h. (none, λ m x. omega (arith, x.below), get_or-replicate 1024 k NONE 0 h);
  }

  -- one step more
  module _ (small : Small c) (e : ℕ) (i : e < (graph c).count) (price : List ℕ) (sofar : PricesTo c e price) where
    later : (k m : ℕ) → SetBy c e k m → SetBy c (e + 1) k m
    later k m x = record { step = x.step; below = omega (arith, x.below); exists = x.exists; of = x.of; costs = x.costs }

    split : (k m : ℕ) → SetBy c (e + 1) k m → SetBy c e k m ⊎ (((graph c).group e ≡ k) × ((graph c).cost e ≡ m))
    split k m x = go (same_or_not x.step e)
      where
        go : (x.step ≡ e) ⊎ (x.step ≡ e → ⊥) → SetBy c e k m ⊎ (((graph c).group e ≡ k) × ((graph c).cost e ≡ m))
        go (inl q) = inr (ap (graph c).group (sym q) ∙ x.of, ap (graph c).cost (sym q) ∙ x.costs)
        go (inr n) = inl (record { step = x.step; below = omega (arith, x.below); exists = x.exists; of = x.of; costs = x.costs })

    -- the smaller of what its group's entry shows and its cost
    smaller_shown : (o : Option ℕ) (v : ℕ) → v ≡ shown o → min v ((graph c).cost e) ≡ shown (smaller o (some ((graph c).cost e)))
    unfolding smaller
    smaller_shown none v q = omega (arith, small e i)
    smaller_shown (some x) v q = omega arith

    own : (v : ℕ) → Shows (SetBy c e ((graph c).group e)) v → Shows (SetBy c (e + 1) ((graph c).group e)) (min v ((graph c).cost e))
    own v s =
        shows_same (λ m. SetBy c e ((graph c).group e) m ⊎ ((graph c).cost e ≡ m)) (SetBy c (e + 1) ((graph c).group e)) (min v ((graph c).cost e)) joined parted (
          smaller s.0 (some ((graph c).cost e)),
          least_either (SetBy c e ((graph c).group e)) (λ m. (graph c).cost e ≡ m) s.0 (some ((graph c).cost e)) s.1 (refl, λ m q. omega arith),
          smaller_shown s.0 v s.2,
        )
      where
        joined : (m : ℕ) → SetBy c e ((graph c).group e) m ⊎ ((graph c).cost e ≡ m) → SetBy c (e + 1) ((graph c).group e) m
        joined m (inl x) = later ((graph c).group e) m x
        joined m (inr q) = record { step = e; below = omega arith; exists = i; of = refl; costs = q }

        parted : (m : ℕ) → SetBy c (e + 1) ((graph c).group e) m → SetBy c e ((graph c).group e) m ⊎ ((graph c).cost e ≡ m)
        parted m x = go (split ((graph c).group e) m x)
          where
            go : SetBy c e ((graph c).group e) m ⊎ (((graph c).group e ≡ (graph c).group e) × ((graph c).cost e ≡ m)) → SetBy c e ((graph c).group e) m ⊎ ((graph c).cost e ≡ m)
            go (inl y) = inl y
            go (inr y) = inr y.1

    other : (k v : ℕ) → (k ≡ (graph c).group e → ⊥) → Shows (SetBy c e k) v → Shows (SetBy c (e + 1) k) v
    other k v n = shows_same (SetBy c e k) (SetBy c (e + 1) k) v (later k) parted
      where
        parted : (m : ℕ) → SetBy c (e + 1) k m → SetBy c e k m
        parted m x = go (split k m x)
          where
            go : SetBy c e k m ⊎ (((graph c).group e ≡ k) × ((graph c).cost e ≡ m)) → SetBy c e k m
            go (inl y) = y
            go (inr y) = absurd (n (sym y.0))

    pub prices_more : (g v : ℕ) → g ≡ (graph c).group e → g < 1024 → v ≡ min (get_or price g 0) ((graph c).cost e) → PricesTo c (e + 1) (set price g v)
    prices_more g v eg few ev = record {
      long = length-set price g v ∙ sofar.long;
      at = λ k h. go k h (same_or_not k g);
    }
      where
        go : (k : ℕ) → k < 1024 → (k ≡ g) ⊎ (k ≡ g → ⊥) → Shows (SetBy c (e + 1) k) (get_or (set price g v) k 0)
        go k h (inl q) =
            subst (λ (j : ℕ). Shows (SetBy c (e + 1) j) (get_or (set price g v) j 0)) (sym q)
            (rw (get_or-set_same price g v 0 (omega (arith, sofar.long)), ev) (subst (λ (j : ℕ). Shows (SetBy c (e + 1) j) (min (get_or price g 0) ((graph c).cost e))) (sym eg)
            (own (get_or price g 0) (subst (λ (j : ℕ). Shows (SetBy c e j) (get_or price g 0)) eg (sofar.at g few)))))
        go k h (inr n) = rw (get_or-set_other price g k v 0 n) (other k (get_or price k 0) (λ q. n (q ∙ sym eg)) (sofar.at k h))

  -- all of them
  pub prices_done : Valid (graph c) → (e : ℕ) → (graph c).count ≤ e → (price : List ℕ) → PricesTo c e price → Costs c price
  prices_done v e all price found k h =
      let x = found.at k (omega (arith, groups_few c v)) in
      x.2 ∙ ap shown (least_unique (SetAt c k) x.0 (variable_cost c k) (same x.0 x.1) (variable_cost_least c k))
    where
      same : (o : Option ℕ) → IsLeast (SetBy c e k) o → IsLeast (SetAt c k) o
      same o l =
          least_same (SetBy c e k) (SetAt c k) o (λ m x. (x.step, x.exists, x.of, x.costs))
          (λ m x. record { step = x.0; below = omega (arith, x.1); exists = x.1; of = x.2; costs = x.3 }) l

-- ---- the groups of a diagram

pub priced : (c : Chart) (d : Diagram) (step lo hi cost : List ℕ) (count : ℕ) → Costs c cost → Held d step lo hi → Valid (graph c) → Small c → Sound (group_count c) d
    → count ≤ length d.nodes → Priced step cost count
priced c d step lo hi cost count costs held v small s few = record {
  inside = λ n g l. omega (arith, exists n g l, groups_few c v);
  cheap = λ n g l. go (get_or step n 0) (variable_cost c (get_or step n 0)) refl (costs (get_or step n 0) (exists n g l));
}
  where
    exists : (n : ℕ) → 2 ≤ n → n < count + 2 → get_or step n 0 < group_count c
    exists n g l = omega (arith, held_step_lem d step lo hi held n g (omega arith), s.exist n g (omega arith))

    go : (k : ℕ) (o : Option ℕ) → variable_cost c k ≡ o → get_or cost k 0 ≡ shown (variable_cost c k) → (get_or cost k 0 ≤ 1000000) ⊎ (get_or cost k 0 ≡ NONE)
    go k none e q = inr (q ∙ ap shown e)
    go k (some m) e q = inl (omega (arith, q ∙ ap shown e, variable_cost_cheap c k small m e))
