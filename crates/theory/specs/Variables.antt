-- Laws of the diagram's variables: which one a step sets, how many there are, and what setting one costs. Nothing else looks into their definitions.
-- Assumes nothing.
use Rattle.std.specs.Prelude.{ℕ, zero, suc, ◌≤◌, ◌<◌, ◌≡◌, Bool, false, ◌||◌, length, get_or}
use Rattle.std.proofs.Math.Path.{refl, ap₂}
use Rattle.std.proofs.Common.{sym, ◌∙◌, ap, arith}
use mathlib.Core.List.Memᴰ
use mathlib.Core.List.{List, [], ◌∷◌, map}
use Rattle.std.proofs.Math.Option.{none, some}
use borrow.Author.Tests.{eqb-true, eq-eqb, ne_eqb}
use Rattle.definitions.specs.Basics.{upto, above, has}
use Rattle.definitions.specs.Charts.{Chart, ChartStep, no_step, group_count}
use Rattle.definitions.specs.Diagrams.{Diagram, advance}
use Rattle.definitions.specs.Ways.{IsWay}
use Rattle.definitions.specs.Plans.{graph, automaton, variable, steps_of, variable_cost}
use Rattle.theory.specs.Limits.{Small, Valid}
use Rattle.theory.specs.Basics.{AtMost, keep_in, in_keep, run_in, in_run, least_lower, least_in}
use Rattle.theory.specs.Least.{IsLeast, least_of, least_unique}

-- a step sets the variable of its group
pub variable_is : (c : Chart) (e : ℕ) → variable c e ≡ (graph c).group e
unfolding variable
variable_is c e = refl

-- so a step advances a node by its group
pub next_is : (c : Chart) (d : Diagram) (e n : ℕ) → (automaton c d).next e n ≡ advance d ((graph c).group e) n
next_is c d e n = ap (λ (k : ℕ). advance d k n) (variable_is c e)

-- variables never fall as the steps rise
pub variable_rises : (c : Chart) → Valid (graph c) → (e f : ℕ) → e ≤ f → f < (graph c).count → variable c e ≤ variable c f
unfolding variable
variable_rises c v e f h l = v.grouped e f h l

-- ---- how many there are

abbrev group_of : ChartStep → ℕ
group_of x = x.group

-- the groups of steps are below the least number above them all, which is at most any other such number
pub groups_below : (l : List ChartStep) (e : ℕ) → e < length l → (get_or l e no_step).group < above (map group_of l)
groups_below [] e h = absurd (omega arith)
groups_below (x ∷ l) zero h = omega arith
groups_below (x ∷ l) (suc e) h = omega (arith, groups_below l e (omega arith))

pub groups_within : (l : List ChartStep) (k : ℕ) → ((e : ℕ) → e < length l → (get_or l e no_step).group < k) → above (map group_of l) ≤ k
groups_within [] k all = omega arith
groups_within (x ∷ l) k all = omega (arith, all 0 (omega arith), groups_within l k (λ e h. all (suc e) (omega arith)))

module _ (c : Chart) where
  pub group_named : (e : ℕ) → e < (graph c).count → (graph c).group e < group_count c
  unfolding group_count
  group_named e h = groups_below c.steps e h

  -- a chart without steps has none, and where groups never fall the highest is that of the last step
  pub groups_none : (graph c).count ≡ 0 → group_count c ≡ 0
  unfolding group_count
  groups_none h = omega (arith, groups_within c.steps 0 (λ e i. absurd (omega arith)))

  module _ (v : Valid (graph c)) where
    pub groups_last : (e : ℕ) → suc e ≡ (graph c).count → group_count c ≡ suc ((graph c).group e)
    unfolding group_count
    groups_last e h =
        omega (arith, groups_below c.steps e (omega arith), groups_within c.steps (suc ((graph c).group e)) (λ f i. omega (arith, v.grouped f e (omega arith) (omega arith))))

    pub groups_few : group_count c ≤ 1024
    unfolding group_count
    groups_few = groups_within c.steps 1024 (λ e h. omega (arith, v.few_groups e h))

-- ---- what setting one costs

-- some step of the group k costs m
abbrev pub SetAt : Chart → ℕ → ℕ → Type 0
SetAt c k m = (e : ℕ) × (e < (graph c).count) × ((graph c).group e ≡ k) × ((graph c).cost e ≡ m)

module _ (c : Chart) (k : ℕ) where
  pub variable_cost_attained : (m : ℕ) → variable_cost c k ≡ some m → SetAt c k m
  unfolding variable variable_cost
  variable_cost_attained m e =
      let t = Memᴰ.of_map (graph c).cost (steps_of c k) (least_in _ e) in
      let u = in_keep _ (upto (graph c).count) t.1 in
      (t.0, omega (arith, in_run 0 (graph c).count u.0), eqb-true _ _ u.1, t.2)

  pub variable_cost_lower : (m : ℕ) → SetAt c k m → AtMost (variable_cost c k) m
  unfolding variable variable_cost
  variable_cost_lower m x =
      rw (← x.3)
      (least_lower _ (Memᴰ.map (graph c).cost (keep_in _ (upto (graph c).count) (run_in 0 (graph c).count x.0 (omega arith) (omega arith)) (eq-eqb _ _ x.2))))

  -- the least of what its steps cost
  pub variable_cost_least : IsLeast (SetAt c k) (variable_cost c k)
  variable_cost_least = least_of (SetAt c k) (variable_cost c k) variable_cost_attained variable_cost_lower

  pub variable_cost_cheap : Small c → (m : ℕ) → variable_cost c k ≡ some m → m ≤ 1000000
  variable_cost_cheap small m e = let x = variable_cost_attained m e in omega (arith, x.3, small x.0 x.1)

-- a step costs at least what setting its variable costs
pub variable_cost_at_most : (c : Chart) (e : ℕ) → e < (graph c).count → AtMost (variable_cost c (variable c e)) ((graph c).cost e)
variable_cost_at_most c e h = rw (variable_is c e) (variable_cost_lower c ((graph c).group e) ((graph c).cost e) (e, h, refl, refl))

-- ---- a group without steps

module _ (c : Chart) (k : ℕ) (gap : (e : ℕ) → e < (graph c).count → (graph c).group e ≡ k → ⊥) where
  -- is never present
  pub gap_absent : (w : List ℕ) (s : ℕ) → IsWay (graph c) s w → has (map (variable c) w) k ≡ false
  unfolding variable
  gap_absent [] s i = refl
  gap_absent (e ∷ w) s i = ap₂ (λ (a b : Bool). a || b) (ne_eqb k ((graph c).group e) (λ q. gap e i.0 (sym q))) (gap_absent w ((graph c).to e) i.2)

  -- and has no cost
  pub gap_cost : variable_cost c k ≡ none
  gap_cost = least_unique (SetAt c k) (variable_cost c k) none (variable_cost_least c k) (λ m x. gap x.0 x.1 x.2)

-- ---- a chart in which each step is a group alone

module _ (c : Chart) (alone : (e : ℕ) → e < (graph c).count → (graph c).group e ≡ e) where
  -- its groups are its steps
  pub alone_groups : group_count c ≡ (graph c).count
  unfolding group_count
  alone_groups = go (graph c).count refl
    where
      within : above (map group_of c.steps) ≤ (graph c).count
      within = groups_within c.steps (graph c).count (λ e h. omega (arith, alone e h))

      go : (n : ℕ) → (graph c).count ≡ n → above (map group_of c.steps) ≡ (graph c).count
      go zero h = omega (arith, within)
      go (suc n) h = omega (arith, within, groups_below c.steps n (omega arith), alone n (omega arith))

  -- and each costs what its step costs
  pub alone_cost : (k : ℕ) → k < (graph c).count → variable_cost c k ≡ some ((graph c).cost k)
  alone_cost k h =
      least_unique (SetAt c k) (variable_cost c k) (some ((graph c).cost k)) (variable_cost_least c k)
      ((k, h, alone k h, refl), λ m x. let q : x.0 ≡ k = sym (alone x.0 x.1) ∙ x.2 in omega (arith, x.3, ap (graph c).cost q))
