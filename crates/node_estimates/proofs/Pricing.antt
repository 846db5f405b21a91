-- The loop of `fill_prices`: what it asks of the tables, and one law for each way on.
-- Assumes nothing.
use Prim.Native.Nat.{ℕ, ◌+◌, ◌≤◌, ◌<◌, min}
use mathlib.Core.Path.{◌≡◌, refl, sym, ◌∙◌, ap}
use mathlib.Core.List.{List}
use native.Mathlib.Omega.{arith}
use lib.ListN.{get_or, set, replicate}
use Rattle.definitions.specs.Basics.{NONE}
use Rattle.definitions.specs.Charts.{Chart}
use Rattle.definitions.specs.Plans.{graph}
use Rattle.definitions.specs.declared.Shape.{Shape}
use Rattle.theory.specs.Limits.{Small, Valid}
use Rattle.chart.specs.Tables.{Steps, chart_in}
use Rattle.chart.specs.Held.{held_count, held_cost, held_group}
use Rattle.node_estimates.specs.Estimates.{Costs}
use Rattle.node_estimates.specs.Prices.{PricesTo, prices_start, prices_more, prices_done}

-- the entries are right by the steps before e, in each chart of so many steps that stands in the table
abbrev pub Pricing : Steps → ℕ → ℕ → List ℕ → Type 0
Pricing t count e price = (z : Shape) → z.steps ≡ count → Small (chart_in z t) → PricesTo (chart_in z t) e price

pub pricing_start : (t : Steps) (count : ℕ) (price : List ℕ) → price ≡ replicate 1024 NONE → Pricing t count 0 price
pricing_start t count price q z h small = rw q (prices_start (chart_in z t))

module _ (z : Shape) (t : Steps) (limits : Valid (graph (chart_in z t)) × Small (chart_in z t)) where
  abbrev c : Chart
  c = chart_in z t

  same_count : (graph c).count ≡ z.steps
  same_count = held_count z.steps t

  pub pricing_few : z.steps ≤ 1024
  pricing_few = omega (arith, same_count, limits.0.few)

  module _ (e : ℕ) (h : e < z.steps) where
    exists : e < (graph c).count
    exists = omega (arith, same_count)

    pub pricing_step : e < 1024
    pricing_step = omega (arith, same_count, limits.0.few)

    module _ (k : ℕ) (ek : k ≡ get_or t.group e 0) where
      pub pricing_group : k < 1024
      pricing_group = omega (arith, ek, held_group z.steps t e h, limits.0.few_groups e exists)

  pub pricing_done : (e : ℕ) → z.steps ≤ e → (price : List ℕ) → Pricing t z.steps e price → Costs c price
  pricing_done e h price found = prices_done c limits.0 e (omega (arith, same_count)) price (found z refl limits.1)

pub pricing_more : (t : Steps) (count e : ℕ) → e < count → (price : List ℕ) → Pricing t count e price → (k v : ℕ) → k ≡ get_or t.group e 0 → k < 1024
    → v ≡ min (get_or price k 0) (get_or t.cost e 0) → Pricing t count (e + 1) (set price k v)
pricing_more t count e h price found k v ek few ev z q small =
    let l : e < z.steps = omega arith in
    let n : e < (graph (chart_in z t)).count = omega (arith, held_count z.steps t) in
    prices_more (chart_in z t) small e n price (found z q small) k v (ek ∙ sym (held_group z.steps t e l)) few (ev ∙ ap (min (get_or price k 0)) (sym (held_cost z.steps t e l)))
