-- The chart estimates, found stage by stage from the end backwards: a stage's estimate is the least, over the steps that leave it, of the step's cost and
-- the estimate of the stage that it leads to.
-- Assumes nothing.
use Rattle.std.specs.Prelude.{ℕ, ◌+◌, ◌≤◌, ◌<◌, min, ◌≡◌, refl, List, [], ◌∷◌, ◌⊎◌, length, get_or, set, replicate}
use Rattle.std.proofs.Common.{sym, ◌∙◌, ap, inl, inr, get_or-set_same, get_or-set_other}
use Rattle.std.proofs.Math.Option.{Option, none, some}
use Rattle.std.proofs.Math.Dec.{eqb}
use Rattle.std.proofs.lemmas.List.{get_or-replicate, length-replicate}
use native.Mathlib.Omega.{arith}
use borrow.Author.Tests.{eqb-true, eq-eqb}
use Rattle.definitions.specs.Basics.{NONE, smaller, sum_of}
use Rattle.definitions.specs.Ways.{Graph, IsWay, end_of, way_cost}
use Rattle.definitions.specs.Charts.{Chart}
use Rattle.definitions.specs.Pairs.{to_end}
use Rattle.definitions.specs.Plans.{chart_estimate}
use Rattle.definitions.specs.Promises.{shown}
use Rattle.theory.specs.Limits.{Valid}
use Rattle.theory.specs.Basics.{same_or_not}
use Rattle.theory.specs.Least.{IsLeast, More, least_of, least_unique, least_either, least_more, Shows, shows_same}
use Rattle.theory.specs.Ways.{way_climbs, way_cheap, step_cheap, least_way_lower, least_way_attained}
use Rattle.chart_stages.specs.FirstSteps.{first_step, leaves_first}

-- the table of the estimates: at each stage from the start on the chart estimate, NONE where there is none, and there is none past the stages
pub record EstimateTable (c : Chart) (estimates : List ℕ) : Type 0 where
  pub at : (s : ℕ) → c.start ≤ s → s < 256 → get_or estimates s 0 ≡ shown (chart_estimate c s)
  pub long : length estimates ≡ 256

-- m is the cost of a way from stage s to the end
pub record WayFrom (g : Graph) (s m : ℕ) : Type 0 where
  pub steps : List ℕ
  pub way : IsWay g s steps
  pub ends : end_of g s steps ≡ g.end
  pub costs : way_cost g steps ≡ m

-- m is the cost of a way from stage s to the end that begins with a step below e
pub record WayBy (g : Graph) (e s m : ℕ) : Type 0 where
  pub step : ℕ
  pub below : step < e
  pub exists : step < g.count
  pub leaves : g.from step ≡ s
  pub rest : More (g.cost step) (WayFrom g (g.to step)) m

-- the entry of each stage from s on shows the least cost of its ways to the end
pub record Told (g : Graph) (s : ℕ) (estimates : List ℕ) : Type 0 where
  pub at : (t : ℕ) → s ≤ t → t < 256 → Shows (WayFrom g t) (get_or estimates t 0)

-- P is what is known, Q the rest
module _ (P Q : ℕ → Type 0) (few : (m : ℕ) → Q m → m ≤ 510000000) (c : ℕ) (small : c ≤ 510000000) where
  smaller_shown : (a b : Option ℕ) (known rest r : ℕ) → IsLeast Q b → known ≡ shown a → rest ≡ shown b → known ≤ NONE → r ≡ min known (c + rest)
      → r ≡ shown (smaller a (sum_of (some c) b))
  unfolding smaller sum_of
  smaller_shown none none known rest r q ek er h l = omega arith
  smaller_shown (some x) none known rest r q ek er h l = omega arith
  smaller_shown none (some y) known rest r q ek er h l = omega (arith, few y q.0)
  smaller_shown (some x) (some y) known rest r q ek er h l = omega arith

  shows_smaller : (known rest r : ℕ) → Shows P known → Shows Q rest → known ≤ NONE → r ≡ min known (c + rest) → Shows (λ m. P m ⊎ More c Q m) r
  shows_smaller known rest r p q h l = (
    smaller p.0 (sum_of (some c) q.0),
    least_either P (More c Q) p.0 (sum_of (some c) q.0) p.1 (least_more c Q q.0 q.1),
    smaller_shown p.0 q.0 known rest r q.1 p.2 q.2 h l,
  )

module _ (g : Graph) (v : Valid g) where
  -- such a way costs at most 510,000,000
  cheap : (s m : ℕ) → WayFrom g s m → m ≤ 510000000
  cheap s m w =
      omega (arith, way_climbs g v w.steps s w.way, way_cheap g v w.steps s w.way, w.ends, w.costs, v.end_inside, v.few_stages)

  -- it does not begin past the end
  not_past : (s m : ℕ) → WayFrom g s m → s ≤ g.end
  not_past s m w = omega (arith, way_climbs g v w.steps s w.way, w.ends)

  -- ---- all ways: the estimate

  to_end_least : (s : ℕ) → IsLeast (WayFrom g s) (to_end g s)
  unfolding to_end
  to_end_least s =
      least_of (WayFrom g s) (to_end g s)
      (λ m e.
      let u = least_way_attained g s (λ w. eqb (end_of g s w) g.end) m e in
      record { steps = u.0; way = u.1; ends = eqb-true _ _ u.2; costs = u.3 })
      (λ m w.
      rw (← w.costs)
      (least_way_lower g v s (omega (arith, not_past s m w, v.end_inside)) (λ w. eqb (end_of g s w) g.end) w.steps w.way (eq-eqb _ _ w.ends)))

  pub told_is : (s : ℕ) (estimates : List ℕ) → Told g s estimates → (t : ℕ) → s ≤ t → t < 256 → get_or estimates t 0 ≡ shown (to_end g t)
  told_is s estimates told t h l =
      let x = told.at t h l in
      x.2 ∙ ap shown (least_unique (WayFrom g t) x.0 (to_end g t) x.1 (to_end_least t))

  -- ---- at first: the way without steps

  pub told_start : Told g g.end (set (replicate 256 NONE) g.end 0)
  told_start = record { at = λ t h l. go t h l (same_or_not t g.end) }
    where
      long : length {A = ℕ} (replicate 256 NONE) ≡ 256
      long = length-replicate {A = ℕ} 256 NONE

      go : (t : ℕ) → g.end ≤ t → t < 256 → (t ≡ g.end) ⊎ (t ≡ g.end → ⊥) → Shows (WayFrom g t) (get_or (set (replicate 256 NONE) g.end 0) t 0)
      go t h l (inl q) = rw q (
        some 0,
        (record { steps = []; way = tt; ends = refl; costs = refl }, λ m w. omega arith),
        get_or-set_same (replicate 256 NONE) g.end 0 0 (omega (arith, long, v.end_inside, v.few_stages)),
      )
      go t h l (inr n) = (
        none,
        λ m w. omega (arith, not_past t m w),
        get_or-set_other (replicate 256 NONE) g.end t 0 0 n ∙ get_or-replicate 256 t NONE 0 l,
      )

  -- ---- one stage more, s

  module _ (s : ℕ) where
    pub told_turn : (estimates : List ℕ) → Told g (s + 1) estimates → length estimates ≡ 256 → (r : ℕ) → Shows (WayFrom g s) r → Told g s (set estimates s r)
    told_turn estimates told long r found = record { at = λ t h l. go t h l (same_or_not t s) }
      where
        go : (t : ℕ) → s ≤ t → t < 256 → (t ≡ s) ⊎ (t ≡ s → ⊥) → Shows (WayFrom g t) (get_or (set estimates s r) t 0)
        go t h l (inl q) =
            let i : s < length estimates = omega arith in
            rw (q, get_or-set_same estimates s r 0 i) found
        go t h l (inr n) = rw (get_or-set_other estimates s t r 0 n) (told.at t (omega arith) l)

    -- no step below its first one leaves it
    pub by_none : Shows (WayBy g (first_step g s) s) NONE
    by_none = (none, λ m w. omega (arith, leaves_first g v s w.step w.exists w.leaves, w.below), refl)

    -- one step more, e
    module _ (e : ℕ) (i : e < g.count) (leaves : g.from e ≡ s) where
      split : (m : ℕ) → WayBy g (e + 1) s m → WayBy g e s m ⊎ More (g.cost e) (WayFrom g (g.to e)) m
      split m w = go (same_or_not w.step e)
        where
          go : (w.step ≡ e) ⊎ (w.step ≡ e → ⊥) → WayBy g e s m ⊎ More (g.cost e) (WayFrom g (g.to e)) m
          go (inl q) = inr (rw (← q) w.rest)
          go (inr n) = inl (record { step = w.step; below = omega (arith, w.below); exists = w.exists; leaves = w.leaves; rest = w.rest })

      joined : (m : ℕ) → WayBy g e s m ⊎ More (g.cost e) (WayFrom g (g.to e)) m → WayBy g (e + 1) s m
      joined m (inl w) = record { step = w.step; below = omega (arith, w.below); exists = w.exists; leaves = w.leaves; rest = w.rest }
      joined m (inr t) = record { step = e; below = omega arith; exists = i; leaves = leaves; rest = t }

      module _ (estimates : List ℕ) (told : Told g (s + 1) estimates) where
        rest : Shows (WayFrom g (g.to e)) (get_or estimates (g.to e) 0)
        rest = told.at (g.to e) (omega (arith, v.forward e i)) (omega (arith, v.inside e i, v.few_stages))

        pub by_turn : (known r : ℕ) → Shows (WayBy g e s) known → known ≤ NONE → r ≡ min known (g.cost e + get_or estimates (g.to e) 0)
            → Shows (WayBy g (e + 1) s) r
        by_turn known r k h l =
            shows_same _ (WayBy g (e + 1) s) r joined split
            (shows_smaller (WayBy g e s) (WayFrom g (g.to e)) (cheap (g.to e)) (g.cost e) (step_cheap g v e i) known (get_or estimates (g.to e) 0) r k rest h l)

    -- before the end each way begins with a step that leaves the stage
    pub by_all : s < g.end → (r : ℕ) → Shows (WayBy g (first_step g (s + 1)) s) r → Shows (WayFrom g s) r
    by_all early r = shows_same (WayBy g (first_step g (s + 1)) s) (WayFrom g s) r whole begins
      where
        whole : (m : ℕ) → WayBy g (first_step g (s + 1)) s m → WayFrom g s m
        whole m w =
            let t = w.rest.1 in
            record { steps = w.step ∷ t.steps; way = (w.exists, w.leaves, t.way); ends = t.ends; costs = omega (arith, t.costs, w.rest.2) }

        begins : (m : ℕ) → WayFrom g s m → WayBy g (first_step g (s + 1)) s m
        begins m w = go w.steps w.way w.ends w.costs
          where
            go : (l : List ℕ) → IsWay g s l → end_of g s l ≡ g.end → way_cost g l ≡ m → WayBy g (first_step g (s + 1)) s m
            go [] h q c = absurd (omega arith)
            go (x ∷ l) h q c = record {
              step = x;
              below = (leaves_first g v s x h.0 h.1).1;
              exists = h.0;
              leaves = h.1;
              rest = (way_cost g l, record { steps = l; way = h.2; ends = q; costs = refl }, sym c);
            }
