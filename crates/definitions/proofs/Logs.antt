-- The guided search on the chart of REFERENCE 14: a log that meets its promise and, for each clause of the promise, a log that does not; and the sweep's cost slices.
-- Assumes nothing.
use Rattle.std.specs.Prelude.{ℕ, zero, suc, ◌+◌, ◌*◌, ◌≤◌, ◌<◌, ◌≡◌, refl, Bool, true, false, ◌⊎◌, eqb, get_or}
use Rattle.std.proofs.Common.{sym, ◌∙◌, ap, inl, inr, arith}
use mathlib.Core.List.Memᴰ
use mathlib.Core.List.{List, [], ◌∷◌, map, Memᴰ}
use Rattle.std.proofs.Math.Option.{Option, none, some}
use Rattle.definitions.specs.Basics.{NONE, pick, smaller, larger, sum_of, upto}
use Rattle.definitions.specs.Diagrams.{descend, descend_in, advance, finish}
use Rattle.definitions.specs.Ways.{Graph, ways_in, ways, least_way}
use Rattle.definitions.specs.Pairs.{Automaton, Estimate, stands, least_cost, reached, goal, reached_pairs, to_end, sum}
use Rattle.definitions.specs.Plans.{graph, variable, variable_cost, automaton, chart_estimate, diagram_estimate, estimate}
use Rattle.definitions.specs.Promises.{least_costs, least_cost_at, sum_at, goal_at, Follows, Settled, Found, Ended, Logged}
use Rattle.definitions.specs.Marked.{chart, rules, single, leaf}

abbrev g : Graph
g = graph chart

abbrev a : Automaton
a = automaton chart rules

abbrev h : Estimate
h = estimate chart rules

-- ---- each of the 20 pairs: its sum, its least cost, and whether it is a goal pair

pub sums : List (Option ℕ)
sums =
    none ∷ none ∷ none ∷ some 150
    ∷ none ∷ some 200 ∷ some 250 ∷ none
    ∷ none ∷ some 350 ∷ none ∷ none
    ∷ none ∷ some 200 ∷ none ∷ none
    ∷ none ∷ some 200 ∷ none ∷ none ∷ []

pub costs : List (Option ℕ)
costs =
    none ∷ none ∷ none ∷ some 0
    ∷ none ∷ some 100 ∷ some 50 ∷ none
    ∷ none ∷ some 250 ∷ none ∷ none
    ∷ none ∷ some 150 ∷ none ∷ none
    ∷ none ∷ some 200 ∷ none ∷ none ∷ []

pub sums_hold : map (sum_at g a h) (upto 20) ≡ sums
unfolding sums pick smaller larger sum_of descend descend_in advance ways_in ways least_way stands least_cost to_end sum chart_estimate diagram_estimate estimate variable variable_cost
sums_hold = refl

pub costs_hold : map (least_cost_at g a h) (upto 20) ≡ costs
unfolding costs pick smaller descend descend_in advance ways_in ways least_way stands least_cost variable
costs_hold = refl

-- the sweep's cost slice at each pair, and in the cases (g) and (h)
pub cost_slices : List (List ℕ)
cost_slices = least_costs g a ∷ least_costs (graph single) (automaton single (leaf 1)) ∷ least_costs (graph single) (automaton single (leaf 0)) ∷ []

pub cost_slices_hold : cost_slices ≡
    (NONE ∷ NONE ∷ NONE ∷ 0 ∷ NONE ∷ 100 ∷ 50 ∷ NONE ∷ NONE ∷ 250 ∷ NONE ∷ NONE ∷ NONE ∷ 150 ∷ NONE ∷ NONE ∷ NONE ∷ 200 ∷ NONE ∷ NONE ∷ [])
    ∷ (NONE ∷ 0 ∷ [])
    ∷ (NONE ∷ NONE ∷ [])
    ∷ []
unfolding cost_slices pick smaller descend descend_in advance ways_in ways least_way stands least_cost least_costs variable
cost_slices_hold = refl

-- one pair's entry in the tables
sum_of_lem : (p : ℕ) → get_or (map (sum_at g a h) (upto 20)) p none ≡ get_or sums p none
sum_of_lem p = ap (λ (l : List (Option ℕ)). get_or l p none) sums_hold

cost_of_lem : (p : ℕ) → get_or (map (least_cost_at g a h) (upto 20)) p none ≡ get_or costs p none
cost_of_lem p = ap (λ (l : List (Option ℕ)). get_or l p none) costs_hold

goals_hold : map (goal_at g a h) (3 ∷ 5 ∷ 6 ∷ 13 ∷ 17 ∷ []) ≡ false ∷ false ∷ false ∷ false ∷ true ∷ []
unfolding pick smaller descend descend_in advance finish ways_in ways least_way stands least_cost reached goal variable
goals_hold = refl

-- ---- small laws: each of the first n numbers; options

abbrev pub Each : ℕ → (ℕ → Type 0) → Type 0
Each zero P = Unit {0}
Each (suc n) P = P 0 × Each n (λ i. P (suc i))

infixr 4 ◌also◌
pub ◌also◌ : {A B : Type 0} → A → B → A × B
x also y = (x, y)

pub each : (n : ℕ) (P : ℕ → Type 0) → Each n P → (i : ℕ) → i < n → P i
each zero P t i l = absurd (omega arith)
each (suc n) P t zero l = t.0
each (suc n) P t (suc i) l = each n (λ i. P (suc i)) t.1 i (omega arith)

none_some : {x : ℕ} → none ≡ some x → ⊥
none_some e = let z : ◌≡◌ {A = ℕ} 0 1 = cc in omega arith

pub some_same : {x y : ℕ} → some x ≡ some y → x ≡ y
some_same e = cc

pub false_true : false ≡ true → ⊥
false_true e = let z : ◌≡◌ {A = ℕ} 0 1 = cc in omega arith

-- p is no member of a list
abbrev Outside : ℕ → List ℕ → Type 0
Outside p [] = Unit {0}
Outside p (x ∷ xs) = (p ≡ x → ⊥) × Outside p xs

outside : (p : ℕ) (l : List ℕ) → Outside p l → Memᴰ p l → ⊥
outside p [] o m = Memᴰ.not-nil m
outside p (x ∷ xs) o m = go (Memᴰ.cases_cons m) (outside p xs o.1)
  where
    go : (p ≡ x) ⊎ Memᴰ p xs → (Memᴰ p xs → ⊥) → ⊥
    go (inl e) k = o.0 e
    go (inr m) k = k m

-- ---- 3, 5, 13, 17 meets the promise

abbrev good : List ℕ
good = 3 ∷ 5 ∷ 13 ∷ 17 ∷ []

abbrev good_sum : ℕ → ℕ
good_sum i = get_or (150 ∷ 200 ∷ 200 ∷ 200 ∷ []) i 0

good_sums : (i : ℕ) → i < 4 → sum_at g a h (get_or good i 0) ≡ some (good_sum i)
unfolding sums
good_sums = each 4 (λ i. sum_at g a h (get_or good i 0) ≡ some (good_sum i)) (sum_of_lem 3 also sum_of_lem 5 also sum_of_lem 13 also sum_of_lem 17 also tt)

good_rises : (i j : ℕ) → i ≤ j → j < 4 → good_sum i ≤ good_sum j
good_rises i j l u =
    each 4 (λ j. (i : ℕ) → i < suc j → good_sum i ≤ good_sum j)
    (each 1 (λ i. good_sum i ≤ 150) (omega arith also tt)
    also each 2 (λ i. good_sum i ≤ 200) (omega arith also omega arith also tt)
    also each 3 (λ i. good_sum i ≤ 200) (omega arith also omega arith also omega arith also tt)
    also each 4 (λ i. good_sum i ≤ 200) (omega arith also omega arith also omega arith also omega arith also tt)
    also tt) j u i (omega arith)

good_once : (j i : ℕ) → i < j → j < 4 → get_or good i 0 ≡ get_or good j 0 → ⊥
good_once j i l u =
    each 4 (λ j. (i : ℕ) → i < j → get_or good i 0 ≡ get_or good j 0 → ⊥)
    (each 0 (λ i. get_or good i 0 ≡ 3 → ⊥) tt
    also each 1 (λ i. get_or good i 0 ≡ 5 → ⊥) ((λ e. omega arith) also tt)
    also each 2 (λ i. get_or good i 0 ≡ 13 → ⊥) ((λ e. omega arith) also (λ e. omega arith) also tt)
    also each 3 (λ i. get_or good i 0 ≡ 17 → ⊥) ((λ e. omega arith) also (λ e. omega arith) also (λ e. omega arith) also tt)
    also tt) j u i l

good_follows : (j : ℕ) → j < 4 → 0 < j → (i : ℕ) × (i < j) × Follows g a h (get_or good i 0) (get_or good j 0)
unfolding costs pick descend descend_in advance variable
good_follows =
    each 4 (λ j. 0 < j → (i : ℕ) × (i < j) × Follows g a h (get_or good i 0) (get_or good j 0))
    ((λ l. absurd (omega arith))
    also (λ l. (0, omega arith, record { step = 1; exists = omega arith; leaves = refl; enters = refl; before = 0; least_before = cost_of_lem 3; least = cost_of_lem 5 }))
    also (λ l. (1, omega arith, record { step = 3; exists = omega arith; leaves = refl; enters = refl; before = 100; least_before = cost_of_lem 5; least = cost_of_lem 13 }))
    also (λ l. (2, omega arith, record { step = 5; exists = omega arith; leaves = refl; enters = refl; before = 150; least_before = cost_of_lem 13; least = cost_of_lem 17 }))
    also tt)

pub good_settled : Settled g a h good
good_settled = record {
  first = λ l. refl;
  inside = each 4 (λ i. get_or good i 0 < 20) (omega arith also omega arith also omega arith also omega arith also tt);
  sums = λ i l. (good_sum i, good_sums i l);
  rises = λ i j k m l u s t.
      let x = some_same (sym s ∙ good_sums i (omega arith)) in
      let y = some_same (sym t ∙ good_sums j u) in
      omega (arith, x, y, good_rises i j l u);
  once = λ i j l u. good_once j i l (omega arith);
  follows = λ j l u. let t = good_follows j u l in (t.0, omega (arith, t.1), t.2);
}

-- every pair with a sum below 200 is in the log: it is 3
good_complete : (p : ℕ) → p < 20 → (k : ℕ) → sum_at g a h p ≡ some k → k < 200 → Memᴰ p good
unfolding sums
good_complete =
    each 20 (λ p. (k : ℕ) → sum_at g a h p ≡ some k → k < 200 → Memᴰ p good)
    (gone 0 (sum_of_lem 0) also gone 1 (sum_of_lem 1) also gone 2 (sum_of_lem 2) also (λ k e l. Memᴰ.head refl)
    also gone 4 (sum_of_lem 4) also high 5 200 (sum_of_lem 5) (omega arith) also high 6 250 (sum_of_lem 6) (omega arith) also gone 7 (sum_of_lem 7)
    also gone 8 (sum_of_lem 8) also high 9 350 (sum_of_lem 9) (omega arith) also gone 10 (sum_of_lem 10) also gone 11 (sum_of_lem 11)
    also gone 12 (sum_of_lem 12) also high 13 200 (sum_of_lem 13) (omega arith) also gone 14 (sum_of_lem 14) also gone 15 (sum_of_lem 15)
    also gone 16 (sum_of_lem 16) also high 17 200 (sum_of_lem 17) (omega arith) also gone 18 (sum_of_lem 18) also gone 19 (sum_of_lem 19)
    also tt)
  where
    gone : (p : ℕ) → sum_at g a h p ≡ none → (k : ℕ) → sum_at g a h p ≡ some k → k < 200 → Memᴰ p good
    gone p n k e l = absurd (none_some (sym n ∙ e))

    high : (p m : ℕ) → sum_at g a h p ≡ some m → 200 ≤ m → (k : ℕ) → sum_at g a h p ≡ some k → k < 200 → Memᴰ p good
    high p m n u k e l = absurd (omega (arith, some_same (sym n ∙ e)))

goal_of : (i : ℕ) → get_or (map (goal_at g a h) (3 ∷ 5 ∷ 6 ∷ 13 ∷ 17 ∷ [])) i false ≡ get_or (false ∷ false ∷ false ∷ false ∷ true ∷ []) i false
goal_of i = ap (λ (l : List Bool). get_or l i false) goals_hold

pub good_found : Found g a h 200 good
unfolding costs
good_found = record {
  some_entry = omega arith;
  only_goal = each 4 (λ i. goal_at g a h (get_or good i 0) ≡ eqb (suc i) 4) (goal_of 0 also goal_of 1 also goal_of 3 also goal_of 4 also tt);
  goal_cost = cost_of_lem 17;
  below = λ p l k e u. good_complete p l k e (omega arith);
  none_above = λ i k l e. let x = some_same (sym e ∙ good_sums i l) in omega (arith, x, good_rises i 3 (omega arith) (omega arith));
}

-- ---- logs that do not meet it, each by one clause

pub starts_late : Settled g a h (5 ∷ 13 ∷ 17 ∷ []) → ⊥
starts_late s = let e = s.first (omega arith) in omega arith

pub no_pair : Settled g a h (3 ∷ 20 ∷ []) → ⊥
no_pair s = omega (arith, s.inside 1 (omega arith))

-- pair 4 is not reached
pub no_sum : Settled g a h (3 ∷ 4 ∷ []) → ⊥
unfolding sums
no_sum s = let t = s.sums 1 (omega arith) in none_some (sym (sum_of_lem 4) ∙ t.1)

pub falls : Settled g a h (3 ∷ 6 ∷ 5 ∷ []) → ⊥
unfolding sums
falls s = omega (arith, s.rises 1 2 250 200 (omega arith) (omega arith) (sum_of_lem 6) (sum_of_lem 5))

pub twice : Settled g a h (3 ∷ 5 ∷ 5 ∷ 13 ∷ 17 ∷ []) → ⊥
twice s = s.once 1 2 (omega arith) (omega arith) refl

-- no step leads from 3, the pair of stage 0 and node 3, or from 5, the pair of stage 1 and node 1, to 17
abbrev Apart : ℕ → ℕ → ℕ → Type 0
Apart s n e = g.from e ≡ s → 17 ≡ g.to e * 4 + a.next e n → ⊥

apart : Each 6 (Apart 0 3) × Each 6 (Apart 1 1)
unfolding pick descend descend_in advance variable
apart = (
  (λ l e. omega arith) also (λ l e. omega arith) also (λ l e. omega arith) also (λ l e. omega arith) also (λ l e. omega arith) also (λ l e. omega arith) also tt,
  (λ l e. omega arith) also (λ l e. omega arith) also (λ l e. omega arith) also (λ l e. omega arith) also (λ l e. omega arith) also (λ l e. omega arith) also tt,
)

pub skips : Settled g a h (3 ∷ 5 ∷ 17 ∷ []) → ⊥
skips s =
    let t = s.follows 2 (omega arith) (omega arith) in
    each 2 (λ i. Follows g a h (get_or (3 ∷ 5 ∷ 17 ∷ []) i 0) 17 → ⊥)
    ((λ f. each 6 (Apart 0 3) apart.0 f.step f.exists f.leaves f.enters)
    also (λ f. each 6 (Apart 1 1) apart.1 f.step f.exists f.leaves f.enters)
    also tt) t.0 t.1 t.2

-- pair 9 has the least cost 250; step 2 leads to it from pair 5, at 300
abbrev Priced : ℕ → ℕ → Type 0
Priced m e = g.cost e ≡ m → ⊥

unpriced : Each 6 (Priced 250) × Each 6 (Priced 150)
unpriced = (
  (λ l. omega arith) also (λ l. omega arith) also (λ l. omega arith) also (λ l. omega arith) also (λ l. omega arith) also (λ l. omega arith) also tt,
  (λ l. omega arith) also (λ l. omega arith) also (λ l. omega arith) also (λ l. omega arith) also (λ l. omega arith) also (λ l. omega arith) also tt,
)

pub not_least : Settled g a h (3 ∷ 5 ∷ 9 ∷ []) → ⊥
unfolding costs
not_least s =
    let t = s.follows 2 (omega arith) (omega arith) in
    each 2 (λ i. Follows g a h (get_or (3 ∷ 5 ∷ 9 ∷ []) i 0) 9 → ⊥)
    ((λ f. each 6 (Priced 250) unpriced.0 f.step f.exists (omega (arith, some_same (sym (cost_of_lem 3) ∙ f.least_before), some_same (sym (cost_of_lem 9) ∙ f.least))))
    also (λ f. each 6 (Priced 150) unpriced.1 f.step f.exists (omega (arith, some_same (sym (cost_of_lem 5) ∙ f.least_before), some_same (sym (cost_of_lem 9) ∙ f.least))))
    also tt) t.0 t.1 t.2

pub empty : Found g a h 200 [] → ⊥
empty f = omega (arith, f.some_entry)

pub stops_early : Found g a h 200 (3 ∷ 5 ∷ 13 ∷ []) → ⊥
stops_early f = false_true (sym (goal_of 3) ∙ f.only_goal 2 (omega arith))

-- 170 is what the values of the file add up to
pub other_cost : Found g a h 170 good → ⊥
unfolding costs
other_cost f = omega (arith, some_same (sym (cost_of_lem 17) ∙ f.goal_cost))

-- pair 3 has the sum 150
pub misses : Found g a h 200 (5 ∷ 13 ∷ 17 ∷ []) → ⊥
unfolding sums
misses f =
    outside 3 (5 ∷ 13 ∷ 17 ∷ []) ((λ e. omega arith) also (λ e. omega arith) also (λ e. omega arith) also tt)
    (f.below 3 (omega arith) 150 (sum_of_lem 3) (omega arith))

-- pair 6 has the sum 250
pub above : Found g a h 200 (3 ∷ 5 ∷ 6 ∷ 13 ∷ 17 ∷ []) → ⊥
unfolding sums
above f = omega (arith, f.none_above 2 250 (omega arith) (sum_of_lem 6))

-- where there is no legal plan the log may not stop before pair 3
pub ends_early : Ended g a h none [] → ⊥
unfolding sums
ends_early e = Memᴰ.not-nil (e 3 (omega arith) 150 (sum_of_lem 3) tt)

-- ---- the log slice: the log, then the entries that stay

pub good_logged : Logged g a h (some 200) 4 (0 ∷ 0 ∷ 0 ∷ 0 ∷ 9 ∷ []) (3 ∷ 5 ∷ 13 ∷ 17 ∷ 9 ∷ [])
unfolding pick smaller descend descend_in advance ways_in ways least_way stands least_cost reached reached_pairs variable
good_logged = record { fits = omega arith; settled = good_settled; ended = good_found; few = omega arith; long = refl; rest = refl }

pub writes_past : Logged g a h (some 200) 4 (0 ∷ 0 ∷ 0 ∷ 0 ∷ 9 ∷ []) (3 ∷ 5 ∷ 13 ∷ 17 ∷ 8 ∷ []) → ⊥
writes_past l = let e = ap (λ (r : List ℕ). get_or r 0 0) l.rest in omega arith

pub cuts : Logged g a h (some 200) 4 (0 ∷ 0 ∷ 0 ∷ 0 ∷ 9 ∷ []) (3 ∷ 5 ∷ 13 ∷ 17 ∷ []) → ⊥
cuts l = omega (arith, l.long)

pub no_space : Logged g a h (some 200) 5 (0 ∷ 0 ∷ 0 ∷ 0 ∷ []) good → ⊥
no_space l = omega (arith, l.fits)

-- six pairs are reached
pub too_many : Logged g a h (some 200) 7 (0 ∷ 0 ∷ 0 ∷ 0 ∷ 0 ∷ 0 ∷ 0 ∷ []) (3 ∷ 5 ∷ 6 ∷ 9 ∷ 13 ∷ 17 ∷ 3 ∷ []) → ⊥
unfolding pick smaller descend descend_in advance ways_in ways least_way stands least_cost reached reached_pairs variable
too_many l = omega (arith, l.few)
