-- Laws of the ways of a valid graph: their steps rise, they have fewer steps than there are stages and cost at most 510,000,000; the least cost over the ways
-- that pass a test is at most the cost of each of them, and is the cost of one.
-- Assumes nothing.
use Rattle.std.specs.Prelude.{ℕ, zero, suc, ◌+◌, ◌-◌, ◌*◌, ◌%◌, ◌≤◌, ◌<◌, ◌≡◌, refl, Bool, true, ◌&&◌, ltb, eqb, length}
use mathlib.Core.List.Memᴰ
use mathlib.Core.List.{List, [], ◌∷◌, ◌++◌, Memᴰ}
use Rattle.std.proofs.Math.Option.{some}
use Rattle.std.proofs.Common.{arith, ltb-true, eqb-true, lt-ltb, eq-eqb}
use Rattle.definitions.specs.Basics.{keep, upto}
use Rattle.definitions.specs.Ways.{Graph, IsWay, is_way, end_of, way_cost, leaving, ways_in, ways, least_way}
use Rattle.definitions.specs.Pairs.{Automaton, stands}
use Rattle.theory.specs.Limits.{Ticked, Valid}
use Rattle.theory.specs.Least.{IsLeast, least_of}
use Rattle.theory.specs.Basics.{both, either, lt_or_le, AtMost, keep_in, in_keep, each_in, in_each, run_in, in_run, least_lower, least_in}

-- ---- the steps of a way

-- strictly increasing, from k on
abbrev pub Rising : ℕ → List ℕ → Type 0
Rising k [] = Unit {0}
Rising k (e ∷ w) = (k ≤ e) × Rising (suc e) w

module _ (g : Graph) (v : Valid g) where
  -- a way's steps have rising numbers, from k on if every step that leaves its first stage is from k on
  pub way_rises : (w : List ℕ) (a k : ℕ) → IsWay g a w → ((f : ℕ) → f < g.count → g.from f ≡ a → k ≤ f) → Rising k w
  way_rises [] a k i h = tt
  way_rises (e ∷ w) a k i h = (h e i.0 i.1, way_rises w (g.to e) (suc e) i.2 next)
    where
      next : (f : ℕ) → f < g.count → g.from f ≡ g.to e → suc e ≤ f
      next f l q = either (lt_or_le e f) (λ s. s) (λ s. absurd (omega (arith, v.sorted f e s i.0, v.forward e i.0)))

  pub way_rising : (w : List ℕ) (a : ℕ) → IsWay g a w → Rising 0 w
  way_rising w a i = way_rises w a 0 i (λ f l q. omega arith)

  pub end_inside : (w : List ℕ) (a : ℕ) → a < g.stages → IsWay g a w → end_of g a w < g.stages
  end_inside [] a h i = h
  end_inside (e ∷ w) a h i = end_inside w (g.to e) (v.inside e i.0) i.2

  -- each step leads to a higher stage
  pub way_climbs : (w : List ℕ) (a : ℕ) → IsWay g a w → a + length w ≤ end_of g a w
  way_climbs [] a i = omega arith
  way_climbs (e ∷ w) a i = omega (arith, v.forward e i.0, way_climbs w (g.to e) i.2)

  -- so a way has fewer steps than there are stages
  pub way_length : (w : List ℕ) (a : ℕ) → a < g.stages → IsWay g a w → a + length w < g.stages
  way_length w a h i = omega (arith, way_climbs w a i, end_inside w a h i)

  pub way_cheap : (w : List ℕ) (a : ℕ) → IsWay g a w → way_cost g w ≤ 2000000 * (end_of g a w - a)
  way_cheap [] a i = omega arith
  way_cheap (e ∷ w) a i = omega (arith, v.cheap e i.0, v.forward e i.0, way_climbs w (g.to e) i.2, way_cheap w (g.to e) i.2)

  pub step_cheap : (e : ℕ) → e < g.count → g.cost e ≤ 510000000
  step_cheap e h = omega (arith, v.cheap e h, v.inside e h, v.few_stages)

  pub way_bounded : (w : List ℕ) (a : ℕ) → a < g.stages → IsWay g a w → way_cost g w ≤ 510000000
  way_bounded w a h i = omega (arith, way_cheap w a i, way_climbs w a i, end_inside w a h i, v.few_stages)

-- where each step costs whole ticks, each way does
pub way_ticked : (g : Graph) → Ticked g → (w : List ℕ) (a : ℕ) → IsWay g a w → way_cost g w % 50 ≡ 0
way_ticked g t [] a i = refl
way_ticked g t (e ∷ w) a i = omega (arith, t e i.0, way_ticked g t w (g.to e) i.2)

-- ---- the test and the statement agree

pub is_way_is : (g : Graph) (a : ℕ) (w : List ℕ) → is_way g a w ≡ true → IsWay g a w
is_way_is g a [] t = tt
is_way_is g a (e ∷ w) t =
    let u = both (ltb e g.count && eqb (g.from e) a) (is_way g (g.to e) w) t in
    let s = both (ltb e g.count) (eqb (g.from e) a) u.0 in
    (ltb-true _ _ s.0, eqb-true _ _ s.1, is_way_is g (g.to e) w u.1)

pub is_is_way : (g : Graph) (a : ℕ) (w : List ℕ) → IsWay g a w → is_way g a w ≡ true
is_is_way g a [] i = refl
is_is_way g a (e ∷ w) i = simp (lt-ltb _ _ i.0, eq-eqb _ _ i.1) (is_is_way g (g.to e) w i.2)

-- ---- the least cost over all ways that pass a test

-- the list of all ways has each way, and only ways
pub ways_in_all : (g : Graph) (k : ℕ) (w : List ℕ) (a : ℕ) → length w ≤ k → IsWay g a w → Memᴰ w (ways_in k g a)
unfolding ways_in
ways_in_all g zero [] a h i = Memᴰ.head refl
ways_in_all g zero (e ∷ w) a h i = absurd (omega arith)
ways_in_all g (suc k) [] a h i = Memᴰ.head refl
ways_in_all g (suc k) (e ∷ w) a h i =
    Memᴰ.tail
    (each_in _ (leaving g a) (keep_in _ (upto g.count) (run_in 0 g.count e (omega arith) (omega arith)) (eq-eqb (g.from e) a i.1))
    (Memᴰ.map (λ w. e ∷ w) (ways_in_all g k w (g.to e) (omega arith) i.2)))

pub ways_in_only : (g : Graph) (k : ℕ) (a : ℕ) (w : List ℕ) → Memᴰ w (ways_in k g a) → IsWay g a w
unfolding ways_in
ways_in_only g zero a w m = either (Memᴰ.cases_cons m) (λ (q : w ≡ []). rw q tt) (λ n. absurd (Memᴰ.not-nil n))
ways_in_only g (suc k) a w m =
    either (Memᴰ.cases_cons m) (λ (q : w ≡ []). rw q tt)
    (λ n.
    let t = in_each _ (leaving g a) n in
    let u = in_keep _ (upto g.count) t.1 in
    let s = Memᴰ.of_map (λ (w : List ℕ). t.0 ∷ w) (ways_in k g (g.to t.0)) t.2 in
    rw (← s.2) (omega (arith, in_run 0 g.count u.0), eqb-true _ _ u.1, ways_in_only g k (g.to t.0) s.0 s.1))

-- it is at most the cost of each way that passes
pub least_way_lower : (g : Graph) → Valid g → (a : ℕ) → a < g.stages → (test : List ℕ → Bool) (w : List ℕ) → IsWay g a w → test w ≡ true
    → AtMost (least_way g a test) (way_cost g w)
unfolding least_way ways
least_way_lower g v a h test w i t =
    least_lower _ (Memᴰ.map (way_cost g) (keep_in test (ways g a) (ways_in_all g g.stages w a (omega (arith, way_length g v w a h i)) i) t))

-- and it is the cost of one
pub least_way_attained : (g : Graph) (a : ℕ) (test : List ℕ → Bool) (m : ℕ) → least_way g a test ≡ some m
    → (w : List ℕ) × IsWay g a w × (test w ≡ true) × (way_cost g w ≡ m)
unfolding least_way ways
least_way_attained g a test m e =
    let t = Memᴰ.of_map (way_cost g) (keep test (ways g a)) (least_in _ e) in
    let u = in_keep test (ways g a) t.1 in
    (t.0, ways_in_only g g.stages a t.0 u.0, u.1, t.2)

-- so it is the least of their costs
abbrev pub Passing : Graph → ℕ → (List ℕ → Bool) → ℕ → Type 0
Passing g a test k = (w : List ℕ) × IsWay g a w × (test w ≡ true) × (way_cost g w ≡ k)

pub least_way_least : (g : Graph) → Valid g → (a : ℕ) → a < g.stages → (test : List ℕ → Bool) → IsLeast (Passing g a test) (least_way g a test)
least_way_least g v a h test =
    least_of (Passing g a test) (least_way g a test) (least_way_attained g a test)
    (λ k t. rw (← t.3) (least_way_lower g v a h test t.0 t.1 t.2))

-- ---- a way and one step more

module _ (g : Graph) (e : ℕ) where
  pub snoc_way : (w : List ℕ) (a : ℕ) → IsWay g a w → e < g.count → g.from e ≡ end_of g a w → IsWay g a (w ++ e ∷ [])
  snoc_way [] a i h q = (h, q, tt)
  snoc_way (f ∷ w) a i h q = (i.0, i.1, snoc_way w (g.to f) i.2 h q)

  pub unsnoc_way : (w : List ℕ) (a : ℕ) → IsWay g a (w ++ e ∷ []) → IsWay g a w × (e < g.count) × (g.from e ≡ end_of g a w)
  unsnoc_way [] a i = (tt, i.0, i.1)
  unsnoc_way (f ∷ w) a i = let t = unsnoc_way w (g.to f) i.2 in ((i.0, i.1, t.0), t.1, t.2)

  pub snoc_end : (w : List ℕ) (a : ℕ) → end_of g a (w ++ e ∷ []) ≡ g.to e
  snoc_end [] a = refl
  snoc_end (f ∷ w) a = snoc_end w (g.to f)

  pub snoc_cost : (w : List ℕ) → way_cost g (w ++ e ∷ []) ≡ way_cost g w + g.cost e
  snoc_cost [] = omega arith
  snoc_cost (f ∷ w) = omega (arith, snoc_cost w)

pub snoc_stands : (a : Automaton) (e : ℕ) (w : List ℕ) (n : ℕ) → stands a n (w ++ e ∷ []) ≡ a.next e (stands a n w)
unfolding stands
snoc_stands a e [] n = refl
snoc_stands a e (f ∷ w) n = snoc_stands a e w (a.next f n)
