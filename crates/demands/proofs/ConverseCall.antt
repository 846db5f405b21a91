-- One call, the other way round: from demands 1 and 2, and that no legal plan costs less, what both searches promise alike.
-- Assumes nothing.
use Rattle.std.specs.Prelude.{ℕ, ◌≤◌, ◌≡◌, refl, List, [], ◌++◌, length, get_or, take, drop}
use Rattle.std.proofs.Common.{sym, ◌∙◌, ap, subst, inl, inr, arith, length-append, length-drop, take_at, drop_at}
use Rattle.std.proofs.Math.Option.{Option, none, some}
use Rattle.definitions.specs.Charts.{Chart, read_chart, group_count}
use Rattle.definitions.specs.Diagrams.{Diagram}
use Rattle.definitions.specs.Ways.{way_cost}
use Rattle.definitions.specs.Plans.{graph, Legal, cheapest}
use Rattle.definitions.specs.Answers.{Load, ready, refused, refusal}
use Rattle.definitions.specs.Promises.{Planned, Outcome, Scratch}
use Rattle.definitions.specs.declared.Answer.{Answer}
use Rattle.theory.specs.Least.{IsLeast}
use Rattle.checks.specs.Outcome.{refused_not_ready}
use Rattle.theory.specs.Plans.{LegalCost, cheapest_least}
use Rattle.demands.specs.Demands.{Call, Passes, Refusal, Demand1, Given, NoPlan, Demand2, Cheapest, Searched}
use Rattle.demands.proofs.Numbers.{chart_own, rules_own}
use Rattle.demands.specs.Checked.{load_of, Judged, chart_bad, rules_bad, too_short, all_pass, valid, held_alike}
use Rattle.demands.proofs.Checked.{judged, ready_passes}
use Rattle.demands.specs.Results.{Promised}

-- ---- answers and slices

-- an answer is fixed by its parts
is_refusal : (n f p k : ℕ) (r : Answer) → Refusal n f p k r → r ≡ refusal n f p k
is_refusal n f p k r t =
    λ i. record { number = t.number i; file = t.file i; place = t.place i; cost = t.cost i; length = t.length i; count = t.count i }

-- a slice that has n entries written into it, and its old ones from there on
pub record Cut (n : ℕ) (entries slice slice' : List ℕ) : Type 0 where
  pub fits : n ≤ length slice
  pub first : take n slice' ≡ entries
  pub long : length slice' ≡ length slice
  pub rest : drop n slice' ≡ drop n slice

pub cut : (n : ℕ) (entries slice slice' : List ℕ) → n ≡ length entries → length entries ≤ length slice → slice' ≡ entries ++ drop (length entries) slice
    → Cut n entries slice slice'
cut n entries slice slice' q l e = record {
  fits = omega arith;
  first = ap (take n) e ∙ take_at entries (drop (length entries) slice) n (sym q);
  long = ap (λ (x : List ℕ). length x) e ∙ length-append entries (drop (length entries) slice) ∙ omega (arith, length-drop (length entries) slice);
  rest = ap (drop n) e ∙ drop_at entries (drop (length entries) slice) n (sym q) ∙ ap (λ (k : ℕ). drop k slice) (sym q);
}

-- ---- one call

module _ (chart rules : List ℕ) (x : Call) (one : Demand1 chart rules x) (two : Demand2 chart rules x) where
  -- ---- refused by a check

  stops : (n f p : ℕ) → Refusal n f p 0 x.answer → (n ≡ 0 → ⊥) → (n ≡ 8 → ⊥) → Promised (refused n f p) x
  stops n f p t z own =
      let some_number : x.answer.number ≡ 0 → ⊥ = λ q. z (sym t.number ∙ q) in
      let not_eight : x.answer.number ≡ 8 → ⊥ = λ q. own (sym t.number ∙ q) in
      (is_refusal n f p 0 x.answer t, one.plan_stays some_number, one.works_stay some_number not_eight)

  pub stopped : (n f p : ℕ) → load_of chart rules x ≡ refused n f p → Promised (refused n f p) x
  stopped n f p e = go (judged chart rules x)
    where
      by : (o : Load) → load_of chart rules x ≡ o → Promised o x → Promised (refused n f p) x
      by o u t = subst (λ (o : Load). Promised o x) (sym u ∙ e) t

      go : Judged chart rules x → Promised (refused n f p) x
      go (chart_bad h u) = by _ u (stops _ _ _ (one.chart_refused_lem h) h (chart_own chart).1)
      go (rules_bad h i u) = by _ u (stops _ _ _ (one.rules_refused h i) i (rules_own rules (group_count (read_chart chart).chart)).1)
      go (too_short h i u) = by _ u (stops 7 0 0 (one.space_refused _ _ h i) (λ q. omega arith) (λ q. omega arith))
      go (all_pass a u) = absurd (refused_not_ready n f p _ _ (sym e ∙ u))

  -- every work slice, by the outcome of the checks
  pub scratch : (o : Load) → load_of chart rules x ≡ o → (i : ℕ) → Scratch o (get_or x.works i []) (get_or x.works' i [])
  scratch (refused n f p) e i = ap (λ (l : List (List ℕ)). get_or l i []) (stopped n f p e).2
  scratch (ready c d) e i = let s = one.past_stays c d (ready_passes chart rules x c d e) i in (s.long, s.rest)

  -- ---- searched

  module _ (c : Chart) (d : Diagram) (a : Passes chart rules x c d) (cheap : Cheapest c d x.answer) where
    -- the plan is one of this chart under this diagram, and 8 means that they have none
    given_here : x.answer.number ≡ 0 → Given x c d
    given_here z = let g = two.given z in held_alike chart rules _ _ _ _ g.2.files a.files (Given x) g.3

    no_plan_here : x.answer.number ≡ 8 → NoPlan c d
    no_plan_here z = let g = two.exactly.0 z in held_alike chart rules _ _ _ _ g.2.files a.files NoPlan g.3

    planned : (m : ℕ) → Given x c d → x.answer.cost ≡ m → Planned c d m x.answer.length x.plan x.plan'
    planned m g q =
        let k : Cut x.answer.length g.steps x.plan x.plan' = cut _ _ _ _ g.many g.fits g.written in
        record {
          fits = k.fits;
          legal = subst (Legal c d) (sym k.first) g.legal;
          costs = ap (way_cost (graph c)) k.first ∙ sym g.cost ∙ q;
          long = k.long;
          rest = k.rest;
        }

    -- the cheapest cost is the answer's
    given_outcome : (best : Option ℕ) → IsLeast (LegalCost c d) best → x.answer.number ≡ 0 → Given x c d
        → Outcome best c d x.answer.count x.plan x.plan' x.answer
    given_outcome none l z g = absurd (l (way_cost (graph c) g.steps) (g.steps, g.legal, refl))
    given_outcome (some m) l z g =
        let w = l.0 in
        let q : x.answer.cost ≡ m = omega (arith, (cheap w.0 w.1).1, w.2, l.1 (way_cost (graph c) g.steps) (g.steps, g.legal, refl), g.cost) in (
          λ i. record { number = z i; file = g.no_file i; place = g.no_place i; cost = q i; length = x.answer.length; count = x.answer.count },
          planned m g q,
        )

    none_outcome : (best : Option ℕ) → IsLeast (LegalCost c d) best → x.answer.number ≡ 8 → Outcome best c d x.answer.count x.plan x.plan' x.answer
    none_outcome none l z = (is_refusal 8 0 0 x.answer.count x.answer (two.eight z), one.plan_stays (λ q. omega (arith, z)))
    none_outcome (some m) l z = absurd (no_plan_here z l.0.0 l.0.1)

    pub outcome : Outcome (cheapest c d) c d x.answer.count x.plan x.plan' x.answer
    outcome = go (one.passed c d a)
      where
        least : IsLeast (LegalCost c d) (cheapest c d)
        least = cheapest_least c d (valid chart rules c d a.files)

        go : Searched x.answer → Outcome (cheapest c d) c d x.answer.count x.plan x.plan' x.answer
        go (inl z) = given_outcome (cheapest c d) least z (given_here z)
        go (inr z) = none_outcome (cheapest c d) least z
