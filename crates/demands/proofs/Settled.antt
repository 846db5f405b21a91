-- The guided search's log, from its promise.
-- Assumes nothing.
use Rattle.std.specs.Prelude.{ℕ, suc, ◌+◌, ◌-◌, ◌≤◌, ◌<◌, ◌≡◌, refl, List, eqb, length, get_or, take, drop}
use Rattle.std.proofs.Common.{sym, ◌∙◌, ap, subst, arith, length-take, drop-drop, eqb-true, eq-eqb}
use Rattle.std.proofs.Math.Option.{Option, none, some}
use Rattle.definitions.specs.Charts.{Chart}
use Rattle.definitions.specs.Diagrams.{Diagram}
use Rattle.definitions.specs.Plans.{graph, automaton, estimate, cheapest}
use Rattle.definitions.specs.Promises as promises
use Rattle.definitions.specs.Promises.{Outcome, least_cost_at, sum_at, goal_at, Complete, Ended, Logged}
use Rattle.definitions.specs.declared.Answer.{Answer}
use Rattle.theory.specs.Basics.{Order, less, same, more, order, member_at}
use Rattle.theory.specs.Limits.{Valid}
use Rattle.demands.specs.Demands.{need, StaysFrom, At, Once, Reached, Sum, Goal, Follows, Settles}
use Rattle.demands.specs.Reached.{is_reached, is_sum, sum_is, sum_inside, is_goal_pair, goal_pair_is, is_next}
use Rattle.demands.specs.Counted.{pairs_few}
use Rattle.demands.specs.Results.{written}

module _ (c : Chart) (d : Diagram) (v : Valid (graph c)) where
  abbrev sum_of : ℕ → Option ℕ
  sum_of p = sum_at (graph c) (automaton c d) (estimate c d) p

  -- ---- a log

  module _ (log : List ℕ) where
    once_is : ((i j : ℕ) → i < j → j < length log → get_or log i 0 ≡ get_or log j 0 → ⊥) → Once log
    once_is f i j p s t = go (order i j)
      where
        go : Order i j → i ≡ j
        go (less h) = absurd (f i j h t.0 (s.1 ∙ sym t.1))
        go (same q) = q
        go (more h) = absurd (f j i h s.0 (t.1 ∙ sym s.1))

    complete_is : (Q : ℕ → Type 0) → Complete (graph c) (automaton c d) (estimate c d) Q log → (p k : ℕ) → Sum c d p k → Q k → (i : ℕ) × At log i p
    complete_is Q f p k s q = let t = member_at log (f p (sum_inside c d v p k s) k (sum_is c d v p k s) q) in (t.0, (t.1, t.2))

  -- ---- how the search ended

  -- what the demand says where there is a plan, and under 8
  record Ends (log : List ℕ) (r : Answer) : Type 0 where
    below : r.number ≡ 0 → (p k : ℕ) → Sum c d p k → k < r.cost → (i : ℕ) × At log i p
    none_above : r.number ≡ 0 → (i p k : ℕ) → At log i p → Sum c d p k → k ≤ r.cost
    some_entry : r.number ≡ 0 → 0 < length log
    last_goal : r.number ≡ 0 → (i p : ℕ) → At log i p → suc i ≡ length log → Goal c d p × Reached c d p r.cost
    only_goal : r.number ≡ 0 → (i p : ℕ) → At log i p → Goal c d p → suc i ≡ length log
    all : r.number ≡ 8 → (p k : ℕ) → Sum c d p k → (i : ℕ) × At log i p

  module _ (log : List ℕ) (r : Answer) (m : ℕ) (e : promises.Found (graph c) (automaton c d) (estimate c d) m log) where
    goal_is : (i p : ℕ) → At log i p → goal_at (graph c) (automaton c d) (estimate c d) p ≡ eqb (suc i) (length log)
    goal_is i p t = ap (λ (x : ℕ). goal_at (graph c) (automaton c d) (estimate c d) x) (sym t.1) ∙ e.only_goal i t.0

    last_cost : (i p : ℕ) → At log i p → suc i ≡ length log → Reached c d p m
    last_cost i p t l =
        let q : length log - 1 ≡ i = omega arith in
        is_reached c d v p m (ap (λ (x : ℕ). least_cost_at (graph c) (automaton c d) (estimate c d) x) (sym t.1 ∙ ap (λ (j : ℕ). get_or log j 0) (sym q)) ∙ e.goal_cost)

    found_ends : r.number ≡ 0 → r.cost ≡ m → Ends log r
    found_ends n q = record {
      below = λ z p k s h. complete_is log (λ k. k < m) e.below p k s (omega (arith, q));
      none_above = λ z i p k t s. omega (arith, q, e.none_above i k t.0 (ap sum_of t.1 ∙ sum_is c d v p k s));
      some_entry = λ z. e.some_entry;
      last_goal = λ z i p t l. (is_goal_pair c d v p (goal_is i p t ∙ eq-eqb (suc i) (length log) l), subst (Reached c d p) (sym q) (last_cost i p t l));
      only_goal = λ z i p t g. eqb-true (suc i) (length log) (sym (goal_is i p t) ∙ goal_pair_is c d v p g);
      all = λ z. absurd (omega (arith, n));
    }

  none_ends : (log : List ℕ) (r : Answer) → r.number ≡ 8 → Complete (graph c) (automaton c d) (estimate c d) (λ k. Unit {0}) log → Ends log r
  none_ends log r n e = record {
    below = λ z. absurd (omega (arith, n));
    none_above = λ z. absurd (omega (arith, n));
    some_entry = λ z. absurd (omega (arith, n));
    last_goal = λ z. absurd (omega (arith, n));
    only_goal = λ z. absurd (omega (arith, n));
    all = λ z p k s. complete_is log (λ k. Unit {0}) e p k s tt;
  }

  ends_by : (best : Option ℕ) (plan plan' log : List ℕ) (r : Answer) → Outcome best c d r.count plan plan' r → Ended (graph c) (automaton c d) (estimate c d) best log → Ends log r
  ends_by none plan plan' log r o e = none_ends log r (ap (λ (a : Answer). a.number) o.0) e
  ends_by (some m) plan plan' log r o e = found_ends log r m e (ap (λ (a : Answer). a.number) o.0) (ap (λ (a : Answer). a.cost) o.0)

  -- ---- the log slice

  module _ (plan plan' log log' : List ℕ) (r : Answer) (o : Outcome (cheapest c d) c d r.count plan plan' r)
      (l : Logged (graph c) (automaton c d) (estimate c d) (cheapest c d) r.count log log') where
    abbrev entries : List ℕ
    entries = take r.count log'

    pub settles : Settles c d log log' r
    settles =
        let n : length entries ≡ r.count = omega (arith, length-take r.count log', l.fits, l.long) in
        let s = l.settled in
        let e : Ends entries r = ends_by (cheapest c d) plan plan' entries r o l.ended in
        record {
          settled = entries;
          counted = sym n;
          fits = omega (arith, n, l.fits);
          written = written r.count log log' n l.rest;
          inside = λ i p t. omega (arith, t.1, s.inside i t.0);
          sums = λ i p t. let u = s.sums i t.0 in (u.0, is_sum c d v p u.0 (ap sum_of (sym t.1) ∙ u.1));
          once = once_is entries s.once;
          rises = λ i j p q k m h t u x y. s.rises i j k m h u.0 (ap sum_of t.1 ∙ sum_is c d v p k x) (ap sum_of u.1 ∙ sum_is c d v q m y);
          first = λ p t. sym t.1 ∙ s.first t.0;
          follows = λ j q h t.
              let u = s.follows j h t.0 in
              let i : At entries u.0 (get_or entries u.0 0) = (omega (arith, u.1, t.0), refl) in
              (u.0, get_or entries u.0 0, u.1, i, subst (Follows c d (get_or entries u.0 0)) t.1 (is_next c d v _ _ u.2));
          below = e.below;
          none_above = e.none_above;
          some_entry = e.some_entry;
          last_goal = e.last_goal;
          only_goal = e.only_goal;
          all = e.all;
        }

    -- no more pairs are settled than there are, so the slice past its need stays too
    pub log_past : StaysFrom (need c d) log log'
    log_past =
        let k : r.count ≤ need c d = omega (arith, l.few, pairs_few c d v) in
        let q : need c d ≡ r.count + (need c d - r.count) = omega arith in
        let cut : (x : List ℕ) → drop (need c d) x ≡ drop (need c d - r.count) (drop r.count x) =
        λ x. ap (λ (n : ℕ). drop n x) q ∙ sym (drop-drop (need c d - r.count) r.count x) in
        record { long = l.long; rest = cut log' ∙ ap (drop (need c d - r.count)) l.rest ∙ sym (cut log) }
