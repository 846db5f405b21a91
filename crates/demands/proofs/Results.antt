-- One call, by what both searches promise alike: demands 1 and 2, and that no legal plan costs less.
-- Assumes nothing.
use Rattle.std.specs.Prelude.{ℕ, ◌≡◌, refl, List, ◌⊎◌, length, take}
use Rattle.std.proofs.Common.{sym, ◌∙◌, ap, subst, inl, inr, arith, length-take}
use Rattle.std.proofs.Math.Option.{Option, none, some}
use Rattle.definitions.specs.Charts.{Chart, read_chart, group_count}
use Rattle.definitions.specs.Diagrams.{Diagram}
use Rattle.definitions.specs.Ways.{way_cost}
use Rattle.definitions.specs.Plans.{graph, cheapest}
use Rattle.definitions.specs.Answers.{Load, ready, refused, refusal}
use Rattle.definitions.specs.Promises.{Planned, Outcome}
use Rattle.definitions.specs.declared.Answer.{Answer}
use Rattle.theory.specs.Basics.{either}
use Rattle.theory.specs.Least.{IsLeast}
use Rattle.theory.specs.Plans.{LegalCost, cheapest_least}
use Rattle.demands.specs.Demands.{Call, Passes, Refusal, Demand1, Given, NoPlan, Demand2, Cheapest, Searched}
use Rattle.demands.proofs.Numbers.{chart_own, rules_own}
use Rattle.demands.specs.Checked.{load_of, Judged, chart_bad, rules_bad, too_short, all_pass, chart_load, rules_load, valid}
use Rattle.demands.proofs.Checked.{judged, space_load, passes_ready}
use Rattle.demands.specs.Results.{written, Promised, Found, Lacks, refusal_is}

module _ (x : Call) (c : Chart) (d : Diagram) (k : ℕ) where
  planned_given : (m : ℕ) → Planned c d m x.answer.length x.plan x.plan' → x.answer.cost ≡ m → x.answer.file ≡ 0 → x.answer.place ≡ 0 → Given x c d
  planned_given m p q f o =
      let n : length (take x.answer.length x.plan') ≡ x.answer.length = omega (arith, length-take x.answer.length x.plan', p.fits, p.long) in
      record {
        steps = take x.answer.length x.plan';
        legal = p.legal;
        cost = q ∙ sym p.costs;
        many = sym n;
        fits = omega (arith, n, p.fits);
        written = written x.answer.length x.plan x.plan' n p.rest;
        no_file = f;
        no_place = o;
      }

  ends_by : (best : Option ℕ) → IsLeast (LegalCost c d) best → Outcome best c d k x.plan x.plan' x.answer → Found x c d ⊎ Lacks x c d
  ends_by none l o =
      let r : Refusal 8 0 0 k x.answer = refusal_is 8 0 0 k x.answer o.0 in
      inr (record {
        answer = record { number = r.number; file = r.file; place = r.place; cost = r.cost; length = r.length; count = refl };
        plan = o.1;
        legal = λ w t. l (way_cost (graph c) w) (w, t, refl);
      })
  ends_by (some m) l o =
      let q : x.answer.cost ≡ m = ap (λ (a : Answer). a.cost) o.0 in
      inl (record {
        number = ap (λ (a : Answer). a.number) o.0;
        given = planned_given m o.1 q (ap (λ (a : Answer). a.file) o.0) (ap (λ (a : Answer). a.place) o.0);
        least = λ w t. omega (arith, q, l.1 (way_cost (graph c) w) (w, t, refl));
      })

module _ (chart rules : List ℕ) (x : Call) (promise : Promised (load_of chart rules x) x) where
  -- ---- refused by a check

  refused_as : (n f p : ℕ) → load_of chart rules x ≡ refused n f p → (x.answer ≡ refusal n f p 0) × (x.plan' ≡ x.plan) × (x.works' ≡ x.works)
  refused_as n f p e = subst (λ (o : Load). Promised o x) e promise

  pub answer_is : (n f p : ℕ) → load_of chart rules x ≡ refused n f p → x.answer ≡ refusal n f p 0
  answer_is n f p e = (refused_as n f p e).0

  refuses : (n f p : ℕ) → load_of chart rules x ≡ refused n f p → Refusal n f p 0 x.answer
  refuses n f p e = refusal_is n f p 0 x.answer (answer_is n f p e)

  -- ---- searched

  passed : (c : Chart) (d : Diagram) → Passes chart rules x c d → Promised (ready c d) x
  passed c d a = subst (λ (o : Load). Promised o x) (passes_ready chart rules x c d a) promise

  pub ends : (c : Chart) (d : Diagram) → Passes chart rules x c d → Found x c d ⊎ Lacks x c d
  ends c d a =
      let o = passed c d a in
      ends_by x c d o.0 (cheapest c d) (cheapest_least c d (valid chart rules c d a.files)) o.1

  -- ---- both

  record Stopped (n : ℕ) : Type 0 where
    pub number : x.answer.number ≡ n
    pub some_number : n ≡ 0 → ⊥
    pub own : n ≡ 8 → ⊥
    pub plan : x.plan' ≡ x.plan
    pub works : x.works' ≡ x.works

  data Result : Type 0 where
    stopped : (n : ℕ) → Stopped n → Result
    found : (c : Chart) (d : Diagram) → Passes chart rules x c d → Found x c d → Result
    lacks : (c : Chart) (d : Diagram) → Passes chart rules x c d → Lacks x c d → Result

  stop : (n f p : ℕ) → load_of chart rules x ≡ refused n f p → (n ≡ 0 → ⊥) → (n ≡ 8 → ⊥) → Result
  stop n f p e z l =
      let t = refused_as n f p e in
      stopped n (record { number = (refuses n f p e).number; some_number = z; own = l; plan = t.1; works = t.2 })

  result : Result
  result = go (judged chart rules x)
    where
      go : Judged chart rules x → Result
      go (chart_bad p e) = stop _ _ _ e p (chart_own chart).1
      go (rules_bad p q e) = stop _ _ _ e q (rules_own rules (group_count (read_chart chart).chart)).1
      go (too_short f s e) = stop 7 0 0 e (λ q. omega arith) (λ q. omega arith)
      go (all_pass a e) = either (ends _ _ a) (found _ _ a) (lacks _ _ a)

  -- ---- the demands

  pub demand_1 : Demand1 chart rules x
  demand_1 = record {
    chart_refused_lem = λ h. refuses _ _ _ (chart_load chart rules x h);
    rules_refused = λ p h. refuses _ _ _ (rules_load chart rules x p h);
    space_refused = λ c d f h. refuses 7 0 0 (space_load chart rules x c d f h);
    passed = λ c d a. either (ends c d a) (λ t. inl t.number) (λ t. inr t.answer.number);
    plan_stays = plan_stays result;
    works_stay = works_stay result;
    past_stays = λ c d a. (passed c d a).2;
  }
    where
      plan_stays : Result → (x.answer.number ≡ 0 → ⊥) → x.plan' ≡ x.plan
      plan_stays (stopped n s) h = s.plan
      plan_stays (found c d a t) h = absurd (h t.number)
      plan_stays (lacks c d a t) h = t.plan

      works_stay : Result → (x.answer.number ≡ 0 → ⊥) → (x.answer.number ≡ 8 → ⊥) → x.works' ≡ x.works
      works_stay (stopped n s) h i = s.works
      works_stay (found c d a t) h i = absurd (h t.number)
      works_stay (lacks c d a t) h i = absurd (i t.answer.number)

  pub demand_2 : Demand2 chart rules x
  demand_2 = record {
    given = given result;
    exactly = (none_exists result, λ t. either (ends t.0 t.1 t.2) (λ u. absurd (t.3 u.given.steps u.given.legal)) (λ u. u.answer.number));
    eight = eight result;
  }
    where
      given : Result → x.answer.number ≡ 0 → (c : Chart) × (d : Diagram) × Passes chart rules x c d × Given x c d
      given (stopped n s) h = absurd (s.some_number (sym s.number ∙ h))
      given (found c d a t) h = (c, d, a, t.given)
      given (lacks c d a t) h = absurd (omega (arith, t.answer.number))

      none_exists : Result → x.answer.number ≡ 8 → (c : Chart) × (d : Diagram) × Passes chart rules x c d × NoPlan c d
      none_exists (stopped n s) h = absurd (s.own (sym s.number ∙ h))
      none_exists (found c d a t) h = absurd (omega (arith, t.number))
      none_exists (lacks c d a t) h = (c, d, a, t.legal)

      eight : Result → x.answer.number ≡ 8 → Refusal 8 0 0 x.answer.count x.answer
      eight (stopped n s) h = absurd (s.own (sym s.number ∙ h))
      eight (found c d a t) h = absurd (omega (arith, t.number))
      eight (lacks c d a t) h = t.answer

  pub is_cheapest : (c : Chart) (d : Diagram) → Passes chart rules x c d → Cheapest c d x.answer
  is_cheapest c d a w t = either (ends c d a) (λ u. (u.number, u.least w t)) (λ u. absurd (u.legal w t))

  -- a call that no check refused
  pub searched_passes : Searched x.answer → (c : Chart) × (d : Diagram) × Passes chart rules x c d
  searched_passes t = go result
    where
      go : Result → (c : Chart) × (d : Diagram) × Passes chart rules x c d
      go (stopped n s) = absurd (either t (λ h. s.some_number (sym s.number ∙ h)) (λ h. s.own (sym s.number ∙ h)))
      go (found c d a u) = (c, d, a)
      go (lacks c d a u) = (c, d, a)
