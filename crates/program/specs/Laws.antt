-- What `Written` says of the text: that it is whole, and case by case: a refusal, no legal plan, a legal plan.
-- Assumes nothing.
use Rattle.std.specs.Prelude.{ℕ, ◌-◌, ◌≤◌, ◌≡◌, refl, List, [], ◌∷◌, ◌++◌, length, take, drop}
use Rattle.std.proofs.Common.{sym, ◌∙◌, ap, subst, arith, length-take, take_all, eq-eqb, ne_eqb}
use Rattle.std.proofs.Math.Option.{Option, none, some}
use Rattle.definitions.specs.Charts.{Chart}
use Rattle.definitions.specs.Diagrams.{Diagram}
use Rattle.definitions.specs.Ways.{way_cost}
use Rattle.definitions.specs.Pairs.{reached_pairs}
use Rattle.definitions.specs.Plans.{graph, automaton, estimate, Legal, cheapest}
use Rattle.definitions.specs.Answers.{Load, ready, refused, refusal, accepted}
use Rattle.definitions.specs.Promises.{Outcome, Swept, Guided, Settled, Found, Ended}
use Rattle.definitions.specs.declared.Answer.{Answer}
use Rattle.theory.specs.Basics.{pick_true, pick_false}
use Rattle.checks.specs.Outcome.{load_numbered}
use Rattle.report.specs.Text.{report, plan_text, refused_text}
use Rattle.buffer.specs.Appending.{Appended}
use Rattle.program.specs.Written.{program_load, Written}

-- ---- the text of an answer

refused_report : (number file place count : ℕ) (plan : List ℕ) (sweep : Answer) → (number ≡ 0 → ⊥)
    → report (refusal number file place count) plan sweep ≡ refused_text number file place
unfolding report
refused_report number file place count plan sweep h = pick_false _ _ _ (ne_eqb number 0 h)

accepted_report : (cost steps count : ℕ) (plan : List ℕ) (sweep : Answer)
    → report (accepted cost steps count) plan sweep ≡ plan_text cost (take steps plan) count sweep.count
unfolding report
accepted_report cost steps count plan sweep = pick_true _ _ _ (eq-eqb 0 0 refl)

-- ---- what is written

-- a plan's text: the steps of a legal plan that costs m, the length of a log of settled pairs that ends at a goal pair of that cost, and the count of reached pairs
pub record PlanShown (c : Chart) (d : Diagram) (m : ℕ) (out out' : List ℕ) (r : ℕ) : Type 0 where
  pub steps : List ℕ
  pub legal : Legal c d steps
  pub costs : way_cost (graph c) steps ≡ m
  pub log : List ℕ
  pub settled : Settled (graph c) (automaton c d) (estimate c d) log
  pub found : Found (graph c) (automaton c d) (estimate c d) m log
  pub text : Appended out 0 (plan_text m steps (length log) (length (reached_pairs (graph c) (automaton c d)))) out' r

module _ {chart rules out out' : List ℕ} {r : ℕ} (w : Written chart rules out out' r) where
  abbrev swept : Answer
  swept = w.answers.sweep

  abbrev found : Answer
  found = w.answers.guided

  -- the guided search's plan slice and its log slice, after
  abbrev plan : List ℕ
  plan = w.given'.plan

  abbrev log : List ℕ
  log = w.given'.log

  -- a buffer of 2,879 bytes gets the whole text, and stays as it was behind it
  pub whole_text : 2879 ≤ length out → (r ≡ length (report found plan swept)) × (out' ≡ report found plan swept ++ drop r out)
  whole_text h =
      let text : List ℕ = report found plan swept in
      let e : r ≡ length text = omega (arith, w.text.end, w.short) in
      (e, w.text.held ∙ ap (λ (z : List ℕ). z ++ drop r out) (take_all (r - 0) text (omega arith)))

  abbrev Shows : List ℕ → Type 0
  Shows text = Appended out 0 text out' r

  -- a file or the space is refused: the refusal's line
  pub refused_text_lem : (number file place : ℕ) → program_load chart rules ≡ refused number file place → Shows (refused_text number file place)
  refused_text_lem number file place e =
      let p = subst (λ (o : Load). Guided o w.given.plan plan w.given.log log found) (w.guided_space ∙ e) w.both.guided.guided in
      let q : report found plan swept ≡ refused_text number file place =
      ap (λ (a : Answer). report a plan swept) p.0 ∙ refused_report number file place 0 plan swept (load_numbered chart rules (4096 ∷ []) 255 number file place e) in
      subst Shows q w.text

  module _ (c : Chart) (d : Diagram) (e : program_load chart rules ≡ ready c d) where
    -- the guided search's promise and the sweep's, for this chart and diagram
    abbrev search_kept : Guided (ready c d) w.given.plan plan w.given.log log found
    search_kept = subst (λ (o : Load). Guided o w.given.plan plan w.given.log log found) (w.guided_space ∙ e) w.both.guided.guided

    abbrev sweep_kept : Swept (ready c d) w.lent.plan w.lent'.plan w.lent.cost w.lent'.cost swept
    sweep_kept = subst (λ (o : Load). Swept o w.lent.plan w.lent'.plan w.lent.cost w.lent'.cost swept) (w.sweep_space ∙ e) w.both.sweep.swept

    abbrev settled_in : List ℕ
    settled_in = take found.count log

    abbrev count : ℕ
    count = length (reached_pairs (graph c) (automaton c d))

    -- there is no legal plan: the line of 8
    pub no_plan_text : cheapest c d ≡ none → Shows (refused_text 8 0 0)
    no_plan_text h =
        let p = subst (λ (o : Option ℕ). Outcome o c d found.count w.given.plan plan found) h search_kept.0 in
        let q : report found plan swept ≡ refused_text 8 0 0 =
        ap (λ (a : Answer). report a plan swept) p.0 ∙ refused_report 8 0 0 found.count plan swept (λ z. omega arith) in
        subst Shows q w.text

    -- a cheapest legal plan costs m: the text of a plan at that cost
    pub plan_text_lem : (m : ℕ) → cheapest c d ≡ some m → PlanShown c d m out out' r
    plan_text_lem m h =
        let p = subst (λ (o : Option ℕ). Outcome o c d found.count w.given.plan plan found) h search_kept.0 in
        let l = search_kept.1 in
        let s = subst (λ (o : Option ℕ). Outcome o c d count w.lent.plan w.lent'.plan swept) h sweep_kept.0 in
        let k : length settled_in ≡ found.count = omega (arith, length-take found.count log, l.fits, l.long) in
        let n : swept.count ≡ count = ap (λ (a : Answer). a.count) s.0 in
        let q : report found plan swept ≡ plan_text m (take found.length plan) (length settled_in) count =
        ap (λ (a : Answer). report a plan swept) p.0
        ∙ accepted_report m found.length found.count plan swept
        ∙ ap (λ (i : ℕ). plan_text m (take found.length plan) i swept.count) (sym k)
        ∙ ap (plan_text m (take found.length plan) (length settled_in)) n in
        let ended = subst (λ (o : Option ℕ). Ended (graph c) (automaton c d) (estimate c d) o settled_in) h l.ended in
        record {
          steps = take found.length plan;
          legal = p.1.legal;
          costs = p.1.costs;
          log = settled_in;
          settled = l.settled;
          found = ended;
          text = subst Shows q w.text;
        }
