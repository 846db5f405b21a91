-- What an entry of a list gets is what a guided search answers on the chart with its start and end in the head, and every such answer keeps the promise.
-- Assumes nothing.
use Rattle.std.specs.Prelude.{ℕ, ◌≤◌, ◌<◌, ◌≡◌, refl, Bool, true, false, ◌&&◌, List, [], ◌∷◌, ◌⊎◌, ltb, length, get_or, take}
use Rattle.std.proofs.Common.{sym, ◌∙◌, ap, ap₂, subst, inl, inr, arith, lt-ltb, le-ltb}
use Rattle.std.proofs.Math.Option.{Option, none, some}
use Rattle.std.proofs.Math.Seq.{take-length}
use Rattle.definitions.specs.Charts.{Chart, headed, read_chart, group_count}
use Rattle.definitions.specs.Diagrams.{Diagram, strict, read_diagram}
use Rattle.definitions.specs.Ways.{way_cost}
use Rattle.definitions.specs.Plans.{graph, automaton, Legal, cheapest, estimate}
use Rattle.definitions.specs.Answers.{Load, ready, refused, read_files, with_work, load, load_work, space_fits, refusal, accepted}
use Rattle.definitions.specs.Promises.{Outcome, Logged, Guided, GuidedSlices, guided_slices, guided_load, GuidedPromise, GuidedCall, on_chart, answered_by, found_number, found_cost, CycleSearched, CycledIf, no_cycle, EachCycled, Listed, CycleSlices, cycles_load, CyclesCall}
use Rattle.definitions.specs.declared.Answer.{Answer}
use Rattle.definitions.specs.declared.Cycle.{Cycle}
use Rattle.theory.specs.Basics.{pick_cases, same_or_not, either}
use Rattle.theory.specs.Limits.{Valid}
use Rattle.theory.specs.Least.{IsLeast}
use Rattle.theory.specs.Plans.{LegalCost, cheapest_least}
use Rattle.theory.specs.Logs.{log_long, log_alone}
use Rattle.chart.specs.Accepted.{chart_accepted}
use Rattle.checks.specs.Outcome.{chart_refused_lem, rules_refused, files_passed, files_numbered, refused_not_ready, ready_left, ready_right, same_number, load_ready, load_work_lem}
use Rattle.checks.specs.Heads.{valid_headed}
use Rattle.demands.proofs.Numbers.{files_own}
use Rattle.lists.specs.Heads.{with_head, headed_reads}

-- ---- an entry and the answer of a guided search

outcome_told : (best : Option ℕ) (c : Chart) (d : Diagram) (k : ℕ) (plan plan' : List ℕ) (r : Answer) → Outcome best c d k plan plan' r
    → (r.number ≡ found_number best) × (r.cost ≡ found_cost best)
outcome_told none c d k plan plan' r o = (ap (λ (i : Answer). i.number) o.0, ap (λ (i : Answer). i.cost) o.0)
outcome_told (some m) c d k plan plan' r o = (ap (λ (i : Answer). i.number) o.0, ap (λ (i : Answer). i.cost) o.0)

-- some guided search of the chart gave the entry its number, cost and count
pub record SomeSearch (c : Chart) (d : Diagram) (x x' : Cycle) : Type 0 where
  pub plan : List ℕ
  pub plan' : List ℕ
  pub log : List ℕ
  pub log' : List ℕ
  pub answer : Answer
  pub searched : Guided (ready c d) plan plan' log log' answer
  pub told : x' ≡ answered_by x answer.number answer.cost answer.count

module _ (c : Chart) (d : Diagram) (x x' : Cycle) where
  -- whatever a guided search may answer, the entry may hold
  pub search_keeps : SomeSearch c d x x' → CycleSearched c d x x'
  search_keeps s =
      let o = outcome_told (cheapest c d) c d s.answer.count s.plan s.plan' s.answer s.searched.0 in
      let l = s.searched.1 in
      record {
        log = take s.answer.count s.log';
        logged = log_alone (graph c) (automaton c d) (estimate c d) l;
        answered = s.told ∙ rw (o.0, o.1, log_long (graph c) (automaton c d) (estimate c d) l) refl;
      }

  -- whatever the entry holds, a guided search may answer
  pub keeps_search : Valid (graph c) → CycleSearched c d x x' → SomeSearch c d x x'
  keeps_search v s = go (cheapest c d) refl (cheapest_least c d v)
    where
      logged_at : (o : Option ℕ) → cheapest c d ≡ o → Logged (graph c) (automaton c d) (estimate c d) o (length s.log) s.log s.log
      logged_at o e = subst (λ (i : Option ℕ). Logged (graph c) (automaton c d) (estimate c d) i (length s.log) s.log s.log) e s.logged

      told_at : (o : Option ℕ) → cheapest c d ≡ o → x' ≡ answered_by x (found_number o) (found_cost o) (length s.log)
      told_at o e = subst (λ (i : Option ℕ). x' ≡ answered_by x (found_number i) (found_cost i) (length s.log)) e s.answered

      go : (o : Option ℕ) → cheapest c d ≡ o → IsLeast (LegalCost c d) o → SomeSearch c d x x'
      go none e least = record {
        plan = [];
        plan' = [];
        log = s.log;
        log' = s.log;
        answer = refusal 8 0 0 (length s.log);
        searched = subst (λ (i : Option ℕ). Outcome i c d (length s.log) [] [] (refusal 8 0 0 (length s.log)) × Logged (graph c) (automaton c d) (estimate c d) i (length s.log) s.log s.log)
            (sym e) ((refl, refl), logged_at none e);
        told = told_at none e;
      }
      go (some m) e least =
          let w : List ℕ = least.0.0 in
          record {
            plan = w;
            plan' = w;
            log = s.log;
            log' = s.log;
            answer = accepted m (length w) (length s.log);
            searched = subst (λ (i : Option ℕ). Outcome i c d (length s.log) w w (accepted m (length w) (length s.log)) × Logged (graph c) (automaton c d) (estimate c d) i (length s.log) s.log s.log)
                (sym e) (
                  (
                    refl,
                    record {
                      fits = omega arith;
                      legal = subst (Legal c d) (sym (take-length w)) least.0.1;
                      costs = ap (way_cost (graph c)) (take-length w) ∙ least.0.2;
                      long = refl;
                      rest = refl;
                    },
                  ),
                  logged_at (some m) e,
                );
            told = told_at (some m) e;
          }

-- ---- the files

-- the chart and the diagram of files that are accepted
record Files (chart rules : List ℕ) (c : Chart) (d : Diagram) : Type 0 where
  pub chart_passes : (read_chart chart).number ≡ 0
  pub rules_pass : (read_diagram strict rules (group_count c)).number ≡ 0
  pub chart_held : (read_chart chart).chart ≡ c
  pub rules_held_lem : (read_diagram strict rules (group_count c)).diagram ≡ d

files_of : (chart rules : List ℕ) (c : Chart) (d : Diagram) → read_files strict chart rules ≡ ready c d → Files chart rules c d
files_of chart rules c d e =
    either (same_or_not (read_chart chart).number 0)
    (λ (z : (read_chart chart).number ≡ 0). either (same_or_not (read_diagram strict rules (group_count (read_chart chart).chart)).number 0)
    (λ (y : (read_diagram strict rules (group_count (read_chart chart).chart)).number ≡ 0). held z y (sym (files_passed strict chart rules z y) ∙ e))
    (λ n. absurd (refused_not_ready _ _ _ c d (sym (rules_refused strict chart rules z n) ∙ e))))
    (λ n. absurd (refused_not_ready _ _ _ c d (sym (chart_refused_lem strict chart rules n) ∙ e)))
  where
    held : (read_chart chart).number ≡ 0 → (read_diagram strict rules (group_count (read_chart chart).chart)).number ≡ 0
        → ready (read_chart chart).chart (read_diagram strict rules (group_count (read_chart chart).chart)).diagram ≡ ready c d → Files chart rules c d
    held z y q =
        let same = ready_left _ _ c d q in
        record {
          chart_passes = z;
          rules_pass = subst (λ (i : Chart). (read_diagram strict rules (group_count i)).number ≡ 0) same y;
          chart_held = same;
          rules_held_lem = subst (λ (i : Chart). (read_diagram strict rules (group_count i)).diagram ≡ d) same (ready_right _ _ c d q);
        }

-- with another start and end in the chart's head the files are accepted too, and are that chart and the same diagram
pub headed_files : (chart rules : List ℕ) (c : Chart) (d : Diagram) (start end : ℕ) → read_files strict chart rules ≡ ready c d → start < c.stages → end < c.stages
    → read_files strict (with_head chart start end) rules ≡ ready (headed c start end) d
unfolding group_count
headed_files chart rules c d start end e i j =
    let f = files_of chart rules c d e in
    let at : read_chart (with_head chart start end) ≡ _ = headed_reads chart start end f.chart_passes (subst (λ (k : Chart). start < k.stages) (sym f.chart_held) i)
    (subst (λ (k : Chart). end < k.stages) (sym f.chart_held) j) in
    let held : (read_chart (with_head chart start end)).chart ≡ headed c start end = ap (λ k. k.chart) at ∙ ap (λ (k : Chart). headed k start end) f.chart_held in
    let groups : group_count (read_chart (with_head chart start end)).chart ≡ group_count c = ap group_count held in
    files_passed strict (with_head chart start end) rules (ap (λ k. k.number) at ∙ f.chart_passes)
    (ap (λ (n : ℕ). (read_diagram strict rules n).number) groups ∙ f.rules_pass)
    ∙ ap₂ (λ (k : Chart) (l : Diagram). ready k l) held (ap (λ (n : ℕ). (read_diagram strict rules n).diagram) groups ∙ f.rules_held_lem)

-- ---- the call

work_files : (works : List ℕ) (o : Load) (c : Chart) (d : Diagram) → with_work works o ≡ ready c d → o ≡ ready c d
work_files works (refused number file place) c d e = e
work_files works (ready c' d') c d e = either (pick_cases _ _ _ _ e) (λ x. x.1) (λ x. absurd (refused_not_ready 7 0 0 c d x.1))

load_files : (chart rules works : List ℕ) (c : Chart) (d : Diagram) → load_work chart rules works ≡ ready c d → read_files strict chart rules ≡ ready c d
unfolding load_work
load_files chart rules works c d e = work_files works (read_files strict chart rules) c d e

-- the checks never give a number that neither the files give nor is 7
work_apart : (m : ℕ) → (7 ≡ m → ⊥) → (works : List ℕ) (o : Load) → ((n f p : ℕ) → o ≡ refused n f p → n ≡ m → ⊥) → (n f p : ℕ) → with_work works o ≡ refused n f p → n ≡ m → ⊥
work_apart m other works (refused n' f' p') apart n f p e z = apart n f p e z
work_apart m other works (ready c d) apart n f p e z =
    either (pick_cases _ _ _ _ e) (λ x. refused_not_ready n f p c d (sym x.1)) (λ x. other (same_number 7 0 0 n f p x.1 ∙ z))

load_numbered : (chart rules works : List ℕ) (n f p : ℕ) → load_work chart rules works ≡ refused n f p → n ≡ 0 → ⊥
unfolding load_work
load_numbered chart rules works = work_apart 0 (λ q. omega arith) works (read_files strict chart rules) (files_numbered strict chart rules)

-- where the call answers 0 the files are accepted, and each entry is answered
pub record Accepted (chart rules : List ℕ) (list list' : List Cycle) : Type 0 where
  pub c : Chart
  pub d : Diagram
  pub files : read_files strict chart rules ≡ ready c d
  pub entries : EachCycled c d list list'

module _ (chart rules : List ℕ) (x : CycleSlices) (list list' : List Cycle) (r : Answer) where
  answers_0 : (o : Load) → cycles_load chart rules x ≡ o → Listed o list list' r → r.number ≡ 0 → Accepted chart rules list list'
  answers_0 (refused n f p) e l z = absurd (load_numbered chart rules _ n f p e (sym (ap (λ (i : Answer). i.number) l.0) ∙ z))
  answers_0 (ready c d) e l z = record { c = c; d = d; files = load_files chart rules _ c d e; entries = l.1 }

  pub accepted_list : (x' : CycleSlices) → CyclesCall chart rules x x' list list' r → r.number ≡ 0 → Accepted chart rules list list'
  accepted_list x' call = answers_0 (cycles_load chart rules x) refl call.listed

-- the checks are those of a guided search that is lent 255 plan entries, as many as any chart needs
pub same_checks : (chart rules : List ℕ) (x : CycleSlices) (plan : List ℕ) → length plan ≡ 255
    → cycles_load chart rules x ≡ guided_load chart rules (guided_slices x.keys x.via x.heap x.pos x.stack x.log plan)
same_checks chart rules x plan e = sym (load_work_lem chart rules _) ∙ ap (load chart rules _) (sym e)

-- the call is never answered with 8: that there is no legal plan is told by the entry
load_own : (chart rules works : List ℕ) (n f p : ℕ) → load_work chart rules works ≡ refused n f p → n ≡ 8 → ⊥
unfolding load_work
load_own chart rules works = work_apart 8 (λ q. omega arith) works (read_files strict chart rules) (λ n f p e. (files_own strict chart rules n f p e).1)

module _ (chart rules : List ℕ) (x x' : CycleSlices) (list list' : List Cycle) (r : Answer) where
  not_8 : (o : Load) → cycles_load chart rules x ≡ o → Listed o list list' r → r.number ≡ 8 → ⊥
  not_8 (refused n f p) e l z = load_own chart rules _ n f p e (sym (ap (λ (i : Answer). i.number) l.0) ∙ z)
  not_8 (ready c d) e l z = let q = sym (ap (λ (i : Answer). i.number) l.0) ∙ z in omega arith

  pub never_8 : CyclesCall chart rules x x' list list' r → r.number ≡ 8 → ⊥
  never_8 call = not_8 (cycles_load chart rules x) refl call.listed

-- what a guided search is lent is too short for a chart and a diagram
abbrev pub Short : Chart → Diagram → GuidedSlices → Type 0
Short c d y =
    space_fits c d (length y.keys ∷ length y.via ∷ length y.heap ∷ length y.pos ∷ length y.stack ∷ length y.log ∷ []) (length y.plan) ≡ false

-- the answer of a guided search on files that are accepted
guided_told : (chart rules : List ℕ) (c : Chart) (d : Diagram) (y y' : GuidedSlices) (q : Answer) → read_files strict chart rules ≡ ready c d → GuidedCall chart rules y y' q
    → (Short c d y × (q ≡ refusal 7 0 0 0)) ⊎ ((q.number ≡ found_number (cheapest c d)) × (q.cost ≡ found_cost (cheapest c d)))
guided_told chart rules c d y y' q e call =
    either (load_ready chart rules c d e _ _)
    (λ (l : guided_load chart rules y ≡ ready c d). inr (outcome_told (cheapest c d) c d q.count y.plan y'.plan q (subst (λ (o : Load). GuidedPromise o y y' q) l call).guided.0))
    (λ (l : Short c d y × (guided_load chart rules y ≡ refused 7 0 0)). inl (l.0, (subst (λ (o : Load). GuidedPromise o y y' q) l.1 call).guided.0))

-- ---- the entry at a place of a list that is accepted

module _ {chart rules : List ℕ} {list list' : List Cycle} (ok : Accepted chart rules list list') (i : ℕ) (h : i < length list) where
  abbrev e : Cycle
  e = get_or list i no_cycle

  abbrev e' : Cycle
  e' = get_or list' i no_cycle

  abbrev C : Chart
  C = ok.c

  at_test : (b : Bool) → on_chart C e ≡ b → CycledIf b C ok.d e e'
  at_test b q = subst (λ (t : Bool). CycledIf t C ok.d e e') q (ok.entries.each i h)

  -- a start or an end that is no stage: 4, for this entry alone
  pub entry_outside : (C.stages ≤ e.start) ⊎ (C.stages ≤ e.end) → e' ≡ answered_by e 4 0 0
  entry_outside (inl s) = at_test false (ap (λ (t : Bool). t && ltb e.end C.stages) (le-ltb e.start C.stages s))
  entry_outside (inr s) = at_test false (ends (ltb e.start C.stages))
    where
      ends : (t : Bool) → t && ltb e.end C.stages ≡ false
      ends true = le-ltb e.end C.stages s
      ends false = refl

  module _ (s : e.start < C.stages) (t : e.end < C.stages) where
    -- the chart with its start and end in the head
    abbrev C' : Chart
    C' = headed C e.start e.end

    abbrev inside : CycleSearched C' ok.d e e'
    inside = at_test true (ap₂ (λ (a b : Bool). a && b) (lt-ltb e.start C.stages s) (lt-ltb e.end C.stages t))

    pub valid_at : Valid (graph C')
    valid_at =
        let f = files_of chart rules C ok.d ok.files in
        valid_headed C e.start e.end (subst (λ (k : Chart). Valid (graph k)) f.chart_held (chart_accepted chart f.chart_passes).0) s t

    -- it has the number, cost and count of some guided search of that chart
    pub entry_searched : SomeSearch C' ok.d e e'
    entry_searched = keeps_search C' ok.d e e' valid_at inside

    -- each guided call on the file with that start and end in its head that is lent enough has the entry's number and cost
    pub entry_guided : (y y' : GuidedSlices) (q : Answer) → GuidedCall (with_head chart e.start e.end) rules y y' q
        → (Short C' ok.d y × (q ≡ refusal 7 0 0 0)) ⊎ ((e'.number ≡ q.number) × (e'.cost ≡ q.cost))
    entry_guided y y' q call =
        either (guided_told (with_head chart e.start e.end) rules C' ok.d y y' q (headed_files chart rules C ok.d e.start e.end ok.files s t) call)
        (λ l. inl l)
        (λ l. inr (ap (λ (k : Cycle). k.number) inside.answered ∙ sym l.0, ap (λ (k : Cycle). k.cost) inside.answered ∙ sym l.1))
