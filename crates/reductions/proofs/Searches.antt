-- The file that a call wrote (`ReduceCall`), as later calls find it: it is that of the reduction, every call takes it over the same chart, to reduce it again gives it
-- back, and a search on it answers as the diagram of the given file, padding and all, calls for.
-- Assumes nothing.
use Rattle.std.specs.Prelude.{ℕ, ◌≡◌, Bool, false, List, [], ◌∷◌, ◌⊎◌, length, take}
use Rattle.std.proofs.Common.{sym, ◌∙◌, ap, subst, inl, inr, arith}
use Rattle.std.proofs.Math.Option.{Option, none, some}
use Rattle.definitions.specs.Answers.{Load, ready, read_files, space_fits, refusal, Filed}
use Rattle.definitions.specs.Bytes.{diagram_bytes}
use Rattle.definitions.specs.Charts.{Chart, read_chart, group_count}
use Rattle.definitions.specs.Diagrams.{Diagram, DiagramRead, strict, lenient, read_diagram}
use Rattle.definitions.specs.Plans.{graph, automaton, cheapest}
use Rattle.definitions.specs.Pairs.{reached_pairs}
use Rattle.definitions.specs.Promises.{Outcome, Swept, Guided, SweepSlices, sweep_load, SweepCall, GuidedSlices, guided_load, GuidedCall, ReducePromise, ReduceCall}
use Rattle.definitions.specs.Reductions.{accepts, reduction}
use Rattle.definitions.specs.declared.Answer.{Answer}
use Rattle.theory.specs.Basics.{either, lt_or_le, same_or_not}
use Rattle.theory.specs.Limits.{Sound}
use Rattle.diagram.specs.Accepted.{diagram_accepted}
use Rattle.checks.specs.Outcome.{files_passed, load_ready}
use Rattle.demands.proofs.Demanded.{outcome_count}
use Rattle.reductions.specs.Reductions.{reduction_accepts, reduction_read, reduction_twice, reduction_legal, reduction_cheapest}
use Rattle.reductions.specs.Written.{Written, written_is}
use Rattle.reductions.specs.Reduces.{rules_held, made, bytes, Files, Reduces, reduces}

-- ---- a search's outcome under a reduction is one under the diagram itself

module _ (c : Chart) (d : Diagram) (p : Sound (group_count c) d) (k : ℕ) (plan plan' : List ℕ) (r : Answer) where
  abbrev reduced : Diagram
  reduced = reduction (group_count c) d

  by_best : (best : Option ℕ) → Outcome best c reduced k plan plan' r → Outcome best c d k plan plan' r
  by_best none o = o
  by_best (some m) o = (
    o.0,
    record {
      fits = o.1.fits;
      legal = (reduction_legal c d p (take r.length plan')).0 o.1.legal;
      costs = o.1.costs;
      long = o.1.long;
      rest = o.1.rest;
    },
  )

  outcome_held : Outcome (cheapest c reduced) c reduced k plan plan' r → Outcome (cheapest c d) c d k plan plan' r
  outcome_held o = by_best (cheapest c d) (subst (λ (b : Option ℕ). Outcome b c reduced k plan plan' r) (reduction_cheapest c d p) o)

-- ---- the file that was written

module _ (chart rules out out' : List ℕ) (r : Answer) (promise : ReduceCall chart rules out out' r) (passed : r.number ≡ 0) where
  abbrev c : Chart
  c = (read_chart chart).chart

  abbrev d : Diagram
  d = (rules_held chart rules).diagram

  -- the bytes that a caller takes for the file
  abbrev pub reduced_file : List ℕ
  reduced_file = take r.length out'

  record Passed : Type 0 where
    pub files : Files chart rules
    pub written : Written (bytes chart rules) out out' r

  all_passed : Reduces chart rules out out' r → Passed
  all_passed t =
      either (same_or_not (read_chart chart).number 0)
      (λ i. either (same_or_not (rules_held chart rules).number 0) (λ j. rest (record { chart_passes = i; rules_pass = j }))
      (λ h. absurd (h (sym (t.rules_refused i h).number ∙ passed)))) (λ h. absurd (h (sym (t.chart_refused_lem h).number ∙ passed)))
    where
      rest : Files chart rules → Passed
      rest f =
          either (lt_or_le (length out) (length (bytes chart rules))) (λ h. absurd (omega (arith, (t.buffer_short f h).number, passed)))
          (λ h. record { files = f; written = t.written f h })

  facts : Passed
  facts = all_passed (reduces chart rules out out' r promise)

  sound : Sound (group_count c) d
  sound = diagram_accepted lenient rules (group_count c) facts.files.rules_pass

  -- it is the file of the reduction
  pub reduced_is : reduced_file ≡ bytes chart rules
  reduced_is = written_is (bytes chart rules) out out' r facts.written

  -- whichever file of a call it is, it is read as the reduction, strictly or not
  pub reduced_file_lem : (mode : Bool) → read_diagram mode reduced_file (group_count c) ≡ record { number = 0; place = 0; diagram = made chart rules }
  reduced_file_lem mode = ap (λ (b : List ℕ). read_diagram mode b (group_count c)) reduced_is ∙ reduction_read (group_count c) d sound mode

  -- and that says yes to the sets to which the diagram of the given file says yes
  pub reduced_means : (set : ℕ → Bool) → accepts (made chart rules) set ≡ accepts d set
  reduced_means = reduction_accepts (group_count c) d sound

  -- so every call takes it, with the same chart
  pub reduced_ready : (mode : Bool) → read_files mode chart reduced_file ≡ ready c (made chart rules)
  reduced_ready mode =
      files_passed mode chart reduced_file facts.files.chart_passes (ap (λ (x : DiagramRead). x.number) (reduced_file_lem mode))
      ∙ ap (λ (x : DiagramRead). ready c x.diagram) (reduced_file_lem mode)

  -- to reduce it again writes the same file
  pub reduced_again : (out₂ out₂' : List ℕ) (s : Answer) → ReduceCall chart reduced_file out₂ out₂' s → Filed reduced_file out₂ out₂' s
  reduced_again out₂ out₂' s again =
      subst (λ (b : List ℕ). Filed b out₂ out₂' s) (ap diagram_bytes (reduction_twice (group_count c) d sound) ∙ sym reduced_is)
      (subst (λ (o : Load). ReducePromise o out₂ out₂' s) (reduced_ready lenient) again)

  -- the lengths of the work slices and of the plan slice that a search is lent are too short for it
  abbrev pub Short : List ℕ → ℕ → Type 0
  Short works plan = space_fits c (made chart rules) works plan ≡ false

  -- Both searches on it answer with the cheapest cost of the diagram that the given file holds and a plan that this diagram allows, or with 8 exactly where it allows
  -- none; or with 7, where their slices are too short
  pub sweep_held : (lent lent' : SweepSlices) (s : Answer) → SweepCall chart reduced_file lent lent' s
      → Outcome (cheapest c d) c d s.count lent.plan lent'.plan s
      ⊎ (Short (length lent.cost ∷ length lent.via ∷ length lent.nodes ∷ []) (length lent.plan) × (s ≡ refusal 7 0 0 0))
  sweep_held lent lent' s t = either (load_ready chart reduced_file c (made chart rules) (reduced_ready strict) _ _) (λ o. inl (counted (length (reached_pairs (graph c) (automaton c (made chart rules)))) (by o).0)) (λ o. inr (o.0, (by o.1).0))
    where
      by : {o : Load} → sweep_load chart reduced_file lent ≡ o → Swept o lent.plan lent'.plan lent.cost lent'.cost s
      by {o} q = subst (λ (x : Load). Swept x lent.plan lent'.plan lent.cost lent'.cost s) q t.swept

      counted : (k : ℕ) → Outcome (cheapest c (made chart rules)) c (made chart rules) k lent.plan lent'.plan s → Outcome (cheapest c d) c d s.count lent.plan lent'.plan s
      counted k o =
          let n = outcome_held c d sound k lent.plan lent'.plan s o in
          subst (λ (j : ℕ). Outcome (cheapest c d) c d j lent.plan lent'.plan s) (sym (outcome_count (cheapest c d) c d k lent.plan lent'.plan s n)) n

  pub guided_held : (given given' : GuidedSlices) (s : Answer) → GuidedCall chart reduced_file given given' s
      → Outcome (cheapest c d) c d s.count given.plan given'.plan s
      ⊎ (Short (length given.keys ∷ length given.via ∷ length given.heap ∷ length given.pos ∷ length given.stack ∷ length given.log ∷ []) (length given.plan)
      × (s ≡ refusal 7 0 0 0))
  guided_held given given' s t =
      either (load_ready chart reduced_file c (made chart rules) (reduced_ready strict) _ _)
      (λ o. inl (outcome_held c d sound s.count given.plan given'.plan s (by o).0)) (λ o. inr (o.0, (by o.1).0))
    where
      by : {o : Load} → guided_load chart reduced_file given ≡ o → Guided o given.plan given'.plan given.log given'.log s
      by {o} q = subst (λ (x : Load). Guided x given.plan given'.plan given.log given'.log s) q t.guided
