-- The walk over the steps: how it begins, and one law for each way out of a turn.
-- Assumes nothing.
use Prim.Native.Nat.{ℕ, ◌+◌, ◌-◌, ◌≤◌, ◌<◌}
use mathlib.Core.Logic.{◌⊎◌, inl, inr}
use lib.Dec.{eqb}
use borrow.Author.Tests.{eq-eqb, ne_eqb}
use mathlib.Core.Path.{◌≡◌, refl, sym, ◌∙◌, ap, subst}
use mathlib.Core.List.{List, [], ◌∷◌, ◌++◌}
use lib.ListN.{length, get_or, length-append, length-take, length-drop}
use lib.Seq.{get_or-append_seam}
use native.Mathlib.Omega.{arith}
use Rattle.std.specs.Prelude.{Option, Some, None, Result, Ok, Err}
use Rattle.definitions.specs.Fields.{two, four, part, only, or_remark, field_at}
use Rattle.definitions.specs.Fields as fields
use Rattle.definitions.specs.Charts.{ChartStep, no_step, grouped, step_fault, step_of, step_fault_after, step_length, step_kind, step_grammar, scan_steps}
use Rattle.definitions.specs.Basics.{pick}
use Rattle.definitions.specs.Refusals.{number, fault_number}
use Rattle.theory.specs.Basics.{pick_true, pick_false, same_or_not}
use Rattle.definitions.specs.declared.Field.{Field}
use Rattle.definitions.specs.declared.Field.TheVariants.{Absent, Faulty, Passed, Whole}
use Rattle.definitions.specs.declared.Refusal.{Refusal}
use Rattle.fields.specs.Positions.{passed_within, number_some, HasField}
use Rattle.fields.specs.Remarks.{has_less, whole_has}
use Rattle.fields.specs.Scans.{Reading, reading_start, reading_done, reading_faulty, reading_passed, reading_bad, reading_step}
use Rattle.chart_fields.specs.Bodies.{Long, step_body}
use Rattle.chart_fields.specs.Ends.{ends_of}
use Rattle.chart_fields.specs.Kinds.{kind_tag}
use Rattle.chart_fields.specs.Stored.{stored}
use Rattle.chart_fields.specs.declared.kinds.StepKind.{StepKind}
use Rattle.chart_fields.specs.declared.kinds.StepKind.TheVariants.{Plain, Grouped}
use Rattle.chart_fields.specs.declared.bodies.StepBody.{StepBody}
use Rattle.chart_fields.specs.declared.table.StepTable.{StepTable}
use Rattle.fields.specs.declared.fault.Stopped.{Stopped}
use Rattle.chart.specs.Tables.{steps_in, held_steps, Filled}
use Rattle.chart.specs.Held.{Packs, stored_room, held_grown, ends_kept, costs_kept, nothing_filled}
use Rattle.chart.specs.Limits.{StepFits, step_fits}
use Rattle.chart.specs.Kinds.{due_kind, GoesWith, HasStep, KindAfter, due_same, due_goes, stands_whole}
use Rattle.chart.specs.Turns.{begun, SoFar, Over, Takes}
use Rattle.chart.specs.declared.reader.StepsRead.{StepsRead}

-- a step that passes has room in the tables, its value keeps the limit, and its group too
module _ (stages : ℕ) (kind : StepKind) (last group count : ℕ) (b : List ℕ) (passes : 0 ≡ step_fault stages (kind_tag kind) last group count b) where
  fits : StepFits stages (kind_tag kind) last group count b
  fits = step_fits stages (kind_tag kind) last group count b passes

  pub step_below : count < 1024
  step_below = fits.below

  pub step_cheap : four b 4 ≤ 1000000
  step_cheap = fits.cheap

  pub step_group : (step_body (kind_tag kind) count b).group < 1024
  step_group = go (same_or_not (kind_tag kind) grouped)
    where
      go : (kind_tag kind ≡ grouped) ⊎ (kind_tag kind ≡ grouped → ⊥) → pick (eqb (kind_tag kind) grouped) (two b 8) count < 1024
      go (inl q) = omega (arith, pick_true (eqb (kind_tag kind) grouped) (two b 8) count (eq-eqb (kind_tag kind) grouped q), (fits.named q).few)
      go (inr q) = omega (arith, pick_false (eqb (kind_tag kind) grouped) (two b 8) count (ne_eqb (kind_tag kind) grouped q), step_below)

-- a body has the bytes of its kind
module _ (s : List ℕ) (at : ℕ) (kind : StepKind) (has : HasField s at (kind_tag kind) (step_length (kind_tag kind))) where
  long : length (part s (at + 3) (at + 3 + step_length (kind_tag kind))) ≡ step_length (kind_tag kind)
  long = simp (length-take, length-drop) (omega (arith, has.ends))

  pub long_body : Long (kind_tag kind) (part s (at + 3) (at + 3 + step_length (kind_tag kind)))
  unfolding pick
  long_body = go kind refl
    where
      go : (k : StepKind) → kind ≡ k → Long (kind_tag kind) (part s (at + 3) (at + 3 + step_length (kind_tag kind)))
      go Plain e = (omega (arith, long, ap (λ (k : StepKind). step_length (kind_tag k)) e), λ q. omega (arith, q, ap kind_tag e))
      go Grouped e = (omega (arith, long, ap (λ (k : StepKind). step_length (kind_tag k)) e), λ q. omega (arith, long, ap (λ (k : StepKind). step_length (kind_tag k)) e))

-- the last of some steps, with one more
last_grown : (before : List ChartStep) (x : ChartStep) → get_or (before ++ x ∷ []) (length (before ++ x ∷ []) - 1) no_step ≡ x
last_grown before x =
    let e : length (before ++ x ∷ []) - 1 ≡ length before = omega (arith, length-append before (x ∷ [])) in
    rw e (get_or-append_seam before x [] no_step)

filled_grown : (before : List ChartStep) (x : ChartStep) (ends count : ℕ) (table₀ table : StepTable) → Packs x ends
    → length before ≡ count → count < 1024 → Filled before table₀ table → Filled (before ++ x ∷ []) table₀ (stored table count ends x.cost)
filled_grown before x ends count table₀ table packs counted below sofar =
    let long : length (before ++ x ∷ []) ≡ count + 1 = omega (arith, length-append before (x ∷ [])) in
    let held : held_steps count (steps_in table) ≡ before = rw (← counted) sofar.held in
    record {
      held = rw (long, held_grown count table x ends packs sofar.room below, held);
      ends_rest = rw long (ends_kept count table x ends packs sofar.room below table₀ (rw (← counted) sofar.ends_rest));
      costs_rest = rw long (costs_kept count table x ends packs sofar.room below table₀ (rw (← counted) sofar.costs_rest));
      room = stored_room count table x ends packs sofar.room below;
    }

-- what is read before the first turn
pub steps_start : (s : List ℕ) (first stages : ℕ) (table : StepTable) → SoFar s first stages table table (begun first)
unfolding held_steps
steps_start s first stages table = record {
  before = [];
  reading = reading_start s (step_grammar stages) first;
  counted = refl;
  latest = refl;
  highest = refl;
  kind = refl;
  filled = λ h. nothing_filled table;
}

-- the walk from the place `first` stands at t
module _ (s : List ℕ) (first stages : ℕ) (table₀ table : StepTable) (t : StepsRead) (sofar : SoFar s first stages table₀ table t) where
  stops : (k p : ℕ) → scan_steps s stages first ≡ fields.stopped sofar.before k p → Over s first stages table₀ table k p t
  stops k p q = record {
    numbered = rw q;
    placed = rw q;
    counted = rw q sofar.counted;
    highest = rw q sofar.highest;
    filled = λ h. rw q (sofar.filled h);
  }

  -- what stands there, looked for by the kind that is due
  module _ (kind : StepKind) (due : kind ≡ due_kind s t) (f : Field) (given : f ≡ field_at s t.place (or_remark (only (kind_tag kind) (step_length (kind_tag kind))))) where
    found_by : f ≡ field_at s t.place (or_remark (step_kind sofar.before))
    found_by = given ∙ due_same s t sofar.before kind due sofar.kind

    pub walk_done : f ≡ Absent → Over s first stages table₀ table 0 0 t
    walk_done found = stops 0 0 (reading_done s (step_grammar stages) first t.place sofar.before sofar.reading f found_by found)

    pub walk_faulty : (refusal : Refusal) (p : ℕ) → f ≡ Faulty refusal p → Over s first stages table₀ table (number refusal) p t
    walk_faulty refusal p found = stops (number refusal) p (reading_faulty s (step_grammar stages) first t.place sofar.before sofar.reading f found_by refusal p found)

    pub walk_passed : (e : ℕ) → f ≡ Passed e
        → SoFar s first stages table₀ table (record { place = e; steps = t.steps; last = t.last; group = t.group; kind = t.kind })
    walk_passed e found = record {
      before = sofar.before;
      reading = reading_passed s (step_grammar stages) first t.place sofar.before sofar.reading f found_by e found;
      counted = sofar.counted;
      latest = sofar.latest;
      highest = sofar.highest;
      kind = sofar.kind;
      filled = sofar.filled;
    }

  -- a step of this kind stands there
  module _ (kind : StepKind) (has : HasStep s t kind) where
    abbrev tag : ℕ
    tag = kind_tag kind

    abbrev end : ℕ
    end = t.place + 3 + step_length tag

    abbrev b : List ℕ
    b = part s (t.place + 3) end

    whole : Whole t.place (t.place + 3) end ≡ field_at s t.place (or_remark (step_kind sofar.before))
    whole = stands_whole s t sofar.before kind has sofar.kind

    same_fault : step_fault stages tag t.last t.group t.steps b ≡ step_fault_after stages (get_or s t.place 0) sofar.before b
    same_fault = rw (has.has.tagged, sofar.latest, sofar.highest, sofar.counted)

    pub step_bad : (refusal : Refusal) → number refusal ≡ step_fault stages tag t.last t.group t.steps b → Over s first stages table₀ table (number refusal) t.place t
    step_bad refusal judged =
        stops (number refusal) t.place
        (reading_bad s (step_grammar stages) first t.place sofar.before sofar.reading _ whole t.place (t.place + 3) end refl (number refusal) (judged ∙ same_fault) (λ z. omega (arith, number_some refusal)))

    module _ (passes : 0 ≡ step_fault stages tag t.last t.group t.steps b) where
      abbrev y : ChartStep
      y = step_of tag t.steps b

      passed : StepFits stages tag t.last t.group t.steps b
      passed = fits stages kind t.last t.group t.steps b passes

      low_kind : (k : StepKind) → kind_tag k < 4
      low_kind Plain = omega arith
      low_kind Grouped = omega arith

      packs_y : stages ≤ 256 → Packs y (ends_of tag y.group y.from y.to)
      packs_y few = record {
        packs = refl;
        low_from = omega (arith, passed.forward, passed.inside);
        low_to = omega (arith, passed.inside);
        low_tag = low_kind kind;
      }

      -- the kind stays
      first_of : (before : List ChartStep) (k : Option StepKind) → KindAfter before k → GoesWith k kind → (get_or (before ++ y ∷ []) 0 no_step).tag ≡ tag
      first_of [] k h g = refl
      first_of (z ∷ before) (Some j) h g = h.1 ∙ ap kind_tag g
      first_of (z ∷ before) None h g = absurd (omega arith)

      pub step_good : SoFar s first stages table₀ (stored table t.steps (ends_of tag y.group y.from y.to) y.cost) (record { place = end; steps = t.steps + 1; last = y.from; group = y.group; kind = Some kind })
      step_good =
          let e : step_of (get_or s t.place 0) (length sofar.before) b ≡ y = rw (has.has.tagged, sofar.counted) in
          record {
            before = sofar.before ++ y ∷ [];
            reading =
                subst (λ (z : ChartStep). Reading s (step_grammar stages) first end (sofar.before ++ z ∷ [])) e
                (reading_step s (step_grammar stages) first t.place sofar.before sofar.reading _ whole t.place (t.place + 3) end refl 0 (passes ∙ same_fault) refl);
            counted = omega (arith, length-append sofar.before (y ∷ []), sofar.counted);
            latest = ap (λ (z : ChartStep). z.from) (last_grown sofar.before y);
            highest = ap (λ (z : ChartStep). z.group) (last_grown sofar.before y);
            kind = (omega (arith, length-append sofar.before (y ∷ [])), first_of sofar.before t.kind sofar.kind has.goes);
            filled = λ few room. filled_grown sofar.before y _ t.steps table₀ table (packs_y few) sofar.counted passed.below (sofar.filled few room);
          }

-- The step of this kind that stands at t is judged by its tag `k`, and put into the table where it passes; `len` is how long its body is
module _ (s : List ℕ) (stages : ℕ) (t : StepsRead) (table : StepTable) (kind : StepKind) (has : HasStep s t kind) (len : ℕ) (el : len ≡ step_length (kind_tag kind)) (k : ℕ) (ek : k ≡ kind_tag kind) where
  abbrev body : List ℕ
  body = part s (t.place + 3) (t.place + 3 + len)

  pub put_long : Long k body
  put_long = rw (ek, el) (long_body s t.place kind has.has)

  module _ {A : Type 0} (v : Result A Refusal) (judged : fault_number v ≡ step_fault stages k t.last t.group t.steps body) where
    pub put_bad : (refusal : Refusal) → v ≡ Err refusal → (x : Stopped StepsRead) → x ≡ record { fault = record { refusal = refusal; place = t.place }; passed = t }
        → Takes s stages t table table (Err x)
    put_bad refusal q x e o sofar = rw e (step_bad s o.0 stages o.1 table t sofar kind has refusal (rw (q, ek, el) at judged))

    module _ (a : A) (q : v ≡ Ok a) where
      passes : 0 ≡ step_fault stages (kind_tag kind) t.last t.group t.steps body
      passes = rw (q, ek) at judged

      pub put_below : t.steps < 1024
      put_below = step_below stages kind t.last t.group t.steps body passes

      pub put_cheap : four body 4 ≤ 1000000
      put_cheap = step_cheap stages kind t.last t.group t.steps body passes

      module _ (x : StepBody) (read : x ≡ step_body k t.steps body) where
        pub put_group : x.group < 1024
        put_group = rw (read, ek) (step_group stages kind t.last t.group t.steps body passes)

        pub put_good : (table' : StepTable) → table' ≡ stored table t.steps (ends_of x.tag x.group x.from x.to) x.cost
            → Takes s stages t table table' (Ok (record { place = t.place + 3 + len; steps = t.steps + 1; last = x.from; group = x.group; kind = Some kind }))
        put_good table' e =
            rw (e, read, ek, el) (
              has_less s t.place (kind_tag kind) (step_length (kind_tag kind)) has.has,
              λ o sofar. step_good s o.0 stages o.1 table t sofar kind has (rw el at passes),
            )

-- a whole field that was found is a step of the kind that was looked for
module _ (s : List ℕ) (t : StepsRead) (kind : StepKind) (f : Field) (given : f ≡ field_at s t.place (or_remark (only (kind_tag kind) (step_length (kind_tag kind))))) where
  pub has_step : kind ≡ due_kind s t → (p a e : ℕ) → f ≡ Whole p a e → HasStep s t kind
  has_step due p a e found = record { has = whole_has s t.place (kind_tag kind) (step_length (kind_tag kind)) p a e f given found; goes = due_goes s t kind due }

  pub passed_less : (e : ℕ) → f ≡ Passed e → length s - e < length s - t.place
  passed_less e found = let w = passed_within s t.place (or_remark (only (kind_tag kind) (step_length (kind_tag kind)))) e (sym found ∙ given) in omega (arith, w.later, w.inside)
