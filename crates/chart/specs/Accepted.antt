-- Every chart that is accepted keeps the limits.
-- Assumes nothing.
use Rattle.std.specs.Prelude.{ℕ, ◌+◌, ◌-◌, ◌%◌, ◌≤◌, ◌<◌, ◌≡◌, refl, Bool, true, false, List, [], ◌∷◌, ◌++◌, map, ◌⊎◌, eqb, length, get_or}
use Rattle.std.proofs.Common.{sym, ◌∙◌, ap, subst, inl, inr, length-append, arith, eqb-true, ne_eqb}
use Rattle.std.proofs.Math.ListN.{get_or-append}
use Rattle.std.proofs.lemmas.List.{get_or_at}
use Rattle.std.proofs.Math.Decide.{dec_lt}
use Rattle.std.proofs.lemmas.Bool.{eqb-false}
use Rattle.theory.specs.Basics.{pick_false}
use Rattle.definitions.specs.Basics.{pick, above}
use Rattle.definitions.specs.Fields.{two, four, part, is_foreign, only, or_remark, field_at, first_field, on_field}
use Rattle.definitions.specs.Charts.{Chart, ChartStep, ChartRead, no_step, plain, grouped, head_fault, step_of, last_from, last_group, step_fault_after, step_kind, chart_refused, with_steps, step_grammar, scan_steps, read_chart, group_count}
use Rattle.definitions.proofs.Ticks.{rounded_whole}
use Rattle.theory.specs.Variables.{groups_below, groups_within}
use Rattle.theory.specs.Limits.{Small, Ticked, OneKind, Valid}
use Rattle.definitions.specs.Plans.{graph}
use Rattle.definitions.specs.declared.Field.{Field}
use Rattle.definitions.specs.declared.Field.TheVariants.{Absent, Faulty, Passed, Whole}
use Rattle.fields.specs.Positions.{number_some, within}
use Rattle.fields.specs.Remarks.{or_kind, or_given}
use Rattle.fields.specs.Scans.{scan_keeps}
use Rattle.chart.specs.Kinds.{allowed_tag, groups_to}
use Rattle.chart.specs.Limits.{HeadFits, head_fits, StepFits, step_fits}

-- the limits of the steps
record StepsFit (stages : ℕ) (l : List ChartStep) : Type 0 where
  pub few : length l ≤ 1024
  pub forward : (e : ℕ) → e < length l → (get_or l e no_step).from < (get_or l e no_step).to
  pub inside : (e : ℕ) → e < length l → (get_or l e no_step).to < stages
  pub sorted : (e f : ℕ) → e ≤ f → f < length l → (get_or l e no_step).from ≤ (get_or l f no_step).from
  pub cheap : (e : ℕ) → e < length l → (get_or l e no_step).cost ≤ 1000000
  pub ticked : (e : ℕ) → e < length l → (get_or l e no_step).cost % 50 ≡ 0
  pub rising : (e f : ℕ) → e ≤ f → f < length l → (get_or l e no_step).group ≤ (get_or l f no_step).group
  pub few_groups : (e : ℕ) → e < length l → (get_or l e no_step).group < 1024
  pub known : (e : ℕ) → e < length l → ((get_or l e no_step).tag ≡ plain) ⊎ ((get_or l e no_step).tag ≡ grouped)
  pub alike : (e : ℕ) → e < length l → (get_or l e no_step).tag ≡ (get_or l 0 no_step).tag
  pub alone : (e : ℕ) → e < length l → (get_or l e no_step).tag ≡ plain → (get_or l e no_step).group ≡ e

none_fit : (stages : ℕ) → StepsFit stages []
none_fit stages = record {
  few = omega arith;
  forward = λ e h. absurd (omega arith);
  inside = λ e h. absurd (omega arith);
  sorted = λ e f g h. absurd (omega arith);
  cheap = λ e h. absurd (omega arith);
  ticked = λ e h. absurd (omega arith);
  rising = λ e f g h. absurd (omega arith);
  few_groups = λ e h. absurd (omega arith);
  known = λ e h. absurd (omega arith);
  alike = λ e h. absurd (omega arith);
  alone = λ e h. absurd (omega arith);
}

module _ (l : List ChartStep) (x : ChartStep) where
  before : (e : ℕ) → e < length l → get_or (l ++ x ∷ []) e no_step ≡ get_or l e no_step
  before e h = get_or-append l (x ∷ []) no_step e h

  here : (e : ℕ) → length l ≡ e → get_or (l ++ x ∷ []) e no_step ≡ x
  here e h = get_or_at l x [] no_step e h

  -- what holds of each step of a list and of one more holds of each of all
  each_grown : (Q : ChartStep → Type 0) → ((e : ℕ) → e < length l → Q (get_or l e no_step)) → Q x → (e : ℕ) → e < length (l ++ x ∷ []) → Q (get_or (l ++ x ∷ []) e no_step)
  each_grown Q all q e h = go (dec_lt e (length l))
    where
      go : Dec (e < length l) → Q (get_or (l ++ x ∷ []) e no_step)
      go (yes b) = subst Q (sym (before e b)) (all e b)
      go (no b) = subst Q (sym (here e (omega (arith, length-append l (x ∷ []))))) q

  -- what never falls in a list and is no lower in one more never falls in all
  rising_grown : (value : ChartStep → ℕ) → ((e f : ℕ) → e ≤ f → f < length l → value (get_or l e no_step) ≤ value (get_or l f no_step))
      → value (get_or l (length l - 1) no_step) ≤ value x ⊎ (length l ≡ 0) → (e f : ℕ) → e ≤ f → f < length (l ++ x ∷ []) → value (get_or (l ++ x ∷ []) e no_step) ≤ value (get_or (l ++ x ∷ []) f no_step)
  rising_grown value old last e f g h = go (dec_lt f (length l)) (dec_lt e (length l)) last
    where
      n : length (l ++ x ∷ []) ≡ length l + 1
      n = length-append l (x ∷ [])

      go : Dec (f < length l) → Dec (e < length l) → value (get_or l (length l - 1) no_step) ≤ value x ⊎ (length l ≡ 0) → value (get_or (l ++ x ∷ []) e no_step) ≤ value (get_or (l ++ x ∷ []) f no_step)
      go (yes p) q u = rw (before e (omega arith), before f p) (old e f g p)
      go (no p) (yes q) (inl u) =
          rw (before e q, here f (omega (arith, n))) (omega (arith, old e (length l - 1) (omega arith) (omega arith)))
      go (no p) (yes q) (inr u) = absurd (omega arith)
      go (no p) (no q) u = rw (here e (omega (arith, n)), here f (omega (arith, n))) (omega arith)

-- a step of the kind `tag` that passes behind steps that keep the limits
module _ (stages tag : ℕ) (l : List ChartStep) (b : List ℕ) (passes : 0 ≡ step_fault_after stages tag l b) (allowed : is_foreign (step_kind l tag) ≡ false) (old : StepsFit stages l) where
  abbrev x : ChartStep
  x = step_of tag (length l) b

  abbrev all : List ChartStep
  all = l ++ x ∷ []

  fits : StepFits stages tag (last_from l) (last_group l) (length l) b
  fits = step_fits stages tag (last_from l) (last_group l) (length l) b passes

  n : length all ≡ length l + 1
  n = length-append l (x ∷ [])

  of_kind : (tag ≡ plain) ⊎ (tag ≡ grouped)
  of_kind = go (dec_lt 0 (length l))
    where
      go : Dec (0 < length l) → (tag ≡ plain) ⊎ (tag ≡ grouped)
      go (yes h) = subst (λ (k : ℕ). (k ≡ plain) ⊎ (k ≡ grouped)) ((allowed_tag l tag allowed).0 h) (old.known 0 h)
      go (no h) = (allowed_tag l tag allowed).1 (omega arith)

  -- a plain step is behind plain steps, each a group alone
  own_group : tag ≡ plain → x.group ≡ length l
  unfolding pick
  own_group q = rw q

  named_group : tag ≡ grouped → x.group ≡ two b 8
  unfolding pick
  named_group q = rw q

  group_low : x.group < 1024
  group_low = go of_kind
    where
      go : (tag ≡ plain) ⊎ (tag ≡ grouped) → x.group < 1024
      go (inl q) = omega (arith, own_group q, fits.below)
      go (inr q) = omega (arith, named_group q, (fits.named q).few)

  group_later : last_group l ≤ x.group ⊎ (length l ≡ 0)
  group_later = go of_kind (dec_lt 0 (length l))
    where
      go : (tag ≡ plain) ⊎ (tag ≡ grouped) → Dec (0 < length l) → last_group l ≤ x.group ⊎ (length l ≡ 0)
      go k (no h) = inr (omega arith)
      go (inr q) (yes h) = inl (omega (arith, named_group q, (fits.named q).rises))
      go (inl q) (yes h) =
          let i : length l - 1 < length l = omega arith in
          inl (omega (arith, own_group q, old.alone (length l - 1) i (old.alike (length l - 1) i ∙ (allowed_tag l tag allowed).0 h ∙ q)))

  alike_grown : (e : ℕ) → e < length all → (get_or all e no_step).tag ≡ (get_or all 0 no_step).tag
  alike_grown e h = go (dec_lt 0 (length l)) (dec_lt e (length l))
    where
      go : Dec (0 < length l) → Dec (e < length l) → (get_or all e no_step).tag ≡ (get_or all 0 no_step).tag
      go (no p) q = let i : e ≡ 0 = omega (arith, n) in rw i
      go (yes p) (yes q) = rw (before l x e q, before l x 0 p) (old.alike e q)
      go (yes p) (no q) = rw (here l x e (omega (arith, n)), before l x 0 p) (sym ((allowed_tag l tag allowed).0 p))

  alone_grown : (e : ℕ) → e < length all → (get_or all e no_step).tag ≡ plain → (get_or all e no_step).group ≡ e
  alone_grown e h = go (dec_lt e (length l))
    where
      go : Dec (e < length l) → (get_or all e no_step).tag ≡ plain → (get_or all e no_step).group ≡ e
      go (yes q) = rw (before l x e q) (old.alone e q)
      go (no q) = rw (here l x e (omega (arith, n))) (λ k. omega (arith, own_group k, n))

  steps_grown : StepsFit stages all
  steps_grown = record {
    few = omega (arith, n, fits.below);
    forward = each_grown l x (λ (x : ChartStep). x.from < x.to) old.forward fits.forward;
    inside = each_grown l x (λ (x : ChartStep). x.to < stages) old.inside fits.inside;
    sorted = rising_grown l x (λ (x : ChartStep). x.from) old.sorted (inl fits.sorted);
    cheap = each_grown l x (λ (x : ChartStep). x.cost ≤ 1000000) old.cheap (omega (arith, fits.cheap));
    ticked = each_grown l x (λ (x : ChartStep). x.cost % 50 ≡ 0) old.ticked (rounded_whole (four b 4));
    rising = rising_grown l x (λ (x : ChartStep). x.group) old.rising group_later;
    few_groups = each_grown l x (λ (x : ChartStep). x.group < 1024) old.few_groups group_low;
    known = each_grown l x (λ (x : ChartStep). (x.tag ≡ plain) ⊎ (x.tag ≡ grouped)) old.known of_kind;
    alike = alike_grown;
    alone = alone_grown;
  }

-- the steps that passed keep the limits, also where a later field is refused
scanned_fit : (s : List ℕ) (stages at : ℕ) → StepsFit stages (scan_steps s stages at).passed
scanned_fit s stages at =
    scan_keeps s (step_grammar stages) (StepsFit stages)
    (λ at q a e l w p old. steps_grown stages (get_or s q 0) l (part s a e) (sym p) (allowed_at at q a e l w) old) (length s) at []
    (none_fit stages)
  where
    allowed_at : (at q a e : ℕ) (l : List ChartStep) → Whole q a e ≡ field_at s at (or_remark (step_kind l)) → is_foreign (step_kind l (get_or s q 0)) ≡ false
    allowed_at at q a e l w =
        let u = within s at (or_remark (step_kind l)) q a e w in
        let k = or_kind (step_kind l) (get_or s at 0) (or_given (step_kind l) (get_or s at 0) u.given) in
        rw (u.placed, ← k) u.known

-- so the highest group is that of the last, whatever the head
pub groups_scanned : (s : List ℕ) (stages start end at : ℕ)
    → (let l = (scan_steps s stages at).passed in groups_to (length l) (last_group l) ≡ group_count (record { stages = stages; start = start; end = end; steps = l }))
unfolding groups_to group_count pick
groups_scanned s stages start end at = go (scan_steps s stages at).passed (scanned_fit s stages at)
  where
    go : (l : List ChartStep) → StepsFit stages l → pick (eqb (length l) 0) 0 (last_group l + 1) ≡ above (map (λ (x : ChartStep). x.group) l)
    go [] f = refl
    go (x ∷ l) f =
        let m : length (x ∷ l) - 1 ≡ length l = omega arith in
        let q : last_group (x ∷ l) ≡ (get_or (x ∷ l) (length l) no_step).group = ap (λ (k : ℕ). (get_or (x ∷ l) k no_step).group) m in
        let some : pick (eqb (length (x ∷ l)) 0) 0 (last_group (x ∷ l) + 1) ≡ last_group (x ∷ l) + 1 = pick_false (eqb (length (x ∷ l)) 0) 0 (last_group (x ∷ l) + 1) (ne_eqb (length (x ∷ l)) 0 (λ z. omega arith)) in
        omega (arith, some, q, groups_below (x ∷ l) (length l) (omega arith), groups_within (x ∷ l) (last_group (x ∷ l) + 1) (λ e h. omega (arith, q, f.rising e (length l) (omega arith) (omega arith))))

-- a chart within its limits
abbrev pub Within : Chart → Type 0
Within c = Valid (graph c) × Small c × Ticked (graph c) × OneKind c

chart_valid : (b : List ℕ) (l : List ChartStep) → HeadFits b → StepsFit (two b 0) l → Within (record { stages = two b 0; start = two b 2; end = two b 4; steps = l })
chart_valid b l h f = (
  record {
    some_stages = h.some_stages;
    few_stages = h.few_stages;
    start_inside = h.start_inside;
    end_inside = h.end_inside;
    few = f.few;
    forward = f.forward;
    inside = f.inside;
    sorted = f.sorted;
    cheap = λ e i. omega (arith, f.cheap e i, f.forward e i);
    grouped = f.rising;
    few_groups = f.few_groups;
  },
  f.cheap,
  f.ticked,
  record { tags = f.known; alike = λ e g h i. f.alike e h ∙ sym (f.alike g i); alone = f.alone },
)

-- by the test of the head's body
head_passed : (b : List ℕ) (x : ChartRead) (q : ℕ) (t : Bool) → eqb (head_fault b) 0 ≡ t → (HeadFits b → Within x.chart)
    → (pick t x (chart_refused (head_fault b) q)).number ≡ 0 → Within (pick t x (chart_refused (head_fault b) q)).chart
unfolding pick
head_passed b x q true t k p = k (head_fits b (sym (eqb-true (head_fault b) 0 t)))
head_passed b x q false t k p = absurd (eqb-false (head_fault b) 0 t p)

pub chart_accepted : (s : List ℕ) → (read_chart s).number ≡ 0 → Within (read_chart s).chart
unfolding read_chart on_field
chart_accepted s = go (first_field s (only 1 6)) refl
  where
    found : ℕ → ℕ → ℕ → ChartRead
    found q a e =
        let b = part s a e in
        pick (eqb (head_fault b) 0) (with_steps b (scan_steps s (two b 0) e)) (chart_refused (head_fault b) q)

    go : (r : Field) → r ≡ first_field s (only 1 6) → (on_field r (chart_refused 2 0) chart_refused (λ end. chart_refused 2 0) found).number ≡ 0
        → Within (on_field r (chart_refused 2 0) chart_refused (λ end. chart_refused 2 0) found).chart
    go Absent g p = absurd (omega arith)
    go (Passed e) g p = absurd (omega arith)
    go (Faulty k q) g p = absurd (omega (arith, number_some k))
    go (Whole q a e) g p =
        head_passed (part s a e) (with_steps (part s a e) (scan_steps s (two (part s a e) 0) e)) q (eqb (head_fault (part s a e)) 0) refl
        (λ h. chart_valid (part s a e) (scan_steps s (two (part s a e) 0) e).passed h (scanned_fit s (two (part s a e) 0) e)) p
