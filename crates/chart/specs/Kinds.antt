-- The kind of a chart's steps: which one is due at a place, and that of the steps before.
-- Assumes nothing.
use Rattle.std.specs.Prelude.{ℕ, ◌+◌, ◌<◌, ◌≡◌, Bool, Option, Some, None, ◌⊎◌, length}
use Rattle.std.proofs.Math.Path.{refl}
use Rattle.std.proofs.Common.{sym, ◌∙◌, inl, inr, arith, eqb-true}
use Rattle.std.proofs.Math.Bool.{true, false}
use mathlib.Core.List.{List, [], ◌∷◌}
use Rattle.std.proofs.Math.Dec.{eqb}
use Rattle.std.proofs.Math.ListN.{get_or}
use Rattle.definitions.specs.Basics.{pick}
use Rattle.definitions.specs.Fields.{Kind, exactly, is_foreign, only, or_remark, field_at}
use Rattle.definitions.specs.Charts.{ChartStep, no_step, plain, grouped, step_length, step_kind}
use Rattle.definitions.specs.declared.Field.TheVariants.{Whole}
use Rattle.fields.specs.Positions.{HasField, only_known}
use Rattle.fields.specs.Remarks.{has_whole}
use Rattle.chart_fields.specs.Kinds.{kind_tag}
use Rattle.chart_fields.specs.declared.kinds.StepKind.{StepKind}
use Rattle.chart_fields.specs.declared.kinds.StepKind.TheVariants.{Plain, Grouped}
use Rattle.chart.specs.declared.reader.StepsRead.{StepsRead}

abbrev pub kind_if : Bool → StepKind
kind_if true = Grouped
kind_if false = Plain

-- the kind of the step that may stand at a place: grouped where the tag says so, else plain
unfoldable pub kind_at : List ℕ → ℕ → StepKind
kind_at s at = kind_if (eqb (get_or s at 0) grouped)

-- the kind that is due: that of the steps before, and before the first that of what stands there
abbrev pub kind_or : Option StepKind → StepKind → StepKind
kind_or (Some k) other = k
kind_or None other = other

unfoldable pub due_kind : List ℕ → StepsRead → StepKind
due_kind s r = kind_or r.kind (kind_at s r.place)

-- a step of this kind goes with those before
abbrev pub GoesWith : Option StepKind → StepKind → Type 0
GoesWith (Some k) kind = k ≡ kind
GoesWith None kind = Unit {0}

-- a whole step of this kind, which goes with those before, stands where the next field is due
pub record HasStep (s : List ℕ) (r : StepsRead) (kind : StepKind) : Type 0 where
  pub has : HasField s r.place (kind_tag kind) (step_length (kind_tag kind))
  pub goes : GoesWith r.kind kind

-- how many groups a diagram may name over so many steps, where the last one's is the highest
unfoldable pub groups_to : ℕ → ℕ → ℕ
groups_to steps group = pick (eqb steps 0) 0 (group + 1)

-- ---- what is known of the kind behind some steps

abbrev pub KindAfter : List ChartStep → Option StepKind → Type 0
KindAfter before (Some k) = (0 < length before) × ((get_or before 0 no_step).tag ≡ kind_tag k)
KindAfter before None = length before ≡ 0

-- a tag of either kind is no remark's
kind_low : (k : StepKind) → kind_tag k < 128
kind_low Plain = omega arith
kind_low Grouped = omega arith

-- ---- where the kind that is due is the one that may stand there, a field of it is just what the grammar allows

module _ (s : List ℕ) (at : ℕ) where
  -- only the tag at the place matters
  kind_of : (k l : ℕ → Kind) → k (get_or s at 0) ≡ l (get_or s at 0) → field_at s at k ≡ field_at s at l
  unfolding field_at
  kind_of k l e = rw e

  or_same : (k l : ℕ → Kind) → k (get_or s at 0) ≡ l (get_or s at 0) → or_remark k (get_or s at 0) ≡ or_remark l (get_or s at 0)
  unfolding or_remark
  or_same k l e = rw e

  abbrev of : StepKind → ℕ → Kind
  of k = only (kind_tag k) (step_length (kind_tag k))

  first_kind : step_kind [] (get_or s at 0) ≡ of (kind_at s at) (get_or s at 0)
  unfolding kind_at step_kind pick only
  first_kind = go (eqb (get_or s at 0) grouped) refl
    where
      go : (b : Bool) → eqb (get_or s at 0) grouped ≡ b
          → pick b (exactly (step_length grouped)) (only plain (step_length plain) (get_or s at 0)) ≡ of (kind_if b) (get_or s at 0)
      go true e = rw e
      go false e = refl

  later_kind : (before : List ChartStep) (k : StepKind) → 0 < length before → (get_or before 0 no_step).tag ≡ kind_tag k → step_kind before (get_or s at 0) ≡ of k (get_or s at 0)
  unfolding step_kind
  later_kind [] k h e = absurd (omega arith)
  later_kind (x ∷ before) k h e = rw (← e)

  kinds_agree : (before : List ChartStep) (kind : Option StepKind) → KindAfter before kind → step_kind before (get_or s at 0) ≡ of (kind_or kind (kind_at s at)) (get_or s at 0)
  kinds_agree before (Some k) h = later_kind before k h.0 h.1
  kinds_agree [] None h = first_kind
  kinds_agree (x ∷ before) None h = absurd (omega arith)

  same_at : (before : List ChartStep) (kind : Option StepKind) → KindAfter before kind
      → field_at s at (or_remark (of (kind_or kind (kind_at s at)))) ≡ field_at s at (or_remark (step_kind before))
  same_at before kind h =
      let k = kind_or kind (kind_at s at) in
      sym (kind_of (or_remark (step_kind before)) (or_remark (of k)) (or_same (step_kind before) (of k) (kinds_agree before kind h)))

  -- a step that goes with those before is of the kind that is due
  stands_due : (kind : Option StepKind) (k : StepKind) → GoesWith kind k → HasField s at (kind_tag k) (step_length (kind_tag k)) → kind_or kind (kind_at s at) ≡ k
  unfolding kind_at
  stands_due (Some j) k g has = g
  stands_due None Plain g has = rw has.tagged
  stands_due None Grouped g has = rw has.tagged

-- what is looked for, by the kind that is due
pub due_same : (s : List ℕ) (r : StepsRead) (before : List ChartStep) (k : StepKind) → k ≡ due_kind s r → KindAfter before r.kind
    → field_at s r.place (or_remark (only (kind_tag k) (step_length (kind_tag k)))) ≡ field_at s r.place (or_remark (step_kind before))
unfolding due_kind
due_same s r before k due h = rw due (same_at s r.place before r.kind h)

-- a whole step of that kind is found
pub stands_whole : (s : List ℕ) (r : StepsRead) (before : List ChartStep) (k : StepKind) → HasStep s r k → KindAfter before r.kind
    → Whole r.place (r.place + 3) (r.place + 3 + step_length (kind_tag k)) ≡ field_at s r.place (or_remark (step_kind before))
stands_whole s r before k h a =
    has_whole s r.place (kind_tag k) (step_length (kind_tag k)) (kind_low k) h.has
    ∙ rw (← (stands_due s r.place r.kind k h.goes h.has)) (same_at s r.place before r.kind a)

-- the kind that is due goes with the steps before
pub due_goes : (s : List ℕ) (r : StepsRead) (k : StepKind) → k ≡ due_kind s r → GoesWith r.kind k
unfolding due_kind
due_goes s r k due = go r.kind due
  where
    go : (kind : Option StepKind) → k ≡ kind_or kind (kind_at s r.place) → GoesWith kind k
    go (Some j) e = sym e
    go None e = tt

-- ---- a tag that the grammar allows

allowed_first : (tag : ℕ) → is_foreign (step_kind [] tag) ≡ false → (tag ≡ plain) ⊎ (tag ≡ grouped)
unfolding step_kind pick
allowed_first tag t = go (eqb tag grouped) refl t
  where
    go : (b : Bool) → eqb tag grouped ≡ b → is_foreign (pick b (exactly (step_length grouped)) (only plain (step_length plain) tag)) ≡ false → (tag ≡ plain) ⊎ (tag ≡ grouped)
    go true e t = inr (eqb-true tag grouped e)
    go false e t = inl (only_known plain (step_length plain) tag t)

-- it is of either kind where it is the first, and else that of the first
pub allowed_tag : (before : List ChartStep) (tag : ℕ) → is_foreign (step_kind before tag) ≡ false
    → (0 < length before → (get_or before 0 no_step).tag ≡ tag) × (length before ≡ 0 → (tag ≡ plain) ⊎ (tag ≡ grouped))
unfolding step_kind
allowed_tag [] tag t = (λ h. absurd (omega arith), λ h. allowed_first tag t)
allowed_tag (x ∷ before) tag t = (λ h. go t, λ h. absurd (omega arith))
  where
    go : is_foreign (step_kind (x ∷ before) tag) ≡ false → x.tag ≡ tag
    go t = sym (only_known x.tag (step_length x.tag) tag t)
