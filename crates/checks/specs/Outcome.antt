-- One law for each way the checks end, and how several work slices are judged by the shortest.
-- Assumes nothing.
use Rattle.std.specs.Prelude.{ℕ, ◌≤◌, min, ◌≡◌, refl, Bool, true, false, ◌&&◌, cond, List, [], ◌∷◌, ◌⊎◌, leb}
use Rattle.std.proofs.Common.{sym, ◌∙◌, ap₂, inl, inr, arith, le-leb, eq-eqb, ne_eqb, eqb-true, leb-true, leb-false}
use Rattle.std.proofs.Math.Path.{ap}
use Rattle.std.proofs.Math.Bool.{not, and-true}
use Rattle.std.proofs.lemmas.Bool.{lt-leb, eqb-false, not-true, not-false}
use Rattle.definitions.specs.Basics.{pick, every}
use Rattle.definitions.specs.Charts.{Chart, group_count, read_chart}
use Rattle.definitions.specs.Diagrams.{Diagram, strict, DiagramRead, read_diagram}
use Rattle.definitions.specs.Answers.{Load, ready, refused, read_files, with_space, load, with_work, load_work, work_need, plan_need, work_fits, space_fits}
use Rattle.chart.specs.Accepted.{chart_accepted}
use Rattle.theory.specs.Basics.{pick_true, pick_false, pick_cases, either, both}

-- ---- the files

module _ (mode : Bool) (s t : List ℕ) where
  abbrev chart_is : Chart
  chart_is = (read_chart s).chart

  abbrev rules_read : DiagramRead
  rules_read = read_diagram mode t (group_count chart_is)

  pub chart_refused_lem : ((read_chart s).number ≡ 0 → ⊥) → read_files mode s t ≡ refused (read_chart s).number 1 (read_chart s).place
  unfolding read_files
  chart_refused_lem h = pick_true _ _ _ (ap not (ne_eqb (read_chart s).number 0 h))

  module _ (c : (read_chart s).number ≡ 0) where
    pub rules_refused : (rules_read.number ≡ 0 → ⊥) → read_files mode s t ≡ refused rules_read.number 2 rules_read.place
    unfolding read_files
    rules_refused h = pick_false _ _ _ (ap not (eq-eqb _ 0 c)) ∙ pick_true _ _ _ (ap not (ne_eqb rules_read.number 0 h))

    pub files_passed : rules_read.number ≡ 0 → read_files mode s t ≡ ready chart_is rules_read.diagram
    unfolding read_files
    files_passed d = pick_false _ _ _ (ap not (eq-eqb _ 0 c)) ∙ pick_false _ _ _ (ap not (eq-eqb _ 0 d))

-- ---- all checks of a search

module _ (s t : List ℕ) (works : List ℕ) (plan : ℕ) where
  pub chart_refuses : ((read_chart s).number ≡ 0 → ⊥) → load s t works plan ≡ refused (read_chart s).number 1 (read_chart s).place
  unfolding load
  chart_refuses h = ap (with_space works plan) (chart_refused_lem strict s t h)

  module _ (c : (read_chart s).number ≡ 0) where
    pub rules_refuse : ((rules_read strict s t).number ≡ 0 → ⊥) → load s t works plan ≡ refused (rules_read strict s t).number 2 (rules_read strict s t).place
    unfolding load
    rules_refuse h = ap (with_space works plan) (rules_refused strict s t c h)

    module _ (d : (rules_read strict s t).number ≡ 0) where
      pub space_refuses : space_fits (chart_is strict s t) (rules_read strict s t).diagram works plan ≡ false → load s t works plan ≡ refused 7 0 0
      unfolding load
      space_refuses h = ap (with_space works plan) (files_passed strict s t c d) ∙ pick_false _ _ _ h

      pub all_ready : space_fits (chart_is strict s t) (rules_read strict s t).diagram works plan ≡ true → load s t works plan ≡ ready (chart_is strict s t) (rules_read strict s t).diagram
      unfolding load
      all_ready h = ap (with_space works plan) (files_passed strict s t c d) ∙ pick_true _ _ _ h

-- where the files pass, so do all checks, or the space is too small
pub load_ready : (s t : List ℕ) (c : Chart) (d : Diagram) → read_files strict s t ≡ ready c d → (works : List ℕ) (plan : ℕ)
    → (load s t works plan ≡ ready c d) ⊎ ((space_fits c d works plan ≡ false) × (load s t works plan ≡ refused 7 0 0))
unfolding load
load_ready s t c d e works plan = go (space_fits c d works plan) refl
  where
    go : (b : Bool) → space_fits c d works plan ≡ b
        → (with_space works plan (read_files strict s t) ≡ ready c d) ⊎ ((space_fits c d works plan ≡ false) × (with_space works plan (read_files strict s t) ≡ refused 7 0 0))
    go true h = inl (ap (with_space works plan) e ∙ pick_true _ _ _ h)
    go false h = inr (h, ap (with_space works plan) e ∙ pick_false _ _ _ h)

-- two work slices are long enough where the shorter is
shorter : (need a b : ℕ) (works : List ℕ) → every (leb need) (a ∷ b ∷ works) ≡ every (leb need) (min a b ∷ works)
shorter need a b works = go (leb need a) refl (leb need b) refl
  where
    go : (x : Bool) → leb need a ≡ x → (y : Bool) → leb need b ≡ y → every (leb need) (a ∷ b ∷ works) ≡ every (leb need) (min a b ∷ works)
    go true p true q = simp (p, q, le-leb need (min a b) (omega (arith, leb-true need a p, leb-true need b q)))
    go true p false q = simp (p, q, lt-leb need (min a b) (omega (arith, leb-false need b q)))
    go false p y q = simp (p, lt-leb need (min a b) (omega (arith, leb-false need a p)))

load_shorter : (s t : List ℕ) (a b : ℕ) (works : List ℕ) (plan : ℕ) → load s t (a ∷ b ∷ works) plan ≡ load s t (min a b ∷ works) plan
unfolding load
load_shorter s t a b works plan = go (read_files strict s t)
  where
    go : (o : Load) → with_space (a ∷ b ∷ works) plan o ≡ with_space (min a b ∷ works) plan o
    go (refused number file place) = refl
    go (ready c d) = rw (shorter (work_need c d) a b works)

-- the shortest of some work slices decides
abbrev pub shortest : ℕ → List ℕ → ℕ
shortest a [] = a
shortest a (b ∷ works) = shortest (min a b) works

pub load_shortest : (s t : List ℕ) (a : ℕ) (works : List ℕ) (plan : ℕ) → load s t (a ∷ works) plan ≡ load s t (shortest a works ∷ []) plan
load_shortest s t a [] plan = refl
load_shortest s t a (b ∷ works) plan = load_shorter s t a b works plan ∙ load_shortest s t (min a b) works plan

-- the shortest of six, found by five comparisons
pub shortest_of : (keys via heap pos stack log : ℕ) {a b c d e : ℕ} → a ≡ min keys via → b ≡ min a heap → c ≡ min b pos → d ≡ min c stack → e ≡ min d log
    → e ≡ shortest keys (via ∷ heap ∷ pos ∷ stack ∷ log ∷ [])
shortest_of keys via heap pos stack log ea eb ec ed ee =
    ee ∙ ap (λ (i : ℕ). min i log) (ed ∙ ap (λ (i : ℕ). min i stack) (ec ∙ ap (λ (i : ℕ). min i pos) (eb ∙ ap (λ (i : ℕ). min i heap) ea)))

pub refused_not_ready : (number file place : ℕ) (c : Chart) (d : Diagram) → refused number file place ≡ ready c d → ⊥
refused_not_ready number file place c d e = let z : ◌≡◌ {A = ℕ} 0 1 = cc in omega arith

pub ready_left : (c' : Chart) (d' : Diagram) (c : Chart) (d : Diagram) → ready c' d' ≡ ready c d → c' ≡ c
ready_left c' d' c d e = cc

pub ready_right : (c' : Chart) (d' : Diagram) (c : Chart) (d : Diagram) → ready c' d' ≡ ready c d → d' ≡ d
ready_right c' d' c d e = cc

one_of : (b : Bool) → cond b true false ≡ true → b ≡ true
one_of true e = refl
one_of false e = e

-- the files of a load whose checks pass
space_passed : (works : List ℕ) (plan : ℕ) (o : Load) (c : Chart) (d : Diagram) → with_space works plan o ≡ ready c d → (o ≡ ready c d) × (space_fits c d works plan ≡ true)
space_passed works plan (refused number file place) c d e = absurd (refused_not_ready number file place c d e)
space_passed works plan (ready c' d') c d e =
    either (pick_cases _ _ _ _ e)
    (λ x. (x.1, ap₂ (λ (i : Chart) (j : Diagram). space_fits i j works plan) (sym (ready_left c' d' c d x.1)) (sym (ready_right c' d' c d x.1)) ∙ x.0))
    (λ x. absurd (refused_not_ready 7 0 0 c d x.1))

files_are : (mode : Bool) (s t : List ℕ) (c : Chart) (d : Diagram) → read_files mode s t ≡ ready c d → ((read_chart s).chart ≡ c) × ((rules_read mode s t).diagram ≡ d)
unfolding read_files
files_are mode s t c d e =
    either (pick_cases _ _ _ _ e) (λ x. absurd (refused_not_ready _ _ _ c d x.1))
    (λ x. either (pick_cases _ _ _ _ x.1) (λ y. absurd (refused_not_ready _ _ _ c d y.1))
    (λ y. (ready_left _ _ c d y.1, ready_right _ _ c d y.1)))

-- where all checks pass, the chart and the diagram are those of the files, and the space is enough
ready_parts : (s t works : List ℕ) (plan : ℕ) (c : Chart) (d : Diagram) → load s t works plan ≡ ready c d
    → ((read_chart s).chart ≡ c) × ((rules_read strict s t).diagram ≡ d) × (space_fits c d works plan ≡ true)
unfolding load
ready_parts s t works plan c d e =
    let x = space_passed works plan (read_files strict s t) c d e in
    let y = files_are strict s t c d x.0 in
    (y.0, y.1, x.1)

pub ready_files : (s t works : List ℕ) (plan : ℕ) (c : Chart) (d : Diagram) → load s t works plan ≡ ready c d
    → (c ≡ (read_chart s).chart) × (d ≡ (read_diagram strict t (group_count (read_chart s).chart)).diagram)
ready_files s t works plan c d e = let x = ready_parts s t works plan c d e in (sym x.0, sym x.1)

pub ready_space : (s t : List ℕ) (work plan : ℕ) (c : Chart) (d : Diagram) → load s t (work ∷ []) plan ≡ ready c d → (work_need c d ≤ work) × (plan_need c ≤ plan)
ready_space s t work plan c d e =
    let x = both (every (leb (work_need c d)) (work ∷ [])) (leb (plan_need c) plan) (ready_parts s t (work ∷ []) plan c d e).2 in
    (leb-true (work_need c d) work (one_of (leb (work_need c d) work) x.0), leb-true (plan_need c) plan x.1)

-- ---- a refusal's number is not 0

pub same_number : (n f p n' f' p' : ℕ) → refused n f p ≡ refused n' f' p' → n ≡ n'
same_number n f p n' f' p' e = cc

pub files_numbered : (mode : Bool) (s t : List ℕ) (number file place : ℕ) → read_files mode s t ≡ refused number file place → number ≡ 0 → ⊥
unfolding read_files
files_numbered mode s t number file place e z =
    either (pick_cases _ _ _ _ e) (λ x. eqb-false _ 0 (not-true _ x.0) (same_number _ _ _ _ _ _ x.1 ∙ z))
    (λ x. either (pick_cases _ _ _ _ x.1) (λ y. eqb-false _ 0 (not-true _ y.0) (same_number _ _ _ _ _ _ y.1 ∙ z))
    (λ y. absurd (refused_not_ready _ _ _ _ _ (sym y.1))))

pub load_numbered : (s t works : List ℕ) (plan number file place : ℕ) → load s t works plan ≡ refused number file place → number ≡ 0 → ⊥
unfolding load
load_numbered s t works plan number file place = go (read_files strict s t) refl
  where
    go : (o : Load) → read_files strict s t ≡ o → with_space works plan o ≡ refused number file place → number ≡ 0 → ⊥
    go (refused n f p) e q z = files_numbered strict s t n f p e (same_number n f p number file place q ∙ z)
    go (ready c d) e q z =
        either (pick_cases _ _ _ _ q) (λ x. refused_not_ready number file place c d (sym x.1))
        (λ x. let seven : 7 ≡ 0 = same_number 7 0 0 number file place x.1 ∙ z in omega arith)

-- ---- a call that is lent no plan slice

-- an accepted chart has at most 256 stages
files_few : (s t : List ℕ) (c : Chart) (d : Diagram) → read_files strict s t ≡ ready c d → plan_need c ≤ 255
unfolding read_files
files_few s t c d e =
    either (pick_cases _ _ _ _ e) (λ x. absurd (refused_not_ready _ _ _ c d x.1))
    (λ x. omega (arith, ap (λ (i : Chart). i.stages) (files_are strict s t c d e).0, (chart_accepted s (eqb-true _ 0 (not-false _ x.0))).0.few_stages))

-- 255 entries are enough for any plan, so of such a slice nothing is asked
pub load_work_lem : (s t works : List ℕ) → load s t works 255 ≡ load_work s t works
unfolding load load_work
load_work_lem s t works = go (read_files strict s t) refl
  where
    go : (o : Load) → read_files strict s t ≡ o → with_space works 255 o ≡ with_work works o
    go (refused number file place) e = refl
    go (ready c d) e = ap (λ (b : Bool). pick b (ready c d) (refused 7 0 0)) (ap (λ (b : Bool). work_fits c d works && b) (le-leb (plan_need c) 255 (files_few s t c d e)) ∙ and-true (work_fits c d works))
