-- With which numbers a file is refused: those of `file_number`. So never with those of what comes after the files (7, 8, 12), and with 13 only where it is read strictly
-- (proofs/Numbers.antt).
-- Assumes nothing.
use Prim.Native.Nat.{ℕ, zero, suc, ◌+◌, ◌-◌}
use Rattle.std.specs.Prelude.{Bool, not, ◌&&◌, ◌||◌, ◌≡◌, List, [], ◌∷◌, ◌++◌, leb, eqb, length, get_or}
use Rattle.std.proofs.Math.Bool.{true, false}
use Rattle.std.proofs.Math.Path.{refl}
use Rattle.std.proofs.Common.{sym, ◌∙◌, ap, subst}
use Rattle.definitions.specs.Basics.{pick, has}
use Rattle.definitions.specs.Fields.{two, part, Kind, only, or_remark, field_at, first_field, on_field, Grammar, Scan, stopped, scan}
use Rattle.definitions.specs.Charts.{ChartRead, head_fault, step_fault, last_from, chart_refused, with_steps, step_grammar, scan_steps, read_chart, group_count, group_fault, last_group}
use Rattle.definitions.specs.Diagrams.{InnerNode, no_node, node_fault, inner_node_of, padding, node_fault_after, DiagramRead, diagram_refused, with_nodes, node_grammar, scan_nodes, read_diagram}
use Rattle.definitions.specs.Answers.{Load, ready, refused, read_files}
use Rattle.definitions.specs.Refusals.{number}
use Rattle.definitions.specs.declared.Field.{Field}
use Rattle.definitions.specs.declared.Field.TheVariants.{Absent, Faulty, Passed, Whole}
use Rattle.theory.specs.Basics.{true_not_false}
use Rattle.theory.specs.Choices.{both}

-- the numbers of files, and 0
abbrev pub file_number : Bool → ℕ → Bool
file_number mode n = has (0 ∷ 1 ∷ 2 ∷ 3 ∷ 4 ∷ 5 ∷ 6 ∷ 9 ∷ 10 ∷ 11 ∷ 14 ∷ []) n || (mode && eqb n 13)

-- a number that is none of them
pub no_file : (mode : Bool) (n m : ℕ) → file_number mode n ≡ true → file_number mode m ≡ false → n ≡ m → ⊥
no_file mode n m e f q = true_not_false (sym e ∙ ap (file_number mode) q ∙ f)

module _ (mode : Bool) where
  abbrev Own : ℕ → Type 0
  Own n = file_number mode n ≡ true

  abbrev OwnField : Field → Type 0
  OwnField Absent = Unit {0}
  OwnField (Faulty refusal place) = Own (number refusal)
  OwnField (Passed end) = Unit {0}
  OwnField (Whole place start end) = Unit {0}

  field_own : (s : List ℕ) (at : ℕ) (kind : ℕ → Kind) → OwnField (field_at s at kind)
  unfolding field_at
  field_own s at kind =
      both OwnField _ tt
      (both OwnField _ refl
      (both OwnField _ refl
      (both OwnField _ refl
      (both OwnField _ refl
      (both OwnField _ tt tt)))))

  first_own : (s : List ℕ) (kind : ℕ → Kind) → OwnField (first_field s kind)
  unfolding first_field
  first_own s kind = both OwnField _ refl (field_own s 0 kind)

  head_own : (b : List ℕ) → Own (head_fault b)
  unfolding head_fault
  head_own b =
      both Own _ refl
      (both Own _ refl
      (both Own _ refl
      (both Own _ refl refl)))

  step_own : (stages tag last group count : ℕ) (b : List ℕ) → Own (step_fault stages tag last group count b)
  unfolding step_fault group_fault
  step_own stages tag last group count b =
      both Own _ refl
      (both Own _ refl
      (both Own _ refl
      (both Own _ refl
      (both Own _ refl
      (both Own _ (both Own _ refl (both Own _ refl refl)) refl)))))

  node_own : (steps : ℕ) (step_at : ℕ → ℕ) (count : ℕ) (b : List ℕ) → Own (node_fault steps step_at count b)
  unfolding node_fault
  node_own steps step_at count b =
      both Own _ refl
      (both Own _ refl
      (both Own _ refl
      (both Own _ refl refl)))

  padded_own : (m : Bool) (before : List InnerNode) (b : List ℕ) → file_number m (pick (m && padding before (inner_node_of b)) 13 0) ≡ true
  unfolding pick
  padded_own true before b = both (λ (n : ℕ). file_number true n ≡ true) (padding before (inner_node_of b)) refl refl
  padded_own false before b = refl

  after_own : (steps : ℕ) (before : List InnerNode) (b : List ℕ) → Own (node_fault_after mode steps before b)
  unfolding node_fault_after
  after_own steps before b = both Own _ (node_own steps (λ r. (get_or before (r - 2) no_node).step) (length before) b) (padded_own mode before b)

  -- a walk from field to field, by the number of each body
  module _ {A : Type 0} (s : List ℕ) (g : Grammar A) (fault-own : (before : List A) (tag : ℕ) (b : List ℕ) → Own (g.fault before tag b)) where
    scan_own : (turns at : ℕ) (before : List A) → Own (scan s g turns at before).number
    unfolding scan on_field
    scan_own zero at before = refl
    scan_own (suc n) at before = go (field_at s at (or_remark (g.kind before))) (field_own s at (or_remark (g.kind before))) (scan_own n)
      where
        OwnScan : Scan A → Type 0
        OwnScan x = Own x.number

        -- what a whole field leads to
        found : ℕ → ℕ → ℕ → Scan A
        found place a e =
            let tag = get_or s place 0 in
            let body = part s a e in
            pick (eqb (g.fault before tag body) 0) (scan s g n e (before ++ g.holds before tag body ∷ [])) (stopped before (g.fault before tag body) place)

        go : (r : Field) → OwnField r → ((at : ℕ) (before : List A) → Own (scan s g n at before).number) → Own (on_field r (stopped before 0 0) (stopped before) (λ end. scan s g n end before) found).number
        go Absent f k = refl
        go (Passed e) f k = k e before
        go (Faulty refusal place) f k = f
        go (Whole place a e) f k =
            let tag = get_or s place 0 in
            let body = part s a e in
            both OwnScan (eqb (g.fault before tag body) 0) (k e (before ++ g.holds before tag body ∷ [])) (fault-own before tag body)

  pub chart_numbered : (s : List ℕ) → Own (read_chart s).number
  unfolding read_chart on_field
  chart_numbered s = go (first_field s (only 1 6)) (first_own s (only 1 6))
    where
      found : ℕ → ℕ → ℕ → ChartRead
      found place a e =
          let b = part s a e in
          pick (eqb (head_fault b) 0) (with_steps b (scan_steps s (two b 0) e)) (chart_refused (head_fault b) place)

      go : (r : Field) → OwnField r → Own (on_field r (chart_refused 2 0) chart_refused (λ end. chart_refused 2 0) found).number
      go Absent f = refl
      go (Passed e) f = refl
      go (Faulty refusal place) f = f
      go (Whole place a e) f =
          let b = part s a e in
          both (λ (x : ChartRead). Own x.number) (eqb (head_fault b) 0)
          (scan_own s (step_grammar (two b 0)) (λ before tag b'. step_own (two b 0) tag (last_from before) (last_group before) (length before) b') (length s) e []) (head_own b)

  pub rules_numbered : (s : List ℕ) (steps : ℕ) → Own (read_diagram mode s steps).number
  unfolding read_diagram on_field
  rules_numbered s steps = go (first_field s (only 17 2)) (first_own s (only 17 2))
    where
      rooted : (root : ℕ) (x : Scan InnerNode) → Own x.number → Own (with_nodes root x).number
      rooted root x f =
          both (λ (y : DiagramRead). Own y.number) (not (eqb x.number 0)) f
          (both (λ (y : DiagramRead). Own y.number) (leb (length x.passed + 2) root) refl refl)

      go : (r : Field) → OwnField r → Own (on_field r (diagram_refused 2 0) diagram_refused (λ end. diagram_refused 2 0) (λ place start end. with_nodes (two (part s start end) 0) (scan_nodes mode s steps end))).number
      go Absent f = refl
      go (Passed e) f = refl
      go (Faulty refusal place) f = f
      go (Whole place a e) f =
          rooted (two (part s a e) 0) (scan_nodes mode s steps e)
          (scan_own s (node_grammar mode steps) (λ before tag b. after_own steps before b) (length s) e [])

  abbrev OwnLoad : Load → Type 0
  OwnLoad (ready c d) = Unit {0}
  OwnLoad (refused number file place) = Own number

  load_own : (chart rules : List ℕ) → OwnLoad (read_files mode chart rules)
  unfolding read_files
  load_own chart rules = both OwnLoad _ (chart_numbered chart) (both OwnLoad _ (rules_numbered rules (group_count (read_chart chart).chart)) tt)

  pub files_number : (chart rules : List ℕ) (number file place : ℕ) → read_files mode chart rules ≡ refused number file place → file_number mode number ≡ true
  files_number chart rules number file place e = subst OwnLoad e (load_own chart rules)
