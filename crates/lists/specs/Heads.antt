-- A chart file with another start and end in its head: it is read as the chart with that start and end.
-- Assumes nothing.
use Rattle.std.specs.Prelude.{ℕ, ◌+◌, ◌*◌, ◌/◌, ◌%◌, ◌≤◌, ◌<◌, ◌≡◌, Bool, true, false, not, List, [], ◌∷◌, ◌++◌, leb, eqb, length, get_or, take, drop}
use Rattle.std.proofs.Math.Path.{refl, ap, subst}
use Rattle.std.proofs.Common.{sym, ◌∙◌, arith, eq-eqb, eqb-true}
use Rattle.definitions.specs.Basics.{pick}
use Rattle.definitions.specs.Fields.{two, part, only, field_at, longest, first_field, on_field}
use Rattle.definitions.specs.Charts.{ChartRead, headed, head_fault, chart_refused, with_steps, step_grammar, scan_steps, read_chart}
use Rattle.definitions.specs.Bytes.{le2}
use Rattle.definitions.specs.declared.Field.{Field}
use Rattle.definitions.specs.declared.Field.TheVariants.{Absent, Faulty, Passed, Whole}
use Rattle.theory.specs.Basics.{pick_true}
use Rattle.theory.specs.Choices.{tests, past}
use Rattle.fields.specs.Positions.{number_some, unlike_faulty, within, only_length}
use Rattle.fields.specs.First.{first_fits}
use Rattle.chart.specs.Limits.{HeadFits, head_fits}
use Rattle.lists.specs.Tails.{same_past, same_scan}

-- the numbers of two bytes at places 5 and 7 are the start and the end
abbrev pub with_head : List ℕ → ℕ → ℕ → List ℕ
with_head s start end = take 5 s ++ le2 start ++ le2 end ++ drop 9 s

-- a file as it is read, but for the start and the end
abbrev pub with_ends : ChartRead → ℕ → ℕ → ChartRead
with_ends x start end = record { number = x.number; place = x.place; chart = headed x.chart start end }

-- the head's body stands at 3 to 9
head_place : (s : List ℕ) (q a e : ℕ) → Whole q a e ≡ first_field s (only 1 6) → (a ≡ 3) × (e ≡ 9)
unfolding first_field
head_place s q a e h =
    let w = within s 0 (only 1 6) q a e (past (not (leb (length s) longest)) unlike_faulty h).1 in
    (omega (arith, w.starts), omega (arith, w.starts, w.ends, only_length 1 6 (get_or s 0 0) (two s 1) w.fits))

two_again : (n : ℕ) → n % 256 + 256 * (n / 256) ≡ n
two_again n = omega arith

-- a head that passes, with another start and end inside
head_again : (b b' : List ℕ) → HeadFits b → two b' 0 ≡ two b 0 → two b' 2 < two b 0 → two b' 4 < two b 0 → head_fault b' ≡ 0
unfolding head_fault pick
head_again b b' h e i j =
    let some : 1 ≤ two b' 0 = omega (arith, h.some_stages) in
    let few : two b' 0 ≤ 256 = omega (arith, h.few_stages) in
    let start : two b' 2 < two b' 0 = omega arith in
    let end : two b' 4 < two b' 0 = omega arith in
    let nonzero : two b' 0 ≡ 0 → ⊥ = λ z. omega arith in
    simp tests

-- what is read of a whole head at q whose body is b
abbrev found : List ℕ → List ℕ → ℕ → ChartRead
found s b q = pick (eqb (head_fault b) 0) (with_steps b (scan_steps s (two b 0) 9)) (chart_refused (head_fault b) q)

found_fits : (s b : List ℕ) (q : ℕ) → (found s b q).number ≡ 0 → head_fault b ≡ 0
unfolding pick
found_fits s b q = go (eqb (head_fault b) 0) refl
  where
    go : (t : Bool) → eqb (head_fault b) 0 ≡ t → (pick t (with_steps b (scan_steps s (two b 0) 9)) (chart_refused (head_fault b) q)).number ≡ 0 → head_fault b ≡ 0
    go true e h = eqb-true (head_fault b) 0 e
    go false e h = h

found_is : (s b : List ℕ) (q : ℕ) → head_fault b ≡ 0 → found s b q ≡ with_steps b (scan_steps s (two b 0) 9)
found_is s b q h = pick_true _ _ _ (eq-eqb (head_fault b) 0 h)

-- the file's first nine bytes, by name, and the rest
module _ (b0 b1 b2 b3 b4 b5 b6 b7 b8 : ℕ) (t : List ℕ) (start end : ℕ) where
  abbrev s : List ℕ
  s = b0 ∷ b1 ∷ b2 ∷ b3 ∷ b4 ∷ b5 ∷ b6 ∷ b7 ∷ b8 ∷ t

  abbrev s' : List ℕ
  s' = b0 ∷ b1 ∷ b2 ∷ b3 ∷ b4 ∷ start % 256 ∷ start / 256 ∷ end % 256 ∷ end / 256 ∷ t

  abbrev b : List ℕ
  b = b3 ∷ b4 ∷ b5 ∷ b6 ∷ b7 ∷ b8 ∷ []

  abbrev b' : List ℕ
  b' = b3 ∷ b4 ∷ start % 256 ∷ start / 256 ∷ end % 256 ∷ end / 256 ∷ []

  scan_same : (stages : ℕ) → scan_steps s' stages 9 ≡ scan_steps s stages 9
  scan_same stages =
      same_scan (same_past (b0 ∷ b1 ∷ b2 ∷ b3 ∷ b4 ∷ b5 ∷ b6 ∷ b7 ∷ b8 ∷ []) (b0 ∷ b1 ∷ b2 ∷ b3 ∷ b4 ∷ start % 256 ∷ start / 256 ∷ end % 256 ∷ end / 256 ∷ []) t refl)
      (step_grammar stages) (length s) 9 [] (omega arith)

  first_same : first_field s' (only 1 6) ≡ first_field s (only 1 6)
  unfolding first_field field_at
  first_same = refl

  body_found : (q : ℕ) → (found s b q).number ≡ 0 → start < (found s b q).chart.stages → end < (found s b q).chart.stages → found s' b' q ≡ with_ends (found s b q) start end
  body_found q h i j =
      let fits = found_fits s b q h in
      let is = found_is s b q fits in
      let i' : start < two b 0 = subst (λ (x : ChartRead). start < x.chart.stages) is i in
      let j' : end < two b 0 = subst (λ (x : ChartRead). end < x.chart.stages) is j in
      let es = two_again start in
      let ee = two_again end in
      found_is s' b' q (head_again b b' (head_fits b (sym fits)) refl (omega arith) (omega arith))
      ∙ ap (with_steps b') (scan_same (two b 0))
      ∙ heads es ee
      ∙ ap (λ (x : ChartRead). with_ends x start end) (sym is)
    where
      heads : two b' 2 ≡ start → two b' 4 ≡ end → with_steps b' (scan_steps s (two b 0) 9) ≡ with_ends (with_steps b (scan_steps s (two b 0) 9)) start end
      heads es ee = rw (es, ee)

  -- by the first field, which both files have
  abbrev found_at : List ℕ → ℕ → ℕ → ℕ → ChartRead
  found_at f q a e =
      let x = part f a e in
      pick (eqb (head_fault x) 0) (with_steps x (scan_steps f (two x 0) e)) (chart_refused (head_fault x) q)

  abbrev Again : ChartRead → ChartRead → Type 0
  Again x x' = x.number ≡ 0 → start < x.chart.stages → end < x.chart.stages → x' ≡ with_ends x start end

  abbrev on_first : Field → List ℕ → ChartRead
  on_first r f = on_field r (chart_refused 2 0) chart_refused (λ e. chart_refused 2 0) (found_at f)

  first_found : (r : Field) → r ≡ first_field s (only 1 6) → Again (on_first r s) (on_first r s')
  unfolding on_field
  first_found Absent g h i j = absurd (omega arith)
  first_found (Passed e) g h i j = absurd (omega arith)
  first_found (Faulty k q) g h i j = absurd (omega (arith, number_some k))
  first_found (Whole q a e) g h i j =
      let p = head_place s q a e g in
      subst (λ (i : ℕ). Again (found_at s q i e) (found_at s' q i e)) (sym p.0) (subst (λ (i : ℕ). Again (found_at s q 3 i) (found_at s' q 3 i)) (sym p.1) (body_found q)) h i j

  nine_reads : Again (read_chart s) (read_chart s')
  unfolding read_chart
  nine_reads h i j = ap (λ (r : Field). on_first r s') first_same ∙ first_found (first_field s (only 1 6)) refl h i j

-- a file that is accepted has a whole head
head_long : (s : List ℕ) → (read_chart s).number ≡ 0 → 9 ≤ length s
unfolding read_chart on_field
head_long s = go (first_field s (only 1 6)) refl
  where
    go : (r : Field) → r ≡ first_field s (only 1 6)
        → (on_field r (chart_refused 2 0) chart_refused (λ e. chart_refused 2 0) (λ q a e. let x = part s a e in pick (eqb (head_fault x) 0) (with_steps x (scan_steps s (two x 0) e)) (chart_refused (head_fault x) q))).number ≡ 0
        → 9 ≤ length s
    go Absent g h = absurd (omega arith)
    go (Passed e) g h = absurd (omega arith)
    go (Faulty k q) g h = absurd (omega (arith, number_some k))
    go (Whole q a e) g h = omega (arith, (head_place s q a e g).1, first_fits s 1 6 q a e (Whole q a e) g refl)

-- what is accepted is accepted with every start and end of the chart, and read as the chart with these
pub headed_reads : (s : List ℕ) (start end : ℕ) → (read_chart s).number ≡ 0 → start < (read_chart s).chart.stages → end < (read_chart s).chart.stages
    → read_chart (with_head s start end) ≡ with_ends (read_chart s) start end
headed_reads s start end h = go s (head_long s h) h
  where
    Reads : List ℕ → Type 0
    Reads f = (read_chart f).number ≡ 0 → start < (read_chart f).chart.stages → end < (read_chart f).chart.stages → read_chart (with_head f start end) ≡ with_ends (read_chart f) start end

    go : (f : List ℕ) → 9 ≤ length f → Reads f
    go [] l = absurd (omega arith)
    go (b0 ∷ []) l = absurd (omega arith)
    go (b0 ∷ b1 ∷ []) l = absurd (omega arith)
    go (b0 ∷ b1 ∷ b2 ∷ []) l = absurd (omega arith)
    go (b0 ∷ b1 ∷ b2 ∷ b3 ∷ []) l = absurd (omega arith)
    go (b0 ∷ b1 ∷ b2 ∷ b3 ∷ b4 ∷ []) l = absurd (omega arith)
    go (b0 ∷ b1 ∷ b2 ∷ b3 ∷ b4 ∷ b5 ∷ []) l = absurd (omega arith)
    go (b0 ∷ b1 ∷ b2 ∷ b3 ∷ b4 ∷ b5 ∷ b6 ∷ []) l = absurd (omega arith)
    go (b0 ∷ b1 ∷ b2 ∷ b3 ∷ b4 ∷ b5 ∷ b6 ∷ b7 ∷ []) l = absurd (omega arith)
    go (b0 ∷ b1 ∷ b2 ∷ b3 ∷ b4 ∷ b5 ∷ b6 ∷ b7 ∷ b8 ∷ t) l = nine_reads b0 b1 b2 b3 b4 b5 b6 b7 b8 t start end
