-- The loops that find the first steps: one law for each way on.
-- Assumes nothing.
use Prim.Native.Nat.{ℕ, ◌+◌, ◌-◌, ◌≤◌, ◌<◌, max}
use mathlib.Core.Path.{◌≡◌, refl, sym, ◌∙◌, ap, subst}
use mathlib.Core.List.{List}
use lib.ListN.{length, get_or, set, length-set, replicate, length-replicate, get_or-replicate}
use lib.Seq.{get_or-set_same, get_or-set_other}
use native.Mathlib.Omega.{arith}
use Rattle.theory.specs.Basics.{either, lt_or_le, same_or_not}
use Rattle.chart_stages.specs.FirstSteps.{leaving_below, SortedTable, EndTable, FirstTable, Split, split_is, splits}

-- ---- the last steps

pub ends_none : {from first : List ℕ} → first ≡ replicate 257 0 → EndTable 0 from first
ends_none {from} {first} blank = record {
  long = rw blank (length-replicate {A = ℕ} 257 0);
  behind = λ e l. absurd (omega arith);
  real = λ t h. rw blank (λ l. absurd (omega (arith, get_or-replicate {A = ℕ} 257 t 0 0 (omega arith))));
}

pub ends_more : {e s : ℕ} {from ends : List ℕ} → EndTable e from ends → s ≡ get_or from e 0 → get_or from e 0 < 256 → EndTable (e + 1) from (set ends (s + 1) (e + 1))
ends_more {e} {s} {from} {ends} m own-stage i = rw own-stage (record {
  long = length-set ends at (e + 1) ∙ m.long;
  behind = λ x l. either (same_or_not (get_or from x 0 + 1) at)
      (λ q. rw q (omega (arith, here)))
      (λ q. omega (arith, get_or-set_other ends at (get_or from x 0 + 1) (e + 1) 0 q, m.behind x (before x l q)));
  real = λ t h l. either (same_or_not t at) (λ q. rw q own) (λ q. other t h q l);
})
  where
    at : ℕ
    at = get_or from e 0 + 1

    here : get_or (set ends at (e + 1)) at 0 ≡ e + 1
    here = get_or-set_same ends at (e + 1) 0 (omega (arith, m.long))

    before : (x : ℕ) → x < e + 1 → (get_or from x 0 + 1 ≡ at → ⊥) → x < e
    before x l q = either (lt_or_le x e) (λ h. h) (λ h. let r : x ≡ e = omega arith in absurd (q (ap (λ (k : ℕ). get_or from k 0 + 1) r)))

    own : (get_or (set ends at (e + 1)) at 0 ≤ e + 1) × (get_or from (get_or (set ends at (e + 1)) at 0 - 1) 0 + 1 ≡ at)
    own = rw here (omega arith, let r : e + 1 - 1 ≡ e = omega arith in rw r refl)

    other : (t : ℕ) → t ≤ 256 → (t ≡ at → ⊥) → 0 < get_or (set ends at (e + 1)) t 0 → (get_or (set ends at (e + 1)) t 0 ≤ e + 1) × (get_or from (get_or (set ends at (e + 1)) t 0 - 1) 0 + 1 ≡ t)
    other t h q = rw (get_or-set_other ends at t (e + 1) 0 q) (λ l. (omega (arith, (m.real t h l).0), (m.real t h l).1))

pub ends_all : {e count : ℕ} {from ends : List ℕ} → EndTable e from ends → e ≤ count → count ≤ e → EndTable count from ends
ends_all {e} {count} {from} {ends} m h l = subst (λ (n : ℕ). EndTable n from ends) (omega arith) m

-- ---- the first steps

module _ {count : ℕ} {from : List ℕ} (sorted : SortedTable count from) {ends : List ℕ} (m : EndTable count from ends) where
  abbrev first_of : ℕ → ℕ
  first_of s = leaving_below count (λ e. get_or from e 0) s

  -- no step leaves a stage below 0
  first_none : first_of 0 ≡ 0
  first_none = split_is count (λ e. get_or from e 0) 0 0 (record { inside = omega arith; below = λ e l. absurd (omega arith); above = λ e l h. omega arith })

  -- past a stage's steps, or where those of the stages before it end
  first_next : (s : ℕ) → s < 256 → first_of (s + 1) ≡ max (first_of s) (get_or ends (s + 1) 0)
  first_next s few = split_is count (λ e. get_or from e 0) (s + 1) k (record {
    inside = omega (arith, p.inside, most);
    below = λ e l. either (lt_or_le e (first_of s)) (λ h. omega (arith, p.below e h)) (λ h. own e (omega arith));
    above = λ e l h. either (lt_or_le (get_or from e 0) (s + 1)) (λ b. absurd (omega (arith, last e h b l))) (λ b. b);
  })
    where
      k : ℕ
      k = max (first_of s) (get_or ends (s + 1) 0)

      p : Split count (λ e. get_or from e 0) s (first_of s)
      p = splits count (λ e. get_or from e 0) s sorted.sorted

      most : get_or ends (s + 1) 0 ≤ count
      most = either (lt_or_le 0 (get_or ends (s + 1) 0)) (λ l. (m.real (s + 1) (omega arith) l).0) (λ l. omega arith)

      own : (e : ℕ) → e < get_or ends (s + 1) 0 → get_or from e 0 < s + 1
      own e l =
          let r = m.real (s + 1) (omega arith) (omega arith) in
          omega (arith, r.1, sorted.sorted e (get_or ends (s + 1) 0 - 1) (omega arith) (omega (arith, r.0)))

      last : (e : ℕ) → e < count → get_or from e 0 < s + 1 → k ≤ e → ⊥
      last e h b l =
          let q : get_or from e 0 ≡ s = omega (arith, p.above e (omega arith) h) in
          let r : e < get_or ends (s + 1) 0 = subst (λ (t : ℕ). e < get_or ends (t + 1) 0) q (m.behind e h) in
          omega arith

  -- what the table holds: the first steps of the stages below s, whose largest is `most`, and the last steps from there on
  pub record FirstsBefore (s most : ℕ) (first : List ℕ) : Type 0 where
    pub long : length first ≡ 257
    pub most_is : most ≡ first_of (s - 1)
    pub below : (t : ℕ) → t < s → get_or first t 0 ≡ first_of t
    pub rest : (t : ℕ) → s ≤ t → get_or first t 0 ≡ get_or ends t 0

  pub firsts_start : FirstsBefore 1 0 ends
  firsts_start = record {
    long = m.long;
    most_is = sym first_none;
    below = λ t l. let q : t ≡ 0 = omega arith in rw q (nothing ∙ sym first_none);
    rest = λ t l. refl;
  }
    where
      nothing : get_or ends 0 0 ≡ 0
      nothing = either (lt_or_le 0 (get_or ends 0 0)) (λ l. absurd (omega (arith, (m.real 0 (omega arith) l).1))) (λ l. omega arith)

  pub firsts_turn : {s most now : ℕ} {first : List ℕ} → FirstsBefore s most first → 1 ≤ s → s ≤ 256 → now ≡ max most (get_or first s 0)
      → FirstsBefore (s + 1) now (set first s now)
  firsts_turn {s} {most} {now} {first} f h l larger = record {
    long = length-set first s now ∙ f.long;
    most_is = is_first ∙ ap first_of (omega arith);
    below = λ t b. either (same_or_not t s)
        (λ q. rw q (get_or-set_same first s now 0 (omega (arith, f.long)) ∙ is_first))
        (λ q. get_or-set_other first s t now 0 q ∙ f.below t (omega arith));
    rest = λ t b. get_or-set_other first s t now 0 (λ q. omega arith) ∙ f.rest t (omega arith);
  }
    where
      is_first : now ≡ first_of s
      is_first =
          let q : s - 1 + 1 ≡ s = omega arith in
          let n : first_of s ≡ max (first_of (s - 1)) (get_or ends s 0) = subst (λ (t : ℕ). first_of t ≡ max (first_of (s - 1)) (get_or ends t 0)) q (first_next (s - 1) (omega arith)) in
          omega (arith, larger, n, f.most_is, f.rest s (omega arith))

  pub firsts_done : {s most stages : ℕ} {first : List ℕ} → FirstsBefore s most first → stages < s → FirstTable count stages from first
  firsts_done f h = record { at = λ t b. f.below t (omega arith) }
