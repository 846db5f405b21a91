-- The first step of each stage: how many steps leave stages below it. Steps are sorted by the stage that they leave, so those of one stage follow each other.
-- Assumes nothing.
use Rattle.std.specs.Prelude.{ℕ, zero, suc, ◌+◌, ◌-◌, ◌≤◌, ◌<◌, ◌≡◌, List, ltb, length, get_or}
use Rattle.std.proofs.Common.{arith, lt-ltb, le-ltb}
use Rattle.std.proofs.Math.Decide.{dec_lt}
use Rattle.definitions.specs.Basics.{keep, run, upto}
use Rattle.definitions.specs.Ways.{Graph}
use Rattle.theory.specs.Limits.{Valid}

-- how many of `count` steps leave stages below s
unfoldable pub leaving_below : ℕ → (ℕ → ℕ) → ℕ → ℕ
leaving_below count from s = length (keep (λ e. ltb (from e) s) (upto count))

-- the first step of stage s
abbrev pub first_step : Graph → ℕ → ℕ
first_step g s = leaving_below g.count g.from s

-- ---- tables

-- the table of the stages that steps leave, sorted
pub record SortedTable (count : ℕ) (from : List ℕ) : Type 0 where
  pub few : count ≤ 1024
  pub inside : (e : ℕ) → e < count → get_or from e 0 < 256
  pub sorted : (e f : ℕ) → e ≤ f → f < count → get_or from e 0 ≤ get_or from f 0

-- at the stage behind each one that steps leave, the number behind the last of these; 0 at all others
pub record EndTable (count : ℕ) (from ends : List ℕ) : Type 0 where
  pub long : length ends ≡ 257
  pub behind : (e : ℕ) → e < count → e < get_or ends (get_or from e 0 + 1) 0
  pub real : (t : ℕ) → t ≤ 256 → 0 < get_or ends t 0 → (get_or ends t 0 ≤ count) × (get_or from (get_or ends t 0 - 1) 0 + 1 ≡ t)

-- the table of first steps: for each stage, and for the stage count
pub record FirstTable (count stages : ℕ) (from first : List ℕ) : Type 0 where
  pub at : (s : ℕ) → s ≤ stages → get_or first s 0 ≡ leaving_below count (λ e. get_or from e 0) s

-- the same of a graph: the first step of each stage, and the step count at the stage count
pub record Firsts (g : Graph) (first : List ℕ) : Type 0 where
  pub at : (s : ℕ) → s ≤ g.stages → get_or first s 0 ≡ first_step g s

-- ---- k splits the steps: those before it leave stages below s, the others don't

module _ (count : ℕ) (from : ℕ → ℕ) (s : ℕ) where
  pub record Split (k : ℕ) : Type 0 where
    pub inside : k ≤ count
    pub below : (e : ℕ) → e < k → from e < s
    pub above : (e : ℕ) → k ≤ e → e < count → s ≤ from e

  counted : (i n k : ℕ) → i ≤ k → k ≤ i + n → ((e : ℕ) → i ≤ e → e < k → from e < s) → ((e : ℕ) → k ≤ e → e < i + n → s ≤ from e)
      → i + length (keep (λ e. ltb (from e) s) (run i n)) ≡ k
  counted i zero k h l b a = omega arith
  counted i (suc n) k h l b a = go (dec_lt i k) (counted (suc i) n)
    where
      go : Dec (i < k)
          → ((j : ℕ) → suc i ≤ j → j ≤ suc i + n → ((e : ℕ) → suc i ≤ e → e < j → from e < s) → ((e : ℕ) → j ≤ e → e < suc i + n → s ≤ from e)
          → suc i + length (keep (λ e. ltb (from e) s) (run (suc i) n)) ≡ j)
          → i + length (keep (λ e. ltb (from e) s) (run i (suc n))) ≡ k
      go (yes q) ih = rw (lt-ltb (from i) s (b i (omega arith) q)) (omega (arith, ih k q (omega arith) (λ e m. b e (omega arith)) (λ e m f. a e m (omega arith))))
      go (no q) ih =
          rw (le-ltb (from i) s (a i (omega arith) (omega arith)))
          (omega (arith, ih (suc i) (omega arith) (omega arith) (λ e m f. absurd (omega arith)) (λ e m f. a e (omega arith) (omega arith))))

  pub split_is : (k : ℕ) → Split k → leaving_below count from s ≡ k
  unfolding leaving_below
  split_is k p = omega (arith, counted 0 count k (omega arith) (omega (arith, p.inside)) (λ e m. p.below e) (λ e m f. p.above e m (omega arith)))

  -- sorted steps are split, by the number of those that leave stages below s
  module _ (sorted : (e f : ℕ) → e ≤ f → f < count → from e ≤ from f) where
    split_first : (n : ℕ) → n ≤ count → (k : ℕ) × (k ≤ n) × ((e : ℕ) → e < k → from e < s) × (k < n → s ≤ from k)
    split_first zero h = (0, omega arith, λ e l. absurd (omega arith), λ l. absurd (omega arith))
    split_first (suc n) h = go (split_first n (omega arith))
      where
        go : (k : ℕ) × (k ≤ n) × ((e : ℕ) → e < k → from e < s) × (k < n → s ≤ from k) → (k : ℕ) × (k ≤ suc n) × ((e : ℕ) → e < k → from e < s) × (k < suc n → s ≤ from k)
        go t = at_end (dec_lt t.0 n) (dec_lt (from n) s)
          where
            at_end : Dec (t.0 < n) → Dec (from n < s) → (k : ℕ) × (k ≤ suc n) × ((e : ℕ) → e < k → from e < s) × (k < suc n → s ≤ from k)
            at_end (yes p) q = (t.0, omega arith, t.2, λ l. t.3 p)
            at_end (no p) (yes q) = (suc n, omega arith, λ e l. omega (arith, sorted e n (omega arith) (omega arith)), λ l. absurd (omega arith))
            at_end (no p) (no q) =
                let r : t.0 ≡ n = omega arith in
                (t.0, omega arith, t.2, λ l. rw r (omega arith))

    pub splits : Split (leaving_below count from s)
    splits =
        let t = split_first count (omega arith) in
        let p : Split t.0 = record { inside = t.1; below = t.2; above = λ e l h. omega (arith, t.3 (omega arith), sorted t.0 e l h) } in
        rw (split_is t.0 p) p

-- ---- the steps of a valid graph

module _ (g : Graph) (v : Valid g) where
  abbrev split : (s : ℕ) → Split g.count g.from s (first_step g s)
  split s = splits g.count g.from s v.sorted

  pub first_inside : (s : ℕ) → first_step g s ≤ g.count
  first_inside s = (split s).inside

  pub first_rises : (s t : ℕ) → s ≤ t → first_step g s ≤ first_step g t
  first_rises s t h = go (dec_lt (first_step g t) (first_step g s))
    where
      go : Dec (first_step g t < first_step g s) → first_step g s ≤ first_step g t
      go (yes p) = absurd (omega (arith, (split s).below (first_step g t) p, (split t).above (first_step g t) (omega arith) (omega (arith, (split s).inside))))
      go (no p) = omega arith

  -- the steps from the first one of a stage to before that of the next are those that leave it
  pub first_leaves : (s e : ℕ) → first_step g s ≤ e → e < first_step g (s + 1) → (e < g.count) × (g.from e ≡ s)
  first_leaves s e h l =
      let i : e < g.count = omega (arith, (split (s + 1)).inside) in
      (i, omega (arith, (split s).above e h i, (split (s + 1)).below e l))

  pub leaves_first : (s e : ℕ) → e < g.count → g.from e ≡ s → (first_step g s ≤ e) × (e < first_step g (s + 1))
  leaves_first s e i q = (after (dec_lt e (first_step g s)), before (dec_lt e (first_step g (s + 1))))
    where
      after : Dec (e < first_step g s) → first_step g s ≤ e
      after (yes p) = absurd (omega (arith, (split s).below e p))
      after (no p) = omega arith

      before : Dec (e < first_step g (s + 1)) → e < first_step g (s + 1)
      before (yes p) = p
      before (no p) = absurd (omega (arith, (split (s + 1)).above e (omega arith) i))
