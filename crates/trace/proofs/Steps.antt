-- Laws of trails: how a step back shortens one, and what the loop that follows one keeps.
-- Assumes nothing.
use Prim.Native.Nat.{ℕ, suc, ◌+◌, ◌-◌, ◌*◌, ◌≤◌, ◌<◌}
use mathlib.Core.Path.{◌≡◌, refl, sym, ◌∙◌, ap, ap₂, subst₂}
use mathlib.Core.List.{List, [], ◌∷◌, ◌++◌, append-nil, reverse, reverse-reverse}
use native.Mathlib.Omega.{arith}
use native.Mathlib.Nat.{mul-le-mul_right}
use native.Mathlib.Numerals.{add-one}
use lib.ListN.{length, get_or, set, take, drop, length-reverse}
use lib.Seq.{append_snoc, drop-cons, set_at, take_at, drop_at}
use Rattle.rows.specs.Rows.{row_at}
use Rattle.via_marks.specs.Marks.{packed, step_in, step_packed, node_packed}
use Rattle.trace.specs.Trails.{CameFrom, Trail, begin, more, trail_short, Traceable}
use Rattle.trace.specs.declared.Predecessor.{Predecessor}

-- an entry put after the part xs that stands at a list's front
pub put_on : (i : ℕ) (l xs plan : List ℕ) (e : ℕ) → i < length l → length xs ≡ i → plan ≡ xs ++ drop i l → set plan i e ≡ xs ++ e ∷ [] ++ drop (i + 1) l
put_on i l xs plan e h q p =
    ap (λ (z : List ℕ). set z i e) (p ∙ ap (λ (z : List ℕ). xs ++ z) (drop-cons l i 0 h))
    ∙ set_at xs (get_or l i 0) (drop (suc i) l) e i q
    ∙ sym (append_snoc xs e (drop (suc i) l))
    ∙ ap (λ (k : ℕ). xs ++ e ∷ [] ++ drop k l) (sym (add-one i))

-- what stands backwards at a list's front stands forwards once the front is reversed
pub reversed_back : (w rest l : List ℕ) (count : ℕ) → count ≡ length w → l ≡ reverse w ++ rest → reverse (take count l) ++ drop count l ≡ w ++ rest
reversed_back w rest l count e p =
    let long : length (reverse w) ≡ count = length-reverse w ∙ sym e in
    ap (λ (z : List ℕ). reverse (take count z) ++ drop count z) p
    ∙ ap₂ (λ (x y : List ℕ). reverse x ++ y) (take_at (reverse w) rest count long) (drop_at (reverse w) rest count long)
    ∙ ap (λ (z : List ℕ). z ++ rest) (reverse-reverse w)

module _ (via from : List ℕ) (width start : ℕ) where
  abbrev Way : ℕ → ℕ → List ℕ → Type 0
  Way = Trail via from width start

  -- a trail's last step, and the trail to it
  pub record Last (s n : ℕ) (w : List ℕ) : Type 0 where
    pub e : ℕ
    pub m : ℕ
    pub rest : List ℕ
    pub whole : w ≡ rest ++ e ∷ []
    pub exists : e < 1024
    pub node : m < width
    pub down : get_or from e 0 < s
    pub packs : get_or via (s * width + n) 0 ≡ packed s e m
    pub trail : Way (get_or from e 0) m rest

  pub last_step : {s n : ℕ} {w : List ℕ} → start < s → Way s n w → Last s n w
  last_step h begin = absurd (omega arith)
  last_step h (more {e} {m} {w} a b c d f t) = record { e = e; m = m; rest = w; whole = refl; exists = b; node = c; down = d; packs = f; trail = t }

  pub no_step : {s n : ℕ} {w : List ℕ} → s ≤ start → Way s n w → w ≡ []
  no_step h begin = refl
  no_step h (more a b c d f t) = absurd (omega arith)

  -- The loop that follows the trail `steps` has come to the pair of s and n: `rest` leads there, and `taken` are the steps from there on
  pub record Following (steps : List ℕ) (s₀ s n : ℕ) (taken : List ℕ) : Type 0 where
    pub rest : List ℕ
    pub trail : Way s n rest
    pub node : n < width
    pub down : s ≤ s₀
    pub whole : steps ≡ rest ++ taken

module _ {via from row : List ℕ} {start s₀ n₀ : ℕ} (t : Traceable via from row start s₀ n₀) where
  abbrev width : ℕ
  width = t.width

  abbrev pub Follows : ℕ → ℕ → List ℕ → Type 0
  Follows = Following via from width start t.steps s₀

  pub steps_few : length t.steps ≤ s₀ - start
  steps_few = omega (arith, trail_short t.trail)

  pub follow_start : Follows s₀ n₀ []
  follow_start = record {
    rest = t.steps;
    trail = t.trail;
    node = t.node;
    down = omega arith;
    whole = sym (append-nil t.steps);
  }

  module _ {s n : ℕ} {taken : List ℕ} (f : Follows s n taken) where
    -- the pair stands in the tables
    pub follow_stage : s < 256
    follow_stage = omega (arith, f.down, t.stage, t.few)

    -- past the start's stage there is a last step to take back; `at` is the pair's number
    module _ (h : start < s) {at : ℕ} (is_at : at ≡ get_or row s 0 + n) where
      abbrev last : Last via from width start s n f.rest
      last = last_step via from width start h f.trail

      place : at ≡ s * width + n
      place = omega (arith, ap (λ (l : List ℕ). get_or l s 0) t.rows, row_at t.stages width s t.few (omega (arith, f.down, t.stage)))

      pub follow_fits : at < length via
      follow_fits =
          let inside : s < t.stages = omega (arith, f.down, t.stage) in
          omega (arith, place, f.node, t.fits, mul-le-mul_right width inside)

      packs : get_or via at 0 ≡ packed s last.e last.m
      packs = ap (λ (i : ℕ). get_or via i 0) place ∙ last.packs

      small : last.m < 512
      small = omega (arith, last.node, t.narrow)

      step_is : step_in (get_or via at 0) ≡ last.e
      step_is = step_packed s last.e last.m (get_or via at 0) packs last.exists small

      module _ {p : Predecessor} (c : CameFrom from (get_or via at 0) p) where
        by_last : p.step.0 ≡ last.e
        by_last = c.by_step ∙ step_is

        node_is : p.node.0 ≡ last.m
        node_is = c.of_node ∙ node_packed s last.e last.m (get_or via at 0) packs last.exists small

        stage_is : p.stage.0 ≡ get_or from last.e 0
        stage_is = c.of_stage ∙ ap (λ (i : ℕ). get_or from i 0) by_last

        pub follow_less : p.stage.0 < s
        follow_less = omega (arith, stage_is, last.down)

        pub follow_more : Follows p.stage.0 p.node.0 (p.step.0 ∷ taken)
        follow_more = record {
          rest = last.rest;
          trail = subst₂ (λ (i j : ℕ). Trail via from width start i j last.rest) (sym stage_is) (sym node_is) last.trail;
          node = omega (arith, node_is, last.node);
          down = omega (arith, follow_less, f.down);
          whole = f.whole ∙ ap (λ (z : List ℕ). z ++ taken) last.whole ∙ append_snoc last.rest last.e taken
              ∙ ap (λ (i : ℕ). last.rest ++ i ∷ taken) (sym by_last);
        }

    pub follow_done : s ≤ start → t.steps ≡ taken
    follow_done h = f.whole ∙ ap (λ (z : List ℕ). z ++ taken) (no_step via from width start h f.trail)
