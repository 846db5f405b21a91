-- One law for each way out of the functions that judge and read a body, with the tests of the code as premises.
-- Assumes nothing.
use Prim.Native.Nat.{ℕ, ◌≤◌, ◌<◌}
use mathlib.Core.Path.{◌≡◌}
use mathlib.Core.List.{List}
use lib.Dec.{eqb}
use lib.ListN.{length}
use borrow.Author.Tests.{ne_eqb}
use Rattle.definitions.specs.Basics.{pick}
use Rattle.definitions.specs.Fields.{two, four}
use Rattle.definitions.specs.Charts.{grouped, head_fault, group_fault, step_fault, rounded, step_length}
use Rattle.chart_fields.specs.Bodies.{head_body, Long, step_body}
use Rattle.theory.specs.Choices.{tests}

module _ (b : List ℕ) (n : ℕ) (en : n ≡ two b 0) where
  pub head_none : n ≡ 0 → 4 ≡ head_fault b
  unfolding head_fault pick
  head_none p = simp (← en, tests)

  pub head_many : (n ≡ 0 → ⊥) → 256 < n → 4 ≡ head_fault b
  unfolding head_fault pick
  head_many p q = simp (← en, tests)

  module _ (x : ℕ) (ex : x ≡ two b 2) where
    pub head_start : (n ≡ 0 → ⊥) → n ≤ 256 → n ≤ x → 4 ≡ head_fault b
    unfolding head_fault pick
    head_start p q r = simp (← en, ← ex, tests)

    module _ (y : ℕ) (ey : y ≡ two b 4) where
      pub head_end : (n ≡ 0 → ⊥) → n ≤ 256 → x < n → n ≤ y → 4 ≡ head_fault b
      unfolding head_fault pick
      head_end p q r t = simp (← en, ← ex, ← ey, tests)

      pub head_passes : (n ≡ 0 → ⊥) → n ≤ 256 → x < n → y < n → 0 ≡ head_fault b
      unfolding head_fault pick
      head_passes p q r t = simp (← en, ← ex, ← ey, tests)

pub length_grouped : (tag : ℕ) → tag ≡ 3 → 10 ≡ step_length tag
unfolding pick
length_grouped tag q = rw q

pub length_plain : (tag : ℕ) → (tag ≡ 3 → ⊥) → 8 ≡ step_length tag
unfolding pick
length_plain tag q = rw (ne_eqb tag 3 q)

module _ (last : ℕ) (b : List ℕ) (g : ℕ) (eg : g ≡ two b 8) where
  pub group_high : 1023 < g → 14 ≡ group_fault last b
  unfolding group_fault pick
  group_high p = simp (← eg, tests)

  pub group_falls : g ≤ 1023 → g < last → 14 ≡ group_fault last b
  unfolding group_fault pick
  group_falls p q = simp (← eg, tests)

  pub group_passes : g ≤ 1023 → last ≤ g → 0 ≡ group_fault last b
  unfolding group_fault pick
  group_passes p q = simp (← eg, tests)

module _ (stages tag last group count : ℕ) (b : List ℕ) where
  pub step_full : 1024 ≤ count → 5 ≡ step_fault stages tag last group count b
  unfolding step_fault pick
  step_full p = simp tests

  module _ (f t : ℕ) (ef : f ≡ two b 0) (et : t ≡ two b 2) where
    pub step_back : count < 1024 → t ≤ f → 10 ≡ step_fault stages tag last group count b
    unfolding step_fault pick
    step_back p q = simp (← ef, ← et, tests)

    pub step_out : count < 1024 → f < t → stages ≤ t → 10 ≡ step_fault stages tag last group count b
    unfolding step_fault pick
    step_out p q r = simp (← ef, ← et, tests)

    pub step_order : count < 1024 → f < t → t < stages → f < last → 5 ≡ step_fault stages tag last group count b
    unfolding step_fault pick
    step_order p q r u = simp (← ef, ← et, tests)

    module _ (v : ℕ) (ev : v ≡ four b 4) where
      pub step_dear : count < 1024 → f < t → t < stages → last ≤ f → 1000000 < v → 11 ≡ step_fault stages tag last group count b
      unfolding step_fault pick
      step_dear p q r u w = simp (← ef, ← et, ← ev, tests)

      pub step_named : count < 1024 → f < t → t < stages → last ≤ f → v ≤ 1000000 → tag ≡ 3 → (r : ℕ) → r ≡ group_fault group b → r ≡ step_fault stages tag last group count b
      unfolding step_fault pick
      step_named p q r u w k x ex = simp (← ef, ← et, ← ev, tests, k, ← ex)

      pub step_passes : count < 1024 → f < t → t < stages → last ≤ f → v ≤ 1000000 → (tag ≡ 3 → ⊥) → 0 ≡ step_fault stages tag last group count b
      unfolding step_fault pick
      step_passes p q r u w k = simp (← ef, ← et, ← ev, tests)

pub named_group : (b : List ℕ) (tag e g : ℕ) → g ≡ two b 8 → tag ≡ 3 → g ≡ pick (eqb tag grouped) (two b 8) e
unfolding pick
named_group b tag e g eg k = rw k eg

pub own_group : (b : List ℕ) (tag e : ℕ) → (tag ≡ 3 → ⊥) → e ≡ pick (eqb tag grouped) (two b 8) e
unfolding pick
own_group b tag e k = rw (ne_eqb tag 3 k)

pub step_read : (b : List ℕ) (tag e f t v c g : ℕ) → f ≡ two b 0 → t ≡ two b 2 → v ≡ four b 4 → c ≡ rounded v → g ≡ pick (eqb tag grouped) (two b 8) e
    → record { tag = tag; from = f; to = t; cost = c; group = g } ≡ step_body tag e b
step_read b tag e f t v c g ef et ev ec eg = rw (ef, et, ec, ev, eg)

pub head_read : (b : List ℕ) (n x y : ℕ) → n ≡ two b 0 → x ≡ two b 2 → y ≡ two b 4 → record { stages = n; start = x; end = y } ≡ head_body b
head_read b n x y en ex ey = rw (en, ex, ey)

pub ruleset head-laws = (head_none, head_many, head_start, head_end, head_passes)

-- a body that names a group is long enough for it
pub long_named : (tag : ℕ) (b : List ℕ) → Long tag b → tag ≡ 3 → 10 ≤ length b
long_named tag b long q = long.1 q

pub ruleset length-laws = (length_grouped, length_plain)

pub ruleset group_laws = (group_high, group_falls, group_passes)

pub ruleset step-laws = (step_full, step_back, step_out, step_order, step_dear, step_named, step_passes)

pub ruleset in-laws = (named_group, own_group)
