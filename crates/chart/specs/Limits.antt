-- What holds of a head and of a step that pass, and so of every chart that is read: the limits of the chart file.
-- Assumes nothing.
use Rattle.std.specs.Prelude.{ℕ, ◌≤◌, ◌<◌, ◌≡◌, not, List, leb, ltb, eqb}
use Rattle.std.proofs.Common.{◌∙◌, arith, leb-true, leb-false, ltb-false, eq-eqb}
use Rattle.std.proofs.lemmas.Bool.{eqb-false, not-false}
use Rattle.definitions.specs.Fields.{two, four}
use Rattle.definitions.specs.Charts.{grouped, head_fault, group_fault, step_fault}
use Rattle.theory.specs.Basics.{pick_true}
use Rattle.theory.specs.Choices.{past}

pub record HeadFits (b : List ℕ) : Type 0 where
  pub some_stages : 1 ≤ two b 0
  pub few_stages : two b 0 ≤ 256
  pub start_inside : two b 2 < two b 0
  pub end_inside : two b 4 < two b 0

pub head_fits : (b : List ℕ) → 0 ≡ head_fault b → HeadFits b
unfolding head_fault
head_fits b p =
    let p1 = past (eqb (two b 0) 0) (λ q. omega arith) p in
    let p2 = past (not (leb (two b 0) 256)) (λ q. omega arith) p1.1 in
    let p3 = past (leb (two b 0) (two b 2)) (λ q. omega arith) p2.1 in
    let p4 = past (leb (two b 0) (two b 4)) (λ q. omega arith) p3.1 in
    record {
      some_stages = omega (arith, eqb-false (two b 0) 0 p1.0);
      few_stages = leb-true (two b 0) 256 (not-false _ p2.0);
      start_inside = leb-false (two b 0) (two b 2) p3.0;
      end_inside = leb-false (two b 0) (two b 4) p4.0;
    }

-- of a group that a step names
pub record GroupFits (group : ℕ) (b : List ℕ) : Type 0 where
  pub few : two b 8 ≤ 1023
  pub rises : group ≤ two b 8

group_fits : (group : ℕ) (b : List ℕ) → 0 ≡ group_fault group b → GroupFits group b
unfolding group_fault
group_fits group b p =
    let p1 = past (not (leb (two b 8) 1023)) (λ q. omega arith) p in
    let p2 = past (ltb (two b 8) group) (λ q. omega arith) p1.1 in
    record { few = leb-true (two b 8) 1023 (not-false _ p1.0); rises = ltb-false (two b 8) group p2.0 }

pub record StepFits (stages tag last group count : ℕ) (b : List ℕ) : Type 0 where
  pub below : count < 1024
  pub forward : two b 0 < two b 2
  pub inside : two b 2 < stages
  pub sorted : last ≤ two b 0
  pub cheap : four b 4 ≤ 1000000
  pub named : tag ≡ grouped → GroupFits group b

pub step_fits : (stages tag last group count : ℕ) (b : List ℕ) → 0 ≡ step_fault stages tag last group count b → StepFits stages tag last group count b
unfolding step_fault
step_fits stages tag last group count b p =
    let p1 = past (leb 1024 count) (λ q. omega arith) p in
    let p2 = past (leb (two b 2) (two b 0)) (λ q. omega arith) p1.1 in
    let p3 = past (leb stages (two b 2)) (λ q. omega arith) p2.1 in
    let p4 = past (ltb (two b 0) last) (λ q. omega arith) p3.1 in
    let p5 = past (not (leb (four b 4) 1000000)) (λ q. omega arith) p4.1 in
    record {
      below = leb-false 1024 count p1.0;
      forward = leb-false (two b 2) (two b 0) p2.0;
      inside = leb-false stages (two b 2) p3.0;
      sorted = ltb-false (two b 0) last p4.0;
      cheap = leb-true (four b 4) 1000000 (not-false _ p5.0);
      named = λ q. group_fits group b (p5.1 ∙ pick_true _ _ _ (eq-eqb tag grouped q));
    }
