-- Answers and lent slices that meet the promises of the searches, and some that do not: a changed slice, a changed entry past what is written, another answer.
-- Assumes nothing.
use Rattle.std.specs.Prelude.{ℕ, ◌≡◌, refl, List, [], ◌∷◌, get_or}
use Rattle.std.proofs.Common.{ap, arith}
use Rattle.std.proofs.Math.Option.{none}
use Rattle.definitions.specs.Basics.{pick, smaller}
use Rattle.definitions.specs.Diagrams.{descend, descend_in, advance, verdict}
use Rattle.definitions.specs.Ways.{ways_in, ways, least_way}
use Rattle.definitions.specs.Pairs.{stands, least_cost, reached, reached_pairs}
use Rattle.definitions.specs.Plans.{variable, says_yes, cheapest}
use Rattle.definitions.specs.Answers.{ready, refused, refusal, accepted}
use Rattle.definitions.specs.Promises.{Planned, Outcome, Scratch, least_costs, Swept, Guided}
use Rattle.definitions.specs.declared.Answer.{Answer}
use Rattle.definitions.specs.Marked.{chart, rules, single, leaf, backward}
use Rattle.definitions.proofs.Logs.{false_true, good_logged}

-- two lists that differ at a place
pub differ : {x y : List ℕ} → x ≡ y → (i : ℕ) → get_or x i 0 ≡ get_or y i 0
differ e i = ap (λ (l : List ℕ). get_or l i 0) e

-- ---- the answers' fields

abbrev fields : Answer → List ℕ
fields r = r.number ∷ r.file ∷ r.place ∷ r.cost ∷ r.length ∷ r.count ∷ []

pub answers_hold : ◌≡◌ {A = List (List ℕ)} (fields (refusal 6 2 14 3) ∷ fields (accepted 200 5 4) ∷ []) ((6 ∷ 2 ∷ 14 ∷ 0 ∷ 0 ∷ 3 ∷ []) ∷ (0 ∷ 0 ∷ 0 ∷ 200 ∷ 5 ∷ 4 ∷ []) ∷ [])
answers_hold = refl

-- ---- the plan slice: steps 1, 3, 5 of the chart of REFERENCE 14 cost 200

pub good_planned : Planned chart rules 200 3 (7 ∷ 7 ∷ 7 ∷ 7 ∷ []) (1 ∷ 3 ∷ 5 ∷ 7 ∷ [])
unfolding pick descend descend_in verdict says_yes variable
good_planned = record {
  fits = omega arith;
  legal = (((omega arith, refl, (omega arith, refl, (omega arith, refl, tt))), refl), refl);
  costs = refl;
  long = refl;
  rest = refl;
}

-- it does not fit, is not legal, costs another sum, loses an entry, changes a further entry
pub no_room : Planned single (leaf 1) 0 1 [] [] → ⊥
no_room p = omega (arith, p.fits)

pub not_legal : Planned chart rules 150 3 (7 ∷ 7 ∷ 7 ∷ []) (0 ∷ 3 ∷ 5 ∷ []) → ⊥
unfolding pick descend descend_in verdict says_yes variable
not_legal p = false_true p.legal.1

-- 170 is what the values of its file add up to
pub not_its_cost : Planned chart rules 170 3 (7 ∷ 7 ∷ 7 ∷ []) (1 ∷ 3 ∷ 5 ∷ []) → ⊥
not_its_cost p = omega (arith, p.costs)

pub plan_cut : Planned chart rules 200 3 (7 ∷ 7 ∷ 7 ∷ 7 ∷ []) (1 ∷ 3 ∷ 5 ∷ []) → ⊥
plan_cut p = omega (arith, p.long)

pub plan_past : Planned chart rules 200 3 (7 ∷ 7 ∷ 7 ∷ 7 ∷ []) (1 ∷ 3 ∷ 5 ∷ 8 ∷ []) → ⊥
plan_past p = let e = differ p.rest 0 in omega arith

-- no legal plan: 8, and the plan slice stays
pub eight_stays : Outcome none chart rules 3 (7 ∷ []) (7 ∷ []) (refusal 8 0 0 3)
eight_stays = (refl, refl)

pub eight_writes : Outcome none chart rules 3 (7 ∷ []) (8 ∷ []) (refusal 8 0 0 3) → ⊥
eight_writes o = let e = differ o.1 0 in omega arith

pub eight_is_seven : Outcome none chart rules 3 (7 ∷ []) (7 ∷ []) (refusal 7 0 0 3) → ⊥
eight_is_seven o = let e = ap (λ (r : Answer). r.number) o.0 in omega arith

pub eight_counts : Outcome none chart rules 3 (7 ∷ []) (7 ∷ []) (refusal 8 0 0 0) → ⊥
eight_counts o = let e = ap (λ (r : Answer). r.count) o.0 in omega arith

-- ---- work slices of which nothing more is promised: a chart of one stage and N = 2 leaves two entries free

pub scratch_free : Scratch (ready single (leaf 1)) (5 ∷ 5 ∷ 6 ∷ []) (1 ∷ 2 ∷ 6 ∷ [])
scratch_free = (refl, refl)

pub scratch_past : Scratch (ready single (leaf 1)) (5 ∷ 5 ∷ 6 ∷ []) (1 ∷ 2 ∷ 7 ∷ []) → ⊥
scratch_past s = let e = differ s.1 0 in omega arith

pub scratch_cut : Scratch (ready single (leaf 1)) (5 ∷ 5 ∷ []) (1 ∷ []) → ⊥
scratch_cut s = omega (arith, s.0)

pub scratch_changed : Scratch (refused 1 1 0) (5 ∷ []) (6 ∷ []) → ⊥
scratch_changed e = let z = differ e 0 in omega arith

-- ---- a refused call: its number, file and place, and every slice

pub sweep_refused : Swept (refused 6 2 14) (7 ∷ []) (7 ∷ []) (5 ∷ []) (5 ∷ []) (record { number = 6; file = 2; place = 14; cost = 0; length = 0; count = 0 })
sweep_refused = (refl, refl, refl)

pub sweep_plan_changed : Swept (refused 6 2 14) (7 ∷ []) (8 ∷ []) (5 ∷ []) (5 ∷ []) (refusal 6 2 14 0) → ⊥
sweep_plan_changed s = let e = differ s.1 0 in omega arith

pub sweep_costs_changed : Swept (refused 6 2 14) (7 ∷ []) (7 ∷ []) (5 ∷ []) (6 ∷ []) (refusal 6 2 14 0) → ⊥
sweep_costs_changed s = let e = differ s.2 0 in omega arith

pub sweep_other_place : Swept (refused 6 2 14) (7 ∷ []) (7 ∷ []) (5 ∷ []) (5 ∷ []) (refusal 6 2 5 0) → ⊥
sweep_other_place s = let e = ap (λ (r : Answer). r.place) s.0 in omega arith

pub sweep_exchanged : Swept (refused 6 2 14) (7 ∷ []) (7 ∷ []) (5 ∷ []) (5 ∷ []) (record { number = 6; file = 14; place = 2; cost = 0; length = 0; count = 0 }) → ⊥
sweep_exchanged s = let e = ap (λ (r : Answer). r.file) s.0 in omega arith

pub guided_refused : Guided (refused 6 2 14) (7 ∷ []) (7 ∷ []) (5 ∷ []) (5 ∷ []) (record { number = 6; file = 2; place = 14; cost = 0; length = 0; count = 0 })
guided_refused = (refl, refl, refl)

pub guided_other_number : Guided (refused 6 2 14) (7 ∷ []) (7 ∷ []) (5 ∷ []) (5 ∷ []) (refusal 5 2 14 0) → ⊥
guided_other_number s = let e = ap (λ (r : Answer). r.number) s.0 in omega arith

pub guided_plan_changed : Guided (refused 6 2 14) (7 ∷ []) (8 ∷ []) (5 ∷ []) (5 ∷ []) (refusal 6 2 14 0) → ⊥
guided_plan_changed s = let e = differ s.1 0 in omega arith

pub guided_log_changed : Guided (refused 6 2 14) (7 ∷ []) (7 ∷ []) (5 ∷ []) (6 ∷ []) (refusal 6 2 14 0) → ⊥
guided_log_changed s = let e = differ s.2 0 in omega arith

-- ---- whole searches: the sweep in case (g), the guided search on the chart of REFERENCE 14

pub sweep_holds : Swept (ready single (leaf 1)) (7 ∷ []) (7 ∷ []) (5 ∷ 5 ∷ 6 ∷ []) (4294967295 ∷ 0 ∷ 6 ∷ []) (accepted 0 0 1)
unfolding pick smaller descend descend_in advance verdict says_yes ways_in ways least_way stands least_cost reached reached_pairs cheapest least_costs variable
sweep_holds = ((refl, record { fits = omega arith; legal = ((tt, refl), refl); costs = refl; long = refl; rest = refl }), refl)

pub sweep_counts : Swept (ready single (leaf 1)) (7 ∷ []) (7 ∷ []) (5 ∷ 5 ∷ 6 ∷ []) (4294967295 ∷ 0 ∷ 6 ∷ []) (accepted 0 0 2) → ⊥
unfolding pick smaller descend descend_in advance verdict says_yes ways_in ways least_way stands least_cost reached reached_pairs cheapest variable
sweep_counts s = let e = ap (λ (r : Answer). r.count) s.0.0 in omega arith

pub sweep_writes_past : Swept (ready single (leaf 1)) (7 ∷ []) (7 ∷ []) (5 ∷ 5 ∷ 6 ∷ []) (4294967295 ∷ 0 ∷ 7 ∷ []) (accepted 0 0 1) → ⊥
unfolding pick smaller descend descend_in advance ways_in ways least_way stands least_cost least_costs variable
sweep_writes_past s = let e = differ s.1 2 in omega arith

pub guided_holds : Guided (ready chart rules) (7 ∷ 7 ∷ 7 ∷ 7 ∷ []) (1 ∷ 3 ∷ 5 ∷ 7 ∷ []) (0 ∷ 0 ∷ 0 ∷ 0 ∷ 9 ∷ []) (3 ∷ 5 ∷ 13 ∷ 17 ∷ 9 ∷ []) (accepted 200 3 4)
unfolding pick smaller descend descend_in verdict says_yes ways_in ways least_way cheapest variable
guided_holds = ((refl, good_planned), good_logged)

pub guided_cost : Guided (ready chart rules) (7 ∷ 7 ∷ 7 ∷ 7 ∷ []) (1 ∷ 3 ∷ 5 ∷ 7 ∷ []) (0 ∷ 0 ∷ 0 ∷ 0 ∷ 9 ∷ []) (3 ∷ 5 ∷ 13 ∷ 17 ∷ 9 ∷ []) (accepted 170 3 4) → ⊥
unfolding pick smaller descend descend_in verdict says_yes ways_in ways least_way cheapest variable
guided_cost s = let e = ap (λ (r : Answer). r.cost) s.0.0 in omega arith

-- no steps lead from the second stage back to the first
pub no_way_back : Planned backward (leaf 1) 0 0 [] [] → ⊥
no_way_back p = omega (arith, p.legal.0.1)
