-- How the search ends: where nothing is open any more, or at the first goal pair that is taken.
-- Assumes nothing.
use Rattle.std.specs.Prelude.{ℕ, suc, ◌+◌, ◌-◌, ◌≤◌, ◌<◌, ◌≡◌, refl, true, false, eqb, length, get_or}
use Rattle.std.proofs.Common.{sym, ◌∙◌, ap, ap₂, subst, inr, arith, eq-eqb, ne_eqb}
use mathlib.Core.List.{List, Memᴰ}
use Rattle.std.proofs.Math.Option.{some}
use Rattle.definitions.specs.Ways.{Graph}
use Rattle.definitions.specs.Pairs.{Automaton, Estimate, pair, stage_of, node_of, goal, least_cost}
use Rattle.definitions.specs.Promises.{least_cost_at, sum_at, goal_at, Complete}
use Rattle.theory.specs.Basics.{some_inj, true_not_false, at_member}
use Rattle.theory.specs.BestFirst.{Invariant, exhausted, first_goal, below_settled}
use Rattle.theory.specs.Pairs.{way_inside, cost_attained, cost_reached, is_goal, sum_parts, stage_of_pair, node_of_pair}
use Rattle.theory.specs.Plans.{GoalCost}
use Rattle.theory.specs.Estimates.{goal_estimate}
use Rattle.theory.specs.Product.{Edge, Reaches, start_pair, estimate_at, cost_is_least}
use Rattle.guided_model.specs.State.{Guide, Marks, Smallest, In, cost_so_far, key_is, Searching}
use Rattle.guided_model.specs.Logs.{longer, longer_length, in_more, Place, earlier, last, place}
use Rattle.guided_model.specs.Bounds.{stage_is, node_is}
use Rattle.guided_model.specs.Chosen.{consistent_pairs, log_least, chosen_key, chosen_sum}
use Rattle.guided_model.specs.Based.{FoundFrom}

module _ {g : Graph} {a : Automaton} {h : Estimate} (u : Guide g a h) where
  member : (log : List ℕ) (p : ℕ) → In log p → Memᴰ p log
  member log p t = subst (λ (z : ℕ). Memᴰ z log) t.2 (at_member log t.0 t.1)

  -- a pair with a sum has a way of its least cost
  sum_reach : (p k : ℕ) → sum_at g a h p ≡ some k → (m r : ℕ) × Reaches g a p m × (estimate_at a h p ≡ some r) × (k ≡ m + r)
  sum_reach p k e =
      let t = sum_parts g a h (stage_of a p) (node_of a p) k e in
      (t.0, t.1, (cost_is_least g a u.lawful u.valid p t.0 t.2).attained, t.3, t.4)

  -- a goal pair of a cost, by its number
  goal_pair : (k : ℕ) → GoalCost g a k → (p : ℕ) × (goal_at g a h p ≡ true) × (least_cost_at g a h p ≡ some k)
  goal_pair k t =
      let n = t.0 in
      let i = (way_inside g a u.valid u.lawful g.end n k (cost_attained g a g.end n k t.2)).1 in
      let q = stage_of_pair a g.end n i in
      let r = node_of_pair a g.end n i in
      (pair a g.end n, ap₂ (goal g a) q r ∙ t.1, ap₂ (least_cost g a) q r ∙ t.2)

  -- ---- nothing is open

  module _ (log : List ℕ) {Open : ℕ → Type 0} {cost : ℕ → ℕ} (best : Invariant ℕ (Edge g a) (start_pair g a) (estimate_at a h) (In log) Open cost)
      (empty : (k : ℕ) → Open k → ⊥) where
    all_settled : (p m r : ℕ) → Reaches g a p m → estimate_at a h p ≡ some r → In log p
    all_settled p m r w e =
        exhausted ℕ (Edge g a) (start_pair g a) (estimate_at a h) (consistent_pairs u) (In log) Open cost best (λ y hy o q. empty y o) p r m e w

    pub empty_complete : Complete g a h (λ k. Unit {0}) log
    empty_complete p i k e t = let x = sum_reach p k e in member log p (all_settled p x.0 x.1 x.2 x.3)

    -- where no goal pair is settled, none is reached
    pub empty_no_goal : ((p : ℕ) → In log p → goal_at g a h p ≡ false) → (k : ℕ) → GoalCost g a k → ⊥
    empty_no_goal f k t =
        let z = goal_pair k t in
        true_not_false (sym z.1 ∙ f z.0 (all_settled z.0 k u.base (cost_is_least g a u.lawful u.valid z.0 k z.2).attained
        (goal_estimate u.base g a h u.consistent (stage_of a z.0) (node_of a z.0) z.1)))

  -- ---- a goal pair is taken

  module _ {now : Marks} {log : List ℕ} {floor : ℕ} (s : Searching g a h now log floor) where
    abbrev cost : ℕ → ℕ
    cost p = cost_so_far g a h now.keys p

    -- an open pair of smallest key, of the end stage and of a node that accepts, is one
    pub goal_taken : {x : ℕ} → Smallest now x → (n : ℕ) → n < a.size → x ≡ pair a g.end n → a.accepts n ≡ true → goal_at g a h x ≡ true
    goal_taken {x} o n i e t =
        let c = (chosen_sum u s o).0 in
        let q = stage_is a g.end n x i e in
        let r = node_is a g.end n x i e in
        ap₂ (goal g a) q r ∙ is_goal g a n (cost_reached g a g.end n (cost x) (sym (ap₂ (least_cost g a) q r) ∙ c)) t

    module _ {x : ℕ} (o : Smallest now x) (final : goal_at g a h x ≡ true) where
      none_left : estimate_at a h x ≡ some u.base
      none_left = goal_estimate u.base g a h u.consistent (stage_of a x) (node_of a x) final

      key_is_cost : get_or now.keys x 0 ≡ cost x + u.base
      key_is_cost = omega (arith, key_is g a h now.keys x u.base (chosen_key u s o) none_left)

      small' : (y r : ℕ) → now.Open y → estimate_at a h y ≡ some r → cost x + u.base ≤ cost y + r
      small' y r p e = omega (arith, o.least y p, key_is_cost, key_is g a h now.keys y r (s.has_key y (inr p)) e)

      -- no goal pair is cheaper
      pub goal_least : (k : ℕ) → GoalCost g a k → cost x ≤ k
      goal_least k t =
          let z = goal_pair k t in
          first_goal ℕ (Edge g a) (start_pair g a) (estimate_at a h) (consistent_pairs u) (In log) now.Open (cost_so_far g a h now.keys) s.best
          u.base x o.is_open none_left small' z.0 k (goal_estimate u.base g a h u.consistent (stage_of a z.0) (node_of a z.0) z.1)
          (λ i. true_not_false (sym z.1 ∙ s.no_goal z.0 i)) (cost_is_least g a u.lawful u.valid z.0 k z.2).attained

      pub goal_found : FoundFrom g a h u.base (cost x) (longer log x)
      goal_found = record {
        some_entry = omega (arith, longer_length log x);
        only_goal = λ i b. only_goal i (place log x i b);
        goal_cost = ap (λ (z : ℕ). least_cost_at g a h z) last_entry ∙ (chosen_sum u s o).0;
        below = λ p i k e b. let t = sum_reach p k e in
            member (longer log x) p (in_more log x p
            (below_settled ℕ (Edge g a) (start_pair g a) (estimate_at a h) (consistent_pairs u) (In log) now.Open (cost_so_far g a h now.keys) s.best
            (cost x + u.base) (λ y r q f. omega (arith, small' y r q f)) p t.0 t.1 t.3 t.2 (omega (arith, t.4))));
        none_above = λ i k b e. none_above i k e (place log x i b);
      }
        where
          last_entry : get_or (longer log x) (length (longer log x) - 1) 0 ≡ x
          last_entry = go (place log x (length (longer log x) - 1) (omega (arith, longer_length log x)))
            where
              go : Place log x (length (longer log x) - 1) → get_or (longer log x) (length (longer log x) - 1) 0 ≡ x
              go (earlier b q) = absurd (omega (arith, longer_length log x))
              go (last b q) = q

          only_goal : (i : ℕ) → Place log x i → goal_at g a h (get_or (longer log x) i 0) ≡ eqb (suc i) (length (longer log x))
          only_goal i (earlier b q) =
              ap (λ (z : ℕ). goal_at g a h z) q ∙ s.no_goal (get_or log i 0) (i, b, refl)
              ∙ sym (ne_eqb (suc i) (length (longer log x)) (λ e. omega (arith, longer_length log x)))
          only_goal i (last b q) =
              ap (λ (z : ℕ). goal_at g a h z) q ∙ final ∙ sym (eq-eqb (suc i) (length (longer log x)) (omega (arith, longer_length log x)))

          none_above : (i k : ℕ) → sum_at g a h (get_or (longer log x) i 0) ≡ some k → Place log x i → k ≤ cost x + u.base
          none_above i k e (earlier b q) =
              let p = get_or log i 0 in
              omega (
                arith,
                s.below p (i, b, refl),
                s.above x o.is_open,
                key_is_cost,
                some_inj k (get_or now.keys p 0) (sym e ∙ ap (λ (z : ℕ). sum_at g a h z) q ∙ (log_least u s p (i, b, refl)).1),
              )
          none_above i k e (last b q) =
              omega (
                arith,
                key_is_cost,
                some_inj k (get_or now.keys x 0) (sym e ∙ ap (λ (z : ℕ). sum_at g a h z) q ∙ (chosen_sum u s o).1),
              )
