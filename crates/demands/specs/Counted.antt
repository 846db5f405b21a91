-- The list of reached pairs has each reached pair once and nothing else; the cost slice, entry by entry.
-- Assumes nothing.
use Prim.Native.Nat.{ℕ, zero, suc, ◌/◌, ◌%◌, ◌≤◌, ◌<◌}
use Rattle.std.specs.Prelude.{◌≡◌, refl, Bool, true, false, cond, length, get_or, drop}
use Rattle.std.proofs.Common.{sym, ◌∙◌, ap, arith, length-append, length-drop, drop_at}
use mathlib.Core.List.{List, [], ◌∷◌, ◌++◌}
use Rattle.std.proofs.Math.Option.{Option, none, some}
use Rattle.std.proofs.Math.ListN.{get_or-append}
use Rattle.definitions.specs.Basics.{NONE, keep, run, upto}
use Rattle.definitions.specs.Charts.{Chart}
use Rattle.definitions.specs.Diagrams.{Diagram, size}
use Rattle.definitions.specs.Pairs.{least_cost, reached, reached_pairs}
use Rattle.definitions.specs.Plans.{graph, automaton}
use Rattle.definitions.specs.Promises.{shown, least_costs}
use Rattle.theory.specs.Basics.{Order, less, same, more, order, in_keep, member_at, at_member, length-map_run, get_d_map_upto}
use Rattle.theory.specs.Limits.{Valid}
use Rattle.theory.specs.Ways.{Rising}
use Rattle.theory.specs.Pairs.{cost_reached, reached_pairs_in}
use Rattle.demands.specs.Demands.{need, StaysFrom, At, Once, Reached}
use Rattle.demands.specs.Reached.{is_reached, reached_is, reached_cost, reached_inside}

-- ---- lists that rise

rising_from : (xs : List ℕ) (k : ℕ) → Rising k xs → (i : ℕ) → i < length xs → k ≤ get_or xs i 0
rising_from [] k r i h = absurd (omega arith)
rising_from (x ∷ xs) k r zero h = r.0
rising_from (x ∷ xs) k r (suc i) h = omega (arith, r.0, rising_from xs (suc x) r.1 i (omega arith))

rising_order : (xs : List ℕ) (k : ℕ) → Rising k xs → (i j : ℕ) → i < j → j < length xs → get_or xs i 0 < get_or xs j 0
rising_order [] k r i j h l = absurd (omega arith)
rising_order (x ∷ xs) k r i zero h l = absurd (omega arith)
rising_order (x ∷ xs) k r zero (suc j) h l = rising_from xs (suc x) r.1 j (omega arith)
rising_order (x ∷ xs) k r (suc i) (suc j) h l = rising_order xs (suc x) r.1 i j (omega arith) (omega arith)

rising_once : (xs : List ℕ) (k : ℕ) → Rising k xs → Once xs
rising_once xs k r i j p s t = go (order i j)
  where
    go : Order i j → i ≡ j
    go (less h) = absurd (omega (arith, rising_order xs k r i j h t.0, s.1, t.1))
    go (same q) = q
    go (more h) = absurd (omega (arith, rising_order xs k r j i h s.0, s.1, t.1))

earlier : (xs : List ℕ) (k : ℕ) → Rising (suc k) xs → Rising k xs
earlier [] k r = tt
earlier (x ∷ xs) k r = (omega (arith, r.0), r.1)

module _ (t : ℕ → Bool) where
  keep_rises : (k n : ℕ) → Rising k (keep t (run k n))
  keep_rises k zero = tt
  keep_rises k (suc n) = go (t k) (keep_rises (suc k) n)
    where
      go : (b : Bool) → Rising (suc k) (keep t (run (suc k) n)) → Rising k (cond b (k ∷ keep t (run (suc k) n)) (keep t (run (suc k) n)))
      go true r = (omega arith, r)
      go false r = earlier (keep t (run (suc k) n)) k r

  keep_few : (k n : ℕ) → length (keep t (run k n)) ≤ n
  keep_few k zero = omega arith
  keep_few k (suc n) = go (t k) (keep_few (suc k) n)
    where
      go : (b : Bool) → length (keep t (run (suc k) n)) ≤ n → length (cond b (k ∷ keep t (run (suc k) n)) (keep t (run (suc k) n))) ≤ suc n
      go true r = omega arith
      go false r = omega arith

module _ (c : Chart) (d : Diagram) (v : Valid (graph c)) where
  -- ---- the reached pairs

  pub pairs_all : (p m : ℕ) → Reached c d p m → (i : ℕ) × At (reached_pairs (graph c) (automaton c d)) i p
  pairs_all p m r =
      let t = member_at (reached_pairs (graph c) (automaton c d))
      (reached_pairs_in (graph c) (automaton c d) p (reached_inside c d v p m r)
      (cost_reached (graph c) (automaton c d) (p / size d) (p % size d) m (reached_is c d v p m r))) in
      (t.0, (t.1, t.2))

  pub pairs_only : (i p : ℕ) → At (reached_pairs (graph c) (automaton c d)) i p → (m : ℕ) × Reached c d p m
  unfolding reached_pairs
  pairs_only i p t =
      let kept : List ℕ = reached_pairs (graph c) (automaton c d) in
      let m = in_keep (λ (p : ℕ). reached (graph c) (automaton c d) (p / size d) (p % size d)) (upto (need c d)) (at_member kept i t.0) in
      reached_cost c d v p (ap (λ (p : ℕ). reached (graph c) (automaton c d) (p / size d) (p % size d)) (sym t.1) ∙ m.1)

  pub pairs_once : Once (reached_pairs (graph c) (automaton c d))
  unfolding reached_pairs
  pairs_once = rising_once (reached_pairs (graph c) (automaton c d)) 0 (keep_rises (λ (p : ℕ). reached (graph c) (automaton c d) (p / size d) (p % size d)) 0 (need c d))

  pub pairs_few : length (reached_pairs (graph c) (automaton c d)) ≤ need c d
  unfolding reached_pairs
  pairs_few = keep_few (λ (p : ℕ). reached (graph c) (automaton c d) (p / size d) (p % size d)) 0 (need c d)

  -- ---- the cost slice

  abbrev pub cost_at : ℕ → ℕ
  cost_at p = shown (least_cost (graph c) (automaton c d) (p / size d) (p % size d))

  pub costs_long : length (least_costs (graph c) (automaton c d)) ≡ need c d
  unfolding least_costs
  costs_long = length-map_run cost_at 0 (need c d)

  pub costs_entry : (p : ℕ) → p < need c d → get_or (least_costs (graph c) (automaton c d)) p 0 ≡ cost_at p
  unfolding least_costs
  costs_entry p h = get_d_map_upto cost_at (need c d) p 0 h

  module _ (cost cost' : List ℕ) (e : cost' ≡ least_costs (graph c) (automaton c d) ++ drop (need c d) cost) where
    entry : (p : ℕ) → p < need c d → get_or cost' p 0 ≡ cost_at p
    entry p h =
        ap (λ (l : List ℕ). get_or l p 0) e ∙ get_or-append (least_costs (graph c) (automaton c d)) (drop (need c d) cost) 0 p (omega (arith, costs_long))
        ∙ costs_entry p h

    pub cost_least : (p m : ℕ) → Reached c d p m → get_or cost' p 0 ≡ m
    cost_least p m r = entry p (reached_inside c d v p m r) ∙ ap (λ (o : Option ℕ). shown o) (reached_is c d v p m r)

    pub cost_unreached : (p : ℕ) → p < need c d → ((m : ℕ) → Reached c d p m → ⊥) → get_or cost' p 0 ≡ NONE
    cost_unreached p h z = entry p h ∙ go (least_cost (graph c) (automaton c d) (p / size d) (p % size d)) refl
      where
        go : (o : Option ℕ) → least_cost (graph c) (automaton c d) (p / size d) (p % size d) ≡ o → shown o ≡ NONE
        go none q = refl
        go (some m) q = absurd (z m (is_reached c d v p m q))

    pub cost_past : need c d ≤ length cost → StaysFrom (need c d) cost cost'
    cost_past h = record {
      long = ap (λ (l : List ℕ). length l) e ∙ length-append (least_costs (graph c) (automaton c d)) (drop (need c d) cost)
          ∙ omega (arith, costs_long, length-drop (need c d) cost);
      rest = ap (drop (need c d)) e ∙ drop_at (least_costs (graph c) (automaton c d)) (drop (need c d) cost) (need c d) costs_long;
    }
