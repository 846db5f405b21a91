-- The sweep, the other way round: from the entries of the cost slice its whole list, and from the list of reached pairs their number.
-- Assumes nothing.
use Rattle.std.specs.Prelude.{ℕ, ◌/◌, ◌%◌, ◌≤◌, ◌<◌, ◌≡◌, refl, length, get_or, take, drop}
use Rattle.std.proofs.Common.{sym, ◌∙◌, ap₂, subst, arith, length-take, take-append-drop, get_or-take, ext_get_or}
use mathlib.Core.List.{List, ◌++◌, Memᴰ}
use Rattle.std.proofs.Math.Option.{Option, none, some}
use Rattle.definitions.specs.Charts.{Chart}
use Rattle.definitions.specs.Diagrams.{Diagram, size}
use Rattle.definitions.specs.Pairs.{least_cost, reached_pairs}
use Rattle.definitions.specs.Plans.{graph, automaton}
use Rattle.definitions.specs.Promises.{shown, least_costs}
use Rattle.definitions.specs.declared.Answer.{Answer}
use Rattle.theory.specs.Basics.{none_not_some, at_member}
use Rattle.theory.specs.Counting as counting
use Rattle.theory.specs.Counting.{list_among}
use Rattle.theory.specs.Limits.{Valid}
use Rattle.demands.specs.Demands.{need, StaysFrom, At, Once, Sweeps}
use Rattle.demands.specs.Reached.{is_reached, reached_is}
use Rattle.demands.specs.Counted.{pairs_all, pairs_only, pairs_once, cost_at, costs_long, costs_entry}

-- ---- lists with no number twice

pub apart : (xs : List ℕ) → Once xs → counting.Once xs
apart xs once i j h l e = omega (arith, once i j (get_or xs j 0) (omega arith, e) (l, refl))

-- such a list is no longer than one that has all its members
pub no_longer : (xs ys : List ℕ) → Once xs → ((i p : ℕ) → At xs i p → (j : ℕ) × At ys j p) → length xs ≤ length ys
no_longer xs ys once f = list_among xs ys member (apart xs once)
  where
    member : (i : ℕ) → i < length xs → Memᴰ (get_or xs i 0) ys
    member i h =
        let t = f i (get_or xs i 0) (h, refl) in
        subst (λ (p : ℕ). Memᴰ p ys) t.1.1 (at_member ys t.0 t.1.0)

module _ (c : Chart) (d : Diagram) (v : Valid (graph c)) (cost' : List ℕ) (r : Answer) (s : Sweeps c d cost' r) where
  -- ---- the count

  pub count_is : r.count ≡ length (reached_pairs (graph c) (automaton c d))
  count_is =
      let all : List ℕ = reached_pairs (graph c) (automaton c d) in
      let few : length s.pairs ≤ length all = no_longer s.pairs all s.once (λ i p t. let u = s.only i p t in pairs_all c d v p u.0 u.1) in
      let many : length all ≤ length s.pairs = no_longer all s.pairs (pairs_once c d v) (λ i p t. let u = pairs_only c d v i p t in s.all p u.0 u.1) in
      omega (arith, few, many, s.counted)

  -- ---- the cost slice

  entry : (p : ℕ) → p < need c d → get_or cost' p 0 ≡ cost_at c d v p
  entry p h = go (least_cost (graph c) (automaton c d) (p / size d) (p % size d)) refl
    where
      go : (o : Option ℕ) → least_cost (graph c) (automaton c d) (p / size d) (p % size d) ≡ o → get_or cost' p 0 ≡ shown o
      go none q = s.unreached p h (λ m t. none_not_some m (sym q ∙ reached_is c d v p m t))
      go (some m) q = s.least p m (is_reached c d v p m q)

  pub costs_are : (cost : List ℕ) → need c d ≤ length cost → StaysFrom (need c d) cost cost' → cost' ≡ least_costs (graph c) (automaton c d) ++ drop (need c d) cost
  costs_are cost h past =
      let front : take (need c d) cost' ≡ least_costs (graph c) (automaton c d) =
      ext_get_or 0 (take (need c d) cost') (least_costs (graph c) (automaton c d)) (omega (arith, length-take (need c d) cost', costs_long c d v, past.long))
      (λ i l. same i (omega (arith, length-take (need c d) cost'))) in
      sym (take-append-drop (need c d) cost') ∙ ap₂ (λ (x y : List ℕ). x ++ y) front past.rest
    where
      same : (i : ℕ) → i < need c d → get_or (take (need c d) cost') i 0 ≡ get_or (least_costs (graph c) (automaton c d)) i 0
      same i l = get_or-take (need c d) cost' i 0 l ∙ entry i l ∙ sym (costs_entry c d v i l)
