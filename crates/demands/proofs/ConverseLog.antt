-- The guided search's log, the other way round: its promise, from what is demanded of it.
-- Assumes nothing.
use Rattle.std.specs.Prelude.{ℕ, suc, ◌-◌, ◌<◌, ◌≡◌, refl, Bool, true, false, eqb, length, get_or}
use Rattle.std.proofs.Common.{sym, ◌∙◌, ap, subst, arith, eqb-true, eq-eqb}
use mathlib.Core.List.{List, Memᴰ}
use Rattle.std.proofs.Math.Option.{Option, none, some}
use Rattle.definitions.specs.Charts.{Chart}
use Rattle.definitions.specs.Diagrams.{Diagram}
use Rattle.definitions.specs.Pairs.{reached_pairs}
use Rattle.definitions.specs.Plans.{graph, automaton, estimate}
use Rattle.definitions.specs.Promises as promises
use Rattle.definitions.specs.Promises.{Outcome, goal_at, Settled, Complete, Ended, Logged}
use Rattle.definitions.specs.declared.Answer.{Answer}
use Rattle.theory.specs.Basics.{at_member}
use Rattle.theory.specs.Limits.{Valid}
use Rattle.demands.specs.Demands.{At, Sum, Follows, Settles}
use Rattle.demands.specs.Reached.{reached_is, is_sum, sum_is, is_goal_pair, goal_pair_is, next_is}
use Rattle.demands.specs.Counted.{pairs_all}
use Rattle.demands.proofs.ConverseCall.{Cut, cut}
use Rattle.demands.proofs.ConverseSweep.{apart, no_longer}

module _ (c : Chart) (d : Diagram) (v : Valid (graph c)) (log log' : List ℕ) (r : Answer) (s : Settles c d log log' r) where
  abbrev entries : List ℕ
  entries = s.settled

  here : (i : ℕ) → i < length entries → At entries i (get_or entries i 0)
  here i h = (h, refl)

  -- ---- the settled pairs

  settled_is : Settled (graph c) (automaton c d) (estimate c d) entries
  settled_is = record {
    first = λ h. s.first (get_or entries 0 0) (here 0 h);
    inside = λ i h. s.inside i (get_or entries i 0) (here i h);
    sums = λ i h. let u = s.sums i (get_or entries i 0) (here i h) in (u.0, sum_is c d v (get_or entries i 0) u.0 u.1);
    rises = λ i j k m h l x y.
        s.rises i j (get_or entries i 0) (get_or entries j 0) k m h (here i (omega arith)) (here j l)
        (is_sum c d v (get_or entries i 0) k x) (is_sum c d v (get_or entries j 0) m y);
    once = apart entries s.once;
    follows = λ j h l.
        let u = s.follows j (get_or entries j 0) h (here j l) in
        (u.0, u.2, next_is c d v (get_or entries u.0 0) (get_or entries j 0) (subst (λ (p : ℕ). Follows c d p (get_or entries j 0)) (sym u.3.1) u.4));
  }

  -- ---- how the search ended

  complete_is : (Q : ℕ → Type 0) → ((p k : ℕ) → Sum c d p k → Q k → (i : ℕ) × At entries i p) → Complete (graph c) (automaton c d) (estimate c d) Q entries
  complete_is Q f p h k e q =
      let t = f p k (is_sum c d v p k e) q in
      subst (λ (p : ℕ). Memᴰ p entries) t.1.1 (at_member entries t.0 t.1.0)

  goal_is : r.number ≡ 0 → (i : ℕ) → i < length entries → goal_at (graph c) (automaton c d) (estimate c d) (get_or entries i 0) ≡ eqb (suc i) (length entries)
  goal_is z i h = go (goal_at (graph c) (automaton c d) (estimate c d) (get_or entries i 0)) (eqb (suc i) (length entries)) refl refl
    where
      go : (a b : Bool) → goal_at (graph c) (automaton c d) (estimate c d) (get_or entries i 0) ≡ a → eqb (suc i) (length entries) ≡ b → a ≡ b
      go true true p q = refl
      go false false p q = refl
      go true false p q =
          let l = s.only_goal z i (get_or entries i 0) (here i h) (is_goal_pair c d v (get_or entries i 0) p) in
          sym (eq-eqb (suc i) (length entries) l) ∙ q
      go false true p q =
          let g = (s.last_goal z i (get_or entries i 0) (here i h) (eqb-true (suc i) (length entries) q)).0 in
          sym p ∙ goal_pair_is c d v (get_or entries i 0) g

  found_is : r.number ≡ 0 → promises.Found (graph c) (automaton c d) (estimate c d) r.cost entries
  found_is z =
      let n : 0 < length entries = s.some_entry z in
      let last : length entries - 1 < length entries = omega arith in
      record {
        some_entry = n;
        only_goal = goal_is z;
        goal_cost =
            reached_is c d v (get_or entries (length entries - 1) 0) r.cost
            (s.last_goal z (length entries - 1) (get_or entries (length entries - 1) 0) (here (length entries - 1) last) (omega arith)).1;
        below = complete_is (λ k. k < r.cost) (s.below z);
        none_above = λ i k h e. s.none_above z i (get_or entries i 0) k (here i h) (is_sum c d v (get_or entries i 0) k e);
      }

  ended_is : (best : Option ℕ) (plan plan' : List ℕ) → Outcome best c d r.count plan plan' r → Ended (graph c) (automaton c d) (estimate c d) best entries
  ended_is none plan plan' o = complete_is (λ k. Unit {0}) (λ p k t u. s.all (ap (λ (a : Answer). a.number) o.0) p k t)
  ended_is (some m) plan plan' o =
      subst (λ (m : ℕ). promises.Found (graph c) (automaton c d) (estimate c d) m entries) (ap (λ (a : Answer). a.cost) o.0)
      (found_is (ap (λ (a : Answer). a.number) o.0))

  -- ---- the log slice

  pub logged_is : (best : Option ℕ) (plan plan' : List ℕ) → Outcome best c d r.count plan plan' r
      → Logged (graph c) (automaton c d) (estimate c d) best r.count log log'
  logged_is best plan plan' o =
      let k : Cut r.count entries log log' = cut _ _ _ _ s.counted s.fits s.written in
      let few = no_longer entries (reached_pairs (graph c) (automaton c d)) s.once
      (λ i p t. let u = s.sums i p t in pairs_all c d v p u.1.cost u.1.reached) in
      record {
        fits = k.fits;
        settled = subst (Settled (graph c) (automaton c d) (estimate c d)) (sym k.first) settled_is;
        ended = subst (Ended (graph c) (automaton c d) (estimate c d) best) (sym k.first) (ended_is best plan plan' o);
        few = omega (arith, few, s.counted);
        long = k.long;
        rest = k.rest;
      }
