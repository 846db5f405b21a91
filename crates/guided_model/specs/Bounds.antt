-- Where opened pairs stand, and how large costs and keys get.
-- Assumes nothing.
use Rattle.std.specs.Prelude.{ℕ, ◌+◌, ◌≤◌, ◌<◌, ◌≡◌, refl}
use Rattle.std.proofs.Common.{sym, ◌∙◌, ap, ap₂, arith}
use Rattle.std.proofs.Math.Option.{Option, none, some}
use Rattle.definitions.specs.Basics.{NONE}
use Rattle.definitions.specs.Ways.{Graph}
use Rattle.definitions.specs.Pairs.{Automaton, Estimate, pair, stage_of, node_of}
use Rattle.definitions.specs.Promises.{shown}
use Rattle.theory.specs.Basics.{at_most, none_not_some}
use Rattle.theory.specs.Ways.{way_climbs}
use Rattle.theory.specs.Pairs.{way_inside, node_of_inside, stage_of_pair, node_of_pair}
use Rattle.theory.specs.Product.{Reaches, reach_way, estimate_at}
use Rattle.guided_model.specs.State.{Guide, Openable}

-- an estimate as the tables have it: the mark where there is none
shown_none : (o : Option ℕ) (r : ℕ) → r ≡ shown o → ((m : ℕ) → o ≡ some m → m ≤ 1800000000) → r ≡ NONE → o ≡ none
shown_none none r e b q = refl
shown_none (some m) r e b q = absurd (omega (arith, b m refl))

shown_some : (o : Option ℕ) (r : ℕ) → r ≡ shown o → (r ≡ NONE → ⊥) → o ≡ some r
shown_some none r e q = absurd (q e)
shown_some (some m) r e q = ap (λ (x : ℕ). some x) (sym e)

-- the stage and the node of a pair's number
module _ (a : Automaton) (s n p : ℕ) (i : n < a.size) (e : p ≡ pair a s n) where
  pub stage_is : stage_of a p ≡ s
  stage_is = ap (λ (q : ℕ). stage_of a q) e ∙ stage_of_pair a s n i

  pub node_is : node_of a p ≡ n
  node_is = ap (λ (q : ℕ). node_of a q) e ∙ node_of_pair a s n i

module _ {g : Graph} {a : Automaton} {h : Estimate} (u : Guide g a h) where
  pub openable : (s n r : ℕ) → g.start ≤ s → n < a.size → h s n ≡ some r → Openable g a h (pair a s n)
  openable s n r b i e =
      (omega (arith, stage_is a s n _ i refl), (r, ap₂ h (stage_is a s n _ i refl) (node_is a s n _ i refl) ∙ e))

  pub reach_stage : (p k : ℕ) → Reaches g a p k → g.start ≤ stage_of a p
  reach_stage p k r =
      let w = reach_way g a u.lawful r in
      omega (arith, way_climbs g u.valid w.steps g.start w.way, w.ends)

  pub reach_cheap : (p k : ℕ) → Reaches g a p k → k ≤ 510000000
  reach_cheap p k r = (way_inside g a u.valid u.lawful (stage_of a p) (node_of a p) k (reach_way g a u.lawful r)).2

  pub node_inside : (p : ℕ) → node_of a p < a.size
  node_inside p = node_of_inside a p (omega (arith, u.lawful.root_inside))

  pub estimate_small : (p r : ℕ) → estimate_at a h p ≡ some r → r ≤ 1800000000
  estimate_small p r e = u.bounded (stage_of a p) (node_of a p) r (node_inside p) e

  -- what the estimate is where the tables show r for it
  pub estimate_none : (s n r : ℕ) → n < a.size → r ≡ shown (h s n) → r ≡ NONE → h s n ≡ none
  estimate_none s n r i e q = shown_none (h s n) r e (λ m f. u.bounded s n m i f) q

  pub estimate_some : (s n r : ℕ) → r ≡ shown (h s n) → (r ≡ NONE → ⊥) → h s n ≡ some r
  estimate_some s n r e q = shown_some (h s n) r e q

  -- a pair with an estimate is not one of node 0
  pub estimate_alive : (p r : ℕ) → estimate_at a h p ≡ some r → node_of a p ≡ 0 → ⊥
  estimate_alive p r e z = none_not_some r (sym (u.dead (stage_of a p)) ∙ ap (h (stage_of a p)) (sym z) ∙ e)

  -- steps that lead to node 0 lead to no estimate
  pub dead_steps : (n first until : ℕ) → ((e : ℕ) → first ≤ e → e < until → a.next e n ≡ 0) → (e : ℕ) → first ≤ e → e < until → h (g.to e) (a.next e n) ≡ none
  dead_steps n first until f e i j = ap (h (g.to e)) (f e i j) ∙ u.dead (g.to e)

  -- a step lowers the estimate by at most its cost
  pub step_rises : (e n rest r : ℕ) → e < g.count → h (g.to e) (a.next e n) ≡ some rest → h (g.from e) n ≡ some r → r ≤ g.cost e + rest
  step_rises e n rest r i q p = at_most _ r (g.cost e + rest) p (u.consistent.step e n rest i (rest, q, omega arith))
