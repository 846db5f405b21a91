-- The plan of a reached pair: its trail is a way from the start to it, at its cost.
-- Assumes nothing.
use Rattle.std.specs.Prelude.{ℕ, zero, suc, ◌+◌, ◌*◌, ◌≤◌, ◌<◌, ◌≡◌, List, [], ◌∷◌, ◌⊎◌, length}
use Rattle.std.proofs.Math.Path.{refl, ap, subst}
use Rattle.std.proofs.Common.{sym, ◌∙◌, ap₂, subst₂, inl, inr, arith}
use Rattle.std.proofs.Math.ListN.{get_or}
use Rattle.definitions.specs.Basics.{NONE}
use Rattle.definitions.specs.Ways.{Graph, way_cost}
use Rattle.definitions.specs.Pairs.{Automaton}
use Rattle.theory.specs.Limits.{Valid}
use Rattle.theory.specs.Basics.{either}
use Rattle.theory.specs.Ways.{way_climbs}
use Rattle.theory.specs.Pairs.{WayTo, way_start, way_next}
use Rattle.via_marks.specs.Marks.{packed}
use Rattle.trace.specs.Trails.{Trail, begin, more}
use Rattle.sweep_model.specs.Model.{Rows, cost_at}
use Rattle.sweep_model.specs.Rows.{Via, Entry, Table}

-- the steps of a trail to a pair are a way to it, at this cost
pub record Traced (g : Graph) (a : Automaton) (via from : List ℕ) (s n k : ℕ) : Type 0 where
  pub way : WayTo g a s n k
  pub trail : Trail via from a.size g.start s n way.steps

traced_at : (g : Graph) (a : Automaton) (via from : List ℕ) (s n k s' n' k' : ℕ) → s ≡ s' → n ≡ n' → k ≡ k' → Traced g a via from s n k → Traced g a via from s' n' k'
traced_at g a via from s n k s' n' k' p q r t =
    subst (Traced g a via from s' n') r (subst₂ (λ (i j : ℕ). Traced g a via from i j k) p q t)

module _ (g : Graph) (a : Automaton) (v : Valid g) (below : ℕ) (r : Rows) (t : Table g a below r)
    (from : List ℕ) (froms : (e : ℕ) → e < g.count → get_or from e 0 ≡ g.from e) where
  start_traced : Traced g a r.via from g.start a.root 0
  unfolding way_start
  start_traced = record { way = way_start g a; trail = begin }

  step_traced : (s n e m k : ℕ) → e < g.count → m < a.size → g.to e ≡ s → get_or r.via (s * a.size + n) 0 ≡ packed s e m → a.next e m ≡ n
      → Traced g a r.via from (g.from e) m k → Traced g a r.via from s n (k + g.cost e)
  unfolding way_next
  step_traced s n e m k he hm hs hv hn x =
      let f : get_or from e 0 ≡ g.from e = froms e he in
      let up = v.forward e he in
      let low = way_climbs g v x.way.steps g.start x.way.way in
      let rest = subst (λ (i : ℕ). Trail r.via from a.size g.start i m x.way.steps) (sym f) x.trail in
      let u : Traced g a r.via from (g.to e) (a.next e m) (k + g.cost e) = record {
        way = way_next g a (g.from e) m k e x.way he refl;
        trail = more {s = g.to e} {n = a.next e m} {e = e} {m = m} (omega (arith, x.way.ends)) (omega (arith, v.few)) hm (omega arith) (ap₂ (λ (i j : ℕ). get_or r.via (i * a.size + j) 0) hs hn ∙ hv ∙ ap (λ (i : ℕ). packed i e m) (sym hs)) rest;
      } in
      traced_at g a r.via from (g.to e) (a.next e m) (k + g.cost e) s n (k + g.cost e) hs hn refl u

  -- only the empty way leads to the start's stage
  start_free : (s n k : ℕ) → s ≡ g.start → WayTo g a s n k → k ≡ 0
  start_free s n k q w = go w.steps w.costs (omega (arith, way_climbs g v w.steps g.start w.way, w.ends))
    where
      go : (steps : List ℕ) → way_cost g steps ≡ k → length steps ≤ 0 → k ≡ 0
      go [] c h = sym c
      go (e ∷ rest) c h = absurd (omega arith)

  came : (s n : ℕ) → Entry g a r below s n → ((s ≡ g.start) × (n ≡ a.root)) ⊎ Via g a r below s n
      → ((x : Via g a r below s n) → Traced g a r.via from (g.from x.step) x.node (cost_at a.size r (g.from x.step) x.node))
      → Traced g a r.via from s n (cost_at a.size r s n)
  came s n e (inl q) ih =
      traced_at g a r.via from g.start a.root 0 s n (cost_at a.size r s n) (sym q.0) (sym q.1) (sym (start_free s n (cost_at a.size r s n) q.0 e.way)) start_traced
  came s n e (inr x) ih =
      subst (Traced g a r.via from s n) (sym x.costs)
      (step_traced s n x.step x.node (cost_at a.size r (g.from x.step) x.node) x.exists x.inside x.enters x.packs x.advances (ih x))

  traced_to : (fuel s n : ℕ) → s ≤ fuel → s < g.stages → n < a.size → cost_at a.size r s n < NONE
      → Traced g a r.via from s n (cost_at a.size r s n)
  traced_to zero s n f hs hn low =
      either (t.cell s n hs hn) (λ u. absurd (omega arith)) (λ e. came s n e e.came (λ x. absurd (omega (arith, v.forward x.step x.exists, x.enters))))
  traced_to (suc fuel) s n f hs hn low =
      either (t.cell s n hs hn) (λ u. absurd (omega arith))
      (λ e. came s n e e.came (λ x.
      let up = v.forward x.step x.exists in
      traced_to fuel (g.from x.step) x.node (omega (arith, x.enters)) (omega (arith, x.enters)) x.inside x.reached))

  -- every reached pair of the table
  pub traced : (s n : ℕ) → s < g.stages → n < a.size → cost_at a.size r s n < NONE → Traced g a r.via from s n (cost_at a.size r s n)
  traced s n = traced_to s s n (omega arith)
