-- The demands follow from what the two calls promise, and from nothing else.
-- Assumes nothing.
use Rattle.std.specs.Prelude.{ℕ, zero, suc, ◌≤◌, ◌≡◌, refl, List, [], ◌∷◌, length, get_or}
use Rattle.std.proofs.Common.{◌∙◌, ap, ap₂, subst, arith}
use Rattle.std.proofs.Math.Option.{Option, none, some}
use Rattle.definitions.specs.Charts.{Chart}
use Rattle.definitions.specs.Diagrams.{Diagram}
use Rattle.definitions.specs.Pairs.{reached_pairs}
use Rattle.definitions.specs.Plans.{graph, automaton, cheapest}
use Rattle.definitions.specs.Answers.{Load, ready, refused}
use Rattle.definitions.specs.Promises.{Outcome, Scratch, SweepSlices, GuidedSlices, SweepPromise, GuidedPromise, SweepCall, GuidedCall}
use Rattle.definitions.specs.declared.Answer.{Answer}
use Rattle.theory.specs.Limits.{Valid}
use Rattle.demands.specs.Demands.{Call, sweep_call, guided_call, need, Passes, StaysFrom, Searched, Sweeps, Settles, Demands}
use Rattle.demands.specs.Checked.{load_of, valid}
use Rattle.demands.proofs.Checked.{passes_ready, ready_passes}
use Rattle.demands.specs.Counted.{pairs_all, pairs_only, pairs_once, cost_least, cost_unreached, cost_past}
use Rattle.demands.specs.Results.{Promised}
use Rattle.demands.proofs.Results.{demand_1, demand_2, is_cheapest}
use Rattle.demands.proofs.Agreed.{same_pass, agreed}
use Rattle.demands.proofs.Settled.{settles, log_past}

-- past the slices of a list there is nothing
nothing : (n : ℕ) → StaysFrom n [] []
nothing n = record { long = refl; rest = refl }

scratch_past : (c : Chart) (d : Diagram) (work work' : List ℕ) → Scratch (ready c d) work work' → StaysFrom (need c d) work work'
scratch_past c d work work' s = record { long = s.0; rest = s.1 }

-- the count that an outcome speaks of is the answer's
pub outcome_count : (best : Option ℕ) (c : Chart) (d : Diagram) (k : ℕ) (plan plan' : List ℕ) (r : Answer) → Outcome best c d k plan plan' r → r.count ≡ k
outcome_count none c d k plan plan' r o = ap (λ (a : Answer). a.count) o.0
outcome_count (some m) c d k plan plan' r o = ap (λ (a : Answer). a.count) o.0

-- ---- the sweep

module _ (chart rules : List ℕ) (lent lent' : SweepSlices) (r : Answer) where
  abbrev swept : Call
  swept = sweep_call lent lent' r

  module _ (promise : SweepCall chart rules lent lent' r) where
    sweep_at : (c : Chart) (d : Diagram) → Passes chart rules swept c d → SweepPromise (ready c d) lent lent' r
    sweep_at c d a = subst (λ (o : Load). SweepPromise o lent lent' r) (passes_ready chart rules swept c d a) promise

    pub sweep_promised : Promised (load_of chart rules swept) swept
    sweep_promised = go (load_of chart rules swept) refl promise
      where
        go : (o : Load) → load_of chart rules swept ≡ o → SweepPromise o lent lent' r → Promised o swept
        go (refused n f p) e t = (t.swept.0, t.swept.1, ap₂ (λ (x : List ℕ) (y : List (List ℕ)). x ∷ y) t.swept.2 (ap₂ (λ (x y : List ℕ). x ∷ y ∷ []) t.via t.nodes))
        go (ready c d) e t = (length (reached_pairs (graph c) (automaton c d)), t.swept.0, past)
          where
            a : Passes chart rules swept c d
            a = ready_passes chart rules swept c d e

            past : (i : ℕ) → StaysFrom (need c d) (get_or swept.works i []) (get_or swept.works' i [])
            past zero = cost_past c d (valid chart rules c d a.files) lent.cost lent'.cost t.swept.1 (a.space.works 0 (omega arith))
            past (suc zero) = scratch_past c d lent.via lent'.via t.via
            past (suc (suc zero)) = scratch_past c d lent.nodes lent'.nodes t.nodes
            past (suc (suc (suc i))) = nothing (need c d)

    pub swept_count : (c : Chart) (d : Diagram) → Passes chart rules swept c d → r.count ≡ length (reached_pairs (graph c) (automaton c d))
    swept_count c d a = outcome_count (cheapest c d) c d _ lent.plan lent'.plan r (sweep_at c d a).swept.0

    pub is_swept : (c : Chart) (d : Diagram) → Passes chart rules swept c d → Sweeps c d lent'.cost r
    is_swept c d a =
        let v : Valid (graph c) = valid chart rules c d a.files in
        let t = sweep_at c d a in
        record {
          least = cost_least c d v lent.cost lent'.cost t.swept.1;
          unreached = cost_unreached c d v lent.cost lent'.cost t.swept.1;
          pairs = reached_pairs (graph c) (automaton c d);
          all = pairs_all c d v;
          only = pairs_only c d v;
          once = pairs_once c d v;
          counted = swept_count c d a;
        }

-- ---- the guided search

module _ (chart rules : List ℕ) (given given' : GuidedSlices) (q : Answer) where
  abbrev guided : Call
  guided = guided_call given given' q

  module _ (promise : GuidedCall chart rules given given' q) where
    guided_at : (c : Chart) (d : Diagram) → Passes chart rules guided c d → GuidedPromise (ready c d) given given' q
    guided_at c d a = subst (λ (o : Load). GuidedPromise o given given' q) (passes_ready chart rules guided c d a) promise

    pub guided_promised : Promised (load_of chart rules guided) guided
    guided_promised = go (load_of chart rules guided) refl promise
      where
        go : (o : Load) → load_of chart rules guided ≡ o → GuidedPromise o given given' q → Promised o guided
        go (refused n f p) e t =
            let tail = ap₂ (λ (x y : List ℕ). x ∷ y ∷ given'.log ∷ []) t.pos t.stack ∙ ap (λ (x : List ℕ). given.pos ∷ given.stack ∷ x ∷ []) t.guided.2 in
            let middle = ap₂ (λ (x : List ℕ) (y : List (List ℕ)). x ∷ y) t.heap tail in (
              t.guided.0,
              t.guided.1,
              ap₂ (λ (x : List ℕ) (y : List (List ℕ)). x ∷ y) t.keys (ap₂ (λ (x : List ℕ) (y : List (List ℕ)). x ∷ y) t.via middle),
            )
        go (ready c d) e t = (q.count, t.guided.0, past)
          where
            v : Valid (graph c)
            v = valid chart rules c d (ready_passes chart rules guided c d e).files

            past : (i : ℕ) → StaysFrom (need c d) (get_or guided.works i []) (get_or guided.works' i [])
            past zero = scratch_past c d given.keys given'.keys t.keys
            past (suc zero) = scratch_past c d given.via given'.via t.via
            past (suc (suc zero)) = scratch_past c d given.heap given'.heap t.heap
            past (suc (suc (suc zero))) = scratch_past c d given.pos given'.pos t.pos
            past (suc (suc (suc (suc zero)))) = scratch_past c d given.stack given'.stack t.stack
            past (suc (suc (suc (suc (suc zero))))) = log_past c d v given.plan given'.plan given.log given'.log q t.guided.0 t.guided.1
            past (suc (suc (suc (suc (suc (suc i)))))) = nothing (need c d)

    pub is_settled : (c : Chart) (d : Diagram) → Passes chart rules guided c d → Settles c d given.log given'.log q
    is_settled c d a =
        let t = guided_at c d a in
        settles c d (valid chart rules c d a.files) given.plan given'.plan given.log given'.log q t.guided.0 t.guided.1

    pub settled_few : (c : Chart) (d : Diagram) → Passes chart rules guided c d → q.count ≤ length (reached_pairs (graph c) (automaton c d))
    settled_few c d a = (guided_at c d a).guided.1.few

-- ---- both

module _ (chart rules : List ℕ) (lent lent' : SweepSlices) (r : Answer) (given given' : GuidedSlices) (q : Answer) where
  pub demanded : SweepCall chart rules lent lent' r → GuidedCall chart rules given given' q → Demands chart rules lent lent' r given given' q
  demanded s g =
      let x = sweep_call lent lent' r in
      let y = guided_call given given' q in
      let p = sweep_promised chart rules lent lent' r s in
      let p' = guided_promised chart rules given given' q g in
      let few : Searched r → Searched q → q.count ≤ r.count =
      λ h i. let a = same_pass chart rules x y p p' h i in
      omega (arith, settled_few chart rules given given' q g a.0 a.1 a.3, swept_count chart rules lent lent' r s a.0 a.1 a.2) in
      record {
        sweep_1 = demand_1 chart rules x p;
        guided_1 = demand_1 chart rules y p';
        sweep_2 = demand_2 chart rules x p;
        guided_2 = demand_2 chart rules y p';
        both_3 = record {
          sweep_cheapest = is_cheapest chart rules x p;
          guided_cheapest = is_cheapest chart rules y p';
          agree = agreed chart rules x y p p' few;
          sweeps = is_swept chart rules lent lent' r s;
          settles = is_settled chart rules given given' q g;
        };
      }
