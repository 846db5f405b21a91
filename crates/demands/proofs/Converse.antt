-- The promises of both calls follow from the demands, so with `Demanded` the two say the same, and a clause of the demands that is lost or weakened is found here, or in `Concluded` where it follows from the others.
-- Assumes nothing.
use Rattle.std.specs.Prelude.{ℕ, ◌≡◌, refl, List, ◌↔◌}
use Rattle.std.proofs.Common.{subst, arith}
use Rattle.definitions.specs.Charts.{Chart}
use Rattle.definitions.specs.Diagrams.{Diagram}
use Rattle.definitions.specs.Plans.{cheapest}
use Rattle.definitions.specs.Answers.{Load, ready, refused}
use Rattle.definitions.specs.Promises.{Outcome, Swept, Guided, SweepSlices, GuidedSlices, sweep_load, guided_load, SweepCall, GuidedCall}
use Rattle.definitions.specs.declared.Answer.{Answer}
use Rattle.theory.specs.Limits.{Valid}
use Rattle.demands.specs.Demands.{Call, sweep_call, guided_call, Passes, Demand1, Demand2, Cheapest, Sweeps, Settles, Demands}
use Rattle.demands.specs.Checked.{valid}
use Rattle.demands.proofs.Checked.{ready_passes}
use Rattle.demands.proofs.ConverseCall.{stopped, scratch, outcome}
use Rattle.demands.proofs.ConverseSweep.{count_is, costs_are}
use Rattle.demands.proofs.ConverseLog.{logged_is}
use Rattle.demands.proofs.Demanded.{demanded}

-- ---- the sweep

module _ (chart rules : List ℕ) (lent lent' : SweepSlices) (r : Answer) where
  abbrev swept : Call
  swept = sweep_call lent lent' r

  module _ (one : Demand1 chart rules swept) (two : Demand2 chart rules swept)
      (cheap : (c : Chart) (d : Diagram) → Passes chart rules swept c d → Cheapest c d r)
      (sweeps : (c : Chart) (d : Diagram) → Passes chart rules swept c d → Sweeps c d lent'.cost r) where
    is_swept : (o : Load) → sweep_load chart rules lent ≡ o → Swept o lent.plan lent'.plan lent.cost lent'.cost r
    is_swept (refused n f p) e = let t = stopped chart rules swept one two n f p e in (t.0, t.1, scratch chart rules swept one two (refused n f p) e 0)
    is_swept (ready c d) e =
        let a : Passes chart rules swept c d = ready_passes chart rules swept c d e in
        let v : Valid _ = valid chart rules c d a.files in
        let s = sweeps c d a in (
          subst (λ (k : ℕ). Outcome (cheapest c d) c d k lent.plan lent'.plan r) (count_is c d v lent'.cost r s) (outcome chart rules swept one two c d a (cheap c d a)),
          costs_are c d v lent'.cost r s lent.cost (a.space.works 0 (omega arith)) (one.past_stays c d a 0),
        )

    pub sweep_call_lem : SweepCall chart rules lent lent' r
    sweep_call_lem = record {
      swept = is_swept (sweep_load chart rules lent) refl;
      via = scratch chart rules swept one two (sweep_load chart rules lent) refl 1;
      nodes = scratch chart rules swept one two (sweep_load chart rules lent) refl 2;
    }

-- ---- the guided search

module _ (chart rules : List ℕ) (given given' : GuidedSlices) (q : Answer) where
  abbrev guided : Call
  guided = guided_call given given' q

  module _ (one : Demand1 chart rules guided) (two : Demand2 chart rules guided)
      (cheap : (c : Chart) (d : Diagram) → Passes chart rules guided c d → Cheapest c d q)
      (settles : (c : Chart) (d : Diagram) → Passes chart rules guided c d → Settles c d given.log given'.log q) where
    is_guided : (o : Load) → guided_load chart rules given ≡ o → Guided o given.plan given'.plan given.log given'.log q
    is_guided (refused n f p) e = let t = stopped chart rules guided one two n f p e in (t.0, t.1, scratch chart rules guided one two (refused n f p) e 5)
    is_guided (ready c d) e =
        let a : Passes chart rules guided c d = ready_passes chart rules guided c d e in
        let o = outcome chart rules guided one two c d a (cheap c d a) in
        (o, logged_is c d (valid chart rules c d a.files) given.log given'.log q (settles c d a) (cheapest c d) given.plan given'.plan o)

    pub guided_call_lem : GuidedCall chart rules given given' q
    guided_call_lem =
        let work = scratch chart rules guided one two (guided_load chart rules given) refl in
        record {
          guided = is_guided (guided_load chart rules given) refl;
          keys = work 0;
          via = work 1;
          heap = work 2;
          pos = work 3;
          stack = work 4;
        }

-- ---- both

module _ (chart rules : List ℕ) (lent lent' : SweepSlices) (r : Answer) (given given' : GuidedSlices) (q : Answer) where
  pub converse : Demands chart rules lent lent' r given given' q → SweepCall chart rules lent lent' r × GuidedCall chart rules given given' q
  converse t =
      let b = t.both_3 in (
        sweep_call_lem chart rules lent lent' r t.sweep_1 t.sweep_2 b.sweep_cheapest b.sweeps,
        guided_call_lem chart rules given given' q t.guided_1 t.guided_2 b.guided_cheapest b.settles,
      )

  -- the demands and the promises say the same
  pub equivalent : (SweepCall chart rules lent lent' r × GuidedCall chart rules given given' q) ↔ Demands chart rules lent lent' r given given' q
  equivalent = (λ t. demanded chart rules lent lent' r given given' q t.0 t.1, converse)
