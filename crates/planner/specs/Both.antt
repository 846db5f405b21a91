-- What one call that runs both searches promises: what each search promises by itself, and the three demands on both.
-- Assumes nothing.
use Rattle.std.specs.Prelude.{List, ℕ}
use Rattle.definitions.specs.Promises.{SweepSlices, SweepCall, GuidedSlices, GuidedCall}
use Rattle.demands.specs.Demands.{Demands}
use Rattle.demands.proofs.Demanded.{demanded}
use Rattle.planner.specs.declared.Answers.{Answers}

-- both files, the slices lent to the sweep and to the guided search before and after, and both answers
pub record BothCall (chart rules : List ℕ) (lent lent' : SweepSlices) (given given' : GuidedSlices) (r : Answers) : Type 0 where
  pub sweep : SweepCall chart rules lent lent' r.sweep
  pub guided : GuidedCall chart rules given given' r.guided
  pub demands : Demands chart rules lent lent' r.sweep given given' r.guided

pub both_call : {chart rules : List ℕ} {lent lent' : SweepSlices} {given given' : GuidedSlices} {r : Answers}
    → SweepCall chart rules lent lent' r.sweep → GuidedCall chart rules given given' r.guided → BothCall chart rules lent lent' given given' r
both_call s g = record { sweep = s; guided = g; demands = demanded _ _ _ _ _ _ _ _ s g }
