-- `relax` meets its contract: one law for each way.
-- Assumes nothing.
use Prim.Native.Nat.{◌≤◌}
use borrow.Author.Rules.{rules}
use lib.ListN.{get_or}
use Rattle.definitions.specs.Basics.{NONE}
use Rattle.guided_offers.proofs.Relaxing.{relax_none, relax_inserts, relax_decreases, relax_opens, relax_lowers}
use Rattle.guided_offers.proofs.Work.relax.Goals as goal

pub returns-then-old-v-clause-relaxed : goal.returns-then-old-v-clause-relaxed
returns-then-old-v-clause-relaxed c =
    λ x. relax_none x c.if-old-v.true

pub returns-then-old-clause-relaxed : goal.returns-then-old-clause-relaxed
returns-then-old-clause-relaxed c =
    λ x. relax_inserts x c.if-old-v.false (c.insert.ensures.inserted (relax_opens x c.if-old.true))

pub returns-clause-relaxed : goal.returns-clause-relaxed
returns-clause-relaxed c =
    let small : get_or c.args.self.now.queue.now.keys.now c.args.y 0 ≤ NONE = search rules in
    λ x.
    let asked = relax_lowers x c.if-old-v.false small c.if-old.false in
    relax_decreases x c.if-old-v.false asked.here c.decrease.ensures.stack_stays c.decrease.ensures.counts_stay (c.decrease.ensures.decreased _ _ asked)
