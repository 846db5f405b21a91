-- `cycles::answered` meets its contract.
use Prim.Native.Nat.{ℕ}
use mathlib.Core.Path.{refl, ap}
use native.Mathlib.Omega.{arith}
use Rattle.definitions.specs.Promises.{answered_by}
use Rattle.cycles.proofs.Answering.{entry_seeks, entry_found, entry_none}
use Rattle.cycles.proofs.entry.answered.Goals as goal

pub seek-ended-requires : goal.seek-ended-requires
seek-ended-requires c =
    entry_seeks c.requires c.args.c (omega (arith, c.if-z-c.false)) (omega (arith, c.if-z-c-2.false))

pub returns-in-Some-clause-answered : goal.returns-in-Some-clause-answered
returns-in-Some-clause-answered c =
    entry_found c.requires c.args.c (omega (arith, c.if-z-c.false)) (omega (arith, c.if-z-c-2.false))
    c.seek-ended.ensures.sought c.in-Some.is refl

pub returns-in-None-clause-answered : goal.returns-in-None-clause-answered
returns-in-None-clause-answered c =
    entry_none c.requires c.args.c (omega (arith, c.if-z-c.false)) (omega (arith, c.if-z-c-2.false))
    c.seek-ended.ensures.sought c.in-None.is (ap (λ (k : ℕ). answered_by c.args.c k 0 c.seek-ended.result.count) c.number-in-None.ensures)
