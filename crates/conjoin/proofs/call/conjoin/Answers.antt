-- `conjoin::conjoin` meets its contract.
use Rattle.std.proofs.Common.{refl}
use Rattle.conjoin.specs.Joins.{call_joined}
use Rattle.conjoin.proofs.call.conjoin.Goals as goal

pub returns-in-Ok : goal.returns-in-Ok
returns-in-Ok c =
    call_joined _ _ _ _ _ _ _ refl c.in-Ok.ensures _ _ _ c.join.ensures
