-- `guided_ends::conclude` meets its contract.
use Rattle.guided_ends.proofs.Concluding.{concludes_found}
use Rattle.guided_ends.proofs.conclude.Goals as goal

pub returns-in-Some : goal.returns-in-Some
returns-in-Some c =
    concludes_found c.in-Some.is c.write_plan-length.ensures c.accepted.ensures
