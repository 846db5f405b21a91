-- The method `take` meets its contract: one of the counts is not 0.
-- Assumes nothing.
use mathlib.Core.Path.{refl}
use borrow.Author.Rules.{rules}
use Rattle.queue.proofs.Queue.take.Goals as goal

pub returns-clause-taken : goal.returns-clause-taken
returns-clause-taken c =
    λ p x. (search rules, c.take-next.ensures p x, refl)
