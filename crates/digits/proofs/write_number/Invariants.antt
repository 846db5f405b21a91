-- The loop of `digits::write_number`: what holds at its head, and its measure.
use Rattle.digits.proofs.Decimals.{Spelled}
use Rattle.digits.proofs.write_number.Given as goal

abbrev pub invariant-loop-left : goal.invariant-loop-left
invariant-loop-left l = Spelled l.n l.digits l.first l.left

abbrev pub decreases-loop-left : goal.decreases-loop-left
decreases-loop-left l = l.left
