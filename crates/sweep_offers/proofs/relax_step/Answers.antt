-- `sweep_offers::relax_step` meets its contract: to node 0 nothing is offered, else the pair is.
use Rattle.sweep_offers.proofs.Stepping.{stepped_none, stepped_offer}
use Rattle.sweep_offers.proofs.relax_step.Goals as goal

pub returns-then-t-eq0 : goal.returns-then-t-eq0
returns-then-t-eq0 c = stepped_none _ _ _ _ _ _ _ c.if-t-eq0.true

pub returns : goal.returns
returns c =
    stepped_offer _ _ _ _ _ _ _ _ _ _ _ c.if-t-eq0.false c.to-s.ensures c.cost.ensures c.packed-mark.ensures c.offer.ensures
