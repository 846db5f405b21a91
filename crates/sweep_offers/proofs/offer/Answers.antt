-- `sweep_offers::offer` meets its contract: one law for each way out.
use Rattle.sweep_offers.proofs.Offering.{offer_kept, offer_new, offer_lower}
use Rattle.sweep_offers.proofs.offer.Goals.{then-old, else-old}
use Rattle.sweep_offers.proofs.offer.Goals as goal

pub returns-then-old-v : goal.returns-then-old-v
returns-then-old-v c = offer_kept _ _ _ _ _ _ c.if-old-v.true

pub returns : goal.returns
returns c =
    elim c.if-old.branch [
      | then-old w ↦ rw (w.nodes-is, w.counts-is) (offer_new _ _ _ _ _ _ c.if-old-v.false w.if-old.true)
      | else-old w ↦ rw (w.nodes-is, w.counts-is) (offer_lower _ _ _ _ _ _ c.if-old-v.false w.if-old.false)
    ]
