-- `nodes::branch` meets its contract.
use Rattle.nodes.specs.Advancing.{advancing_hi, advancing_stays}
use Rattle.nodes.proofs.walks.branch.Goals as goal

pub returns-then-at-e : goal.returns-then-at-e
returns-then-at-e c =
    λ lo n low. advancing_hi _ lo _ _ n _ c.requires.0 low _ c.requires.3 c.requires.2 c.if-at-e.true _ c.hi_at.ensures

pub returns : goal.returns
returns c =
    λ lo n low. advancing_stays _ lo _ _ n _ c.requires.0 low _ c.requires.3 c.if-at-e.false
