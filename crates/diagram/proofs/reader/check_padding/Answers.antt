-- `diagram::check_padding` meets its contract.
use Rattle.diagram.proofs.Nodes.{padding_double, padding_lacking, padding-laws}
use Rattle.diagram.proofs.reader.check_padding.Goals as goal

pub returns-then-not-strict : goal.returns-then-not-strict
returns-then-not-strict c = search padding-laws

pub returns-then-lo_of-hi_of : goal.returns-then-lo_of-hi_of
returns-then-lo_of-hi_of c = search padding-laws

pub returns-in-Some : goal.returns-in-Some
returns-in-Some c =
    padding_double _ _ c.ranges.w.fits _ c.if-not-strict.false _ _ c.lo_of.ensures c.hi_of.ensures c.if-lo_of-hi_of.false _ c.in-Some.ensures

pub returns-in-None : goal.returns-in-None
returns-in-None c =
    padding_lacking _ _ c.ranges.w.fits _ c.if-not-strict.false _ _ c.lo_of.ensures c.hi_of.ensures c.if-lo_of-hi_of.false c.requires c.in-None.ensures
