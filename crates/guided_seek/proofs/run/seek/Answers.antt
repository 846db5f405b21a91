-- `guided_seek::seek` meets its contract.
use mathlib.Core.Path.{refl}
use Rattle.guided_seek.proofs.Preparing.{sought_none, run_start, sought_some}
use Rattle.guided_seek.proofs.run.seek.Goals as goal

pub returns-then-rest-clause-sought : goal.returns-then-rest-clause-sought
returns-then-rest-clause-sought c =
    sought_none c.requires.prepared c.fill_chart_estimates.ensures c.of_pair-rest.ensures c.if-rest.true refl refl

pub search-requires : goal.search-requires
search-requires c =
    run_start c.requires.prepared c.fill_chart_estimates.ensures c.of_pair-rest.ensures c.if-rest.false c.requires.space

pub returns-clause-sought : goal.returns-clause-sought
returns-clause-sought c =
    sought_some c.requires.prepared c.fill_chart_estimates.ensures
    (c.search.ensures.searched
    (run_start c.requires.prepared c.fill_chart_estimates.ensures c.of_pair-rest.ensures c.if-rest.false c.requires.space))
