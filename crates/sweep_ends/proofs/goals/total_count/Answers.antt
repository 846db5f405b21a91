-- `sweep_ends::total_count` meets its contract.
use Rattle.std.proofs.Common.{◌≡◌, ◌∙◌, take, arith, rules, tests}
use Rattle.std.specs.Prelude.{sum}
use Rattle.std.proofs.iter.runs.Sources.{sums}
use Rattle.std.proofs.lemmas.Iterator.{YieldsList-from_slice, YieldsList-from_map}
use Rattle.std.proofs.lemmas.Iterator.Consumers.{YieldsList-at, fits_by_from_yields_list}
use Rattle.sweep_ends.proofs.Leaves.{sum_total, sum_small}
use Rattle.sweep_ends.proofs.goals.total_count.Goals as goal

pub sum-requires-clause-fits : goal.sum-requires-clause-fits
sum-requires-clause-fits c =
    let small = sum_small c.args.counts.now c.args.stages (search rules) (λ i. c.fits-counts i) in
    fits_by_from_yields_list _ _ c.map.result _
    (YieldsList-from_map _ (λ m. m) (YieldsList-at c.map.ensures.source (YieldsList-from_slice (take c.args.stages c.args.counts.now) cc)) c.map.ensures.closure (λ x r q k. search (rules, tests)))
    (omega (arith, small, c.requires))

pub returns : goal.returns
returns c =
    let summed : c.sum.result ≡ sum (take c.args.stages c.args.counts.now) = search (rules, sums) in
    summed ∙ sum_total c.args.counts.now c.args.stages (search rules)
