-- `guided_seek::estimate_nodes` meets its contract.
use Rattle.guided_seek.proofs.Preparing.{plain_costs, run_nodes}
use Rattle.guided_seek.proofs.tables.estimate_nodes.Goals as goal

pub fill_diagram_estimates-requires-clause-sound : goal.fill_diagram_estimates-requires-clause-sound
fill_diagram_estimates-requires-clause-sound c =
    run_nodes c.requires.tables _ c.fill_prices.ensures

pub fill_diagram_estimates-requires-2-clause-sound : goal.fill_diagram_estimates-requires-2-clause-sound
fill_diagram_estimates-requires-2-clause-sound c =
    run_nodes c.requires.tables _ (plain_costs c.requires.tables (c.is_grouped.ensures.plain c.if-is_grouped.false))

pub returns : goal.returns
returns c =
    record { prices = _; costs = plain_costs c.requires.tables (c.is_grouped.ensures.plain c.if-is_grouped.false); by = c.fill_diagram_estimates-2.ensures }
