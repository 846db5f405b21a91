-- `cycles::prepare` meets its contract.
use mathlib.Core.Path.{◌∙◌}
use Rattle.std.proofs.lemmas.Result.{err_from_is_err_and}
use Rattle.checks.specs.Outcome.{shortest_of}
use Rattle.cycles.proofs.Preparing.{judged}
use Rattle.cycles.proofs.once.prepare.Goals as goal

pub returns-in_err-z : goal.returns-in_err-z
returns-in_err-z c =
    let a = c.args in
    let shortest = shortest_of _ _ _ _ _ _ c.min.ensures c.min-2.ensures c.min-shorter.ensures c.min-3.ensures c.min-work.ensures in
    let p = err_from_is_err_and c.from_residual.result c.from_residual.ensures.1 in
    rw (p.1, p.2) (judged a.chart.now a.rules.now a.keys a.via a.heap a.pos a.stack a.log shortest ∙ c.in_err-z.ensures)

pub returns : goal.returns
returns c =
    let a = c.args in
    let shortest = shortest_of _ _ _ _ _ _ c.min.ensures c.min-2.ensures c.min-shorter.ensures c.min-3.ensures c.min-work.ensures in
    (judged a.chart.now a.rules.now a.keys a.via a.heap a.pos a.stack a.log shortest ∙ c.in_ok-z.ensures.0, c.fill_tables.ensures)
