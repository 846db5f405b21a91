-- `guided::guided` meets its contract.
use Rattle.definitions.specs.Promises.{guided_slices}
use Rattle.checks.specs.Outcome.{shortest_of}
use borrow.Author.Rules.{rules}
use Rattle.guided.proofs.Finding.{runs_as}
use Rattle.guided.proofs.Loading.{call_refused, call_room, call_done}
use Rattle.guided.proofs.run.guided.Goals as goal

pub run-requires-clause-tables : goal.run-requires-clause-tables
run-requires-clause-tables c = c.in-Ok.ensures.1

pub run-requires-clause-room : goal.run-requires-clause-room
run-requires-clause-room c =
    let a = c.args in
    let x = guided_slices a.keys.now a.via.now a.heap.now a.pos.now a.stack.now a.log.now a.plan.now in
    let lent = shortest_of _ _ _ _ _ _ c.min.ensures c.min-2.ensures c.min-shorter.ensures c.min-3.ensures c.min-work.ensures in
    call_room a.chart.now a.rules.now x lent c.in-Ok.ensures.0 c.in-Ok.ensures.1

pub returns-in-Ok : goal.returns-in-Ok
returns-in-Ok c =
    let a = c.args in
    let x = guided_slices a.keys.now a.via.now a.heap.now a.pos.now a.stack.now a.log.now a.plan.now in
    let lent = shortest_of _ _ _ _ _ _ c.min.ensures c.min-2.ensures c.min-shorter.ensures c.min-3.ensures c.min-work.ensures in
    call_done a.chart.now a.rules.now x lent c.in-Ok.ensures.0 c.in-Ok.ensures.1
    (runs_as c.run.ensures.runs (search rules) (search rules) (search rules) (search rules) (search rules) (search rules))
    (search rules) (search rules) (search rules) (search rules) (search rules)

pub returns-in-Err : goal.returns-in-Err
returns-in-Err c =
    let a = c.args in
    let x = guided_slices a.keys.now a.via.now a.heap.now a.pos.now a.stack.now a.log.now a.plan.now in
    let lent = shortest_of _ _ _ _ _ _ c.min.ensures c.min-2.ensures c.min-shorter.ensures c.min-3.ensures c.min-work.ensures in
    call_refused a.chart.now a.rules.now x lent _ c.in-Err.ensures c.answer.ensures
