-- `planner_c::planner_cycles` meets its contract: each turn answers one entry more.
use Rattle.std.proofs.Common.{arith, rules, subst, sym, ◌≤◌, length}
use Rattle.definitions.specs.Promises.{CycleSlices, cycle_slices, CyclesCall}
use Rattle.definitions.specs.declared.Answer.{Answer}
use Rattle.cycles.specs.Cycles.{lent}
use Rattle.cycles.specs.Listing.{lengths_same, going_asks, going_more, going_all, none_answered}
use Rattle.planner_c.proofs.Lists.{same_slices}
use Rattle.planner_c.proofs.planner_cycles.Goals as goal

pub answered-requires : goal.answered-requires
answered-requires c = going_asks c.loop-c.invariant.1 c.args.chart.now c.args.rules.now _ c.in-Ok.ensures

pub loop-c-preserved : goal.loop-c-preserved
loop-c-preserved c =
    let g = c.loop-c.invariant.1 in (
      search rules,
      going_more g (omega (arith, c.loop-c-test.true, g.long)) c.answered.ensures.answered (lengths_same c.loop-c.slices c.answered.new.slices c.answered.ensures.same),
    )

pub returns-in-Err : goal.returns-in-Err
returns-in-Err c =
    let a = c.args in
    let given = cycle_slices a.keys.now a.via.now a.heap.now a.pos.now a.stack.now a.log.now in
    record {
      answer = c.answer.result;
      kept = subst (λ (r : Answer). CyclesCall a.chart.now a.rules.now given given a.list.now a.list.now r) (sym c.answer.ensures)
          (none_answered a.chart.now a.rules.now given a.list.now c.in-Err.refused c.in-Err.ensures);
      held = c.store.ensures.1;
      returned = c.store.ensures.0;
    }

pub returns : goal.returns
returns c =
    let a = c.args in
    let before = cycle_slices a.keys.now a.via.now a.heap.now a.pos.now a.stack.now a.log.now in
    let after = lent c.loop-c.slices in
    let over : length a.list.now ≤ c.loop-c.c-index = omega (arith, c.loop-c-test.false, c.loop-c.invariant.1.long) in
    record {
      answer = c.accepted.result;
      kept = subst (λ (x : CycleSlices). CyclesCall a.chart.now a.rules.now before x a.list.now c.loop-c.list c.accepted.result)
          (same_slices after (search rules) (search rules) (search rules) (search rules) (search rules) (search rules))
          (subst (λ (r : Answer). CyclesCall a.chart.now a.rules.now before after a.list.now c.loop-c.list r) (sym c.accepted.ensures)
          (going_all c.loop-c.invariant.1 a.chart.now a.rules.now _ c.in-Ok.ensures over));
      held = c.store-2.ensures.1;
      returned = c.store-2.ensures.0;
    }
