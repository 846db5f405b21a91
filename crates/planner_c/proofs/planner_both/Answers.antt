-- `planner_c::planner_both` meets its contract.
use Rattle.planner_c.proofs.planner_both.Goals as goal

pub returns : goal.returns
returns c =
    record {
      answers = c.both-answers.result;
      kept = c.both-answers.ensures;
      sweep_held = c.store_both.ensures.1;
      guided_held = c.store_both.ensures.2;
      returned = c.store_both.ensures.0;
    }
