-- `sweep::conclude` meets its contract: with no goal pair there is no plan, else the best one's trail is written.
use Rattle.std.proofs.Common.{◌∙◌, ap, arith, rules}
use Rattle.definitions.specs.Answers.{refusal}
use Rattle.definitions.specs.Refusals.{number}
use Rattle.checks.specs.Refusing.{file_mark}
use Rattle.checks.specs.declared.answers.Refused.{Refused}
use Rattle.sweep.proofs.Concluding.{end_falls, end_listed, end_traceable, concludes_none, concludes_some}
use Rattle.sweep.proofs.conclude.conclude.Goals as goal

pub fill_finishing-requires : goal.fill_finishing-requires
fill_finishing-requires c =
    (end_falls c.requires.done, search rules)

pub cheapest_goal-requires : goal.cheapest_goal-requires
cheapest_goal-requires c = end_listed c.requires.done

pub write_plan-length-requires-clause-traceable : goal.write_plan-length-requires-clause-traceable
write_plan-length-requires-clause-traceable c =
    end_traceable c.requires.done c.fill_finishing.ensures c.in-Some.ensures

pub returns-in-None : goal.returns-in-None
returns-in-None c =
    concludes_none c.requires.done c.fill_finishing.ensures c.in-None.ensures c.total_count-count.ensures
    (c.answer.ensures ∙ ap (λ (x : Refused). refusal (number x.refusal) (file_mark x.file) x.place c.total_count-count.result) c.of_call.ensures)

pub returns-in-Some : goal.returns-in-Some
returns-in-Some c =
    let trail = end_traceable c.requires.done c.fill_finishing.ensures c.in-Some.ensures in
    concludes_some c.requires.done c.fill_finishing.ensures c.in-Some.ensures
    c.total_count-count.ensures (c.write_plan-length.ensures trail) (omega arith) c.accepted.ensures
