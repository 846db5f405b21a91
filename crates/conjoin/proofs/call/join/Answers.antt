-- `conjoin::join` meets its contract.
use Rattle.conjoin.specs.Joins.{walk_ready, joins_full, joins_made}
use Rattle.std.proofs.Common.{◌∙◌, ap}
use Rattle.definitions.specs.Answers.{refusal}
use Rattle.definitions.specs.Refusals.{number}
use Rattle.checks.specs.Refusing.{file_mark}
use Rattle.checks.specs.declared.answers.Refused.{Refused}
use Rattle.conjoin.proofs.call.join.Goals as goal

pub apply-requires : goal.apply-requires
apply-requires c =
    walk_ready c.requires _ c.clear.ensures c.over-table.ensures.blank

pub write_table-requires : goal.write_table-requires
write_table-requires c =
    (c.in-Some.ensures.walked (walk_ready c.requires _ c.clear.ensures c.over-table.ensures.blank)).entries

pub returns-in-Some : goal.returns-in-Some
returns-in-Some c =
    λ x. joins_made x _ c.clear.ensures c.over-table.ensures.blank (c.in-Some.ensures.walked (walk_ready x _ c.clear.ensures c.over-table.ensures.blank)) c.write_table.ensures

pub returns-in-None : goal.returns-in-None
returns-in-None c =
    λ x. joins_full x _ c.clear.ensures c.over-table.ensures.blank (c.in-None.ensures.walked (walk_ready x _ c.clear.ensures c.over-table.ensures.blank))
    (c.answer.ensures ∙ ap (λ (z : Refused). refusal (number z.refusal) (file_mark z.file) z.place 0) c.of_call.ensures) _
