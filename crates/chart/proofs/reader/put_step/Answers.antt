-- `chart::put_step` meets its contract.
use mathlib.Core.Path.{◌∙◌}
use native.Mathlib.Omega.{arith}
use Rattle.chart.proofs.Steps.{put_long, put_bad, put_below, put_cheap, put_group, put_good}
use Rattle.chart.proofs.reader.put_step.Goals as goal

pub check_step-requires : goal.check_step-requires
check_step-requires g c = put_long _ 0 c.args.read c.args.steps.now _ (rw c.kind_if-kind.ensures c.requires) _ (c.from.ensures ∙ c.length.ensures) _ c.tag-tag.ensures

pub returns-in-Err-clause-takes : goal.returns-in-Err-clause-takes
returns-in-Err-clause-takes g c =
    put_bad _ _ c.args.read c.args.steps.now _ (rw c.kind_if-kind.ensures c.requires) _ (c.from.ensures ∙ c.length.ensures) _ c.tag-tag.ensures _ c.check_step.ensures _ c.in-Err.is _ c.stopped.ensures

pub step_of-step-requires-clause-long : goal.step_of-step-requires-clause-long
step_of-step-requires-clause-long g c = (
  put_long _ 0 c.args.read c.args.steps.now _ (rw c.kind_if-kind.ensures c.requires) _ (c.from.ensures ∙ c.length.ensures) _ c.tag-tag.ensures,
  put_below _ _ c.args.read c.args.steps.now _ (rw c.kind_if-kind.ensures c.requires) _ (c.from.ensures ∙ c.length.ensures) _ c.tag-tag.ensures _ c.check_step.ensures _ c.in_default.is,
)

pub step_of-step-requires-clause-cheap : goal.step_of-step-requires-clause-cheap
step_of-step-requires-clause-cheap g c =
    put_cheap _ _ c.args.read c.args.steps.now _ (rw c.kind_if-kind.ensures c.requires) _ (c.from.ensures ∙ c.length.ensures) _ c.tag-tag.ensures _ c.check_step.ensures _ c.in_default.is

pub put-requires : goal.put-requires
put-requires g c = (
  put_below _ _ c.args.read c.args.steps.now _ (rw c.kind_if-kind.ensures c.requires) _ (c.from.ensures ∙ c.length.ensures) _ c.tag-tag.ensures _ c.check_step.ensures _ c.in_default.is,
  put_group _ _ c.args.read c.args.steps.now _ (rw c.kind_if-kind.ensures c.requires) _ (c.from.ensures ∙ c.length.ensures) _ c.tag-tag.ensures _ c.check_step.ensures _ c.in_default.is _ c.step_of-step.ensures,
)

pub overflow_add-result : goal.overflow_add-result
overflow_add-result g c =
    omega (arith, put_below _ _ c.args.read c.args.steps.now _ (rw c.kind_if-kind.ensures c.requires) _ (c.from.ensures ∙ c.length.ensures) _ c.tag-tag.ensures _ c.check_step.ensures _ c.in_default.is)

pub returns-clause-takes : goal.returns-clause-takes
returns-clause-takes g c =
    put_good _ _ c.args.read c.args.steps.now _ (rw c.kind_if-kind.ensures c.requires) _ (c.from.ensures ∙ c.length.ensures) _ c.tag-tag.ensures _ c.check_step.ensures _ c.in_default.is _ c.step_of-step.ensures _ c.put.ensures
