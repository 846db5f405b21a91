-- `checks::load` meets its contract: one law for each answer.
use mathlib.Core.Path.{refl, sym, ◌∙◌, ap, subst}
use mathlib.Core.Bool.{true}
use native.Mathlib.Omega.{arith}
use Rattle.std.proofs.lemmas.Result.{err_from_is_err_and}
use Rattle.definitions.specs.Charts.{read_chart}
use Rattle.chart.specs.Tables.{ChartAnswer}
use Rattle.diagram.specs.Accepted.{accepted_filled}
use Rattle.diagram.specs.Files.{DiagramEnd, diagram_end}
use Rattle.checks.proofs.Passes.{chart_out, few_groups, some_stages, rules_out, few_nodes, few_pairs, work_refused, plan_refused, loaded}
use Rattle.checks.proofs.loading.load.Goals as goal

pub returns-in_err-c : goal.returns-in_err-c
returns-in_err-c c =
    let p = err_from_is_err_and c.from_residual.result c.from_residual.ensures.1 in
    rw (p.1, p.2) (chart_out c.args.chart.now c.args.rules.now c.args.work c.args.plan _ c.read_chart.ensures.value _ c.in_err-c.ensures)

pub read_diagram-requires : goal.read_diagram-requires
read_diagram-requires c =
    let answer = subst (ChartAnswer (read_chart c.args.chart.now)) c.in_ok-c.ensures c.read_chart.ensures.value in
    (few_groups c.args.chart.now c.args.rules.now c.args.work c.args.plan _ answer, c.requires.of_nodes)

pub returns-in_err-d : goal.returns-in_err-d
returns-in_err-d c =
    let answer = subst (ChartAnswer (read_chart c.args.chart.now)) c.in_ok-c.ensures c.read_chart.ensures.value in
    let p = err_from_is_err_and c.from_residual-in_err-d.result c.from_residual-in_err-d.ensures.1 in
    rw (p.1, p.2) (rules_out c.args.chart.now c.args.rules.now c.args.work c.args.plan _ answer _ c.read_diagram.ensures.answer _ c.in_err-d.ensures)

pub overflow_add-d : goal.overflow_add-d
overflow_add-d c =
    let answer = subst (ChartAnswer (read_chart c.args.chart.now)) c.in_ok-c.ensures c.read_chart.ensures.value in
    let read = sym (ap diagram_end c.in_ok-d.ensures) ∙ c.read_diagram.ensures.answer in
    omega (arith, few_nodes c.args.chart.now c.args.rules.now c.args.work c.args.plan _ answer _ read)

pub overflow_mul-stages : goal.overflow_mul-stages
overflow_mul-stages c =
    let answer = subst (ChartAnswer (read_chart c.args.chart.now)) c.in_ok-c.ensures c.read_chart.ensures.value in
    let read = sym (ap diagram_end c.in_ok-d.ensures) ∙ c.read_diagram.ensures.answer in
    omega (arith, few_pairs c.args.chart.now c.args.rules.now c.args.work c.args.plan _ answer _ read)

pub returns-then-work-stages : goal.returns-then-work-stages
returns-then-work-stages c =
    let answer = subst (ChartAnswer (read_chart c.args.chart.now)) c.in_ok-c.ensures c.read_chart.ensures.value in
    let read = sym (ap diagram_end c.in_ok-d.ensures) ∙ c.read_diagram.ensures.answer in
    rw c.of_call.ensures (work_refused c.args.chart.now c.args.rules.now c.args.work c.args.plan _ answer _ read c.if-work-stages.true)

pub overflow_sub-stages : goal.overflow_sub-stages
overflow_sub-stages c =
    let answer = subst (ChartAnswer (read_chart c.args.chart.now)) c.in_ok-c.ensures c.read_chart.ensures.value in
    omega (arith, some_stages c.args.chart.now c.args.rules.now c.args.work c.args.plan _ answer)

pub returns-then-plan-stages : goal.returns-then-plan-stages
returns-then-plan-stages c =
    let answer = subst (ChartAnswer (read_chart c.args.chart.now)) c.in_ok-c.ensures c.read_chart.ensures.value in
    let read = sym (ap diagram_end c.in_ok-d.ensures) ∙ c.read_diagram.ensures.answer in
    rw c.of_call-then-plan-stages.ensures
    (plan_refused c.args.chart.now c.args.rules.now c.args.work c.args.plan _ answer _ read c.if-work-stages.false c.if-plan-stages.true)

pub returns : goal.returns
returns c =
    let answer = subst (ChartAnswer (read_chart c.args.chart.now)) c.in_ok-c.ensures c.read_chart.ensures.value in
    let read = sym (ap diagram_end c.in_ok-d.ensures) ∙ c.read_diagram.ensures.answer in
    let passed = sym (ap (λ (e : DiagramEnd). e.number) read) in
    let few = few_groups c.args.chart.now c.args.rules.now c.args.work c.args.plan _ answer in
    let fd = accepted_filled true c.args.rules.now _ passed few _ _ c.read_diagram.ensures.table in
    loaded c.args.chart.now c.args.rules.now c.args.work c.args.plan _ answer _ read _ _ _ (c.read_chart.ensures.filled c.requires.of_steps) fd _ refl refl refl refl refl refl
    c.if-work-stages.false c.if-plan-stages.false
