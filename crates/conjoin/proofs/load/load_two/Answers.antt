-- `conjoin::load_two` meets its contract.
use Rattle.std.proofs.Common.{rules, ◌∙◌, sym, ap}
use Rattle.conjoin.specs.Loads.{refused_as, few_groups, chart_out, rules_out, more_out, space_out, all_pass}
use Rattle.conjoin.proofs.load.load_two.Goals as goal

pub returns-in_err-c : goal.returns-in_err-c
returns-in_err-c c =
    let out = chart_out c.args.chart.now c.args.rules.now c.args.more.now c.args.work c.check_chart.ensures c.args.left.now c.args.right.now c.in_err-c.ensures in
    search (rules, out)

pub read_diagram-requires : goal.read_diagram-requires
read_diagram-requires c =
    (few_groups c.args.chart.now c.check_chart.ensures _ c.in_ok-c.ensures, c.requires.0)

pub returns-in_err-d : goal.returns-in_err-d
returns-in_err-d c =
    let out = rules_out c.args.chart.now c.args.rules.now c.args.more.now c.args.work c.check_chart.ensures c.in_ok-c.ensures _ _ c.read_diagram.ensures c.args.right.now c.in_err-d.ensures in
    search (rules, out)

pub read_diagram-requires-2 : goal.read_diagram-requires-2
read_diagram-requires-2 c =
    (few_groups c.args.chart.now c.check_chart.ensures _ c.in_ok-c.ensures, c.requires.1)

pub returns-in_err-e : goal.returns-in_err-e
returns-in_err-e c =
    let out = more_out c.args.chart.now c.args.rules.now c.args.more.now c.args.work c.check_chart.ensures c.in_ok-c.ensures _ _ c.read_diagram.ensures c.in_ok-d.ensures _ _ c.read_diagram-2.ensures c.in_err-e.ensures in
    search (rules, out)

pub returns-then-work-pairs : goal.returns-then-work-pairs
returns-then-work-pairs c =
    space_out _ _ _ c.args.work c.check_chart.ensures c.in_ok-c.ensures _ _ c.read_diagram.ensures c.in_ok-d.ensures _ _ c.read_diagram-2.ensures c.in_ok-e.ensures c.if-work-pairs.true
    ∙ ap refused_as (sym c.of_call.ensures)

pub returns : goal.returns
returns c =
    all_pass _ _ _ c.args.work c.check_chart.ensures c.in_ok-c.ensures _ _ c.read_diagram.ensures c.in_ok-d.ensures _ _ c.read_diagram-2.ensures c.in_ok-e.ensures c.if-work-pairs.false
