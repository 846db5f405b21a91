-- `reduce::load` meets its contract.
use Rattle.std.proofs.Common.{rules}
use Rattle.conjoin.specs.Loads.{few_groups}
use Rattle.reduce.specs.Reducing.{chart_out, loaded}
use Rattle.reduce.proofs.load.Goals as goal

pub returns-in_err-c : goal.returns-in_err-c
returns-in_err-c c =
    let out = chart_out c.args.chart.now c.args.rules.now c.check_chart.ensures c.args.nodes.now c.args.nodes.now c.in_err-c.ensures in
    search (rules, out)

pub read_diagram-requires : goal.read_diagram-requires
read_diagram-requires c =
    (few_groups c.args.chart.now c.check_chart.ensures _ c.in_ok-c.ensures, c.requires)

pub returns : goal.returns
returns c =
    loaded c.args.chart.now c.args.rules.now c.check_chart.ensures c.in_ok-c.ensures c.read_diagram.ensures _ c.in_file-2.ensures
