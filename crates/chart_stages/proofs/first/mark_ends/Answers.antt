-- `chart_stages::mark_ends` meets its contract: the steps before e have left their marks.
use native.Mathlib.Omega.{arith}
use borrow.Author.Rules.{rules}
use Rattle.chart_fields.specs.Ends.{froms}
use Rattle.chart_stages.specs.FirstSteps.{EndTable}
use Rattle.chart_stages.proofs.Firsts.{ends_none, ends_more, ends_all}
use Rattle.chart_stages.proofs.first.mark_ends.Goals as goal

pub loop-e-init : goal.loop-e-init
loop-e-init c =
    let none : EndTable 0 (froms c.args.ends.now) c.args.first.now = ends_none c.requires.0 in
    (search rules, none.long, none)

pub bounds-first-s : goal.bounds-first-s
bounds-first-s c =
    omega (arith, c.from_at-s.ensures, c.requires.1.inside _ c.loop-e-test.true)

pub loop-e-preserved : goal.loop-e-preserved
loop-e-preserved c =
    let more = ends_more c.loop-e.invariant.2 c.from_at-s.ensures (c.requires.1.inside _ c.loop-e-test.true) in
    (search rules, more.long, more)

pub returns : goal.returns
returns c =
    ends_all c.loop-e.invariant.2 (search rules) (search rules)
