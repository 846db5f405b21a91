-- `chart_stages::fill_first_steps` meets its contract: the entries of the stages below s are right.
use mathlib.Core.Path.{◌∙◌}
use lib.ListN.{length-set}
use borrow.Author.Rules.{rules}
use Rattle.chart_stages.proofs.Firsts.{firsts_start, firsts_turn, firsts_done}
use Rattle.chart_stages.proofs.first.fill_first_steps.Goals as goal

pub loop-s-init : goal.loop-s-init
loop-s-init c =
    (search rules, search rules, c.mark_ends.ensures.long, search rules, λ sorted m. firsts_start sorted m)

pub loop-s-preserved : goal.loop-s-preserved
loop-s-preserved c = (
  search rules,
  search rules,
  length-set c.loop-s.first c.loop-s.s c.max-most.result ∙ c.loop-s.invariant.2,
  search rules,
  λ sorted m. firsts_turn sorted m (c.loop-s.invariant.4 sorted m) (search rules) (search rules) c.max-most.ensures,
)

pub returns : goal.returns
returns c =
    firsts_done c.requires.1 c.mark_ends.ensures (c.loop-s.invariant.4 c.requires.1 c.mark_ends.ensures) (search rules)
