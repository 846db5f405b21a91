-- `rows::fill_row_starts` meets its contract: the rows below s are filled.
use borrow.Author.Rules.{rules}
use Rattle.rows.specs.Rows.{filled_none, filled_all}
use Rattle.rows.proofs.fill_row_starts.Goals as goal

pub loop-s-init : goal.loop-s-init
loop-s-init c = (search rules, search rules, filled_none _ _ c.requires.0)

pub returns : goal.returns
returns c =
    filled_all _ _ _ _ (search rules) (search rules) c.loop-s.invariant.2
