-- `nodes::finishes` meets its contract.
use borrow.Author.Rules.{rules}
use Rattle.nodes.proofs.Finished.{walk_next, walk_done}
use Rattle.nodes.proofs.walks.finishes.Goals as goal

pub loop-m-preserved : goal.loop-m-preserved
loop-m-preserved c =
    walk_next _ _ c.requires _ c.loop-m.invariant c.loop-m-test.true _ c.lo_at-m.ensures

pub returns : goal.returns
returns c =
    walk_done _ _ c.requires _ c.loop-m.invariant (search rules)
