-- `diagram::read_rest` meets its contract.
use Rattle.std.proofs.Common.{rules}
use Rattle.diagram.proofs.Nodes.{fresh_blank}
use Rattle.diagram.proofs.Whole.{rest_bad, rest_root, rest_good}
use Rattle.diagram.proofs.reader.read_rest.Goals as goal

pub read_nodes-requires : goal.read_nodes-requires
read_nodes-requires c = fresh_blank _ _ _ c.requires.0 c.over-table.ensures.blank

pub returns-then-nodes-root : goal.returns-then-nodes-root
returns-then-nodes-root c =
    let law = rest_root _ _ _ _ _ _ _ _ _ (rw c.over-table.ensures.blank.nodes at c.in-Ok.ensures.over) (search rules) in law c.if-nodes-root.true _ c.stopped.ensures

pub returns-in-Err : goal.returns-in-Err
returns-in-Err c =
    rest_bad _ _ _ _ _ _ _ _ _ (rw c.over-table.ensures.blank.nodes at c.in-Err.ensures.over) (search rules)

pub returns-else-nodes-root : goal.returns-else-nodes-root
returns-else-nodes-root c =
    rest_good _ _ _ _ _ _ _ _ _ (rw c.over-table.ensures.blank.nodes at c.in-Ok.ensures.over) (search rules) c.if-nodes-root.false
