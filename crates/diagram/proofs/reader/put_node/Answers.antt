-- `diagram::put_node` meets its contract.
use Rattle.diagram.proofs.Nodes.{take_room, take_node, take_refused}
use Rattle.diagram.proofs.reader.put_node.Goals as goal

pub add-requires : goal.add-requires
add-requires c =
    take_room _ _ _ c.args.read _ c.requires.0 _ c.in-Ok.ensures c.requires.1

pub returns-in-Ok-clause-takes : goal.returns-in-Ok-clause-takes
returns-in-Ok-clause-takes c =
    take_node _ _ _ c.args.read _ c.requires.0 _ c.in-Ok.ensures _ _ c.add.ensures.adds

pub returns-in-Err-clause-takes : goal.returns-in-Err-clause-takes
returns-in-Err-clause-takes c =
    take_refused _ _ _ c.args.read _ c.requires.0 _ c.in-Err.ensures _ c.stopped.ensures
