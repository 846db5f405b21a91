-- `diagram::judge` meets its contract.
use Rattle.diagram.proofs.Nodes.{node_packs}
use Rattle.diagram.proofs.reader.judge.Goals as goal

pub node_word-w-requires : goal.node_word-w-requires
node_word-w-requires c =
    let packs = node_packs _ _ _ _ c.in_ok-check_node.ensures in
    (c.requires.0, packs.lo, packs.hi)
