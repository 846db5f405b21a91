-- `nodes::fill_finishing` meets its contract.
use Rattle.nodes.proofs.Finished.{passed-laws}
use Rattle.nodes.proofs.walks.fill_finishing.Goals as goal

pub loop-n-init : goal.loop-n-init
loop-n-init c = search passed-laws

pub loop-n-preserved : goal.loop-n-preserved
loop-n-preserved c = search passed-laws
