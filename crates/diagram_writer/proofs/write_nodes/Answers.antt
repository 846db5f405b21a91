-- `diagram_writer::write_nodes` meets its contract.
use Rattle.std.proofs.Common.{rules, ◌∙◌, arith}
use Rattle.definitions.specs.Bytes.{node_bytes}
use Rattle.definitions.specs.Diagrams.{no_node}
use Rattle.buffer.specs.Writing.{wrote_long, wrote_next, wrote_all}
use Rattle.unique_table.specs.Tables.{unique_table}
use Rattle.diagram_writer.specs.Files.{words_long, node_appended}
use Rattle.diagram_writer.proofs.write_nodes.Goals as goal

pub loop-w-preserved : goal.loop-w-preserved
loop-w-preserved c = (
  search rules,
  wrote_long (search rules) c.write_node.ensures ∙ c.loop-w.invariant.1,
  wrote_next node_bytes _ c.loop-w.w-index no_node (search rules) (omega (arith, words_long (unique_table c.args.nodes.now c.args.chains.now) _ c.requires.0 c.count.ensures, c.loop-w-test.true)) c.loop-w.invariant.2
      (c.write_node.ensures.0, node_appended (unique_table c.args.nodes.now c.args.chains.now) _ c.requires.0 c.count.ensures c.loop-w-test.true c.step_of.ensures c.lo_of.ensures c.hi_of.ensures c.write_node.ensures.1),
)

pub returns : goal.returns
returns c =
    wrote_all node_bytes _ c.loop-w.w-index (omega (arith, words_long (unique_table c.args.nodes.now c.args.chains.now) _ c.requires.0 c.count.ensures, c.loop-w-test.false)) c.loop-w.invariant.2
