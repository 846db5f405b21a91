-- `diagram_writer::write_diagram` meets its contract.
use Rattle.std.proofs.Common.{rules, ap, ℕ, ◌+◌, ◌*◌}
use Rattle.unique_table.specs.Tables.{unique_table}
use Rattle.diagram_writer.specs.Files.{diagram_short, diagram_whole}
use Rattle.diagram_writer.proofs.write_diagram.Goals as goal

pub returns-then-out-bytes : goal.returns-then-out-bytes
returns-then-out-bytes c =
    diagram_short (unique_table c.args.nodes.now c.args.chains.now) _ _ (ap (λ (n : ℕ). 5 + 9 * n) c.count.ensures) _ _ c.file_answer-answer.ensures c.if-out-bytes.true

pub returns : goal.returns
returns c =
    diagram_whole (unique_table c.args.nodes.now c.args.chains.now) _ _ (ap (λ (n : ℕ). 5 + 9 * n) c.count.ensures) _ _ c.file_answer-answer.ensures c.if-out-bytes.false _ _ _
    c.write_nodes.new.file.at c.write_diagram_head.ensures.1 (search rules)
