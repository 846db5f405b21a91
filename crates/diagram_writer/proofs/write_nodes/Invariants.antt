-- The loop of `diagram_writer::write_nodes`: what holds at its head.
use Rattle.std.proofs.Common.{◌+◌, ◌*◌, ◌≡◌, length, take}
use Rattle.definitions.specs.Basics.{each}
use Rattle.definitions.specs.Bytes.{node_bytes}
use Rattle.buffer.specs.Writing.{Wrote}
use Rattle.unique_table.specs.Tables.{unique_table, nodes_in}
use Rattle.diagram_writer.proofs.write_nodes.Given as goal

abbrev pub invariant-loop-w : goal.invariant-loop-w
invariant-loop-w l =
    (l.file.at ≡ l.initial.file.at + 9 * l.w-index) × (length l.file.out.now ≡ length l.initial.file.out.now)
    × Wrote l.initial.file (each node_bytes (take l.w-index (nodes_in (unique_table l.nodes l.chains)))) l.file
