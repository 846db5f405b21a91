-- The loop of `diagram::put_nodes`: what holds at its head, and its measure.
use Rattle.std.proofs.Common.{◌-◌, length}
use Rattle.unique_table.specs.Held.{held, SameArray}
use Rattle.diagram.proofs.Nodes.{Run}
use Rattle.diagram.proofs.reader.put_nodes.Given as goal

abbrev pub invariant-loop-read : goal.invariant-loop-read
invariant-loop-read l =
    SameArray l.initial.table l.table × Run l.strict l.file l.groups l.initial.read (held l.initial.table) l.read (held l.table)

abbrev pub decreases-loop-read : goal.decreases-loop-read
decreases-loop-read l = length l.file - l.read.place
