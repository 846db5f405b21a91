-- The walk of `diagram::read_nodes`: the reader stands at the place that is read, and what is read so far is there.
use Rattle.std.proofs.Common.{◌≡◌, ◌-◌, length}
use Rattle.unique_table.specs.Held.{held, SameArray}
use Rattle.diagram.specs.Turns.{SoFar}
use Rattle.diagram.proofs.reader.read_nodes.Given as goal

abbrev pub invariant-loop-refusal : goal.invariant-loop-refusal
invariant-loop-refusal l =
    (l.reader.src.now ≡ l.file)
    × (l.reader.at ≡ l.read.place)
    × SameArray l.fn.table l.table
    × SoFar l.strict l.file l.first l.groups l.fn.table.nodes.now (held l.table) l.read

abbrev pub decreases-loop-refusal : goal.decreases-loop-refusal
decreases-loop-refusal l = length l.file - l.read.place
