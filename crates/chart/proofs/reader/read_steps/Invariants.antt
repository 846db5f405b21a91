-- The walk of `chart::read_steps`: what is read so far is in the table.
use Rattle.std.proofs.Common.{◌-◌, length}
use Rattle.chart.specs.Turns.{SoFar}
use Rattle.chart.proofs.reader.read_steps.Given as goal

abbrev pub invariant-loop-refusal : goal.invariant-loop-refusal
invariant-loop-refusal l = SoFar l.file l.first l.stages l.fn.steps l.steps l.read

abbrev pub decreases-loop-refusal : goal.decreases-loop-refusal
decreases-loop-refusal l = length l.file - l.read.place
