-- The loop of `chart::put_run`: some steps of the run are in the table, and the next one stands whole.
use Rattle.std.proofs.Common.{◌≡◌, ◌-◌, not, eqb, length}
use Rattle.fields.specs.Turns.{Run}
use Rattle.chart.specs.Kinds.{kind_if, HasStep}
use Rattle.chart.specs.Turns.{SoFarAt}
use Rattle.chart.proofs.reader.put_run.Given as goal

abbrev pub invariant-loop-read : goal.invariant-loop-read
invariant-loop-read g l =
    (l.kind ≡ kind_if (not (eqb g.row.GROUPED 0)))
    × HasStep l.file l.read l.kind
    × Run l.file l.fn.first.place l.read.place (SoFarAt l.file l.stages l.fn.steps l.fn.first) (SoFarAt l.file l.stages l.steps l.read)

abbrev pub decreases-loop-read : goal.decreases-loop-read
decreases-loop-read g l = length l.file - l.read.place
