-- The loop of `guided_loop::settle_open`: it was begun, and whatever it was begun by, this many turns are done.
use Prim.Native.Nat.{◌-◌, ◌≤◌}
use Rattle.std.specs.Prelude.{◌≡◌, None}
use Rattle.heap.specs.Views.{SameSlice}
use Rattle.checks.specs.Tables.{pairs_in}
use Rattle.checks.specs.Ready.{walked}
use Rattle.guided_offers.specs.Views.{estimates_of, work_of, SameSlices}
use Rattle.guided_expand.specs.Progress.{progress_of}
use Rattle.guided_loop.specs.Search.{Turning, Begun}
use Rattle.guided_loop.proofs.turns.settle_open.Given as goal

abbrev pub invariant-search : goal.invariant-search
invariant-search l =
    Begun l.z (walked l.tables) (estimates_of l.estimates) l.begin (progress_of l.initial.work l.initial.filled) l.initial.log.entries.now l.initial.log.count
    × ((x : Begun l.z (walked l.tables) (estimates_of l.estimates) l.begin (progress_of l.initial.work l.initial.filled) l.initial.log.entries.now l.initial.log.count)
    → Turning x.by (work_of l.initial.work) l.initial.log.entries.now (progress_of l.work l.filled) l.log.entries.now l.floor l.log.count)
    × (l.log.count ≤ pairs_in l.z)
    × SameSlices l.initial.work l.work
    × SameSlice l.initial.log.entries l.log.entries
    × (l.goal ≡ None)

abbrev pub decreases-search : goal.decreases-search
decreases-search l = pairs_in l.z - l.log.count
