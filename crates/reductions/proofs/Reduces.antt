-- Two files over one chart and their reductions.
-- Assumes nothing.
use Rattle.std.specs.Prelude.{ℕ, ◌≡◌, List, ◌↔◌}
use Rattle.definitions.specs.Charts.{read_chart, group_count}
use Rattle.definitions.specs.Diagrams.{lenient}
use Rattle.diagram.specs.Accepted.{diagram_accepted}
use Rattle.reductions.specs.Reductions.{SameSets}
use Rattle.reductions.specs.Reduces.{rules_held, Files, bytes}
use Rattle.reductions.proofs.Reductions.{reduction_exactly}

-- Two files over one chart, padding aside accepted, have the same reduction, byte for byte, exactly if they say yes to the same sets of the chart's steps
pub files_exactly : (chart rules more : List ℕ) → Files chart rules → Files chart more
    → (bytes chart rules ≡ bytes chart more) ↔ SameSets (group_count (read_chart chart).chart) (rules_held chart rules).diagram (rules_held chart more).diagram
files_exactly chart rules more f g =
    let n = group_count (read_chart chart).chart in
    reduction_exactly n (rules_held chart rules).diagram (rules_held chart more).diagram (diagram_accepted lenient rules n f.rules_pass) (diagram_accepted lenient more n g.rules_pass)
