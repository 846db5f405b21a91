-- The kinds of steps: each names its group, or each is a group alone, that of its own number.
-- Assumes nothing.
use Rattle.std.specs.Prelude.{ℕ, ◌≡◌, Bool, true, false, get_or}
use Rattle.chart.specs.Tables.{Steps}
use Rattle.checks.specs.Tables.{Read, Named}

-- the steps are of the kind: they name their groups, or they do not
abbrev pub Kind : Bool → Read → Type 0
Kind true t = Named t
Kind false t = Named t → ⊥

-- k is the group of step e, by the kind of the steps
abbrev pub GroupOf : Bool → Steps → ℕ → ℕ → Type 0
GroupOf true steps e k = k ≡ get_or steps.group e 0
GroupOf false steps e k = k ≡ e
