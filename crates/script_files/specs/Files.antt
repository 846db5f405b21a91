-- The files in the buffer of a script.
-- Assumes nothing.
use Rattle.std.specs.Prelude.{ℕ, List, ◌≡◌, ◌≤◌, ◌+◌, if◌then◌else◌, drop, length, nat_le, take}
use Rattle.script_files.specs.declared.write.Files.{Files}
use Rattle.script_files.specs.declared.write.Role.{Role}
use Rattle.script_files.specs.declared.write.Role.TheVariants.{Chart, Rules, More}

-- where in the buffer a file begins
abbrev pub place : Role → ℕ
place Chart = 32784
place Rules = 65568
place More = 98352

-- how many bytes a file is said to have
abbrev pub size : Files → Role → ℕ
size files Chart = files.chart
size files Rules = files.rules
size files More = files.more

-- so many bytes of a buffer from a place on, or the whole buffer where there are not so many
abbrev pub part : List ℕ → ℕ → ℕ → List ℕ
part buffer from count = if nat_le (from + count) (length buffer) then take count (drop from buffer) else buffer

-- The file in the making has only grown: its bytes stand, and the other files have as many as they had.
abbrev pub Grown : Files → Files → Type 0
Grown old new = (old.making ≤ new.making) × (take old.making new.buffer ≡ take old.making old.buffer) × (new.chart ≡ old.chart) × (new.rules ≡ old.rules) × (new.more ≡ old.more)
