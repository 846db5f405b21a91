-- The file at fault, and what is known of a file that was read.
-- Assumes nothing.
use Rattle.std.specs.Prelude.{ℕ, ◌≡◌, Option, Some, None, Result, Ok, Err}
use Rattle.definitions.specs.Answers.{Load, refused}
use Rattle.definitions.specs.Refusals.{number}
use Rattle.fields.specs.declared.fault.Stopped.{Stopped}
use Rattle.checks.specs.declared.answers.InFile.{InFile}
use Rattle.checks.specs.declared.answers.InFile.TheVariants.{Chart, Rules, More}
use Rattle.checks.specs.declared.answers.Refused.{Refused}

abbrev pub mark : InFile → ℕ
mark Chart = 1
mark Rules = 2
mark More = 3

-- 0 where no file is at fault
abbrev pub file_mark : Option InFile → ℕ
file_mark (Some file) = mark file
file_mark None = 0

-- the refusal of a call, as the definitions give it
abbrev pub refused_as : Refused → Load
refused_as r = refused (number r.refusal) (file_mark r.file) r.place

-- what was read stays, and a fault is one of this file
abbrev pub FoundIn : {T S : Type 0} → InFile → Result T (Stopped S) → Result T Refused → Type 0
FoundIn file read (Ok value) = read ≡ Ok value
FoundIn {S = S} file read (Err r) = (e : Stopped S) × (read ≡ Err e) × (r ≡ record { refusal = e.fault.refusal; file = Some file; place = e.fault.place })
