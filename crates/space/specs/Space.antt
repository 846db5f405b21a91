-- How much space the searches need for two files.
-- Assumes nothing.
use Rattle.std.specs.Prelude.{Result, Ok, Err}
use Rattle.definitions.specs.Answers.{Load, ready, refused, work_need, plan_need}
use Rattle.definitions.specs.Refusals.{number}
use Rattle.checks.specs.Refusing.{file_mark}
use Rattle.checks.specs.declared.answers.Refused.{Refused}
use Rattle.space.specs.declared.Space.{Space}
use Rattle.space.specs.declared.Needed.{Needed}

-- the refusal, or what both files need
abbrev pub space_needed : Load → Needed
space_needed (refused number file place) = record { number = number; file = file; place = place; work = 0; plan = 0 }
space_needed (ready c d) = record { number = 0; file = 0; place = 0; work = work_need c d; plan = plan_need c }

-- what the call answers, in these numbers
abbrev pub told : Result Space Refused → Needed
told (Ok s) = record { number = 0; file = 0; place = 0; work = s.work; plan = s.plan }
told (Err r) = record { number = number r.refusal; file = file_mark r.file; place = r.place; work = 0; plan = 0 }
