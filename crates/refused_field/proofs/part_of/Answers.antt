-- `refused_field::part_of` meets its contract.
use mathlib.Core.List.{[]}
use borrow.Author.Tests.{lt-ltb}
use Rattle.definitions.specs.Basics.{pick}
use Rattle.refused_field.specs.Lies.{lies_past}
use Rattle.refused_field.specs.Refused.{bytes_within, bytes_past}
use Rattle.refused_field.proofs.part_of.Goals as goal

pub returns-then-place-s-clause-bytes : goal.returns-then-place-s-clause-bytes
returns-then-place-s-clause-bytes c =
    bytes_within c.args.s.now c.args.place _ c.field_end-end.ensures

pub returns-then-place-s-clause-lies : goal.returns-then-place-s-clause-lies
unfolding pick
returns-then-place-s-clause-lies c = rw (lt-ltb _ _ c.if-place-s.true)

pub returns-clause-bytes : goal.returns-clause-bytes
returns-clause-bytes c =
    bytes_past c.args.s.now c.args.place c.if-place-s.false

pub returns-clause-lies : goal.returns-clause-lies
returns-clause-lies c =
    lies_past _ _ c.args.s.now [] 0 c.args.place c.if-place-s.false
