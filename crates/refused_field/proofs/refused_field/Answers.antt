-- `refused_field::refused_field` meets its contract.
use Rattle.definitions.specs.Basics.{pick}
use Rattle.definitions.specs.Fields.{refused_field}
use Rattle.refused_field.specs.Lies.{refused_at, lies_none}
use Rattle.refused_field.specs.Refused.{bytes_none}
use Rattle.refused_field.proofs.refused_field.Goals as goal

pub returns-in-1-clause-bytes : goal.returns-in-1-clause-bytes
unfolding refused_field pick
returns-in-1-clause-bytes c = rw c.in-1.is c.part_of.ensures.bytes

pub returns-in-1-clause-lies : goal.returns-in-1-clause-lies
unfolding refused_at pick
returns-in-1-clause-lies c = rw c.in-1.is c.part_of.ensures.lies

pub returns-in-2-clause-bytes : goal.returns-in-2-clause-bytes
unfolding refused_field pick
returns-in-2-clause-bytes c = rw c.in-2.is c.part_of-in-2.ensures.bytes

pub returns-in-2-clause-lies : goal.returns-in-2-clause-lies
unfolding refused_at pick
returns-in-2-clause-lies c = rw c.in-2.is c.part_of-in-2.ensures.lies

pub returns-in_default-clause-bytes : goal.returns-in_default-clause-bytes
returns-in_default-clause-bytes c = search bytes_none

pub returns-in_default-clause-lies : goal.returns-in_default-clause-lies
returns-in_default-clause-lies c = search lies_none
