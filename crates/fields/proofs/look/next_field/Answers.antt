-- `fields::look::next_field` meets its contract.
use Rattle.fields.specs.Remarks.{remark_none}
use Rattle.fields.proofs.look.next_field.Goals as goal

pub returns : goal.returns
returns c = search remark_none
