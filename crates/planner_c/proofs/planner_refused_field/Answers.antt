-- `planner_c::planner_refused_field` meets its contract.
use mathlib.Core.Path.{◌≡◌, subst}
use mathlib.Core.List.{List}
use Prim.Native.Nat.{min}
use lib.ListN.{length}
use Rattle.buffer.specs.Appending.{Appended}
use Rattle.planner_c.proofs.planner_refused_field.Goals as goal

pub returns : goal.returns
returns c =
    let field = c.args.field.now in
    let field' = c.store_field.new.buffer in
    let r = c.store_field.result in
    subst (λ (bytes : List _). (r ≡ length bytes) × Appended field 0 bytes field' (min r (length field))) c.refused_field-bytes.ensures.bytes c.store_field.ensures
