-- `planner_c::planner_space_needed` meets its contract.
use mathlib.Core.Path.{◌∙◌, ap}
use Rattle.space.specs.declared.Needed.{Needed}
use Rattle.answer_arrays.specs.Numbers.{space_numbers}
use Rattle.planner_c.proofs.planner_space_needed.Goals as goal

pub returns : goal.returns
returns c =
    (c.store_space.ensures.0 ∙ ap (λ (n : Needed). n.number) (c.told-s.ensures ∙ c.space_needed.ensures), c.store_space.ensures.1 ∙ ap space_numbers (c.told-s.ensures ∙ c.space_needed.ensures))
