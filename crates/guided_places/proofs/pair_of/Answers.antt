-- `guided_places::pair_of` meets its contract.
use mathlib.Core.Path.{sym, ◌∙◌}
use Rattle.guided_places.proofs.Placing.{at_begin, placed_begin, placed_mark, placed_stage}
use Rattle.guided_places.proofs.pair_of.Goals as goal

pub pair_in-requires : goal.pair_in-requires
pair_in-requires c =
    placed_begin c.requires c.if-x-begin.true

pub returns-then-x-begin : goal.returns-then-x-begin
returns-then-x-begin c =
    (c.pair_in.ensures.0 ∙ sym (at_begin _ _ _ _ c.if-x-begin.true), c.pair_in.ensures.1)

pub pair_in-requires-2 : goal.pair_in-requires-2
pair_in-requires-2 c =
    placed_mark c.requires c.if-x-begin.false c.stage_in.ensures

pub returns : goal.returns
returns c =
    (c.pair_in-2.ensures.0 ∙ placed_stage c.requires c.if-x-begin.false c.stage_in.ensures, c.pair_in-2.ensures.1)
