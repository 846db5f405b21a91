-- `guided_loop::search` meets its contract: the pair of start and root is opened, then open pairs are settled.
use mathlib.Core.Path.{refl}
use native.Mathlib.Omega.{arith}
use borrow.Author.Rules.{rules}
use Rattle.guided_expand.specs.Guides.{few_pairs}
use Rattle.guided_loop.proofs.Beginning.{narrow, start_small, no_pairs, begin_block, begin_asks, begin_begun, begin_searched, searched_as}
use Rattle.guided_loop.proofs.turns.search.Goals as goal

pub overflow_add-pairs : goal.overflow_add-pairs
overflow_add-pairs c =
    omega (arith, narrow c.requires.by)

pub overflow_mul-pairs : goal.overflow_mul-pairs
overflow_mul-pairs c =
    omega (arith, few_pairs c.requires.by.ready)

pub pair_at-begin-requires : goal.pair_at-begin-requires
pair_at-begin-requires c =
    start_small c.requires.by

pub open_block-requires : goal.open_block-requires
open_block-requires c =
    begin_block c.requires c.pair_at-begin.ensures

pub insert-requires : goal.insert-requires
insert-requires c =
    begin_asks c.requires c.pair_at-begin.ensures c.open_block.auto.keys c.open_block.ensures no_pairs

pub settle_open-goal-requires : goal.settle_open-goal-requires
settle_open-goal-requires c = record {
  all = refl;
  begun = begin_begun c.requires c.pair_at-begin.ensures c.open_block.auto.keys c.open_block.ensures no_pairs c.insert.ensures.inserted;
}

pub returns-clause-searched : goal.returns-clause-searched
returns-clause-searched c =
    λ x.
    searched_as
    (begin_searched x c.pair_at-begin.ensures c.open_block.auto.keys c.open_block.ensures no_pairs c.insert.ensures.inserted
    (c.settle_open-goal.ensures.searched
    (begin_begun x c.pair_at-begin.ensures c.open_block.auto.keys c.open_block.ensures no_pairs c.insert.ensures.inserted)))
    (search rules) (search rules) (search rules) (search rules) (search rules) (search rules)
