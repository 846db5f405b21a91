-- `guided_expand::settle_kind` meets its contract: the steps before e have been offered.
use native.Mathlib.Omega.{arith}
use borrow.Author.Rules.{rules}
use Rattle.guided_expand.proofs.Walking.{settles_order, walk_start, walk_falls, walk_step, walk_group, walk_branches, walk_dead, walk_leading, walk_more, walk_done}
use Rattle.guided_expand.proofs.steps.settle_kind.Goals as goal

pub loop-e-init : goal.loop-e-init
loop-e-init g c =
    let at = c.lowered_at-m.ensures in
    ((λ x. walk_start x at.0), search rules, at.1)

pub group_of-group-requires : goal.group_of-group-requires
group_of-group-requires g c =
    walk_step (c.loop-e.invariant.0 c.requires.opening) c.loop-e-test.true

pub descend_to-m-requires : goal.descend_to-m-requires
descend_to-m-requires g c =
    let w = c.loop-e.invariant.0 c.requires.opening in
    let f = walk_falls w c.loop-e-test.true (walk_group w c.loop-e-test.true _ c.requires.kind c.group_of-group.ensures) in
    (f.0, f.1, f.2, c.loop-e.invariant.2)

pub returns-then-m-eq0-clause-settled : goal.returns-then-m-eq0-clause-settled
returns-then-m-eq0-clause-settled g c =
    λ x.
    let w = c.loop-e.invariant.0 x in
    walk_dead w c.loop-e-test.true (walk_group w c.loop-e-test.true _ c.requires.kind c.group_of-group.ensures) c.descend_to-m.ensures.0 c.if-m-eq0.true

pub branch-t-requires : goal.branch-t-requires
branch-t-requires g c =
    let w = c.loop-e.invariant.0 c.requires.opening in
    let b = walk_branches w c.loop-e-test.true (walk_group w c.loop-e-test.true _ c.requires.kind c.group_of-group.ensures) c.descend_to-m.ensures.0 in
    (b.0, b.1, b.2, c.descend_to-m.ensures.1)

pub offer-requires : goal.offer-requires
offer-requires g c =
    let w = c.loop-e.invariant.0 c.requires.opening in
    walk_leading w c.loop-e-test.true (walk_group w c.loop-e-test.true _ c.requires.kind c.group_of-group.ensures) c.descend_to-m.ensures.0 c.branch-t.ensures

pub loop-e-preserved : goal.loop-e-preserved
loop-e-preserved g c = (
  (λ x.
      let w = c.loop-e.invariant.0 x in
      let is-group = walk_group w c.loop-e-test.true _ c.requires.kind c.group_of-group.ensures in
      let led-to = walk_leading w c.loop-e-test.true is-group c.descend_to-m.ensures.0 c.branch-t.ensures in
      walk_more w c.loop-e-test.true is-group c.descend_to-m.ensures.0 c.branch-t.ensures c.offer.ensures.same.1.1 (c.offer.ensures.offered led-to)),
  search rules,
  c.descend_to-m.ensures.1,
)

pub returns-clause-settled : goal.returns-clause-settled
returns-clause-settled g c =
    λ x. walk_done (c.loop-e.invariant.0 x) (omega (arith, settles_order x, c.loop-e.auto.e-end, c.loop-e-test.false))
