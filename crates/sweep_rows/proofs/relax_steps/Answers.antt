-- `sweep_rows::relax_steps` meets its contract: what is left of the steps comes to the same as all of them.
use Rattle.std.proofs.Common.{arith, rules}
use Rattle.sweep_rows.proofs.Walking.{walk_step, walk_own, walk_key, walk_marked, walk_falls, walk_dead, walk_offering, walk_more, walk_done}
use Rattle.sweep_rows.proofs.relax_steps.Goals as goal

pub group_of-group-requires-clause-inside : goal.group_of-group-requires-clause-inside
group_of-group-requires-clause-inside g c =
    walk_step (c.loop-number.invariant.walking c.requires.stands) c.loop-number-test.true

pub group_of-group-requires-clause-alone : goal.group_of-group-requires-clause-alone
group_of-group-requires-clause-alone g c =
    λ off. walk_own (c.loop-number.invariant.walking c.requires.stands) c.loop-number-test.true (c.requires.alone off)

pub descend_to-m-requires : goal.descend_to-m-requires
descend_to-m-requires g c =
    let w = c.loop-number.invariant.walking c.requires.stands in
    (walk_marked w, walk_falls w _ (omega arith), omega (arith, walk_key w c.loop-number-test.true c.group_of-group.ensures), c.loop-number.invariant.tests)

pub returns-then-m-eq0-clause-becomes : goal.returns-then-m-eq0-clause-becomes
returns-then-m-eq0-clause-becomes g c =
    λ x. walk_dead (c.loop-number.invariant.walking x) c.loop-number-test.true c.group_of-group.ensures c.descend_to-m.ensures.0 c.if-m-eq0.true

pub branch-t-requires : goal.branch-t-requires
branch-t-requires g c =
    let w = c.loop-number.invariant.walking c.requires.stands in
    (walk_marked w, (walk_falls w _ c.descend_to-m.ensures.0.below).inside, omega (arith, walk_key w c.loop-number-test.true c.group_of-group.ensures), c.descend_to-m.ensures.1)

pub relax_step-requires : goal.relax_step-requires
relax_step-requires g c =
    walk_offering (c.loop-number.invariant.walking c.requires.stands) c.loop-number-test.true c.group_of-group.ensures c.descend_to-m.ensures.0 c.branch-t.ensures

pub loop-number-preserved : goal.loop-number-preserved
loop-number-preserved g c = record {
  walking = λ x. walk_more (c.loop-number.invariant.walking x) c.loop-number-test.true c.group_of-group.ensures c.descend_to-m.ensures.0 c.branch-t.ensures _ c.relax_step.ensures.becomes;
  same = search rules;
  tests = c.descend_to-m.ensures.1;
}

pub returns-clause-becomes : goal.returns-clause-becomes
returns-clause-becomes g c =
    λ x. walk_done (c.loop-number.invariant.walking x) c.loop-number-test.false
