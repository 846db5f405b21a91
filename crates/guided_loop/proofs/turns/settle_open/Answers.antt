-- `guided_loop::settle_open` meets its contract: the next open pair is taken, written to the log and settled.
use mathlib.Core.Path.{refl, ◌∙◌, ap}
use mathlib.Core.List.{List}
use Prim.Native.Nat.{ℕ}
use native.Mathlib.Omega.{arith}
use borrow.Author.Rules.{rules}
use lib.ListN.{length, length-set}
use Rattle.guided_loop.proofs.Beginning.{pairs_are}
use Rattle.guided_loop.proofs.Turning.{turn_none, turn_taken, turn_room, turn_logs, turn_placed, turn_inside, turn_falls, turn_estimate, turn_asks, turn_goal, turn_more}
use Rattle.guided_loop.proofs.turns.settle_open.Goals as goal

pub search-init : goal.search-init
search-init c =
    (c.requires.begun, (λ x. x.turning), omega (arith, c.requires.begun.turning.running.few, pairs_are c.requires.begun.by), search rules, search rules, refl)

pub take-requires : goal.take-requires
take-requires c =
    (_, (c.search.invariant.1 c.search.invariant.0).queue)

pub push-requires : goal.push-requires
push-requires c =
    let begun = c.search.invariant.0 in
    let w = c.search.invariant.1 begun in
    let k = turn_taken begun.by w (c.take.ensures.taken _ w.queue) c.in-Some.is in
    turn_logs begun.by w begun.begins c.take.ensures.keys_stay k

pub place_of-at-requires : goal.place_of-at-requires
place_of-at-requires c =
    let begun = c.search.invariant.0 in
    let w = c.search.invariant.1 begun in
    let k = turn_taken begun.by w (c.take.ensures.taken _ w.queue) c.in-Some.is in
    turn_placed begun.by w begun.begins c.take.ensures.keys_stay k

pub of_pair-requires : goal.of_pair-requires
of_pair-requires c =
    let begun = c.search.invariant.0 in
    let w = c.search.invariant.1 begun in
    let k = turn_taken begun.by w (c.take.ensures.taken _ w.queue) c.in-Some.is in
    turn_inside begun.by w begun.begins c.take.ensures.keys_stay k c.place_of-at.result c.place_of-at.ensures

pub overflow_sub-cost : goal.overflow_sub-cost
overflow_sub-cost c =
    let begun = c.search.invariant.0 in
    let w = c.search.invariant.1 begun in
    let k = turn_taken begun.by w (c.take.ensures.taken _ w.queue) c.in-Some.is in
    turn_estimate begun.by w begun.begins c.take.ensures.keys_stay k c.place_of-at.result c.place_of-at.ensures c.of_pair.ensures

pub is_goal-requires : goal.is_goal-requires
is_goal-requires c =
    let begun = c.search.invariant.0 in
    let w = c.search.invariant.1 begun in
    let k = turn_taken begun.by w (c.take.ensures.taken _ w.queue) c.in-Some.is in
    turn_falls begun.by w begun.begins c.take.ensures.keys_stay k c.place_of-at.result c.place_of-at.ensures

pub returns-then-is_goal-clause-searched : goal.returns-then-is_goal-clause-searched
returns-then-is_goal-clause-searched c =
    λ x.
    let w = c.search.invariant.1 x in
    let k = turn_taken x.by w (c.take.ensures.taken _ w.queue) c.in-Some.is in
    turn_goal x.by w x.begins c.take.ensures.keys_stay k c.place_of-at.result c.place_of-at.ensures c.of_pair.ensures c.is_goal.ensures (c.push.ensures.counted, c.push.ensures.written) c.if-is_goal.true

pub settle-requires : goal.settle-requires
settle-requires c =
    let begun = c.search.invariant.0 in
    let w = c.search.invariant.1 begun in
    let k = turn_taken begun.by w (c.take.ensures.taken _ w.queue) c.in-Some.is in
    turn_asks begun.by w begun.begins c.take.ensures.keys_stay k c.place_of-at.result c.place_of-at.ensures c.of_pair.ensures c.requires.all

pub search-smaller : goal.search-smaller
search-smaller c =
    let begun = c.search.invariant.0 in
    let w = c.search.invariant.1 begun in
    let k = turn_taken begun.by w (c.take.ensures.taken _ w.queue) c.in-Some.is in
    omega (arith, turn_room begun.by w begun.begins c.take.ensures.keys_stay k, c.push.ensures.counted)

pub search-preserved : goal.search-preserved
search-preserved c =
    let begun = c.search.invariant.0 in
    let w = c.search.invariant.1 begun in
    let k = turn_taken begun.by w (c.take.ensures.taken _ w.queue) c.in-Some.is in (
      begun,
      (λ x.
          let w = c.search.invariant.1 x in
          let k = turn_taken x.by w (c.take.ensures.taken _ w.queue) c.in-Some.is in
          let asked = turn_asks x.by w x.begins c.take.ensures.keys_stay k c.place_of-at.result c.place_of-at.ensures c.of_pair.ensures c.requires.all in
          turn_more x.by w x.begins c.take.ensures.keys_stay k c.place_of-at.result c.place_of-at.ensures c.of_pair.ensures c.is_goal.ensures (c.push.ensures.counted, c.push.ensures.written)
          c.if-is_goal.false c.settle.ensures.same.1.1 (c.settle.ensures.settled asked)),
      omega (arith, turn_room begun.by w begun.begins c.take.ensures.keys_stay k, c.push.ensures.counted),
      search rules,
      (c.push.ensures.same ∙ c.search.invariant.4.0, ap (λ (l : List ℕ). length l) c.push.ensures.written ∙ length-set _ _ _ ∙ c.search.invariant.4.1),
      c.search.invariant.5,
    )

pub returns-in_default-clause-searched : goal.returns-in_default-clause-searched
returns-in_default-clause-searched c =
    λ x.
    let w = c.search.invariant.1 x in
    turn_none x.by w _ (c.take.ensures.taken _ w.queue) c.in_default.is c.search.invariant.5 refl
