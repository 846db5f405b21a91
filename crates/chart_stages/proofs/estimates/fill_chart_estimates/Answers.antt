-- `chart_stages::fill_chart_estimates` meets its contract: the entries of the stages from s on are told.
use Prim.Native.Nat.{ℕ, ◌+◌, ◌-◌, ◌≤◌, ◌<◌}
use mathlib.Core.Path.{refl, ◌∙◌, ap}
use lib.ListN.{length, length-set, length-replicate}
use native.Mathlib.Omega.{arith}
use Rattle.definitions.specs.Basics.{NONE}
use Rattle.chart_stages.proofs.Estimating.{end_below, stages_start, stage_leaving, stage_turn, stages_done}
use borrow.Author.Rules.{rules}
use Rattle.chart_stages.proofs.estimates.fill_chart_estimates.Goals as goal

pub loop-s-preserved : goal.loop-s-preserved
loop-s-preserved c = (
  search rules,
  search rules,
  search rules,
  λ z on q.
      let some : 0 < c.loop-s.s = omega (arith, c.loop-s-test.true) in
      let late : c.loop-s.s ≤ z.end.0 = omega (arith, c.loop-s.invariant.0) in
      let told = c.loop-s.invariant.3 z on q in
      stage_turn on some late told c.loop-s.invariant.2 (c.least_through.ensures (stage_leaving on some late told)),
)

pub offset_bounds-estimates-s : goal.offset_bounds-estimates-s
offset_bounds-estimates-s c =
    omega (arith, end_below c.requires.staged)

pub bounds-estimates-s : goal.bounds-estimates-s
bounds-estimates-s c =
    omega (arith, end_below c.requires.staged)

pub loop-s-init : goal.loop-s-init
loop-s-init c =
    let long = length-set c.args.estimates.now _ 0 ∙ ap length c.requires.none_yet ∙ length-replicate {A = ℕ} 256 NONE in
    (search rules, end_below c.requires.staged, long, λ z on q. rw c.requires.none_yet (stages_start on q))

pub least_through-requires : goal.least_through-requires
least_through-requires c =
    stage_leaving c.requires.staged (omega (arith, c.loop-s-test.true)) c.loop-s.invariant.0 (c.loop-s.invariant.3 c.args.z c.requires.staged refl)

pub returns : goal.returns
returns c =
    stages_done c.requires.staged (omega (arith, c.loop-s-test.false)) c.loop-s.invariant.2 (c.loop-s.invariant.3 c.args.z c.requires.staged refl)
