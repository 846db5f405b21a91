-- `space::space_needed` meets its contract.
use native.Mathlib.Omega.{arith}
use mathlib.Core.Path.{sym, ◌∙◌, ap}
use Rattle.std.proofs.lemmas.Result.{err_from_is_err_and}
use Rattle.space.specs.Space.{space_needed}
use Rattle.space.specs.Enough.{load_most}
use Rattle.space.proofs.Needing.{needed_ready, small}
use Rattle.space.proofs.space_needed.Goals as goal

pub returns-in_err-z : goal.returns-in_err-z
returns-in_err-z c =
    let p = err_from_is_err_and c.from_residual.result c.from_residual.ensures.1 in
    rw (p.1, p.2) (ap space_needed (sym c.in_err-z.ensures ∙ load_most c.args.chart.now c.args.rules.now))

pub overflow_add-result : goal.overflow_add-result
overflow_add-result c = omega (arith, (small _ _ c.in_ok-z.ensures.1).narrow)

pub overflow_mul-result : goal.overflow_mul-result
overflow_mul-result c = omega (arith, (small _ _ c.in_ok-z.ensures.1).few_pairs)

pub overflow_sub-result : goal.overflow_sub-result
overflow_sub-result c = omega (arith, (small _ _ c.in_ok-z.ensures.1).one_stage)

pub returns : goal.returns
returns c = needed_ready _ _ c.in_ok-z.ensures.1 _ c.in_ok-z.ensures.0 ∙ ap space_needed (load_most c.args.chart.now c.args.rules.now)
