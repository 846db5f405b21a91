-- `trace::write_plan` meets its contract: the trail's steps are no more than the stages that they pass.
use Rattle.std.proofs.Common.{ℕ, List, ◌++◌, drop, length-take-le, sym, ◌∙◌, ap, arith}
use Rattle.trace.proofs.Steps.{steps_few, reversed_back}
use Rattle.trace.proofs.write_plan.Goals as goal

pub slice_bounds-reverse-end : goal.slice_bounds-reverse-end
slice_bounds-reverse-end c =
    let trail = c.requires.traceable in
    omega (arith, (c.trace_back-length.ensures trail).0, steps_few trail, c.requires.fits)

pub slice_bounds-reverse-end-2 : goal.slice_bounds-reverse-end-2
slice_bounds-reverse-end-2 c =
    let trail = c.requires.traceable in
    sym (length-take-le c.trace_back-length.result c.trace_back-length.new.plan
    (omega (arith, (c.trace_back-length.ensures trail).0, steps_few trail, c.requires.fits)))

pub returns : goal.returns
returns c =
    λ x.
    let back = c.trace_back-length.ensures x in (
      back.0,
      ap (λ (z : List ℕ). z ++ drop c.trace_back-length.result c.trace_back-length.new.plan) c.reverse.ensures.after
          ∙ reversed_back x.steps (drop c.trace_back-length.result c.args.plan.now) c.trace_back-length.new.plan c.trace_back-length.result back.0 back.1,
    )
