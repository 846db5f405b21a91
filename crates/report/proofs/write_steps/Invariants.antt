-- The loop of `report::write_steps`: the lines of the steps so far are written.
use Prim.Native.Nat.{◌≤◌}
use lib.ListN.{length, take}
use Rattle.buffer.specs.Writing.{Wrote}
use Rattle.report.specs.Text.{step_lines}
use Rattle.report.proofs.write_steps.Given as goal

abbrev pub invariant-loop-step : goal.invariant-loop-step
invariant-loop-step l = (l.w.at ≤ length l.w.out.now) × Wrote l.initial.w (step_lines (take l.step-index l.steps)) l.w
