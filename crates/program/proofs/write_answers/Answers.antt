-- `program::write_answers` meets its contract: the report's text, and how long it can be.
use native.Mathlib.Omega.{arith}
use Rattle.program.specs.Size.{report_short}
use Rattle.program.proofs.write_answers.Goals as goal

pub returns : goal.returns
returns c = record {
  appended = c.write_report.ensures;
  short = report_short c.args.both.guided c.args.both.sweep c.args.plan.now
      (record { number = omega arith; file = omega arith; place = omega arith; cost = omega arith; count = omega arith })
      (record { number = omega arith; file = omega arith; place = omega arith; cost = omega arith; count = omega arith })
      (λ k. omega (arith, c.shared_slice_known-1.given k));
}
