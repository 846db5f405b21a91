-- `report::write_steps` meets its contract.
use borrow.Author.Rules.{rules}
use Rattle.buffer.specs.Writing.{wrote_inside, wrote_next}
use Rattle.report.specs.Text.{last_item, step_word}
use Rattle.report.proofs.write_steps.Goals as goal

pub loop-step-preserved : goal.loop-step-preserved
loop-step-preserved c =
    (wrote_inside (search rules) c.write_last_item.ensures, wrote_next (last_item step_word) _ c.loop-step.step-index 0 (search rules) (search rules) c.loop-step.invariant.1 c.write_last_item.ensures)
