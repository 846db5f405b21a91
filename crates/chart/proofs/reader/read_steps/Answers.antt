-- `chart::read_steps` meets its contract: each turn takes the walk on.
use Rattle.std.proofs.Common.{rules}
use Rattle.chart.proofs.Steps.{steps_start, walk_done, walk_faulty, walk_passed, has_step, passed_less}
use Rattle.chart.proofs.reader.read_steps.Goals as goal

pub loop-refusal-init : goal.loop-refusal-init
loop-refusal-init c = rw c.start-read.ensures (steps_start _ _ _ _)

pub returns-in-Absent : goal.returns-in-Absent
returns-in-Absent c = walk_done _ _ _ _ _ _ c.loop-refusal.invariant _ c.due_kind-kind.ensures _ c.find_step.ensures c.in-Absent.is

pub returns-in-Faulty : goal.returns-in-Faulty
returns-in-Faulty c = rw c.stopped.ensures (walk_faulty _ _ _ _ _ _ c.loop-refusal.invariant _ c.due_kind-kind.ensures _ c.find_step.ensures _ _ c.in-Faulty.is)

pub loop-refusal-smaller-in-Passed : goal.loop-refusal-smaller-in-Passed
loop-refusal-smaller-in-Passed c = passed_less _ c.loop-refusal.read _ _ c.find_step.ensures _ c.in-Passed.is

pub loop-refusal-preserved-in-Passed : goal.loop-refusal-preserved-in-Passed
loop-refusal-preserved-in-Passed c = walk_passed _ _ _ _ _ _ c.loop-refusal.invariant _ c.due_kind-kind.ensures _ c.find_step.ensures _ c.in-Passed.is

pub put_steps-requires : goal.put_steps-requires
put_steps-requires c = has_step _ _ _ _ c.find_step.ensures c.due_kind-kind.ensures _ _ _ c.in-Whole.is

pub returns-in_err-read-in-Whole : goal.returns-in_err-read-in-Whole
returns-in_err-read-in-Whole c = let stops = c.in_err-read-in-Whole.ensures (c.args.first, c.args.steps.now) c.loop-refusal.invariant in search (rules, stops)

pub loop-refusal-preserved : goal.loop-refusal-preserved
loop-refusal-preserved c = c.in_ok-read-in-Whole.ensures.1 (c.args.first, c.args.steps.now) c.loop-refusal.invariant
