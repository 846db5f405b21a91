-- `diagram::read_nodes` meets its contract: each turn takes the walk on.
use Rattle.std.proofs.Common.{rules, ap, ◌∙◌, refl, List, ℕ, Bor}
use Rattle.unique_table.specs.declared.UniqueTable.{UniqueTable}
use Rattle.diagram.proofs.Nodes.{nodes_start, found_here, take_done, take_faulty, take_passed, passed_less, take_run}
use Rattle.diagram.proofs.reader.read_nodes.Goals.{in-Passed, in-Whole+in_ok-read-in-Whole}
use Rattle.diagram.proofs.reader.read_nodes.Goals as goal

pub loop-refusal-init : goal.loop-refusal-init
loop-refusal-init c = (
  ap (λ (b : Bor (List ℕ)). b.now) (c.moved-reader.ensures.0 ∙ c.new.ensures.0),
  c.moved-reader.ensures.1,
  refl,
  nodes_start _ _ _ _ _ c.requires,
)

pub returns-in-Absent-clause-over : goal.returns-in-Absent-clause-over
returns-in-Absent-clause-over c =
    let here = found_here _ _ _ _ _ c.next.ensures c.loop-refusal.invariant.0 c.loop-refusal.invariant.1 in
    take_done _ _ _ _ _ _ here (_, _) c.loop-refusal.invariant.3 c.in-Absent.is

pub returns-in-Faulty-clause-over : goal.returns-in-Faulty-clause-over
returns-in-Faulty-clause-over c =
    let here = found_here _ _ _ _ _ c.next.ensures c.loop-refusal.invariant.0 c.loop-refusal.invariant.1 in
    take_faulty _ _ _ _ _ _ here (_, _) c.loop-refusal.invariant.3 _ _ c.in-Faulty.is _ c.stopped.ensures

pub put_nodes-requires : goal.put_nodes-requires
put_nodes-requires c =
    let here = found_here _ _ _ _ _ c.next.ensures c.loop-refusal.invariant.0 c.loop-refusal.invariant.1 in
    take_run _ _ _ _ _ _ here (_, _) c.loop-refusal.invariant.3 _ _ _ c.in-Whole.is

pub returns-in_err-read-in-Whole-clause-over : goal.returns-in_err-read-in-Whole-clause-over
returns-in_err-read-in-Whole-clause-over c =
    let over = c.in_err-read-in-Whole.ensures.takes (c.args.first, c.args.table.now.nodes.now) c.loop-refusal.invariant.3 in
    search (rules, over)

pub loop-refusal-smaller : goal.loop-refusal-smaller
loop-refusal-smaller c =
    let here = found_here _ _ _ _ _ c.next.ensures c.loop-refusal.invariant.0 c.loop-refusal.invariant.1 in
    elim c.match-next.branch [
      | in-Passed w ↦ rw w.read-is (passed_less _ _ _ c.loop-refusal.read _ _ here (_, _) c.loop-refusal.invariant.3 _ w.in-Passed.is)
      | in-Whole+in_ok-read-in-Whole w ↦ rw w.read-is w.in_ok-read-in-Whole.ensures.takes.0
    ]

pub loop-refusal-preserved : goal.loop-refusal-preserved
loop-refusal-preserved c =
    let here = found_here _ _ _ _ _ c.next.ensures c.loop-refusal.invariant.0 c.loop-refusal.invariant.1 in
    elim c.match-next.branch [
      | in-Passed w ↦ (
        ap (λ (b : Bor (List ℕ)). b.now) c.moved-reader-in-loop-refusal.ensures.0 ∙ c.loop-refusal.invariant.0,
        c.moved-reader-in-loop-refusal.ensures.1,
        ap (λ (t : UniqueTable). t.nodes.ghost_name) w.table-is ∙ c.loop-refusal.invariant.2,
        rw (w.table-is, w.read-is) (take_passed _ _ _ c.loop-refusal.read _ _ here (_, _) c.loop-refusal.invariant.3 _ w.in-Passed.is),
      )
      | in-Whole+in_ok-read-in-Whole w ↦ (
        ap (λ (b : Bor (List ℕ)). b.now) c.moved-reader-in-loop-refusal.ensures.0 ∙ c.loop-refusal.invariant.0,
        c.moved-reader-in-loop-refusal.ensures.1,
        ap (λ (t : UniqueTable). t.nodes.ghost_name) w.table-is ∙ w.put_nodes.ensures.same ∙ c.loop-refusal.invariant.2,
        rw (w.table-is, w.read-is) (w.in_ok-read-in-Whole.ensures.takes.1 (_, _) c.loop-refusal.invariant.3),
      )
    ]
