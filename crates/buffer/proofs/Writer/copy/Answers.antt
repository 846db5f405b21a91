-- `Writer::copy` meets its contract.
use Rattle.std.proofs.Common.{rules, arith, refl, sym, ◌∙◌, ap, subst, ℕ, ◌+◌, get_or, set}
use Rattle.std.proofs.Math.Seq.{paste-zero}
use Rattle.buffer.specs.Appending.{Appended}
use Rattle.buffer.proofs.Copies.{copy_more, copied}
use Rattle.buffer.proofs.Writer.copy.Goals as goal

pub loop-i-init : goal.loop-i-init
loop-i-init c = (refl, refl, search paste-zero, search rules, refl)

pub overflow_add-self : goal.overflow_add-self
overflow_add-self c = omega (arith, c.requires, c.min-count.ensures, c.loop-i.invariant.1, c.loop-i.invariant.4)

pub bounds-self-self : goal.bounds-self-self
bounds-self-self c = omega (arith, c.requires, c.min-count.ensures, c.loop-i.invariant.1, c.loop-i.invariant.4)

pub loop-i-preserved : goal.loop-i-preserved
loop-i-preserved c = (
  c.loop-i.invariant.0,
  c.loop-i.invariant.1,
  ap (λ (k : ℕ). set c.loop-i.self.out.now (k + c.loop-i.i) (get_or c.args.bytes.now c.loop-i.i 0)) c.loop-i.invariant.1
      ∙ copy_more _ _ _ _ _ _ c.requires c.min-count.ensures (omega arith) c.loop-i.invariant.2,
  search rules,
  search rules,
)

pub overflow_add-self-2 : goal.overflow_add-self-2
overflow_add-self-2 c = omega (arith, c.requires, c.min-count.ensures, c.loop-i.invariant.1, c.loop-i.invariant.4)

pub returns : goal.returns
returns c = (
  c.loop-i.invariant.0,
  subst (λ (k : ℕ). Appended c.args.self.now.out.now c.args.self.now.at c.args.bytes.now c.loop-i.self.out.now (k + c.min-count.result)) (sym c.loop-i.invariant.1)
      (copied _ _ _ _ c.loop-i.i _ c.min-count.ensures c.loop-i.invariant.3 (omega arith) c.loop-i.invariant.2),
)
