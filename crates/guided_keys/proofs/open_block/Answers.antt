-- `guided_keys::open_block` meets its contract.
-- Assumes nothing.
use Prim.Native.Nat.{◌*◌, ◌/◌}
use native.Mathlib.Omega.{arith}
use Rattle.guided_keys.proofs.Filling.{block_was, block_new, filled_part}
use Rattle.guided_keys.proofs.open_block.Goals as goal

pub returns-then-filled-b : goal.returns-then-filled-b
returns-then-filled-b c =
    block_was c.args.x c.args.pairs c.args.keys.now c.args.filled.now c.requires.0 c.if-filled-b.true

pub returns : goal.returns
returns c =
    let until = c.min-until in
    let few = c.requires.3 in
    let part = filled_part (c.args.x / 128 * 128) until.result c.args.keys.now c.fill.new.self
    (omega (arith, until.ensures)) (omega (arith, until.ensures)) (c.fill.ensures.after (λ y e. e)) in
    block_new c.args.x c.args.pairs c.args.keys.now c.args.filled.now c.requires.0 c.requires.1 few c.if-filled-b.false until.result until.ensures _ part
