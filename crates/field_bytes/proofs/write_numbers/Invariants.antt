-- The loop of `field_bytes::write_numbers`: what holds at its head.
use Prim.Native.Nat.{◌+◌, ◌*◌}
use mathlib.Core.Path.{◌≡◌}
use lib.ListN.{length, take}
use Rattle.definitions.specs.Basics.{each}
use Rattle.definitions.specs.Bytes.{le2}
use Rattle.buffer.specs.Writing.{Wrote}
use Rattle.field_bytes.proofs.write_numbers.Given as goal

abbrev pub invariant-loop-n : goal.invariant-loop-n
invariant-loop-n l =
    (l.w.at ≡ l.initial.w.at + 2 * l.n-index) × (length l.w.out.now ≡ length l.initial.w.out.now) × Wrote l.initial.w (each le2 (take l.n-index l.numbers)) l.w
