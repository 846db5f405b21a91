-- The loop of `Writer::copy`: so many bytes are copied, in the buffer that was lent.
use Rattle.std.proofs.Common.{◌≤◌, length, ◌≡◌}
use Rattle.std.proofs.Math.Seq.{paste}
use Rattle.buffer.proofs.Writer.copy.Given as goal

abbrev pub invariant-loop-i : goal.invariant-loop-i
invariant-loop-i l =
    (l.self.out.ghost_name ≡ l.initial.self.out.ghost_name)
    × (l.self.at ≡ l.initial.self.at)
    × (l.self.out.now ≡ paste l.initial.self.out.now l.initial.self.at l.bytes l.i)
    × (l.i ≤ l.count)
    × (length l.self.out.now ≡ length l.initial.self.out.now)
