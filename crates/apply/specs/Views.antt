-- What the code's structs stand for: a pair, two diagrams in tables, and the stack with its frames.
-- Assumes nothing.
use Rattle.std.specs.Prelude.{ℕ, suc, ◌+◌, ◌<◌, ◌≡◌, Bool, List, Option, Some, None, set}
use Rattle.unique_table.specs.Tables.{UniqueTable}
use Rattle.apply.specs.declared.operands.Pair.{Pair}
use Rattle.apply.specs.declared.operands.Operands.{Operands}
use Rattle.apply.specs.declared.stack.Frame.{Frame}
use Rattle.apply.specs.declared.stack.Stack.{Stack}
use Rattle.apply.specs.Operands.{half_in, top_in}
use Rattle.apply.specs.Stacks.{frame_of}
use Rattle.apply.specs.Walks.{Walking, Descending}
use Rattle.apply.specs.Turns.{Taken}
use Rattle.apply.specs.Whole.{Ready}

-- ---- a pair of nodes

abbrev pub least_step : Operands → Pair → ℕ
least_step o p = top_in o.left.now o.right.now p.first p.second

-- the lo half, or the hi half
abbrev pub half_of : Bool → Operands → Pair → Pair
half_of hi o p = record { first = half_in hi o.left.now (least_step o p) p.first; second = half_in hi o.right.now (least_step o p) p.second }

-- ---- the stack

-- the number in place of the reference of a half: 512 for none
abbrev pub half_number : Option ℕ → ℕ
half_number None = 512
half_number (Some l) = l

pub record Small (f : Frame) : Type 0 where
  pub first : f.pair.first < 512
  pub second : f.pair.second < 512

abbrev pub Pushes : Stack → Frame → Stack → Type 0
Pushes s f s' = s' ≡ record { frames = set s.frames s.count (frame_of (half_number f.lo) f.pair.first f.pair.second); count = s.count + 1 }

-- the frame f is off the stack
pub record Popped (s : Stack) (f : Frame) (s' : Stack) : Type 0 where
  pub count : s.count ≡ suc s'.count
  pub frames : s'.frames ≡ s.frames
  pub taken : Taken s'.frames s'.count f.pair.first f.pair.second f.lo

abbrev pub Pops : Stack → Option Frame → Stack → Type 0
Pops s None s' = (s.count ≡ 0) × (s' ≡ s)
Pops s (Some f) s' = Popped s f s'

-- ---- the walk

abbrev pub ReadyFor : List ℕ → UniqueTable → Operands → Pair → Type 0
ReadyFor work t o p = Ready work t o.left.now o.right.now o.width p.first p.second

abbrev pub DescendingFor : Stack → List ℕ → Operands → Pair → Type 0
DescendingFor s work o p = Descending s.frames work o.left.now o.right.now o.width s.count p.first p.second

-- with the frame f on top of the stack, which the code has taken off
abbrev pub WalkingFor : Stack → Frame → List ℕ → UniqueTable → Operands → ℕ → Type 0
WalkingFor s f work t o done =
    Walking s.frames work t o.left.now o.right.now o.width (suc s.count) done × Taken s.frames s.count f.pair.first f.pair.second f.lo
