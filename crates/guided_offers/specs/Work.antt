-- The five work slices of a search, and what they hold before and after some pairs were opened or got a lower key.
-- Assumes nothing.
use Rattle.std.specs.Prelude.{ℕ, ◌≤◌, ◌<◌, ◌≡◌, refl, List, length, drop}
use Rattle.std.proofs.Common.{◌∙◌}
use Rattle.definitions.specs.Basics.{NONE}
use Rattle.queue.specs.declared.Counts.{Counts}
use Rattle.queue.specs.Queue.{State, state, Contains, Queue}
use Rattle.guided_model.specs.State.{Marks, marks}
use Rattle.guided_model.specs.Moves.{Offerable, Relaxed}

pub record Work : Type 0 where
  pub keys : List ℕ
  pub via : List ℕ
  pub heap : List ℕ
  pub pos : List ℕ
  pub stack : List ℕ

abbrev pub work : List ℕ → List ℕ → List ℕ → List ℕ → List ℕ → Work
work keys via heap pos stack = record { keys = keys; via = via; heap = heap; pos = pos; stack = stack }

-- the queue of the open pairs that stands in them
abbrev pub queue_in : Work → Counts → State
queue_in x c = state x.keys x.heap x.pos x.stack c

-- the keys, by what each pair got its key, and which pairs are open
abbrev pub marks_in : Work → Counts → Marks
marks_in x c = marks x.keys x.via (Contains (queue_in x c))

-- nothing from p on has changed
pub record Past (p : ℕ) (x x' : Work) : Type 0 where
  pub keys_past : drop p x'.keys ≡ drop p x.keys
  pub via_past : drop p x'.via ≡ drop p x.via
  pub heap_past : drop p x'.heap ≡ drop p x.heap
  pub pos_past : drop p x'.pos ≡ drop p x.pos
  pub stack_past : drop p x'.stack ≡ drop p x.stack

pub past_same : {p : ℕ} {x : Work} → Past p x x
past_same = record { keys_past = refl; via_past = refl; heap_past = refl; pos_past = refl; stack_past = refl }

pub past_more : {p : ℕ} {x x' x'' : Work} → Past p x x' → Past p x' x'' → Past p x x''
past_more m n = record {
  keys_past = n.keys_past ∙ m.keys_past;
  via_past = n.via_past ∙ m.via_past;
  heap_past = n.heap_past ∙ m.heap_past;
  pos_past = n.pos_past ∙ m.pos_past;
  stack_past = n.stack_past ∙ m.stack_past;
}

-- the slices hold a queue above the same floor, and nothing from p on has changed
pub record Kept (p floor : ℕ) (x x' : Work) (c' : Counts) : Type 0 where
  pub queue : Queue p floor (queue_in x' c')
  pub past : Past p x x'

pub kept_same : {p floor : ℕ} {x : Work} {c : Counts} → Queue p floor (queue_in x c) → Kept p floor x x c
kept_same q = record { queue = q; past = past_same }

pub kept_more : {p floor : ℕ} {x x' : Work} {c' : Counts} {x'' : Work} {c'' : Counts} → Kept p floor x x' c' → Kept p floor x' x'' c'' → Kept p floor x x'' c''
kept_more m n = record { queue = n.queue; past = past_more m.past n.past }

-- pair y can be offered the key v, among some number p of pairs
pub record Offering (floor y v : ℕ) (x : Work) (c : Counts) : Type 0 where
  pub p : ℕ
  pub queue : Queue p floor (queue_in x c)
  pub pair : y < p
  pub fits : p ≤ length x.via
  pub above : floor ≤ v
  pub low : v < NONE
  pub offerable : Offerable (marks_in x c) y v

-- what the offer leaves; `mark` has the step and the node that it came by
pub record Relaxes (p floor y v mark : ℕ) (x : Work) (c : Counts) (x' : Work) (c' : Counts) : Type 0 where
  pub relaxed : Relaxed y v mark (marks_in x c) (marks_in x' c')
  pub kept : Kept p floor x x' c'
