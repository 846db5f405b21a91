-- The state of the guided search: the key of each pair (its cost so far plus its estimate), the step and node by which it got it, the log of the settled
-- pairs, the open pairs, and the key last taken (the floor); and what holds of it between two turns.
-- Assumes nothing.
use Rattle.std.specs.Prelude.{ℕ, ◌+◌, ◌-◌, ◌≤◌, ◌<◌, ◌≡◌, false, List, ◌⊎◌, length, get_or}
use Rattle.std.proofs.Common.{sym, ◌∙◌, arith}
use Rattle.std.proofs.Math.Path.{ap}
use Rattle.std.proofs.Math.Option.{Option, none, some}
use Rattle.definitions.specs.Basics.{NONE}
use Rattle.definitions.specs.Ways.{Graph}
use Rattle.definitions.specs.Pairs.{Automaton, Estimate, pair, stage_of, node_of}
use Rattle.definitions.specs.Promises.{goal_at, Settled}
use Rattle.theory.specs.Limits.{Valid}
use Rattle.theory.specs.Basics.{some_inj}
use Rattle.theory.specs.Estimates.{ConsistentEstimate}
use Rattle.theory.specs.BestFirst.{Invariant}
use Rattle.theory.specs.Pairs.{Lawful}
use Rattle.theory.specs.Product.{Edge, start_pair, estimate_at}
use Rattle.via_marks.specs.Marks.{packed}

-- what a search rests on: the graph and the automaton are within their limits; the estimate is consistent (`base` where a way may end), none at node 0, and small
pub record Guide (g : Graph) (a : Automaton) (h : Estimate) : Type 0 where
  pub valid : Valid g
  pub lawful : Lawful g a
  pub base : ℕ
  pub consistent : ConsistentEstimate base g a h
  pub dead : (s : ℕ) → h s 0 ≡ none
  pub bounded : (s n m : ℕ) → n < a.size → h s n ≡ some m → m ≤ 1800000000

-- the key of each pair, the step and node by which it got it, and which pairs are open
pub record Marks : Type 1 where
  pub keys : List ℕ
  pub via : List ℕ
  pub Open : ℕ → Type 0

abbrev pub marks : List ℕ → List ℕ → (ℕ → Type 0) → Marks
marks keys via Open = record { keys = keys; via = via; Open = Open }

-- x is an open pair of smallest key
pub record Smallest (now : Marks) (x : ℕ) : Type 0 where
  pub is_open : now.Open x
  pub least : (k : ℕ) → now.Open k → get_or now.keys x 0 ≤ get_or now.keys k 0

-- p is in the log
abbrev pub In : List ℕ → ℕ → Type 0
In log p = (i : ℕ) × (i < length log) × (get_or log i 0 ≡ p)

-- an estimate as a number, 0 where there is none
unfoldable pub or_zero : Option ℕ → ℕ
or_zero none = 0
or_zero (some r) = r

-- the open pairs without x; the keys and what stands in `via` stay
pub record Without (now : Marks) (x : ℕ) (rest : ℕ → Type 0) : Type 0 where
  pub kept : (k : ℕ) → now.Open k → (k ≡ x → ⊥) → rest k
  pub only : (k : ℕ) → rest k → now.Open k
  pub gone : rest x → ⊥

abbrev pub without : Marks → (ℕ → Type 0) → Marks
without now rest = marks now.keys now.via rest

-- a pair that may be opened: it has an estimate, and is of the start stage or a later one
abbrev pub Openable : Graph → Automaton → Estimate → ℕ → Type 0
Openable g a h p = (g.start ≤ stage_of a p) × ((r : ℕ) × (estimate_at a h p ≡ some r))

module _ (g : Graph) (a : Automaton) (h : Estimate) where
  -- the cost so far of an opened pair
  unfoldable pub cost_so_far : List ℕ → ℕ → ℕ
  cost_so_far keys p = get_or keys p 0 - or_zero (estimate_at a h p)

  pub cost_is : (keys : List ℕ) (p k r : ℕ) → estimate_at a h p ≡ some r → get_or keys p 0 ≡ k + r → cost_so_far keys p ≡ k
  unfolding cost_so_far or_zero
  cost_is keys p k r e q = rw e (omega arith)

  pub cost_same : (keys keys' : List ℕ) (p : ℕ) → get_or keys' p 0 ≡ get_or keys p 0 → cost_so_far keys' p ≡ cost_so_far keys p
  unfolding cost_so_far
  cost_same keys keys' p q = ap (λ (k : ℕ). k - or_zero (estimate_at a h p)) q

  -- p has an estimate, and its key is its cost so far plus that
  pub record Keyed (keys : List ℕ) (p : ℕ) : Type 0 where
    pub rest : ℕ
    pub has : estimate_at a h p ≡ some rest
    pub sums : get_or keys p 0 ≡ cost_so_far keys p + rest

  pub keyed : (keys : List ℕ) (p k r : ℕ) → estimate_at a h p ≡ some r → get_or keys p 0 ≡ k + r → Keyed keys p
  keyed keys p k r e q = record { rest = r; has = e; sums = omega (arith, cost_is keys p k r e q) }

  -- with any name of the estimate
  pub key_is : (keys : List ℕ) (p r : ℕ) → Keyed keys p → estimate_at a h p ≡ some r → get_or keys p 0 ≡ cost_so_far keys p + r
  key_is keys p r k e = omega (arith, k.sums, some_inj k.rest r (sym k.has ∙ e))

  pub keyed_same : (keys keys' : List ℕ) (p : ℕ) → get_or keys' p 0 ≡ get_or keys p 0 → Keyed keys p → Keyed keys' p
  keyed_same keys keys' p q k = keyed keys' p (cost_so_far keys p) k.rest k.has (q ∙ k.sums)

  -- p came by a step from a settled pair, `via` has its stage, the step and the node that it left, and the costs so far differ by the step's cost
  pub record Came (now : Marks) (log : List ℕ) (p : ℕ) : Type 0 where
    pub source : ℕ
    pub step : ℕ
    pub settled : In log source
    pub exists : step < g.count
    pub leaves : g.from step ≡ stage_of a source
    pub enters : p ≡ pair a (g.to step) (a.next step (node_of a source))
    pub packs : get_or now.via p 0 ≡ packed (g.to step) step (node_of a source)
    pub costs : cost_so_far now.keys p ≡ cost_so_far now.keys source + g.cost step

  -- What holds between two turns
  pub record Searching (now : Marks) (log : List ℕ) (floor : ℕ) : Type 0 where
    pub best : Invariant ℕ (Edge g a) (start_pair g a) (estimate_at a h) (In log) now.Open (cost_so_far now.keys)
    pub has_key : (p : ℕ) → In log p ⊎ now.Open p → Keyed now.keys p
    pub opened : (p : ℕ) → Openable g a h p → get_or now.keys p 0 < NONE → In log p ⊎ now.Open p
    pub apart : (p : ℕ) → In log p → now.Open p → ⊥
    pub came : (p : ℕ) → In log p ⊎ now.Open p → (p ≡ start_pair g a) ⊎ Came now log p
    pub below : (p : ℕ) → In log p → get_or now.keys p 0 ≤ floor
    pub above : (p : ℕ) → now.Open p → floor ≤ get_or now.keys p 0
    pub settled : Settled g a h log
    pub no_goal : (p : ℕ) → In log p → goal_at g a h p ≡ false
