-- Best-first search with a consistent estimate h, on states and edges of any kind: a smallest open state has its least cost. Settled and Open are the states
-- that are settled and open, g their costs so far; the key of an open state is its cost plus its estimate.
-- Assumes nothing.
use Rattle.std.specs.Prelude.{ℕ, ◌+◌, ◌≤◌, ◌<◌, ◌≡◌, ◌⊎◌}
use Rattle.std.proofs.Common.{inl, inr, arith}
use Rattle.std.proofs.Math.Option.{Option, some}
use Rattle.theory.specs.Basics.{either}

-- a way to a state, by its last edge, and its cost
pub data Reach (S : Type 0) (Edge : S → S → ℕ → Type 0) (start : S) : S → ℕ → Type 0 where
  here : Reach S Edge start start 0
  then : {x y : S} {k c : ℕ} → Reach S Edge start x k → Edge x y c → Reach S Edge start y (k + c)

-- an edge lowers the estimate by at most its cost
pub record Consistent (S : Type 0) (Edge : S → S → ℕ → Type 0) (h : S → Option ℕ) : Type 0 where
  pub step : (x y : S) (c : ℕ) → Edge x y c → (hy : ℕ) → h y ≡ some hy → (hx : ℕ) × (h x ≡ some hx) × (hx ≤ c + hy)

-- m is the least cost of the ways to x
pub record Least (S : Type 0) (Edge : S → S → ℕ → Type 0) (start : S) (x : S) (m : ℕ) : Type 0 where
  pub attained : Reach S Edge start x m
  pub lower : (k : ℕ) → Reach S Edge start x k → m ≤ k

-- What holds between two turns: settled states have their least cost, open ones the cost of some way; the start is settled or open at 0, and
-- what follows from a settled state by an edge, and has an estimate, is settled or open at no more than that way costs
pub record Invariant (S : Type 0) (Edge : S → S → ℕ → Type 0) (start : S) (h : S → Option ℕ)
    (Settled Open : S → Type 0) (g : S → ℕ) : Type 0 where
  pub settled : (x : S) → Settled x → Least S Edge start x (g x)
  pub opened : (x : S) → Open x → Reach S Edge start x (g x)
  pub begun : (hx : ℕ) → h start ≡ some hx → Settled start ⊎ (Open start × (g start ≤ 0))
  pub follows : (x y : S) (c : ℕ) → Settled x → Edge x y c → (hy : ℕ) → h y ≡ some hy → Settled y ⊎ (Open y × (g y ≤ g x + c))

-- an open state of key at most k
abbrev pub Waiting : (S : Type 0) (h : S → Option ℕ) (Open : S → Type 0) (g : S → ℕ) → ℕ → Type 0
Waiting S h Open g k = (y : S) × (hy : ℕ) × Open y × (h y ≡ some hy) × (g y + hy ≤ k)

module _ (S : Type 0) (Edge : S → S → ℕ → Type 0) (start : S) (h : S → Option ℕ) (con : Consistent S Edge h)
    (Settled Open : S → Type 0) (g : S → ℕ) (inv : Invariant S Edge start h Settled Open g) where
  -- a way to a state with an estimate: the state is settled, or some state on the way is open with a key no larger than the way's sum
  pub frontier : {x : S} {k : ℕ} → Reach S Edge start x k → (hx : ℕ) → h x ≡ some hx → Settled x ⊎ Waiting S h Open g (k + hx)
  frontier here hx e =
      either (inv.begun hx e) (λ s. inl s) (λ o. inr (start, hx, o.0, e, omega arith))
  frontier (then {x} {y} {k} {c} w d) hy e =
      let t = con.step x y c d hy e in
      past t.0 t.2 (frontier w t.0 t.1)
    where
      past : (hx : ℕ) → hx ≤ c + hy → Settled x ⊎ Waiting S h Open g (k + hx) → Settled y ⊎ Waiting S h Open g (k + c + hy)
      past hx le (inl s) =
          either (inv.follows x y c s d hy e) (λ t. inl t) (λ o. inr (y, hy, o.0, e, omega (arith, (inv.settled x s).lower k w)))
      past hx le (inr o) = inr (o.0, o.1, o.2, o.3, omega arith)

  -- x is open with a smallest key: its cost is the least
  pub smallest_is_least : (x : S) (hx : ℕ) → Open x → h x ≡ some hx
      → ((y : S) (hy : ℕ) → Open y → h y ≡ some hy → g x + hx ≤ g y + hy) → Least S Edge start x (g x)
  smallest_is_least x hx o e small = record { attained = inv.opened x o; lower = low }
    where
      cases : (k : ℕ) → Reach S Edge start x k → Settled x ⊎ Waiting S h Open g (k + hx) → g x ≤ k
      cases k w (inl s) = (inv.settled x s).lower k w
      cases k w (inr t) = omega (arith, small t.0 t.1 t.2 t.3)

      low : (k : ℕ) → Reach S Edge start x k → g x ≤ k
      low k w = cases k w (frontier w hx e)

  -- nothing with an estimate is open: every state with a way and an estimate is settled
  pub exhausted : ((y : S) (hy : ℕ) → Open y → h y ≡ some hy → ⊥) → (x : S) (hx k : ℕ) → h x ≡ some hx → Reach S Edge start x k → Settled x
  exhausted empty x hx k e w = either (frontier w hx e) (λ s. s) (λ t. absurd (empty t.0 t.1 t.2 t.3))

  -- the first goal: x is open with a smallest key, z is a goal that is not settled, and the estimates of both are the same. No way to z is cheaper
  pub first_goal : (base : ℕ) (x : S) → Open x → h x ≡ some base → ((y : S) (hy : ℕ) → Open y → h y ≡ some hy → g x + base ≤ g y + hy)
      → (z : S) (k : ℕ) → h z ≡ some base → (Settled z → ⊥) → Reach S Edge start z k → g x ≤ k
  first_goal base x o e small z k ez fresh w =
      either (frontier w base ez) (λ s. absurd (fresh s)) (λ t. omega (arith, small t.0 t.1 t.2 t.3))

  -- what has a smaller sum than every open state is settled
  pub below_settled : (key : ℕ) → ((y : S) (hy : ℕ) → Open y → h y ≡ some hy → key ≤ g y + hy)
      → (z : S) (k hz : ℕ) → h z ≡ some hz → Reach S Edge start z k → k + hz < key → Settled z
  below_settled key small z k hz ez w l =
      either (frontier w hz ez) (λ s. s) (λ t. absurd (omega (arith, small t.0 t.1 t.2 t.3)))

-- One turn of the search: x is settled, and what follows from it by an edge is opened or gets a lower cost.
-- Settled, Open, g are those before the turn, Settled', Open', g' those after it
pub record Turn (S : Type 0) (Edge : S → S → ℕ → Type 0) (h : S → Option ℕ) (Settled Open : S → Type 0) (g : S → ℕ)
    (x : S) (Settled' Open' : S → Type 0) (g' : S → ℕ) : Type 0 where
  pub kept : (y : S) → Settled y → Settled' y × (g' y ≡ g y)
  pub added : Settled' x × (g' x ≡ g x)
  pub only : (y : S) → Settled' y → (Settled y × (g' y ≡ g y)) ⊎ (y ≡ x)
  pub opens : (y : S) → Open' y → (Open y × (g' y ≡ g y)) ⊎ ((c : ℕ) × Edge x y c × (g' y ≡ g x + c))
  pub still : (y : S) → Open y → Settled' y ⊎ (Open' y × (g' y ≤ g y))
  pub relaxed : (y : S) (c : ℕ) → Edge x y c → (hy : ℕ) → h y ≡ some hy → Settled' y ⊎ (Open' y × (g' y ≤ g x + c))

module _ (S : Type 0) (Edge : S → S → ℕ → Type 0) (start : S) (h : S → Option ℕ) (con : Consistent S Edge h)
    (Settled Open : S → Type 0) (g : S → ℕ) (inv : Invariant S Edge start h Settled Open g)
    (x : S) (hx : ℕ) (o : Open x) (ex : h x ≡ some hx)
    (small : (y : S) (hy : ℕ) → Open y → h y ≡ some hy → g x + hx ≤ g y + hy)
    (Settled' Open' : S → Type 0) (g' : S → ℕ) (turn : Turn S Edge h Settled Open g x Settled' Open' g') where
  least_x : Least S Edge start x (g x)
  least_x = smallest_is_least S Edge start h con Settled Open g inv x hx o ex small

  -- the turn keeps the invariant
  pub turn_keeps : Invariant S Edge start h Settled' Open' g'
  turn_keeps = record { settled = settled'; opened = opened'; begun = begun'; follows = follows' }
    where
      settled' : (y : S) → Settled' y → Least S Edge start y (g' y)
      settled' y s =
          either (turn.only y s) (λ t. rw t.1 (inv.settled y t.0))
          (λ q. rw (q, turn.added.1) least_x)

      opened' : (y : S) → Open' y → Reach S Edge start y (g' y)
      opened' y p =
          either (turn.opens y p) (λ t. rw t.1 (inv.opened y t.0)) (λ t. rw t.2 (then least_x.attained t.1))

      begun' : (hs : ℕ) → h start ≡ some hs → Settled' start ⊎ (Open' start × (g' start ≤ 0))
      begun' hs e =
          either (inv.begun hs e) (λ s. inl (turn.kept start s).0)
          (λ t. either (turn.still start t.0) (λ s. inl s) (λ u. inr (u.0, omega arith)))

      follows' : (z y : S) (c : ℕ) → Settled' z → Edge z y c → (hy : ℕ) → h y ≡ some hy → Settled' y ⊎ (Open' y × (g' y ≤ g' z + c))
      follows' z y c s d hy e =
          either (turn.only z s)
          (λ t. either (inv.follows z y c t.0 d hy e) (λ u. inl (turn.kept y u).0)
          (λ u. either (turn.still y u.0) (λ v. inl v) (λ v. inr (v.0, omega arith))))
          (λ q. let d' : Edge x y c = rw q at d in
          either (turn.relaxed y c d' hy e) (λ v. inl v) (λ v. inr (v.0, rw q (omega (arith, turn.added.1)))))
