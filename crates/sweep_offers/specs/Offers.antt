-- What an offer asks of the tables, and what a step leaves in them.
-- Assumes nothing.
use Rattle.std.specs.Prelude.{ℕ, ◌+◌, ◌<◌, ◌≡◌, List, eqb, length, get_or}
use Rattle.std.specs.Borrow.{MutBor}
use Rattle.definitions.specs.Basics.{NONE, pick}
use Rattle.via_marks.specs.Marks.{packed}
use Rattle.sweep_model.specs.Model.{Rows, rows, offer}
use Rattle.chart.specs.Tables.{Steps}
use Rattle.sweep_offers.specs.declared.Rows as declared

-- what the code's tables hold
abbrev pub held : declared.Rows → Rows
held r = rows r.costs.now r.via.now r.nodes.now r.counts

-- the same slice is lent, and as long, whatever stands in it
abbrev pub SameSlice : MutBor (List ℕ) → MutBor (List ℕ) → Type 0
SameSlice s s' = (s'.ghost_name ≡ s.ghost_name) × (length s'.now ≡ length s.now)

-- both lie over the same lent slices
abbrev pub SameSlices : declared.Rows → declared.Rows → Type 0
SameSlices r r' = SameSlice r.costs r'.costs × SameSlice r.via r'.via × SameSlice r.nodes r'.nodes

-- the pair of stage s, whose row starts at `base`, and node t can take an offer: it stands in the slices, and if it is new its row's list has room
pub record Open (base s t : ℕ) (r : Rows) : Type 0 where
  pub stage : s < 256
  pub node : t < 512
  pub cost_fits : base + t < length r.cost
  pub via_fits : base + t < length r.via
  pub list_fits : get_or r.cost (base + t) 0 ≡ NONE → base + get_or r.counts s 0 < length r.nodes
  pub count_small : get_or r.cost (base + t) 0 ≡ NONE → get_or r.counts s 0 < 512

-- what node n at cost v leaves by step e to node t, by the tables of steps and of row starts
unfoldable pub stepped : Steps → List ℕ → ℕ → ℕ → ℕ → ℕ → Rows → Rows
stepped c row e n v t r =
    pick (eqb t 0) r (offer (get_or row (get_or c.to e 0) 0) (get_or c.to e 0) t (v + get_or c.cost e 0) (packed (get_or c.to e 0) e n) r)

-- it can be done
pub record Offering (c : Steps) (row : List ℕ) (e n v t : ℕ) (r : Rows) : Type 0 where
  pub exists : e < 1024
  pub inside : get_or c.to e 0 < 256
  pub node : n < 512
  pub low : v + get_or c.cost e 0 < NONE
  pub takes : (t ≡ 0 → ⊥) → Open (get_or row (get_or c.to e 0) 0) (get_or c.to e 0) t r
