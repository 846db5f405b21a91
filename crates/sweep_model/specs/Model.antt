-- The sweep as a function on its tables. Rows go by stage: a row has the costs of its pairs, the step and the node by which each was reached, and a list
-- of the nodes that were reached.
-- Assumes nothing.
use Rattle.std.specs.Prelude.{ℕ, zero, suc, ◌+◌, ◌-◌, ◌*◌, List, leb, eqb, get_or, set}
use Rattle.definitions.specs.Basics.{NONE, pick}
use Rattle.definitions.specs.Ways.{Graph}
use Rattle.definitions.specs.Pairs.{Automaton, pair}
use Rattle.via_marks.specs.Marks.{packed}

-- by pair: its cost, and the step and node by which it got it; by row: the reached nodes, in the order in which they were; by stage: how many they are. A pair that is not reached has the cost NONE
pub record Rows : Type 0 where
  pub cost : List ℕ
  pub via : List ℕ
  pub nodes : List ℕ
  pub counts : List ℕ

abbrev pub rows : List ℕ → List ℕ → List ℕ → List ℕ → Rows
rows cost via nodes counts = record { cost = cost; via = via; nodes = nodes; counts = counts }

-- how many nodes of a row are reached
abbrev pub count_at : Rows → ℕ → ℕ
count_at r s = get_or r.counts s 0

-- the pair numbered q gets the cost v; the mark says by which step and from which node
abbrev pub lowered : ℕ → ℕ → ℕ → Rows → Rows
lowered q v mark r = rows (set r.cost q v) (set r.via q mark) r.nodes r.counts

-- node t joins the list of row s, which starts at `base`
abbrev pub joined : ℕ → ℕ → ℕ → Rows → Rows
joined base s t r = rows r.cost r.via (set r.nodes (base + count_at r s) t) (set r.counts s (count_at r s + 1))

-- the pair of stage s, whose row starts at `base`, and node t is offered the cost v
unfoldable pub offer : ℕ → ℕ → ℕ → ℕ → ℕ → Rows → Rows
offer base s t v mark r =
    pick (leb (get_or r.cost (base + t) 0) v) r
    (pick (eqb (get_or r.cost (base + t) 0) NONE) (lowered (base + t) v mark (joined base s t r))
    (lowered (base + t) v mark r))

-- rows of `width` pairs
module _ (width : ℕ) where
  abbrev pub cost_at : Rows → ℕ → ℕ → ℕ
  cost_at r s n = get_or r.cost (s * width + n) 0

  abbrev pub node_at : Rows → ℕ → ℕ → ℕ
  node_at r s k = get_or r.nodes (s * width + k) 0

module _ (g : Graph) (a : Automaton) where
  -- node n, at cost v, by step e
  unfoldable pub relax_step : ℕ → ℕ → ℕ → Rows → Rows
  relax_step n v e r = pick (eqb (a.next e n) 0) r (offer (g.to e * a.size) (g.to e) (a.next e n) (v + g.cost e) (packed (g.to e) e n) r)

  -- node n, at cost v, by k steps from e on
  unfoldable pub relax_steps : ℕ → ℕ → ℕ → ℕ → Rows → Rows
  relax_steps n v e zero r = r
  relax_steps n v e (suc k) r = relax_steps n v (suc e) k (relax_step n v e r)

  -- `first s` is the first step that leaves stage s or a later one
  module _ (first : ℕ → ℕ) where
    -- node n of stage s, by the steps that leave s
    unfoldable pub relax_node : ℕ → ℕ → Rows → Rows
    relax_node s n r = relax_steps n (cost_at a.size r s n) (first s) (first (suc s) - first s) r

    -- m nodes of row s, from the k-th of its list on
    unfoldable pub relax_nodes : ℕ → ℕ → ℕ → Rows → Rows
    relax_nodes s k zero r = r
    relax_nodes s k (suc m) r = relax_nodes s (suc k) m (relax_node s (node_at a.size r s k) r)

    -- m rows, from row s on
    unfoldable pub relax_rows : ℕ → ℕ → Rows → Rows
    relax_rows s zero r = r
    relax_rows s (suc m) r = relax_rows (suc s) m (relax_nodes s 0 (count_at r s) r)

  -- the pair of start and root costs 0, unless its node is 0
  unfoldable pub begun : Rows → Rows
  begun r =
      pick (eqb a.root 0) r
      (rows (set r.cost (pair a g.start a.root) 0) r.via (set r.nodes (pair a g.start 0) a.root) (set r.counts g.start 1))

  -- the whole sweep, from tables whose costs are NONE and whose counts are 0
  unfoldable pub swept : (ℕ → ℕ) → Rows → Rows
  swept first r = relax_rows first g.start (g.stages - g.start) (begun r)
