-- What the sweep's tables say at every time, and how a later table stands to an earlier one.
-- Assumes nothing.
use Rattle.std.specs.Prelude.{ℕ, ◌+◌, ◌≤◌, ◌<◌, ◌≡◌, refl, ◌⊎◌, ltb, length, get_or, drop}
use Rattle.std.proofs.Common.{◌∙◌, inl, inr, arith}
use Rattle.definitions.specs.Basics.{NONE, pick}
use Rattle.definitions.specs.Ways.{Graph}
use Rattle.definitions.specs.Pairs.{Automaton, pair, pairs}
use Rattle.theory.specs.Limits.{Valid}
use Rattle.theory.specs.Basics.{either}
use Rattle.theory.specs.Ways.{way_bounded}
use Rattle.theory.specs.Pairs.{WayTo}
use Rattle.theory.specs.Counting.{pigeons}
use Rattle.sweep_model.specs.Totals.{total}
use Rattle.via_marks.specs.Marks.{packed}
use Rattle.sweep_model.specs.Model.{Rows, cost_at, node_at, count_at}

-- 1 where a cost is not the mark
abbrev pub one : ℕ → ℕ
one cost = pick (ltb cost NONE) 1 0

module _ (g : Graph) (a : Automaton) where
  -- the step and the node by which the pair of stage s and node n got its cost; the step leaves a stage below `below`
  pub record Via (r : Rows) (below s n : ℕ) : Type 0 where
    pub step : ℕ
    pub node : ℕ
    pub packs : get_or r.via (pair a s n) 0 ≡ packed s step node
    pub exists : step < g.count
    pub leaves : g.from step < below
    pub enters : g.to step ≡ s
    pub inside : node < a.size
    pub reached : cost_at a.size r (g.from step) node < NONE
    pub advances : a.next step node ≡ n
    pub costs : cost_at a.size r s n ≡ cost_at a.size r (g.from step) node + g.cost step

  -- a pair that is reached: its cost is that of a way, and it is the start's pair or came by a step
  pub record Entry (r : Rows) (below s n : ℕ) : Type 0 where
    pub nonzero : n ≡ 0 → ⊥
    pub way : WayTo g a s n (cost_at a.size r s n)
    pub came : ((s ≡ g.start) × (n ≡ a.root)) ⊎ Via r below s n

  pub record Table (below : ℕ) (r : Rows) : Type 0 where
    pub cost_fits : pairs g a ≤ length r.cost
    pub via_fits : pairs g a ≤ length r.via
    pub nodes_fits : pairs g a ≤ length r.nodes
    pub counts_fits : g.stages ≤ length r.counts
    pub cell : (s n : ℕ) → s < g.stages → n < a.size → (cost_at a.size r s n ≡ NONE) ⊎ Entry r below s n
    pub lists : (s k : ℕ) → s < g.stages → k < count_at r s → (node_at a.size r s k < a.size) × (cost_at a.size r s (node_at a.size r s k) < NONE)
    pub once : (s j k : ℕ) → s < g.stages → j < count_at r s → k < count_at r s → node_at a.size r s j ≡ node_at a.size r s k → j ≡ k
    pub listed : (s n : ℕ) → s < g.stages → n < a.size → cost_at a.size r s n < NONE → (k : ℕ) × (k < count_at r s) × (node_at a.size r s k ≡ n)
    pub counted : total (count_at r) g.stages ≡ total (λ p. one (get_or r.cost p 0)) (pairs g a)

  -- r' comes after r while row s is relaxed: no cost has risen, and the rows up to s are as they were
  pub record Later (s : ℕ) (r r' : Rows) : Type 0 where
    pub lower : (t n : ℕ) → t < g.stages → n < a.size → cost_at a.size r' t n ≤ cost_at a.size r t n
    pub cost_same : (t n : ℕ) → t ≤ s → n < a.size → cost_at a.size r' t n ≡ cost_at a.size r t n
    pub node_same : (t k : ℕ) → t ≤ s → k < a.size → node_at a.size r' t k ≡ node_at a.size r t k
    pub count_same : (t : ℕ) → t ≤ s → count_at r' t ≡ count_at r t

  -- nothing past the pairs is touched
  pub record Past (r r' : Rows) : Type 0 where
    pub cost_past : drop (pairs g a) r'.cost ≡ drop (pairs g a) r.cost
    pub via_past : drop (pairs g a) r'.via ≡ drop (pairs g a) r.via
    pub nodes_past : drop (pairs g a) r'.nodes ≡ drop (pairs g a) r.nodes
    pub cost_long : length r'.cost ≡ length r.cost
    pub via_long : length r'.via ≡ length r.via
    pub nodes_long : length r'.nodes ≡ length r.nodes
    pub counts_long : length r'.counts ≡ length r.counts

  pub later_same : (s : ℕ) (r : Rows) → Later s r r
  later_same s r = record { lower = λ t n h i. omega arith; cost_same = λ t n h i. refl; node_same = λ t k h i. refl; count_same = λ t h. refl }

  pub later_trans : (s : ℕ) (r r' r'' : Rows) → Later s r r' → Later s r' r'' → Later s r r''
  later_trans s r r' r'' x y = record {
    lower = λ t n h i. omega (arith, x.lower t n h i, y.lower t n h i);
    cost_same = λ t n h i. y.cost_same t n h i ∙ x.cost_same t n h i;
    node_same = λ t k h i. y.node_same t k h i ∙ x.node_same t k h i;
    count_same = λ t h. y.count_same t h ∙ x.count_same t h;
  }

  pub past_same : (r : Rows) → Past r r
  past_same r = record { cost_past = refl; via_past = refl; nodes_past = refl; cost_long = refl; via_long = refl; nodes_long = refl; counts_long = refl }

  pub past_trans : (r r' r'' : Rows) → Past r r' → Past r' r'' → Past r r''
  past_trans r r' r'' x y = record {
    cost_past = y.cost_past ∙ x.cost_past;
    via_past = y.via_past ∙ x.via_past;
    nodes_past = y.nodes_past ∙ x.nodes_past;
    cost_long = y.cost_long ∙ x.cost_long;
    via_long = y.via_long ∙ x.via_long;
    nodes_long = y.nodes_long ∙ x.nodes_long;
    counts_long = y.counts_long ∙ x.counts_long;
  }

  -- a row more may have been left by the steps
  pub via_more : (r : Rows) (b c s n : ℕ) → b ≤ c → Via r b s n → Via r c s n
  via_more r b c s n h x = record {
    step = x.step;
    node = x.node;
    packs = x.packs;
    exists = x.exists;
    leaves = omega (arith, x.leaves);
    enters = x.enters;
    inside = x.inside;
    reached = x.reached;
    advances = x.advances;
    costs = x.costs;
  }

  pub table_more : (b c : ℕ) (r : Rows) → b ≤ c → Table b r → Table c r
  table_more b c r h t = record {
    cost_fits = t.cost_fits;
    via_fits = t.via_fits;
    nodes_fits = t.nodes_fits;
    counts_fits = t.counts_fits;
    cell = λ s n i j. either (t.cell s n i j) (λ e. inl e) (λ e. inr (record {
      nonzero = e.nonzero;
      way = e.way;
      came = either e.came (λ x. inl x) (λ x. inr (via_more r b c s n h x));
    }));
    lists = t.lists;
    once = t.once;
    listed = t.listed;
    counted = t.counted;
  }

  -- a reached pair's cost is far below the mark
  pub entry_low : Valid g → (r : Rows) (b s n : ℕ) → Entry r b s n → cost_at a.size r s n ≤ 510000000
  entry_low v r b s n e = omega (arith, e.way.costs, way_bounded g v e.way.steps g.start v.start_inside e.way.way)

  -- a row's list is no longer than a row
  pub count_fits : (b : ℕ) (r : Rows) → Table b r → (s : ℕ) → s < g.stages → count_at r s ≤ a.size
  count_fits b r t s h =
      pigeons a.size (count_at r s) (λ (j : ℕ). node_at a.size r s j) (λ j i. (t.lists s j h i).0) (λ j k i c. t.once s j k h i c)
