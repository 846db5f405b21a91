-- The limits of both files as statements (REFERENCE 2.4). They hold of every chart and diagram that the readers accept.
-- Assumes nothing.
use Rattle.std.specs.Prelude.{ℕ, ◌-◌, ◌*◌, ◌%◌, ◌≤◌, ◌<◌, ◌≡◌, ◌⊎◌, length, get_or}
use Rattle.definitions.specs.Charts.{Chart, no_step, plain}
use Rattle.definitions.specs.Charts as charts
use Rattle.definitions.specs.Diagrams.{Diagram, size, inner}
use Rattle.definitions.specs.Ways.{GraphOf, Graph}
use Rattle.definitions.specs.Plans.{graph}

-- of a chart, as the graph that the searches walk; a step's cost is in the relation Cheap to the stages that it leaves and enters
pub record ValidOf {C : Type 0} (Cheap : ℕ → ℕ → C → Type 0) (g : GraphOf C) : Type 0 where
  pub some_stages : 1 ≤ g.stages
  pub few_stages : g.stages ≤ 256
  pub start_inside : g.start < g.stages
  pub end_inside : g.end < g.stages
  pub few : g.count ≤ 1024
  pub forward : (e : ℕ) → e < g.count → g.from e < g.to e
  pub inside : (e : ℕ) → e < g.count → g.to e < g.stages
  pub sorted : (e f : ℕ) → e ≤ f → f < g.count → g.from e ≤ g.from f
  pub cheap : (e : ℕ) → e < g.count → Cheap (g.from e) (g.to e) (g.cost e)
  pub grouped : (e f : ℕ) → e ≤ f → f < g.count → g.group e ≤ g.group f
  pub few_groups : (e : ℕ) → e < g.count → g.group e < 1024

-- of the graph that the searches walk: for each stage that a step climbs, it costs at most 2,000,000
abbrev pub Valid : Graph → Type 0
Valid = ValidOf (λ from to cost. cost ≤ 2000000 * (to - from))

-- of a chart: each step costs at most 1,000,000
abbrev pub Small : Chart → Type 0
Small c = (e : ℕ) → e < (graph c).count → (graph c).cost e ≤ 1000000

-- of a chart: all its steps are of one kind, and each plain one is a group alone
pub record OneKind (c : Chart) : Type 0 where
  pub tags : (e : ℕ) → e < (graph c).count → ((get_or c.steps e no_step).tag ≡ plain) ⊎ ((get_or c.steps e no_step).tag ≡ charts.grouped)
  pub alike : (e f : ℕ) → e < (graph c).count → f < (graph c).count → (get_or c.steps e no_step).tag ≡ (get_or c.steps f no_step).tag
  pub alone : (e : ℕ) → e < (graph c).count → (get_or c.steps e no_step).tag ≡ plain → (graph c).group e ≡ e

-- of the graph: each step costs whole ticks
abbrev pub Ticked : Graph → Type 0
Ticked g = (e : ℕ) → e < g.count → g.cost e % 50 ≡ 0

-- of a diagram's nodes: children have lower numbers and, if inner, larger steps. Past the nodes it holds of `no_node`
pub record Ordered (d : Diagram) : Type 0 where
  pub lo_below : (n : ℕ) → 2 ≤ n → (inner d n).lo < n
  pub hi_below : (n : ℕ) → 2 ≤ n → (inner d n).hi < n
  pub lo_later : (n : ℕ) → 2 ≤ n → 2 ≤ (inner d n).lo → (inner d n).step < (inner d (inner d n).lo).step
  pub hi_later : (n : ℕ) → 2 ≤ n → 2 ≤ (inner d n).hi → (inner d n).step < (inner d (inner d n).hi).step

-- of a diagram over a chart of so many groups
pub record Sound (groups : ℕ) (d : Diagram) : Type 0 where
  pub ordered : Ordered d
  pub exist : (n : ℕ) → 2 ≤ n → n < size d → (inner d n).step < groups
  pub few : length d.nodes ≤ 510
  pub root_inside : d.root < size d

-- of a diagram without padding, as every one is that is read strictly: no two inner nodes are alike, and none has lo equal to hi
pub record Unpadded (d : Diagram) : Type 0 where
  pub unlike : (m n : ℕ) → 2 ≤ m → m < size d → 2 ≤ n → n < size d → inner d m ≡ inner d n → m ≡ n
  pub forked : (n : ℕ) → 2 ≤ n → n < size d → (inner d n).lo ≡ (inner d n).hi → ⊥
