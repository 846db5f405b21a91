-- What the functions that relax rows ask of the tables.
-- Assumes nothing.
use Rattle.std.specs.Prelude.{ℕ, suc, ◌+◌, ◌≤◌, ◌<◌, ◌≡◌, List, get_or}
use Rattle.definitions.specs.Basics.{NONE}
use Rattle.sweep_model.specs.Model.{Rows, cost_at}
use Rattle.sweep_model.specs.Rows.{Table}
use Rattle.checks.specs.Tables.{Read}
use Rattle.checks.specs.Ready.{Walk, walk, Ready, graph_in, automaton_in}
use Rattle.definitions.specs.declared.Shape.{Shape}

-- node n of stage s stands in the tables at the cost v
pub record Standing (z : Shape) (on : Walk) (s n v : ℕ) (r : Rows) : Type 0 where
  pub ready : Ready z on
  pub table : Table (graph_in z on.read) (automaton_in z on.read) (suc s) r
  pub stage : s < z.stages
  pub node : n < (automaton_in z on.read).size
  pub costs : cost_at (automaton_in z on.read).size r s n ≡ v
  pub low : v < NONE

-- node n stands in the tables at the cost v, as a node of some stage of some chart and diagram; the steps that leave the stage are those from `begin` to before `until`
pub record Stands (t : Read) (row : List ℕ) (n v begin until : ℕ) (r : Rows) : Type 0 where
  pub z : Shape
  pub first : List ℕ
  pub s : ℕ
  pub standing : Standing z (walk t first row) s n v r
  pub begins : begin ≡ get_or first s 0
  pub ends : until ≡ get_or first (s + 1) 0

-- row s stands in the tables
pub record Row (z : Shape) (on : Walk) (s : ℕ) (r : Rows) : Type 0 where
  pub ready : Ready z on
  pub table : Table (graph_in z on.read) (automaton_in z on.read) s r
  pub stage : s ≤ z.stages

-- row s stands in the tables of some chart and diagram
pub record InRow (on : Walk) (s : ℕ) (r : Rows) : Type 0 where
  pub z : Shape
  pub row : Row z on s r
  pub inside : s < z.stages

-- a table as a function
abbrev pub at : List ℕ → ℕ → ℕ
at table s = get_or table s 0
