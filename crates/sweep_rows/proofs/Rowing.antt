-- The nodes of a row, and the rows, in turn: what the loops of `relax_row` and `relax_rows` keep.
-- Assumes nothing.
use Prim.Native.Nat.{ℕ, suc, ◌+◌, ◌-◌, ◌*◌, ◌≤◌, ◌<◌}
use mathlib.Core.Path.{◌≡◌, refl, sym, ◌∙◌, ap, ap₂, subst}
use mathlib.Core.List.{List}
use native.Mathlib.Omega.{arith}
use lib.ListN.{length, get_or}
use Rattle.definitions.specs.Basics.{NONE}
use Rattle.definitions.specs.Ways.{Graph}
use Rattle.definitions.specs.Pairs.{Automaton}
use Rattle.theory.specs.Pairs.{pair_inside}
use Rattle.sweep_model.specs.Model.{Rows, cost_at, node_at, count_at, relax_steps, relax_node, relax_nodes, relax_rows}
use Rattle.sweep_model.specs.Rows.{Table, table_more, count_fits}
use Rattle.sweep_model.specs.Sweeps.{steps_made, nodes_made}
use Rattle.checks.specs.Ready.{Walk, Ready, graph_in, automaton_in, width_is, lawful_in, few_nodes, row_start_lem}
use Rattle.definitions.specs.declared.Shape.{Shape}
use Rattle.sweep_rows.specs.Standing.{Standing, Stands, Row, at}
use Rattle.sweep_rows.specs.Leaving.{first_steps}

-- The loop of `relax_row` before the k-th node of row s: what is left to do comes to the same as the whole
pub record Rowing (z : Shape) (on : Walk) (s count : ℕ) (r₀ r : Rows) (k : ℕ) : Type 0 where
  pub ready : Ready z on
  pub table : Table (graph_in z on.read) (automaton_in z on.read) (suc s) r
  pub stage : s < z.stages
  pub counted : count_at r s ≡ count
  pub same : relax_nodes (graph_in z on.read) (automaton_in z on.read) (at on.first) s 0 count r₀
      ≡ relax_nodes (graph_in z on.read) (automaton_in z on.read) (at on.first) s k (count - k) r

-- The loop of `relax_rows` before row s
pub record Sweeping (z : Shape) (on : Walk) (start stages : ℕ) (r₀ r : Rows) (s : ℕ) : Type 0 where
  pub stands : Row z on s r
  pub same : relax_rows (graph_in z on.read) (automaton_in z on.read) (at on.first) start (stages - start) r₀
      ≡ relax_rows (graph_in z on.read) (automaton_in z on.read) (at on.first) s (stages - s) r

module _ (z : Shape) (on : Walk) where
  abbrev first : List ℕ
  first = on.first

  abbrev row : List ℕ
  row = on.row

  abbrev g : Graph
  g = graph_in z on.read

  abbrev a : Automaton
  a = automaton_in z on.read

  abbrev w : ℕ
  w = a.size

  module _ (y : Ready z on) where
    base_at : (s base : ℕ) → s < z.stages → base ≡ get_or row s 0 → base ≡ s * w
    base_at s base h e =
        e ∙ row_start_lem z on y s h ∙ ap (λ (k : ℕ). s * k) (sym (width_is z on.read y.tables))

  module _ {s count : ℕ} {r₀ r : Rows} {k : ℕ} (x : Rowing z on s count r₀ r k) {base : ℕ} (eb : base ≡ get_or row s 0) where
    base_is : base ≡ s * w
    base_is = base_at x.ready s base x.stage eb

    narrow : w ≤ 512
    narrow = omega (arith, width_is z on.read x.ready.tables, few_nodes z on.read x.ready.tables)

    module _ (more : k < count) where
      listed : (node_at w r s k < w) × (cost_at w r s (node_at w r s k) < NONE)
      listed = x.table.lists s k x.stage (omega (arith, x.counted))

      pub row_place : base + k < length r.nodes
      row_place =
          omega (arith, base_is, x.table.nodes_fits, count_fits g a (suc s) r x.table s x.stage, x.counted, pair_inside g a s k x.stage (omega (arith, count_fits g a (suc s) r x.table s x.stage, x.counted)))

      -- the k-th node of the list, and its cost
      abbrev n : ℕ
      n = get_or r.nodes (base + k) 0

      abbrev v : ℕ
      v = get_or r.cost (base + n) 0

      node_is : n ≡ node_at w r s k
      node_is = ap (λ (i : ℕ). get_or r.nodes (i + k) 0) base_is

      cost_is : v ≡ cost_at w r s (node_at w r s k)
      cost_is = ap₂ (λ (i j : ℕ). get_or r.cost (i + j) 0) base_is node_is

      pub row_small : n < 512
      row_small = omega (arith, node_is, listed.0, narrow)

      pub row_cost : base + n < length r.cost
      row_cost = omega (arith, base_is, node_is, listed.0, x.table.cost_fits, pair_inside g a s (node_at w r s k) x.stage listed.0)

      pub row_standing : Standing z on s n v r
      row_standing = record {
        ready = x.ready;
        table = x.table;
        stage = x.stage;
        node = omega (arith, node_is, listed.0);
        costs = ap (λ (i : ℕ). cost_at w r s i) node_is ∙ sym cost_is;
        low = omega (arith, cost_is, listed.1);
      }

      abbrev pub row_stands : Stands on.read row n v (get_or first s 0) (get_or first (s + 1) 0) r
      row_stands = record { z = z; first = first; s = s; standing = row_standing; begins = refl; ends = refl }

      pub row_more : {r' : Rows} → r' ≡ relax_steps g a n v (get_or first s 0) (get_or first (s + 1) 0 - get_or first s 0) r → Rowing z on s count r₀ r' (k + 1)
      unfolding relax_nodes relax_node
      row_more {r'} er =
          let q : s + 1 ≡ suc s = omega arith in
          let f = first_steps z on x.ready in
          let one = steps_made g a x.ready.tables.valid (lawful_in z on.read x.ready.tables) s (node_at w r s k) (cost_at w r s (node_at w r s k)) x.stage listed.0 listed.1
          (at first (suc s) - at first s) (at first s) r x.table refl (λ e i j. f.leave s e x.stage i (omega arith)) in
          let e : r' ≡ relax_steps g a (node_at w r s k) (cost_at w r s (node_at w r s k)) (at first s) (at first (suc s) - at first s) r =
          er ∙ ap₂ (λ (i j : ℕ). relax_steps g a i j (at first s) (at first (s + 1) - at first s) r) node_is cost_is
          ∙ ap (λ (i : ℕ). relax_steps g a (node_at w r s k) (cost_at w r s (node_at w r s k)) (at first s) (at first i - at first s) r) q in
          let j : count - k ≡ suc (count - (k + 1)) = omega arith in
          let p : suc k ≡ k + 1 = omega arith in
          record {
            ready = x.ready;
            table = subst (Table g a (suc s)) (sym e) one.table;
            stage = x.stage;
            counted = ap (λ (i : Rows). count_at i s) e ∙ one.later.count_same s (omega arith) ∙ x.counted;
            same = x.same ∙ ap (λ (i : ℕ). relax_nodes g a (at first) s k i r) j
                ∙ ap₂ (λ (i : ℕ) (l : Rows). relax_nodes g a (at first) s i (count - (k + 1)) l) p (sym e);
          }

    pub row_done : count ≤ k → {c : ℕ} → count ≡ c → r ≡ relax_nodes g a (at first) s 0 c r₀
    unfolding relax_nodes
    row_done h {c} e =
        let q : count - k ≡ 0 = omega arith in
        sym (x.same ∙ ap (λ (i : ℕ). relax_nodes g a (at first) s k i r) q) ∙ ap (λ (i : ℕ). relax_nodes g a (at first) s 0 i r₀) e

  pub sweep_more : {start stages : ℕ} {r₀ r r' : Rows} {s : ℕ} → Sweeping z on start stages r₀ r s → stages ≡ z.stages → s < stages
      → r' ≡ relax_nodes g a (at first) s 0 (count_at r s) r → Sweeping z on start stages r₀ r' (s + 1)
  unfolding relax_rows
  sweep_more {start} {stages} {r₀} {r} {r'} {s} x es h e =
      let y = x.stands in
      let q : suc s ≡ s + 1 = omega arith in
      let j : stages - s ≡ suc (stages - (s + 1)) = omega arith in
      let one = nodes_made g a y.ready.tables.valid (lawful_in z on.read y.ready.tables) (at first) (first_steps z on y.ready) s (omega arith)
      (count_at r s) 0 r (table_more g a s (suc s) r (omega arith) y.table) (omega arith) in
      record {
        stands = record { ready = y.ready; table = subst (λ (i : ℕ). Table g a i r') q (subst (Table g a (suc s)) (sym e) one.table); stage = omega arith };
        same = x.same ∙ ap (λ (i : ℕ). relax_rows g a (at first) s i r) j ∙ ap₂ (λ (i : ℕ) (l : Rows). relax_rows g a (at first) i (stages - (s + 1)) l) q (sym e);
      }

  pub sweep_done : {start stages : ℕ} {r₀ r : Rows} {s : ℕ} → Sweeping z on start stages r₀ r s → stages ≤ s → r ≡ relax_rows g a (at first) start (stages - start) r₀
  unfolding relax_rows
  sweep_done {start} {stages} {r₀} {r} {s} x h = let q : stages - s ≡ 0 = omega arith in sym (x.same ∙ ap (λ (i : ℕ). relax_rows g a (at first) s i r) q)
