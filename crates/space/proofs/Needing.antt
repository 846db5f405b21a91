-- Laws of `space_needed`, by the outcome of the checks.
-- Assumes nothing.
use Prim.Native.Nat.{ℕ, ◌+◌, ◌-◌, ◌*◌, ◌≤◌}
use mathlib.Core.Path.{◌≡◌, sym, ap}
use native.Mathlib.Nat.{mul-le-mul_right}
use native.Mathlib.Omega.{arith}
use Rattle.definitions.specs.Answers.{Load, ready, work_need}
use Rattle.definitions.specs.declared.Shape.{Shape}
use Rattle.checks.specs.Tables.{Read, Tables, chart_in, diagram_in}
use Rattle.checks.specs.Ready.{few_stages, few_nodes, width_is}
use Rattle.space.specs.declared.Needed.{Needed}
use Rattle.space.specs.Space.{space_needed}

module _ (t : Read) (z : Shape) (in_tables : Tables z t) where
  -- the space that accepted files need
  spaced : ℕ → Needed
  spaced work = record { number = 0; file = 0; place = 0; work = work; plan = z.stages - 1 }

  pub needed_ready : (o : Load) → o ≡ ready (chart_in z t) (diagram_in z t)
      → record { number = 0; file = 0; place = 0; work = z.stages * (z.nodes + 2); plan = z.stages - 1 } ≡ space_needed o
  unfolding spaced
  needed_ready o e =
      let w : work_need (chart_in z t) (diagram_in z t) ≡ z.stages * (z.nodes + 2) = ap (λ (n : ℕ). z.stages * n) (width_is z t in_tables) in
      rw e (ap spaced (sym w))

  -- what was read is small, so nothing overflows
  pub record Small : Type 0 where
    pub one_stage : 1 ≤ z.stages
    pub narrow : z.nodes ≤ 510
    pub few_pairs : z.stages * (z.nodes + 2) ≤ 131072

  pub small : Small
  small =
      let f = few_nodes z t in_tables in
      let m = mul-le-mul_right (z.nodes + 2) (few_stages z t in_tables) in
      record { one_stage = in_tables.valid.some_stages; narrow = f; few_pairs = omega (arith, f, m) }
