-- Ways (paths) through a graph (REFERENCE 4.1), their costs, and the least cost over all ways that pass a test.
-- Assumes nothing.
use Rattle.std.specs.Prelude.{ℕ, zero, suc, ◌+◌, ◌<◌, ◌≡◌, Bool, true, ◌&&◌, List, [], ◌∷◌, map, ltb, eqb}
use Rattle.std.proofs.Math.Option.{Option}
use Rattle.definitions.specs.Basics.{keep, each, upto, least}

-- What the searches need of a chart (a weighted acyclic graph): `count` steps, numbered from 0, each at a cost from C and of a group
pub record GraphOf (C : Type 0) : Type 0 where
  pub stages : ℕ
  pub start : ℕ
  pub end : ℕ
  pub count : ℕ
  pub from : ℕ → ℕ
  pub to : ℕ → ℕ
  pub cost : ℕ → C
  pub group : ℕ → ℕ

abbrev pub Graph : Type 0
Graph = GraphOf ℕ

-- w is a way from stage a: each step starts where the one before ended
abbrev pub IsWay : {C : Type 0} → GraphOf C → ℕ → List ℕ → Type 0
IsWay g a [] = Unit {0}
IsWay g a (e ∷ w) = (e < g.count) × (g.from e ≡ a) × IsWay g (g.to e) w

-- the same as a test
abbrev pub is_way : {C : Type 0} → GraphOf C → ℕ → List ℕ → Bool
is_way g a [] = true
is_way g a (e ∷ w) = ltb e g.count && eqb (g.from e) a && is_way g (g.to e) w

-- the stage at which a way from stage a ends
abbrev pub end_of : {C : Type 0} → GraphOf C → ℕ → List ℕ → ℕ
end_of g a [] = a
end_of g a (e ∷ w) = end_of g (g.to e) w

-- a way costs the sum of its steps
abbrev pub way_cost : Graph → List ℕ → ℕ
way_cost g [] = 0
way_cost g (e ∷ w) = g.cost e + way_cost g w

-- the steps that leave a stage
abbrev pub leaving : {C : Type 0} → GraphOf C → ℕ → List ℕ
leaving g a = keep (λ e. eqb (g.from e) a) (upto g.count)

-- all ways of at most k steps from stage a
unfoldable pub ways_in : {C : Type 0} → ℕ → GraphOf C → ℕ → List (List ℕ)
ways_in zero g a = [] ∷ []
ways_in (suc k) g a = [] ∷ each (λ e. map (λ w. e ∷ w) (ways_in k g (g.to e))) (leaving g a)

-- all ways from stage a: a step leads to a higher stage, so no way has as many steps as there are stages
unfoldable pub ways : {C : Type 0} → GraphOf C → ℕ → List (List ℕ)
ways g a = ways_in g.stages g a

-- the least cost of a way from stage a that passes a test, or none
unfoldable pub least_way : Graph → ℕ → (List ℕ → Bool) → Option ℕ
least_way g a test = least (map (way_cost g) (keep test (ways g a)))
