-- The steps that stand in tables, by index, and how they grow by a store.
-- Assumes nothing.
use Rattle.std.specs.Prelude.{ℕ, ◌+◌, ◌<◌, ◌≡◌, refl, List, [], ◌∷◌, ◌++◌, length, get_or, set, drop}
use Rattle.std.proofs.Common.{◌∙◌, ap, length-set, get_or-set_same, get_or-set_other, arith}
use Rattle.definitions.specs.Charts.{ChartStep, no_step}
use Rattle.theory.specs.Basics.{length-map_run, get_d_map_upto, upto_grown, rest_kept}
use Rattle.chart_fields.specs.Ends.{ends_of, from_of, to_of, tag_of, group_of, froms, tos, tags, groups, froms_at, tos_at, tags_at, groups_at, from_packed, to_packed, tag_packed, group_packed}
use Rattle.chart_fields.specs.Stored.{stored}
use Rattle.chart.specs.Tables.{ends_in, costs_in, Steps, steps_in, held_step, held_steps, Room, Filled}
use Rattle.chart_fields.specs.declared.table.StepTable.{StepTable}

module _ (count : ℕ) (t : Steps) where
  pub held_count : length (held_steps count t) ≡ count
  unfolding held_steps
  held_count = length-map_run (held_step t) 0 count

  pub held_step_lem : (e : ℕ) → e < count → get_or (held_steps count t) e no_step ≡ held_step t e
  unfolding held_steps
  held_step_lem e h = get_d_map_upto (held_step t) count e no_step h

  pub held_from : (e : ℕ) → e < count → (get_or (held_steps count t) e no_step).from ≡ get_or t.from e 0
  held_from e h = ap (λ (x : ChartStep). x.from) (held_step_lem e h)

  pub held_to : (e : ℕ) → e < count → (get_or (held_steps count t) e no_step).to ≡ get_or t.to e 0
  held_to e h = ap (λ (x : ChartStep). x.to) (held_step_lem e h)

  pub held_cost : (e : ℕ) → e < count → (get_or (held_steps count t) e no_step).cost ≡ get_or t.cost e 0
  held_cost e h = ap (λ (x : ChartStep). x.cost) (held_step_lem e h)

  pub held_group : (e : ℕ) → e < count → (get_or (held_steps count t) e no_step).group ≡ get_or t.group e 0
  held_group e h = ap (λ (x : ChartStep). x.group) (held_step_lem e h)

  pub held_tag : (e : ℕ) → e < count → (get_or (held_steps count t) e no_step).tag ≡ get_or t.tag e 0
  held_tag e h = ap (λ (x : ChartStep). x.tag) (held_step_lem e h)

-- what a step is packed with is taken out again
pub record Packs (x : ChartStep) (ends : ℕ) : Type 0 where
  pub packs : ends ≡ ends_of x.tag x.group x.from x.to
  pub low_from : x.from < 256
  pub low_to : x.to < 256
  pub low_tag : x.tag < 4

-- step x stored: its kind, group and stages in one number, and its cost
module _ (count : ℕ) (packed : StepTable) (x : ChartStep) (ends : ℕ) (p : Packs x ends) (room : Room packed) (below : count < 1024) where
  abbrev after : StepTable
  after = stored packed count ends x.cost

  abbrev t : Steps
  t = steps_in packed

  abbrev t' : Steps
  t' = steps_in after

  new_ends : ends_in after ≡ set (ends_in packed) count ends
  new_ends = refl

  new_costs : costs_in after ≡ set (costs_in packed) count x.cost
  new_costs = refl

  pub stored_room : Room after
  stored_room = record {
    ends = ap length new_ends ∙ length-set (ends_in packed) count ends ∙ room.ends;
    costs = ap length new_costs ∙ length-set (costs_in packed) count x.cost ∙ room.costs;
  }

  ends_before : (e : ℕ) → e < count → get_or (ends_in after) e 0 ≡ get_or (ends_in packed) e 0
  ends_before e h = ap (λ (l : List ℕ). get_or l e 0) new_ends ∙ get_or-set_other (ends_in packed) count e ends 0 (omega arith)

  costs_before : (e : ℕ) → e < count → get_or (costs_in after) e 0 ≡ get_or (costs_in packed) e 0
  costs_before e h = ap (λ (l : List ℕ). get_or l e 0) new_costs ∙ get_or-set_other (costs_in packed) count e x.cost 0 (omega arith)

  stored_before : (e : ℕ) → e < count → held_step t' e ≡ held_step t e
  stored_before e h =
      rw (
        froms_at (ends_in after) e,
        tos_at (ends_in after) e,
        tags_at (ends_in after) e,
        groups_at (ends_in after) e,
        ends_before e h,
        ← (froms_at (ends_in packed) e),
        ← (tos_at (ends_in packed) e),
        ← (tags_at (ends_in packed) e),
        ← (groups_at (ends_in packed) e),
        costs_before e h,
      )

  ends_here : get_or (ends_in after) count 0 ≡ ends
  ends_here = ap (λ (l : List ℕ). get_or l count 0) new_ends ∙ get_or-set_same (ends_in packed) count ends 0 (omega (arith, room))

  costs_here : get_or (costs_in after) count 0 ≡ x.cost
  costs_here = ap (λ (l : List ℕ). get_or l count 0) new_costs ∙ get_or-set_same (costs_in packed) count x.cost 0 (omega (arith, room))

  from_here : get_or (froms (ends_in after)) count 0 ≡ x.from
  from_here = froms_at (ends_in after) count ∙ ap from_of ends_here ∙ from_packed x.tag x.group x.from x.to ends p.packs p.low_from

  to_here : get_or (tos (ends_in after)) count 0 ≡ x.to
  to_here = tos_at (ends_in after) count ∙ ap to_of ends_here ∙ to_packed x.tag x.group x.from x.to ends p.packs p.low_from p.low_to

  tag_here : get_or (tags (ends_in after)) count 0 ≡ x.tag
  tag_here = tags_at (ends_in after) count ∙ ap tag_of ends_here ∙ tag_packed x.tag x.group x.from x.to ends p.packs p.low_from p.low_to p.low_tag

  group_here : get_or (groups (ends_in after)) count 0 ≡ x.group
  group_here = groups_at (ends_in after) count ∙ ap group_of ends_here ∙ group_packed x.tag x.group x.from x.to ends p.packs p.low_from p.low_to p.low_tag

  stored_here : held_step t' count ≡ x
  stored_here = rw (tag_here, from_here, to_here, costs_here, group_here)

  pub held_grown : held_steps (count + 1) t' ≡ held_steps count t ++ x ∷ []
  unfolding held_steps
  held_grown = upto_grown (held_step t) (held_step t') count x stored_before stored_here

  -- past the new step the columns stay
  module _ (start : StepTable) where
    pub ends_kept : drop count (ends_in packed) ≡ drop count (ends_in start) → drop (count + 1) (ends_in after) ≡ drop (count + 1) (ends_in start)
    ends_kept q = ap (drop (count + 1)) new_ends ∙ rest_kept count (count + 1) count ends (ends_in packed) (ends_in start) (omega arith) (omega arith) q

    pub costs_kept : drop count (costs_in packed) ≡ drop count (costs_in start) → drop (count + 1) (costs_in after) ≡ drop (count + 1) (costs_in start)
    costs_kept q =
        ap (drop (count + 1)) new_costs ∙ rest_kept count (count + 1) count x.cost (costs_in packed) (costs_in start) (omega arith) (omega arith) q

-- no step stored
pub nothing_filled : (packed : StepTable) → Room packed → Filled [] packed packed
unfolding held_steps
nothing_filled packed room = record { held = refl; ends_rest = refl; costs_rest = refl; room = room }
