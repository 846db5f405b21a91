-- Tables that hold a chart also hold it with another start and end in its head: only the sizes differ.
-- Assumes nothing.
use Rattle.std.specs.Prelude.{ℕ, ◌<◌}
use Rattle.definitions.specs.Charts.{Chart, headed, group_count}
use Rattle.definitions.specs.Plans.{graph}
use Rattle.definitions.specs.declared.Shape.{Shape}
use Rattle.theory.specs.Limits.{Valid}
use Rattle.checks.specs.Tables.{Read, chart_in, Tables}
use Rattle.checks.specs.Ready.{Walk, Ready}

-- the sizes with another start and end
abbrev pub headed_shape : Shape → ℕ → ℕ → Shape
headed_shape z start end = record { stages = z.stages; start = record { 0 = start }; end = record { 0 = end }; steps = z.steps; root = z.root; nodes = z.nodes }

-- the limits of a chart are those of the chart with a start and an end inside
pub valid_headed : (c : Chart) (start end : ℕ) → Valid (graph c) → start < c.stages → end < c.stages → Valid (graph (headed c start end))
valid_headed c start end v h i = record {
  some_stages = v.some_stages;
  few_stages = v.few_stages;
  start_inside = h;
  end_inside = i;
  few = v.few;
  forward = v.forward;
  inside = v.inside;
  sorted = v.sorted;
  cheap = v.cheap;
  grouped = v.grouped;
  few_groups = v.few_groups;
}

module _ (z : Shape) (start end : ℕ) (h : start < z.stages) (i : end < z.stages) where
  pub headed_tables : {t : Read} → Tables z t → Tables (headed_shape z start end) t
  unfolding group_count
  headed_tables {t} x = record { valid = valid_headed (chart_in z t) start end x.valid h i; small = x.small; kinds = record { tags = x.kinds.tags; alike = x.kinds.alike; alone = x.kinds.alone }; sound = x.sound; held = x.held }

  pub headed_ready : {w : Walk} → Ready z w → Ready (headed_shape z start end) w
  headed_ready r = record { tables = headed_tables r.tables; firsts = r.firsts; rows = r.rows }
