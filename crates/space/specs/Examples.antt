-- The space for the chart of REFERENCE 14: 5 stages × 4 nodes, and 4 steps; and for a file that is refused.
-- Assumes nothing.
use Rattle.std.specs.Prelude.{◌≡◌, refl, [], ◌∷◌}
use Rattle.definitions.specs.Basics.{pick}
use Rattle.definitions.specs.Fields.{only, or_remark, field_at, first_field, on_field, scan}
use Rattle.definitions.specs.Charts.{head_fault, group_fault, step_fault, step_kind, read_chart, group_count}
use Rattle.definitions.specs.Diagrams.{node_fault, strict, padding, node_fault_after, read_diagram}
use Rattle.definitions.specs.Bytes.{chart_bytes, diagram_bytes}
use Rattle.definitions.specs.Answers.{read_files}
use Rattle.definitions.specs.Marked.{values, rules}
use Rattle.space.specs.Space.{space_needed}

pub needed : space_needed (read_files strict (chart_bytes values) (diagram_bytes rules)) ≡ record { number = 0; file = 0; place = 0; work = 20; plan = 4 }
unfolding pick only or_remark field_at first_field on_field scan head_fault step_fault group_fault step_kind read_chart node_fault node_fault_after padding read_diagram group_count read_files
needed = refl

pub needed_refused : space_needed (read_files strict (chart_bytes values) (17 ∷ [])) ≡ record { number = 1; file = 2; place = 0; work = 0; plan = 0 }
unfolding pick only or_remark field_at first_field on_field scan head_fault step_fault group_fault step_kind read_chart node_fault node_fault_after padding read_diagram group_count read_files
needed_refused = refl
