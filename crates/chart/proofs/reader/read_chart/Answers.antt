-- `chart::read_chart` meets its contract.
use Rattle.fields.specs.First.{first-laws}
use Rattle.chart.proofs.Whole.{chart_empty, chart_empty_filled, chart_faulty, chart_faulty_filled, chart_bad, chart_bad_filled, chart_good, chart_stopped, chart_filled}
use Rattle.chart.proofs.reader.read_chart.Goals as goal

pub slice_bounds-body-count : goal.slice_bounds-body-count
slice_bounds-body-count c = search first-laws

pub slice_bounds-body-start : goal.slice_bounds-body-start
slice_bounds-body-start c = search first-laws

pub slice_bounds-body-end : goal.slice_bounds-body-end
slice_bounds-body-end c = search first-laws

pub check_head-requires : goal.check_head-requires
check_head-requires c = search first-laws

pub head_of-head-requires : goal.head_of-head-requires
head_of-head-requires c = search first-laws

pub returns-in-Absent-clause-value : goal.returns-in-Absent-clause-value
returns-in-Absent-clause-value c = chart_empty _ _ c.first_field.ensures c.in-Absent.is _ c.no_head.ensures

pub returns-in-Absent-clause-filled : goal.returns-in-Absent-clause-filled
returns-in-Absent-clause-filled c = chart_empty_filled _ _ c.first_field.ensures c.in-Absent.is _

pub returns-in-Faulty-clause-value : goal.returns-in-Faulty-clause-value
returns-in-Faulty-clause-value c = chart_faulty _ _ c.first_field.ensures _ _ c.in-Faulty.is _ c.no_head-in-Faulty.ensures

pub returns-in-Faulty-clause-filled : goal.returns-in-Faulty-clause-filled
returns-in-Faulty-clause-filled c = chart_faulty_filled _ _ c.first_field.ensures _ _ c.in-Faulty.is _

pub returns-in-Err-clause-value : goal.returns-in-Err-clause-value
returns-in-Err-clause-value c = chart_bad _ _ c.first_field.ensures _ _ _ c.in-Whole.is _ c.in-Err.ensures _ c.no_head-in-Err.ensures

pub returns-in-Err-clause-filled : goal.returns-in-Err-clause-filled
returns-in-Err-clause-filled c = chart_bad_filled _ _ c.first_field.ensures _ _ _ c.in-Whole.is _ c.in-Err.ensures _

pub returns-in-Ok-clause-value : goal.returns-in-Ok-clause-value
returns-in-Ok-clause-value c =
    chart_good _ _ c.first_field.ensures _ _ _ c.in-Whole.is c.in_default.ensures _ c.head_of-head.ensures _ _ _ c.in-Ok.ensures _ c.sizes.ensures

pub returns-in-Ok-clause-filled : goal.returns-in-Ok-clause-filled
returns-in-Ok-clause-filled c =
    chart_filled _ _ c.first_field.ensures _ _ _ c.in-Whole.is c.in_default.ensures _ c.head_of-head.ensures _ _ _ _ _ c.in-Ok.ensures

pub returns-in-Err-read_steps-clause-value : goal.returns-in-Err-read_steps-clause-value
returns-in-Err-read_steps-clause-value c =
    chart_stopped _ _ c.first_field.ensures _ _ _ c.in-Whole.is c.in_default.ensures _ c.head_of-head.ensures _ _ _ c.in-Err-read_steps.ensures _ c.sizes-in-Err-read_steps.ensures

pub returns-in-Err-read_steps-clause-filled : goal.returns-in-Err-read_steps-clause-filled
returns-in-Err-read_steps-clause-filled c =
    chart_filled _ _ c.first_field.ensures _ _ _ c.in-Whole.is c.in_default.ensures _ c.head_of-head.ensures _ _ _ _ _ c.in-Err-read_steps.ensures
