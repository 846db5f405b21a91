-- `diagram::read_diagram` meets its contract.
use Rattle.fields.specs.First.{first-laws}
use Rattle.diagram.proofs.Whole.{marks_room, whole-laws}
use Rattle.diagram.proofs.reader.read_diagram.Goals as goal

pub slice_bounds-read_u16-count : goal.slice_bounds-read_u16-count
slice_bounds-read_u16-count c = search first-laws

pub slice_bounds-read_u16-start : goal.slice_bounds-read_u16-start
slice_bounds-read_u16-start c = search first-laws

pub slice_bounds-read_u16-end : goal.slice_bounds-read_u16-end
slice_bounds-read_u16-end c = search first-laws

pub read_u16-root-requires : goal.read_u16-root-requires
read_u16-root-requires c = search whole-laws

pub read_rest-requires : goal.read_rest-requires
read_rest-requires c = (c.requires.0, marks_room _ _ c.leaf_word-leaf.ensures c.requires.1)

pub returns-in-Absent : goal.returns-in-Absent
returns-in-Absent c = search whole-laws

pub returns-in-Faulty : goal.returns-in-Faulty
returns-in-Faulty c = search whole-laws

pub returns-in-Passed : goal.returns-in-Passed
returns-in-Passed c = search whole-laws

pub returns-in-Whole : goal.returns-in-Whole
returns-in-Whole c = search whole-laws
