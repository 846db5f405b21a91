-- What the calls check first, in order, and what they answer (REFERENCE 2.5, 2.6, 3.1 to 3.3, 11, 16 to 18).
-- Assumes nothing.
use Rattle.std.specs.Prelude.{ℕ, ◌*◌, ◌-◌, ◌≡◌, Bool, not, ◌&&◌, List, ◌++◌, leb, ltb, eqb, length, drop}
use Rattle.definitions.specs.Basics.{pick, every}
use Rattle.definitions.specs.Charts.{Chart, group_count, read_chart}
use Rattle.definitions.specs.Diagrams.{Diagram, size, strict, read_diagram}
use Rattle.definitions.specs.declared.Answer.{Answer}

-- both files and the space pass, or a refusal: its number, file and place
pub data Load : Type 0 where
  ready : Chart → Diagram → Load
  refused : ℕ → ℕ → ℕ → Load

-- how many entries each work slice needs, and how many the plan slice needs
abbrev pub work_need : Chart → Diagram → ℕ
work_need c d = c.stages * size d

abbrev pub plan_need : Chart → ℕ
plan_need c = c.stages - 1

-- the lengths of the work slices are enough, and that of the plan slice too
abbrev pub work_fits : Chart → Diagram → List ℕ → Bool
work_fits c d works = every (leb (work_need c d)) works

abbrev pub space_fits : Chart → Diagram → List ℕ → ℕ → Bool
space_fits c d works plan = work_fits c d works && leb (plan_need c) plan

-- the chart (file 1), then the diagram (file 2), which is read in one of the two ways: strictly by every call but the reduction
unfoldable pub read_files : Bool → List ℕ → List ℕ → Load
read_files mode chart rules =
    let c = read_chart chart in
    let d = read_diagram mode rules (group_count c.chart) in
    pick (not (eqb c.number 0)) (refused c.number 1 c.place)
    (pick (not (eqb d.number 0)) (refused d.number 2 d.place)
    (ready c.chart d.diagram))

-- then the space (7), by the lengths of the lent slices
abbrev pub with_space : List ℕ → ℕ → Load → Load
with_space works plan (refused number file place) = refused number file place
with_space works plan (ready c d) = pick (space_fits c d works plan) (ready c d) (refused 7 0 0)

-- all checks of a search
unfoldable pub load : List ℕ → List ℕ → List ℕ → ℕ → Load
load chart rules works plan = with_space works plan (read_files strict chart rules)

-- all checks of a call that is lent work slices and no plan slice
abbrev pub with_work : List ℕ → Load → Load
with_work works (refused number file place) = refused number file place
with_work works (ready c d) = pick (work_fits c d works) (ready c d) (refused 7 0 0)

unfoldable pub load_work : List ℕ → List ℕ → List ℕ → Load
load_work chart rules works = with_work works (read_files strict chart rules)

-- a refusal has cost 0 and length 0
abbrev pub refusal : ℕ → ℕ → ℕ → ℕ → Answer
refusal number file place count = record { number = number; file = file; place = place; cost = 0; length = 0; count = count }

-- an accepted answer has number, file and place 0
abbrev pub accepted : ℕ → ℕ → ℕ → Answer
accepted cost steps count = record { number = 0; file = 0; place = 0; cost = cost; length = steps; count = count }

-- ---- two diagrams over one chart

-- the chart, both diagrams and the space pass, or a refusal: its number, file and place
pub data LoadTwo : Type 0 where
  ready_two : Chart → Diagram → Diagram → LoadTwo
  refused_two : ℕ → ℕ → ℕ → LoadTwo

-- how many entries the work slice needs: one for each pair of references
abbrev pub pair_need : Diagram → Diagram → ℕ
pair_need d e = size d * size e

-- after the chart and the diagram the second diagram (file 3), over the same chart
abbrev pub with_more : List ℕ → Load → LoadTwo
with_more more (refused number file place) = refused_two number file place
with_more more (ready c d) =
    let e = read_diagram strict more (group_count c) in
    pick (not (eqb e.number 0)) (refused_two e.number 3 e.place) (ready_two c d e.diagram)

-- then the space (7)
abbrev pub with_pair_space : ℕ → LoadTwo → LoadTwo
with_pair_space work (refused_two number file place) = refused_two number file place
with_pair_space work (ready_two c d e) = pick (leb (pair_need d e) work) (ready_two c d e) (refused_two 7 0 0)

unfoldable pub load_two : List ℕ → List ℕ → List ℕ → ℕ → LoadTwo
load_two chart rules more work = with_pair_space work (with_more more (read_files strict chart rules))

-- ---- a file in a lent buffer, after every other check

-- cost and count are 0 and the length is the file's bytes; a buffer of fewer is 7
unfoldable pub file_answer : ℕ → ℕ → Answer
file_answer bytes room = pick (ltb room bytes) (refusal 7 0 0 0) (accepted 0 bytes 0)

-- the file stands at the buffer's front, and the rest stays; a buffer that is too short stays as it was
unfoldable pub file_buffer : List ℕ → List ℕ → List ℕ
file_buffer file out = pick (ltb (length out) (length file)) out (file ++ drop (length file) out)

-- the buffer before and after (out'), and the answer
pub record Filed (file out out' : List ℕ) (r : Answer) : Type 0 where
  pub answer : r ≡ file_answer (length file) (length out)
  pub buffer : out' ≡ file_buffer file out
