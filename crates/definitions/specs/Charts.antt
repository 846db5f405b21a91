-- The chart (a weighted acyclic graph) and its file (REFERENCE 2.2, 2.4).
-- Assumes nothing.
use Rattle.std.specs.Prelude.{ℕ, ◌+◌, ◌-◌, ◌*◌, ◌/◌, not, List, [], ◌∷◌, map, leb, ltb, eqb, length, get_or}
use Rattle.definitions.specs.Basics.{pick, above}
use Rattle.definitions.specs.Fields.{two, four, part, Kind, exactly, only, first_field, on_field, Grammar, Scan, scan}

-- the two kinds of steps, by the tags of their fields: a plain step is a group alone, a grouped one names its group
abbrev pub plain : ℕ
plain = 2

abbrev pub grouped : ℕ
grouped = 3

-- a step (an edge): its kind, the stages, what it costs, and the group that it belongs to
pub record ChartStep : Type 0 where
  pub tag : ℕ
  pub from : ℕ
  pub to : ℕ
  pub cost : ℕ
  pub group : ℕ

pub record Chart : Type 0 where
  pub stages : ℕ
  pub start : ℕ
  pub end : ℕ
  pub steps : List ChartStep

-- the chart with another start and end in its head
abbrev pub headed : Chart → ℕ → ℕ → Chart
headed c start end = record { stages = c.stages; start = start; end = end; steps = c.steps }

-- past the steps
abbrev pub no_step : ChartStep
no_step = record { tag = 0; from = 0; to = 0; cost = 0; group = 0 }

-- how many groups a diagram over the chart may name: those up to the highest of a step, so that some of them may have no step; none in a chart without steps
unfoldable pub group_count : Chart → ℕ
group_count c = above (map (λ x. x.group) c.steps)

-- what is wrong with a head's body, 0: nothing. 1 to 256 stages; start and end below the stage count
unfoldable pub head_fault : List ℕ → ℕ
head_fault b =
    pick (eqb (two b 0) 0) 4
    (pick (not (leb (two b 0) 256)) 4
    (pick (leb (two b 0) (two b 2)) 4
    (pick (leb (two b 0) (two b 4)) 4 0)))

-- a head's body: stage count, start, end
abbrev pub head_of : List ℕ → List ChartStep → Chart
head_of b steps = record { stages = two b 0; start = two b 2; end = two b 4; steps = steps }

-- what is wrong with the group that a step names, where the step before is of the group `last`; 0: nothing. At most 1,023, and at least that of the step before
unfoldable pub group_fault : ℕ → List ℕ → ℕ
group_fault last b =
    pick (not (leb (two b 8) 1023)) 14
    (pick (ltb (two b 8) last) 14 0)

-- what is wrong with the body of a step of the kind `tag` after `count` steps, the last of which leaves the stage `last` and is of the group `group`; 0: nothing.
-- At most 1,024 steps, else 5; from < to and to < stage count, else 10; from at least that of the step before, else 5; the value, as the file has it,
-- at most 1,000,000, else 11; the group, where the step names one, last
unfoldable pub step_fault : ℕ → ℕ → ℕ → ℕ → ℕ → List ℕ → ℕ
step_fault stages tag last group count b =
    pick (leb 1024 count) 5
    (pick (leb (two b 2) (two b 0)) 10
    (pick (leb stages (two b 2)) 10
    (pick (ltb (two b 0) last) 5
    (pick (not (leb (four b 4) 1000000)) 11
    (pick (eqb tag grouped) (group_fault group b) 0)))))

-- what a step costs that has this value in the file: the value, rounded up to a multiple of 50
abbrev pub rounded : ℕ → ℕ
rounded value = (value + 49) / 50 * 50

-- the body of step e: from, to, value and, if it is grouped, its group. A plain step's group is its own number
abbrev pub step_of : ℕ → ℕ → List ℕ → ChartStep
step_of tag e b = record { tag = tag; from = two b 0; to = two b 2; cost = rounded (four b 4); group = pick (eqb tag grouped) (two b 8) e }

-- the stage that the last of some steps leaves, and its group; 0 before the first
abbrev pub last_from : List ChartStep → ℕ
last_from before = (get_or before (length before - 1) no_step).from

abbrev pub last_group : List ChartStep → ℕ
last_group before = (get_or before (length before - 1) no_step).group

abbrev pub step_fault_after : ℕ → ℕ → List ChartStep → List ℕ → ℕ
step_fault_after stages tag before b = step_fault stages tag (last_from before) (last_group before) (length before) b

-- how long the body of a step is: 8 bytes, 10 where it names its group
abbrev pub step_length : ℕ → ℕ
step_length tag = pick (eqb tag grouped) 10 8

-- what a tag is behind some steps. The first step fixes the kind: from then on the other kind is not of this file
unfoldable pub step_kind : List ChartStep → ℕ → Kind
step_kind [] tag = pick (eqb tag grouped) (exactly (step_length grouped)) (only plain (step_length plain) tag)
step_kind (x ∷ before) tag = only x.tag (step_length x.tag) tag

-- A chart file, read: the refusal's number and place, 0 and 0 where it is accepted, and the chart as far as its fields passed
pub record ChartRead : Type 0 where
  pub number : ℕ
  pub place : ℕ
  pub chart : Chart

abbrev pub no_chart : Chart
no_chart = record { stages = 0; start = 0; end = 0; steps = [] }

abbrev pub chart_refused : ℕ → ℕ → ChartRead
chart_refused number place = record { number = number; place = place; chart = no_chart }

abbrev pub with_steps : List ℕ → Scan ChartStep → ChartRead
with_steps b x = record { number = x.number; place = x.place; chart = head_of b x.passed }

-- after the head: steps, all of one kind
abbrev pub step_grammar : ℕ → Grammar ChartStep
step_grammar stages = record { kind = step_kind; fault = λ before tag. step_fault_after stages tag before; holds = λ before tag. step_of tag (length before) }

-- the steps of a chart file, from a place on
abbrev pub scan_steps : List ℕ → ℕ → ℕ → Scan ChartStep
scan_steps s stages at = scan s (step_grammar stages) (length s) at []

-- the head first, once; then steps to the file's end. An empty file is 2 at place 0. (Before the head no field is passed over)
unfoldable pub read_chart : List ℕ → ChartRead
read_chart s =
    on_field (first_field s (only 1 6)) (chart_refused 2 0) chart_refused (λ end. chart_refused 2 0)
    (λ place start end.
    let b = part s start end in
    let whole = with_steps b (scan_steps s (two b 0) end) in
    pick (eqb (head_fault b) 0) whole (chart_refused (head_fault b) place))
