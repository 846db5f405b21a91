-- The bytes of fields and of files (REFERENCE 2.5). A file that is written holds the head and the steps or inner nodes, and no other field.
-- Assumes nothing.
use Rattle.std.specs.Prelude.{ℕ, suc, ◌/◌, ◌%◌, List, [], ◌∷◌, ◌++◌, eqb, length}
use Rattle.definitions.specs.Basics.{pick, each}
use Rattle.definitions.specs.Charts.{Chart, ChartStep, grouped, rounded}
use Rattle.definitions.specs.Diagrams.{Diagram, InnerNode}

-- a number in two bytes, and in four, low byte first
abbrev pub le2 : ℕ → List ℕ
le2 n = n % 256 ∷ n / 256 ∷ []

abbrev pub le4 : ℕ → List ℕ
le4 n = le2 (n % 65536) ++ le2 (n / 65536)

-- a field: its tag, the length of its body, its body
abbrev pub header : ℕ → ℕ → List ℕ
header tag len = tag ∷ le2 len

abbrev pub field : ℕ → List ℕ → List ℕ
field tag body = header tag (length body) ++ body

-- a chart's head (tag 1): stage count, start, end; a step (tag 2 or 3): from, to, value and, if it is grouped, its group. What stands as a step's cost is
-- written as its value, whatever it is
abbrev pub body_of_head : ℕ → ℕ → ℕ → List ℕ
body_of_head stages start end = le2 stages ++ le2 start ++ le2 end

abbrev pub body_of_step : ChartStep → List ℕ
body_of_step x = le2 x.from ++ le2 x.to ++ le4 x.cost ++ pick (eqb x.tag grouped) (le2 x.group) []

abbrev pub head_bytes : ℕ → ℕ → ℕ → List ℕ
head_bytes stages start end = field 1 (body_of_head stages start end)

abbrev pub step_bytes : ChartStep → List ℕ
step_bytes x = field x.tag (body_of_step x)

abbrev pub chart_bytes : Chart → List ℕ
chart_bytes c = head_bytes c.stages c.start c.end ++ each step_bytes c.steps

-- step e, the steps from step e on, and a chart, as they are read back: what was written as the value is rounded to the cost, and a plain step is of the group of
-- its own number
abbrev pub step_back : ℕ → ChartStep → ChartStep
step_back e x = record { tag = x.tag; from = x.from; to = x.to; cost = rounded x.cost; group = pick (eqb x.tag grouped) x.group e }

abbrev pub steps_back : ℕ → List ChartStep → List ChartStep
steps_back e [] = []
steps_back e (x ∷ xs) = step_back e x ∷ steps_back (suc e) xs

abbrev pub chart_back : Chart → Chart
chart_back c = record { stages = c.stages; start = c.start; end = c.end; steps = steps_back 0 c.steps }

-- a diagram's head (tag 11, hexadecimal): the root; an inner node (tag 12): group, lo, hi
abbrev pub body_of_node : InnerNode → List ℕ
body_of_node x = le2 x.step ++ le2 x.lo ++ le2 x.hi

abbrev pub root_bytes : ℕ → List ℕ
root_bytes root = field 17 (le2 root)

abbrev pub node_bytes : InnerNode → List ℕ
node_bytes x = field 18 (body_of_node x)

abbrev pub diagram_bytes : Diagram → List ℕ
diagram_bytes d = root_bytes d.root ++ each node_bytes d.nodes
