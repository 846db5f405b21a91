-- Remarks in both files, and files that are too long (REFERENCE 2.1, 3.2): what reading them gives, and mistakes refuted.
-- Assumes nothing.
use Rattle.std.specs.Prelude.{ℕ, ◌+◌, ◌≤◌, ◌<◌, ◌≡◌, Bool, false, List, [], ◌∷◌, ◌++◌, map, length, take, replicate}
use Rattle.std.proofs.Math.Path.{refl}
use Rattle.std.proofs.Common.{sym, ◌∙◌, arith, length-take-le, take_all, le-leb}
use Rattle.std.proofs.Math.Decide.{dec_lt}
use Rattle.std.proofs.lemmas.Bool.{lt-leb}
use Rattle.definitions.specs.Basics.{pick, each}
use Rattle.definitions.specs.Fields.{Kind, passed_over, only, or_remark, field_at, longest, first_field, on_field, scan}
use Rattle.definitions.specs.Charts.{head_fault, step_fault, chart_refused, read_chart, group_count, group_fault, step_kind}
use Rattle.definitions.specs.Diagrams.{node_fault, strict, padding, node_fault_after, diagram_refused, read_diagram}
use Rattle.definitions.specs.Bytes.{head_bytes, field, step_bytes, root_bytes, node_bytes, chart_bytes, diagram_bytes}
use Rattle.definitions.specs.Answers.{refused, read_files, load}
use Rattle.definitions.specs.Marked.{st, nd, values, chart, rules}
use Rattle.definitions.proofs.Examples.{alike, rooted, chart_refusal, rules_refusal, load_refusal, whole_chart}
use Rattle.definitions.specs.declared.Field.TheVariants.{Faulty}
use Rattle.definitions.specs.declared.Refusal.TheVariants.{LongFile}

-- remarks of the first tag before each field after the head, and one of the last tag at the end
abbrev noted : List (List ℕ) → List ℕ
noted fields = each (λ f. field 128 [] ++ f) fields ++ field 255 (2 ∷ 8 ∷ 0 ∷ [])

abbrev chart_noted : List ℕ
chart_noted = head_bytes values.stages values.start values.end ++ noted (map step_bytes values.steps)

abbrev rules_noted : List ℕ
rules_noted = root_bytes rules.root ++ noted (map node_bytes rules.nodes)

-- the same chart and the same diagram: no step and no node has another number
pub chart_noted_lem : read_chart chart_noted ≡ record { number = 0; place = 0; chart = chart }
unfolding pick only or_remark field_at first_field on_field scan head_fault step_fault group_fault step_kind read_chart
chart_noted_lem = refl

pub rules_noted_lem : read_diagram strict rules_noted 6 ≡ record { number = 0; place = 0; diagram = rules }
unfolding pick only or_remark field_at first_field on_field scan node_fault node_fault_after padding read_diagram
rules_noted_lem = refl

-- a chart file of a head, and a diagram file of a head, with these bytes behind
abbrev after : List ℕ → List ℕ
after bytes = chart_refusal (head_bytes 5 0 4 ++ bytes)

abbrev after_root : List ℕ → List ℕ
after_root bytes = rules_refusal (root_bytes 1 ++ bytes) 6

-- what a file is refused with, and where
pub remarks : List (List ℕ × List ℕ)
remarks =
    -- nothing but a head and remarks, of the first tag and of the last
    (after (128 ∷ 0 ∷ 0 ∷ 255 ∷ 1 ∷ 0 ∷ 7 ∷ []), 0 ∷ 0 ∷ [])
    ∷ (after_root (128 ∷ 0 ∷ 0 ∷ 255 ∷ 1 ∷ 0 ∷ 7 ∷ []), 0 ∷ 0 ∷ [])
    -- the tag before the first
    ∷ (after (127 ∷ 0 ∷ 0 ∷ []), 2 ∷ 9 ∷ [])
    ∷ (after_root (127 ∷ 0 ∷ 0 ∷ []), 2 ∷ 5 ∷ [])
    -- a header and a body that are cut, each at the remark's own place
    ∷ (after (128 ∷ 0 ∷ 0 ∷ 128 ∷ 0 ∷ []), 1 ∷ 12 ∷ [])
    ∷ (after (128 ∷ 0 ∷ 0 ∷ 128 ∷ 2 ∷ 0 ∷ 7 ∷ []), 1 ∷ 12 ∷ [])
    ∷ (after_root (128 ∷ 0 ∷ 0 ∷ 128 ∷ 2 ∷ 0 ∷ 7 ∷ []), 1 ∷ 8 ∷ [])
    -- a length of two bytes: 256, with as many behind it, with one less, and the largest
    ∷ (after (200 ∷ 0 ∷ 1 ∷ replicate 256 9), 0 ∷ 0 ∷ [])
    ∷ (after (200 ∷ 0 ∷ 1 ∷ replicate 255 9), 1 ∷ 9 ∷ [])
    ∷ (after (200 ∷ 255 ∷ 255 ∷ []), 1 ∷ 9 ∷ [])
    -- before the head
    ∷ (chart_refusal (128 ∷ 0 ∷ 0 ∷ head_bytes 5 0 4), 2 ∷ 0 ∷ [])
    ∷ (rules_refusal (128 ∷ 0 ∷ 0 ∷ root_bytes 1) 6, 2 ∷ 0 ∷ [])
    -- there with a cut body, and with a cut header
    ∷ (chart_refusal (128 ∷ 2 ∷ 0 ∷ 7 ∷ []), 2 ∷ 0 ∷ [])
    ∷ (rules_refusal (128 ∷ 2 ∷ 0 ∷ 7 ∷ []) 6, 2 ∷ 0 ∷ [])
    ∷ (chart_refusal (128 ∷ 0 ∷ []), 1 ∷ 0 ∷ [])
    -- a fault behind a remark, at its own place: a step, a node, a second head
    ∷ (after (field 128 (7 ∷ 7 ∷ []) ++ step_bytes (st 1 1 7)), 10 ∷ 14 ∷ [])
    ∷ (after_root (field 128 [] ++ node_bytes (nd 0 2 1)), 6 ∷ 8 ∷ [])
    ∷ (after (field 128 [] ++ head_bytes 5 0 4), 2 ∷ 12 ∷ [])
    -- a step that leaves a stage below that of the step before it, with a remark between
    ∷ (after (step_bytes (st 1 2 7) ++ field 128 [] ++ step_bytes (st 0 1 7)), 5 ∷ 23 ∷ [])
    -- a remark that looks like a step gives the diagram no step more
    ∷ (load_refusal (load (head_bytes 5 0 4 ++ field 130 (0 ∷ 0 ∷ 1 ∷ 0 ∷ 7 ∷ 0 ∷ 0 ∷ 0 ∷ []) ++ step_bytes (st 0 1 7)) (diagram_bytes (rooted 2 (nd 1 0 1 ∷ []))) (15 ∷ []) 4), 6 ∷ 2 ∷ 5 ∷ [])
    ∷ []

pub remarks_hold : map (λ x. x.0) remarks ≡ map (λ x. x.1) remarks
unfolding remarks pick only or_remark field_at first_field on_field scan head_fault step_fault group_fault step_kind node_fault node_fault_after padding read_chart read_diagram group_count read_files load
remarks_hold = refl

-- mistakes: a remark before the head let through, a step number taken, tag 7F let through, a cut body let through, a remark's length judged
pub remark_mistakes : List (List ℕ × List ℕ)
remark_mistakes =
    (chart_refusal (128 ∷ 0 ∷ 0 ∷ head_bytes 5 0 4), 0 ∷ 0 ∷ [])
    ∷ (load_refusal (load (head_bytes 5 0 4 ++ field 130 [] ++ step_bytes (st 0 1 7)) (diagram_bytes (rooted 2 (nd 1 0 1 ∷ []))) (15 ∷ []) 4), [])
    ∷ (after (127 ∷ 0 ∷ 0 ∷ []), 0 ∷ 0 ∷ [])
    ∷ (after (128 ∷ 2 ∷ 0 ∷ 7 ∷ []), 0 ∷ 0 ∷ [])
    ∷ (after (128 ∷ 1 ∷ 0 ∷ 7 ∷ []), 3 ∷ 9 ∷ [])
    ∷ []

pub remark_mistakes_refuted : map (λ x. alike x.0 x.1) remark_mistakes ≡ map (λ x. false) remark_mistakes
unfolding remark_mistakes pick only or_remark field_at first_field on_field scan head_fault step_fault group_fault step_kind node_fault node_fault_after padding read_chart read_diagram group_count read_files load
remark_mistakes_refuted = refl

-- after a head every tag from 128 on is passed over, and no other for that reason
pub tag_over : (kind : ℕ → Kind) (tag : ℕ) → 128 ≤ tag → or_remark kind tag ≡ passed_over
unfolding or_remark pick
tag_over kind tag h = rw (le-leb 128 tag h)

pub tag_kept : (kind : ℕ → Kind) (tag : ℕ) → tag < 128 → or_remark kind tag ≡ kind tag
unfolding or_remark pick
tag_kept kind tag h = rw (lt-leb 128 tag h)

-- ---- too long: more than 32,768 bytes, whatever they are

-- behind a chart's head the longest remark that fits, 32,756 bytes, and the same without its last byte; behind a diagram's head one of 32,761 bytes, one too many
pub full_files : List (List ℕ)
full_files = after (128 ∷ 244 ∷ 127 ∷ replicate 32756 0) ∷ after (128 ∷ 244 ∷ 127 ∷ replicate 32755 0) ∷ after_root (128 ∷ 249 ∷ 127 ∷ replicate 32761 0) ∷ []

pub full_files_hold : full_files ≡ (0 ∷ 0 ∷ []) ∷ (1 ∷ 9 ∷ []) ∷ (9 ∷ 32768 ∷ []) ∷ []
unfolding full_files pick only or_remark field_at first_field on_field scan head_fault read_chart read_diagram
full_files_hold = refl

module _ (s : List ℕ) (long : longest < length s) where
  pub long_first : (kind : ℕ → Kind) → first_field s kind ≡ Faulty LongFile longest
  unfolding first_field pick
  long_first kind = rw (lt-leb (length s) longest long)

  long_chart_read : read_chart s ≡ chart_refused 9 longest
  unfolding read_chart on_field
  long_chart_read = rw (long_first _)

  long_rules_read : (mode : Bool) (steps : ℕ) → read_diagram mode s steps ≡ diagram_refused 9 longest
  unfolding read_diagram on_field
  long_rules_read mode steps = rw (long_first _)

  -- the chart's length is judged before its fields, and before the diagram
  pub long_chart : (mode : Bool) (rules : List ℕ) → read_files mode s rules ≡ refused 9 1 longest
  unfolding group_count read_files pick
  long_chart mode rules = rw long_chart_read

  -- the diagram's before its fields, and after the chart's fields
  pub long_rules : (mode : Bool) → read_files mode (chart_bytes values) s ≡ refused 9 2 longest
  unfolding group_count read_files pick
  long_rules mode = rw (whole_chart, long_rules_read mode 6)

  pub long_rules_later : (mode : Bool) → read_files mode (9 ∷ []) s ≡ refused 1 1 0
  unfolding pick only or_remark field_at first_field on_field read_chart group_count read_files
  long_rules_later mode = refl

-- 32,768 bytes are not too long
pub short_first : (s : List ℕ) → length s ≤ longest → (kind : ℕ → Kind) → first_field s kind ≡ field_at s 0 kind
unfolding first_field pick
short_first s short kind = rw (le-leb (length s) longest short)

-- A caller that reads no more than 32,769 bytes of each file, as the program does, gets the same answer
cut_first : (s : List ℕ) (A : List ℕ → Type 0) → (length s ≤ longest → A s) → (longest < length (take (longest + 1) s) → longest < length s → A (take (longest + 1) s)) → A (take (longest + 1) s)
cut_first s A short long = go (dec_lt longest (length s))
  where
    go : Dec (longest < length s) → A (take (longest + 1) s)
    go (yes h) = long (omega (arith, length-take-le (longest + 1) s (omega arith))) h
    go (no h) = let l : length s ≤ longest = omega arith in rw (take_all (longest + 1) s (omega arith)) (short l)

cut_chart : (s : List ℕ) → read_chart (take (longest + 1) s) ≡ read_chart s
cut_chart s = cut_first s (λ t. read_chart t ≡ read_chart s) (λ l. refl) (λ c l. long_chart_read (take (longest + 1) s) c ∙ sym (long_chart_read s l))

cut_rules : (mode : Bool) (s : List ℕ) (steps : ℕ) → read_diagram mode (take (longest + 1) s) steps ≡ read_diagram mode s steps
cut_rules mode s steps =
    cut_first s (λ t. read_diagram mode t steps ≡ read_diagram mode s steps) (λ l. refl)
    (λ c l. long_rules_read (take (longest + 1) s) c mode steps ∙ sym (long_rules_read s l mode steps))

pub cut_files : (mode : Bool) (chart rules : List ℕ) → read_files mode (take (longest + 1) chart) (take (longest + 1) rules) ≡ read_files mode chart rules
unfolding read_files
cut_files mode chart rules = rw (cut_chart chart, cut_rules mode rules (group_count (read_chart chart).chart))
