-- The walk over the nodes: how it begins, and one law for each way out of a turn.
-- Assumes nothing.
use Prim.Native.Nat.{ℕ, suc, ◌+◌, ◌-◌, ◌≤◌, ◌<◌}
use Rattle.std.specs.Prelude.{Result, Ok, Err}
use mathlib.Core.Path.{◌≡◌, refl, sym, ◌∙◌, ap}
use mathlib.Core.Bool.{Bool, true, false, ◌&&◌}
use mathlib.Core.List.{List, [], ◌∷◌, ◌++◌, map, append-nil, append_assoc, map-append}
use lib.ListN.{length, get_or, take, set, length-append, length-set}
use lib.Seq.{take-suc-set}
use native.Mathlib.Omega.{arith}
use Rattle.definitions.specs.Basics.{pick, upto}
use Rattle.definitions.specs.Fields.{two, part, only, or_remark, field_at, stopped}
use Rattle.definitions.specs.Diagrams.{InnerNode, no_node, node_fault, inner_node_of, padding, node_fault_after, node_grammar, scan_nodes}
use Rattle.definitions.specs.Refusals.{number}
use Rattle.definitions.specs.declared.Field.{Field}
use Rattle.definitions.specs.declared.Field.TheVariants.{Absent, Faulty, Passed, Whole}
use Rattle.definitions.specs.declared.Refusal.{Refusal}
use Rattle.theory.specs.Basics.{either, pick_true, pick_false, rest_kept}
use Rattle.theory.specs.Padding.{padding_level, padding_alike, padding_none, fault_beyond, fault_within}
use Rattle.fields.specs.Positions.{passed_within, HasField, number_some}
use Rattle.fields.specs.Remarks.{has_whole, whole_has, has_less}
use Rattle.fields.specs.Scans.{reading_start, reading_done, reading_faulty, reading_passed, reading_bad, reading_step}
use Rattle.fields.specs.declared.fault.Stopped.{Stopped}
use Rattle.diagram_fields.specs.Words.{word_of, unpacked, lo_of, hi_of, step_of, node_word, word_node}
use Rattle.unique_table.specs.Held.{Blank}
use Rattle.unique_table.specs.Nodes.{nodes_long, node_listed}
use Rattle.unique_table.specs.Tables.{UniqueTable, node_at, count_in, nodes_in, Table, Lacks, Found, Adds}
use Rattle.diagram.specs.Files.{Room, nodes_end}
use Rattle.diagram.specs.Turns.{Stored, SoFar, SoFarAt, Fresh, Over, Takes, Underway, Judged, limit_fault, padding_fault}
use Rattle.diagram.specs.declared.reader.NodesRead.{NodesRead}
use Rattle.diagram.specs.Limits.{NodeFits, node_fits, node_fault_same}

-- ---- padding: one law for each way out of the test

module _ (t : UniqueTable) (w : ℕ) (small : w < 4294967296) where
  pub padding_taken : (mode : Bool) → mode ≡ false → 0 ≡ padding_fault mode t w
  padding_taken mode e = sym (pick_false _ _ _ (rw e))

  module _ (mode : Bool) (strictly : mode ≡ true) where
    refused_by : padding (nodes_in t) (unpacked w) ≡ true → 13 ≡ padding_fault mode t w
    refused_by e = sym (pick_true _ _ _ (rw (strictly, e)))

    taken_by : padding (nodes_in t) (unpacked w) ≡ false → 0 ≡ padding_fault mode t w
    taken_by e = sym (pick_false _ _ _ (rw (strictly, e)))

    module _ (l h : ℕ) (el : l ≡ lo_of w) (eh : h ≡ hi_of w) where
      pub padding_flat : l ≡ h → 13 ≡ padding_fault mode t w
      padding_flat e = refused_by (padding_level (nodes_in t) (unpacked w) (sym el ∙ e ∙ eh))

      module _ (apart : l ≡ h → ⊥) where
        pub padding_double : (m : ℕ) → Found t w m → 13 ≡ padding_fault mode t w
        padding_double m found =
            let q : m - 2 + 2 ≡ m = omega (arith, found.inner) in
            refused_by (padding_alike (nodes_in t) (unpacked w) (m - 2) (omega (arith, nodes_long t, found.inner, found.inside))
            (node_listed t (m - 2) (omega (arith, found.inner, found.inside)) ∙ ap (λ (n : ℕ). unpacked (node_at t n)) q ∙ ap unpacked found.hit))

        pub padding_lacking : Table t → Lacks t w → 0 ≡ padding_fault mode t w
        padding_lacking table lacks =
            taken_by (padding_none (nodes_in t) (unpacked w) (λ e. apart (el ∙ e ∙ sym eh)) (λ k j e.
            let here : k < count_in t = omega (arith, nodes_long t) in
            lacks (k + 2) (omega arith) (omega arith)
            (sym (word_node (node_at t (k + 2)) (table.fits (k + 2) (omega arith) (omega arith))) ∙ ap word_of (sym (node_listed t k here) ∙ e) ∙ word_node w small)))

pub ruleset padding-laws = (padding_taken, padding_flat, padding_double, padding_lacking)

-- ---- the table

-- no node yet
pub nothing_stored : (table : List ℕ) → Room table → Stored [] table table
nothing_stored table room = record { front = sym (append-nil (take 2 table)); rest = refl; room = room }

-- one more node
stored_grown : (before : List InnerNode) (x : InnerNode) (count : ℕ) (words₀ words : List ℕ) → length before ≡ count → count < 510
    → Stored before words₀ words → Stored (before ++ x ∷ []) words₀ (set words (count + 2) (word_of x))
stored_grown before x count words₀ words counted below sofar =
    let long : length (before ++ x ∷ []) + 2 ≡ suc (count + 2) = omega (arith, length-append before (x ∷ [])) in
    let front : take (count + 2) words ≡ take 2 words₀ ++ map word_of before = rw (← counted) sofar.front in
    record {
      front = rw long
          (take-suc-set words (count + 2) (word_of x) (omega (arith, sofar.room.long)) ∙ ap (λ (l : List ℕ). l ++ word_of x ∷ []) front
          ∙ append_assoc (take 2 words₀) (map word_of before) (word_of x ∷ []) ∙ ap (λ (l : List ℕ). take 2 words₀ ++ l) (sym (map-append word_of before (x ∷ []))));
      rest = rw long (rest_kept (count + 2) (suc (count + 2)) (count + 2) (word_of x) words words₀ (omega arith) (omega arith) (rw (← counted) sofar.rest));
      room = record { long = length-set words (count + 2) (word_of x) ∙ sofar.room.long };
    }

-- a table without nodes, before the walk
pub fresh_blank : (groups : ℕ) (words : List ℕ) (t : UniqueTable) → groups ≤ 1024 → Blank words t → Fresh groups t
fresh_blank groups words t chart blank = record { chart = chart; table = blank.table; none = sym (nodes_long t) ∙ ap length blank.empty }

pub nodes_start : (mode : Bool) (s : List ℕ) (first groups : ℕ) (t : UniqueTable) → Fresh groups t → SoFar mode s first groups t.nodes t (record { place = first; nodes = 0 })
unfolding nodes_in
nodes_start mode s first groups t fresh = record {
  chart = fresh.chart;
  before = [];
  reading = reading_start s (node_grammar mode groups) first;
  counted = refl;
  table = fresh.table;
  nodes = ap (λ (c : ℕ). map (λ i. unpacked (node_at t (i + 2))) (upto c)) fresh.none;
  stored = nothing_stored t.nodes (record { long = fresh.table.nodes_long });
}

-- ---- a node that passes fits into one number

-- what the packing of a body asks for
pub record Packs (b : List ℕ) : Type 0 where
  pub lo : two b 2 < 512
  pub hi : two b 4 < 512

pub node_packs : (groups : ℕ) (step_at : ℕ → ℕ) (count : ℕ) (b : List ℕ) → 0 ≡ node_fault groups step_at count b → Packs b
node_packs groups step_at count b passes =
    let f = node_fits groups step_at count b passes in
    record { lo = omega (arith, f.few, f.lo.below); hi = omega (arith, f.few, f.hi.below) }

-- ---- the ways out of a turn from r

-- what a reader found stands where the read is
pub found_here : (f : Field) (s s' : List ℕ) (n n' : ℕ) → f ≡ field_at s n (or_remark (only 18 6)) → s ≡ s' → n ≡ n' → f ≡ field_at s' n' (or_remark (only 18 6))
found_here f s s' n n' given p q = rw (← p, ← q) given

module _ (mode : Bool) (s : List ℕ) (groups : ℕ) (r : NodesRead) (t : UniqueTable) where
  abbrev Here : ℕ × List ℕ → Type 0
  Here o = SoFarAt mode s groups t r o

  -- as many nodes as the table has
  count_is : (o : ℕ × List ℕ) → Here o → count_in t ≡ r.nodes
  count_is o h = sym (nodes_long t) ∙ ap length h.nodes ∙ h.counted

  -- the walk is over
  ends : (o : ℕ × List ℕ) (h : Here o) (e : Result ℕ (Stopped ℕ)) (k p : ℕ) → nodes_end e ≡ record { number = k; place = p; nodes = r.nodes }
      → scan_nodes mode s groups o.0 ≡ stopped h.before k p → Over mode s o.0 groups o.1 t e
  ends o h e k p q is = record {
    few = rw q (omega (arith, count_is o h, h.table.few));
    answer = rw (q, is, h.counted) refl;
    chained = rw is h.nodes;
    stored = rw is h.stored;
  }

  module _ (f : Field) (given : f ≡ field_at s r.place (or_remark (only 18 6))) (o : ℕ × List ℕ) (h : Here o) where
    pub take_done : f ≡ Absent → Over mode s o.0 groups o.1 t (Ok r.nodes)
    take_done found = ends o h (Ok r.nodes) 0 0 refl (reading_done s (node_grammar mode groups) o.0 r.place h.before h.reading f given found)

    pub take_faulty : (k : Refusal) (p : ℕ) → f ≡ Faulty k p → (e : Stopped ℕ) → e ≡ record { fault = record { refusal = k; place = p }; passed = r.nodes }
        → Over mode s o.0 groups o.1 t (Err e)
    take_faulty k p found e q =
        ends o h (Err e) (number k) p (rw q refl) (reading_faulty s (node_grammar mode groups) o.0 r.place h.before h.reading f given k p found)

    pub take_run : (p a e : ℕ) → f ≡ Whole p a e → HasField s r.place 18 6 × Underway mode s groups t r
    take_run p a e found = (whole_has s r.place 18 6 p a e f given found, (o, h))

    module _ (e : ℕ) (found : f ≡ Passed e) where
      pub passed_less : length s - e < length s - r.place
      passed_less = let w = passed_within s r.place (or_remark (only 18 6)) e (sym found ∙ given) in omega (arith, w.later, w.inside)

      pub take_passed : SoFar mode s o.0 groups o.1 t (record { place = e; nodes = r.nodes })
      take_passed = record {
        chart = h.chart;
        before = h.before;
        reading = reading_passed s (node_grammar mode groups) o.0 r.place h.before h.reading f given e found;
        counted = h.counted;
        table = h.table;
        nodes = h.nodes;
        stored = h.stored;
      }

  -- a node stands there
  module _ (has : HasField s r.place 18 6) where
    abbrev b : List ℕ
    b = part s (r.place + 3) (r.place + 3 + 6)

    whole : Whole r.place (r.place + 3) (r.place + 3 + 6) ≡ field_at s r.place (or_remark (only 18 6))
    whole = has_whole s r.place 18 6 (omega arith) has

    module _ (o : ℕ × List ℕ) (h : Here o) where
      -- the table has the steps of the nodes before
      step_known : (k : ℕ) → 2 ≤ k → k < r.nodes + 2 → step_of (get_or t.nodes k 0) ≡ (get_or h.before (k - 2) no_node).step
      step_known k i l =
          let q : k - 2 + 2 ≡ k = omega arith in
          ap (λ (x : InnerNode). x.step) (ap (λ (n : ℕ). unpacked (get_or t.nodes n 0)) (sym q)
          ∙ sym (node_listed t (k - 2) (omega (arith, count_is o h))) ∙ ap (λ (l : List InnerNode). get_or l (k - 2) no_node) h.nodes)

      same_fault : limit_fault groups t r.nodes b ≡ node_fault groups (λ k. (get_or h.before (k - 2) no_node).step) (length h.before) b
      same_fault =
          rw h.counted (node_fault_same groups (λ k. step_of (get_or t.nodes k 0)) (λ k. (get_or h.before (k - 2) no_node).step) r.nodes b step_known)

      -- it is within the limits
      module _ (passes : 0 ≡ limit_fault groups t r.nodes b) where
        node_is : unpacked (word_of (inner_node_of b)) ≡ inner_node_of b
        node_is =
            let fits = node_fits groups (λ k. step_of (get_or t.nodes k 0)) r.nodes b passes in
            node_word (inner_node_of b) (omega (arith, fits.exists, h.chart)) (omega (arith, fits.few, fits.lo.below)) (omega (arith, fits.few, fits.hi.below))

        fault_is : padding_fault mode t (word_of (inner_node_of b)) ≡ node_fault_after mode groups h.before b
        fault_is =
            ap (λ (l : List InnerNode). pick (mode && padding l (unpacked (word_of (inner_node_of b)))) 13 0) h.nodes
            ∙ ap (λ (x : InnerNode). pick (mode && padding h.before x) 13 0) node_is
            ∙ sym (fault_within mode groups h.before b (sym same_fault ∙ sym passes))

      -- the number of what is refused is that of the definition
      judged_is : (e : Refusal) → Judged mode groups t r.nodes b (Err e) → number e ≡ node_fault_after mode groups h.before b
      judged_is e j =
          either j
          (λ q. q ∙ same_fault ∙ sym (fault_beyond mode groups h.before b (λ z. omega (arith, number_some e, q ∙ same_fault ∙ z))))
          (λ q. q.1 ∙ fault_is q.0)

    pub take_refused : (k : Refusal) → Judged mode groups t r.nodes b (Err k) → (e : Stopped ℕ) → e ≡ record { fault = record { refusal = k; place = r.place }; passed = r.nodes }
        → (o : ℕ × List ℕ) → Here o → Over mode s o.0 groups o.1 t (Err e)
    take_refused k judged e q o h =
        ends o h (Err e) (number k) r.place (rw q refl)
        (reading_bad s (node_grammar mode groups) o.0 r.place h.before h.reading _ whole r.place (r.place + 3) (r.place + 3 + 6) refl (number k)
        (judged_is o h k judged) (λ z. omega (arith, number_some k)))

    module _ (w : ℕ) (judged : Judged mode groups t r.nodes b (Ok w)) where
      fits : NodeFits groups (λ k. step_of (get_or t.nodes k 0)) r.nodes b
      fits = node_fits groups (λ k. step_of (get_or t.nodes k 0)) r.nodes b judged.0

      pub take_room : Underway mode s groups t r → Table t × (count_in t < 510)
      take_room u = (u.1.table, omega (arith, fits.few, count_is u.0 u.1))

      pub take_node : (n : ℕ) (t' : UniqueTable) → Adds t w n t' → Takes mode s groups r t t' (Ok (record { place = r.place + 3 + 6; nodes = r.nodes + 1 }))
      take_node n t' adds = (
        has_less s r.place 18 6 has,
        λ o h.
            let x = inner_node_of b in
            let stored_is : t'.nodes ≡ set t.nodes (r.nodes + 2) (word_of x) =
            adds.stored ∙ ap (λ (i : ℕ). set t.nodes i w) (adds.number ∙ ap (λ (k : ℕ). k + 2) (count_is o h)) ∙ ap (set t.nodes (r.nodes + 2)) judged.1 in
            record {
              chart = h.chart;
              before = h.before ++ x ∷ [];
              reading =
                  reading_step s (node_grammar mode groups) o.0 r.place h.before h.reading _ whole r.place (r.place + 3) (r.place + 3 + 6) refl 0
                  (judged.2 ∙ ap (padding_fault mode t) judged.1 ∙ fault_is o h judged.0) refl;
              counted = omega (arith, length-append h.before (x ∷ []), h.counted);
              table = adds.table;
              nodes =
                  adds.nodes ∙ ap (λ (l : List InnerNode). l ++ unpacked w ∷ []) h.nodes
                  ∙ ap (λ (y : InnerNode). h.before ++ y ∷ []) (ap unpacked judged.1 ∙ node_is o h judged.0);
              stored = rw stored_is (stored_grown h.before x r.nodes o.1 t.nodes h.counted fits.few h.stored);
            },
      )

-- ---- a run of nodes, from `first` to r, where the next one stands

pub record Run (mode : Bool) (s : List ℕ) (groups : ℕ) (first : NodesRead) (t₀ : UniqueTable) (r : NodesRead) (t : UniqueTable) : Type 0 where
  pub has : HasField s r.place 18 6
  pub sofar : (o : ℕ × List ℕ) → SoFarAt mode s groups t₀ first o → SoFarAt mode s groups t r o
  pub nearer : length s - r.place ≤ length s - first.place
