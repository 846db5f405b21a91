-- Every chart and every diagram within the limits has a file of bytes, and is read back from it: the chart with its costs rounded and, where its steps are plain, each
-- a group alone.
-- Assumes nothing.
use Prim.Native.Nat.{ℕ, zero, suc, ◌+◌, ◌-◌, ◌*◌, ◌/◌, ◌%◌, ◌≤◌, ◌<◌}
use Rattle.std.specs.Prelude.{◌≡◌, Bool, true, false, ◌&&◌, ◌⊎◌, eqb, length, get_or}
use Rattle.std.proofs.Math.Path.{refl, ap}
use Rattle.std.proofs.Common.{sym, ◌∙◌, subst, arith, mul-le-mul_right, length-append}
use mathlib.Core.List.{List, [], ◌∷◌, ◌++◌}
use Rattle.std.proofs.Math.Logic.{inl, inr}
use Rattle.std.proofs.Math.ListN.{get_or-append, get_or-eq_default}
use Rattle.std.proofs.lemmas.List.{get_or_at}
use borrow.Author.Tests.{lt-ltb, le-ltb, lt-leb, eq-eqb}
use Rattle.definitions.specs.Basics.{pick, each}
use Rattle.definitions.specs.Fields.{two, four, Kind, exactly, is_foreign, is_passed_over, length_fits, only, first_field, on_field, stopped}
use Rattle.definitions.specs.Charts.{Chart, ChartStep, no_step, plain, grouped, head_fault, group_fault, step_fault, rounded, step_of, last_from, last_group, step_length, step_kind, step_grammar, scan_steps, read_chart}
use Rattle.definitions.specs.Diagrams.{InnerNode, Diagram, no_node, size, inner, child_fits, node_fault, inner_node_of, padding, node_fault_after, node_grammar, scan_nodes, read_diagram}
use Rattle.theory.specs.Limits.{Valid, Small, Sound, Unpadded}
use Rattle.theory.specs.Padding.{padding_none, fault_within}
use Rattle.definitions.specs.Marked.{nd}
use Rattle.definitions.specs.Plans.{graph}
use Rattle.definitions.specs.declared.Field.TheVariants.{Whole}
use Rattle.theory.specs.Basics.{pick_true, pick_false, either, lt_or_le}
use Rattle.theory.specs.Choices.{tests}
use Rattle.definitions.specs.Bytes.{le2, le4, body_of_head, body_of_step, step_back, steps_back, chart_back, step_bytes, chart_bytes, head_bytes, body_of_node, node_bytes, root_bytes, diagram_bytes}
use Rattle.field_writer.specs.Sizes.{OfKind, step_long, length_few, chart_long, diagram_long, AllBytes, append_bytes, le2_bytes, le4_bytes, field_bytes_lem, each_bytes}
use Rattle.fields.specs.First.{first_short}
use Rattle.field_writer.specs.Scanned.{field_at_written, Reads, scan_written}

-- ---- numbers, and a member of a list with those before and behind it

le2_back : (n : ℕ) → n % 256 + 256 * (n / 256) ≡ n
le2_back n = omega arith

le4_back : (n : ℕ) → n % 65536 % 256 + 256 * (n % 65536 / 256) + 65536 * (n / 65536 % 256 + 256 * (n / 65536 / 256)) ≡ n
le4_back n = omega arith

module _ {A : Type 0} {all : List A} (before : List A) (x : A) (rest : List A) (split : all ≡ before ++ x ∷ rest) (d : A) where
  count : length before < length all
  count = omega (arith, ap length split, length-append before (x ∷ rest))

  own : (k : ℕ) → length before ≡ k → get_or all k d ≡ x
  own k e = ap (λ (l : List A). get_or l k d) split ∙ get_or_at before x rest d k e

  earlier : (k : ℕ) → k < length before → get_or all k d ≡ get_or before k d
  earlier k h = ap (λ (l : List A). get_or l k d) split ∙ get_or-append before (x ∷ rest) d k h

three_bytes : (a b c : ℕ) → a < 65536 → b < 65536 → c < 65536 → AllBytes (le2 a ++ le2 b ++ le2 c)
three_bytes a b c h i j = append_bytes (le2 a) (le2 b ++ le2 c) (le2_bytes a h) (append_bytes (le2 b) (le2 c) (le2_bytes b i) (le2_bytes c j))

-- ---- charts

head_passes : (b : List ℕ) → 1 ≤ two b 0 → two b 0 ≤ 256 → two b 2 < two b 0 → two b 4 < two b 0 → head_fault b ≡ 0
unfolding head_fault pick
head_passes b h i j k = let n : two b 0 ≡ 0 → ⊥ = λ e. omega arith in simp tests

-- the group is judged where the step names one
step_passes : (stages tag last group count : ℕ) (b : List ℕ) → count < 1024 → two b 0 < two b 2 → two b 2 < stages → last ≤ two b 0 → four b 4 ≤ 1000000
    → (tag ≡ plain) ⊎ ((tag ≡ grouped) × (two b 8 ≤ 1023) × (group ≤ two b 8)) → step_fault stages tag last group count b ≡ 0
unfolding step_fault group_fault pick
step_passes stages tag last group count b h i j k l (inl q) = rw q (simp tests)
step_passes stages tag last group count b h i j k l (inr q) =
    let few : two b 8 ≤ 1023 = q.1 in
    let later : group ≤ two b 8 = q.2 in
    rw q.0 (simp tests)

-- the first step may be of either kind, and the others are of the same
kind_own : (before : List ChartStep) (tag : ℕ) → (tag ≡ plain) ⊎ (tag ≡ grouped) → (0 < length before → (get_or before 0 no_step).tag ≡ tag) → step_kind before tag ≡ exactly (step_length tag)
unfolding step_kind only pick
kind_own [] tag (inl q) same = rw q
kind_own [] tag (inr q) same = rw q
kind_own (x ∷ before) tag is same = go (same (omega arith))
  where
    go : x.tag ≡ tag → step_kind (x ∷ before) tag ≡ exactly (step_length tag)
    go q = rw (q, eq-eqb tag tag refl)

same_step : (e : ℕ) (x : ChartStep) → step_of x.tag e (body_of_step x) ≡ step_back e x
unfolding pick
same_step e x = λ i. record {
  tag = x.tag;
  from = le2_back x.from i;
  to = le2_back x.to i;
  cost = rounded (le4_back x.cost i);
  group = named (eqb x.tag grouped) i;
}
  where
    named : (b : Bool) → pick b (two (le2 x.from ++ le2 x.to ++ le4 x.cost ++ pick b (le2 x.group) []) 8) e ≡ pick b x.group e
    named true = le2_back x.group
    named false = refl

-- ---- steps that are read back

back_long : (l : List ChartStep) (e : ℕ) → length (steps_back e l) ≡ length l
back_long [] e = refl
back_long (x ∷ l) e = omega (arith, back_long l (suc e))

back_at : (l : List ChartStep) (e k n : ℕ) → k < length l → k + e ≡ n → get_or (steps_back e l) k no_step ≡ step_back n (get_or l k no_step)
back_at [] e k n h q = absurd (omega arith)
back_at (x ∷ l) e zero n h q = let r : e ≡ n = omega arith in ap (λ (i : ℕ). step_back i x) r
back_at (x ∷ l) e (suc k) n h q = back_at l (suc e) k n (omega arith) (omega arith)

back_more : (l : List ChartStep) (x : ChartStep) (e n : ℕ) → length l + e ≡ n → steps_back e l ++ step_back n x ∷ [] ≡ steps_back e (l ++ x ∷ [])
back_more [] x e n q = let r : n ≡ e = omega arith in ap (λ (i : ℕ). step_back i x ∷ []) r
back_more (y ∷ l) x e n q = ap (λ (z : List ChartStep). step_back e y ∷ z) (back_more l x (suc e) n (omega arith))

module _ (c : Chart) (v : Valid (graph c)) (small : Small c) (kind : ℕ) (of_kind : OfKind c kind) where
  module _ (before : List ChartStep) (x : ChartStep) (rest : List ChartStep) (split : c.steps ≡ before ++ x ∷ rest) where
    abbrev k : ℕ
    k = length before

    inside : k < length c.steps
    inside = count before x rest split no_step

    step_is : get_or c.steps k no_step ≡ x
    step_is = own before x rest split no_step k refl

    from_is : (graph c).from k ≡ x.from
    from_is = ap (λ (y : ChartStep). y.from) step_is

    group_is : (graph c).group k ≡ x.group
    group_is = ap (λ (y : ChartStep). y.group) step_is

    tag_is : x.tag ≡ kind
    tag_is = sym (ap (λ (y : ChartStep). y.tag) step_is) ∙ of_kind.alike k inside

    known : (x.tag ≡ plain) ⊎ (x.tag ≡ grouped)
    known = subst (λ (t : ℕ). (t ≡ plain) ⊎ (t ≡ grouped)) (sym tag_is) of_kind.known

    forward : x.from < x.to
    forward = omega (arith, v.forward k inside, from_is, ap (λ (y : ChartStep). y.to) step_is)

    to_inside : x.to < c.stages
    to_inside = omega (arith, v.inside k inside, ap (λ (y : ChartStep). y.to) step_is)

    cheap : x.cost ≤ 1000000
    cheap = omega (arith, small k inside, ap (λ (y : ChartStep). y.cost) step_is)

    few : x.group < 1024
    few = omega (arith, v.few_groups k inside, group_is)

    -- what was read before it: a step of the same kind, from an earlier or the same stage, and, where it names a group, of an earlier or the same one
    abbrev past : List ChartStep
    past = steps_back 0 before

    past_long : length past ≡ k
    past_long = back_long before 0

    -- the step before as it is read back
    module _ (h : 0 < k) where
      last_is : get_or past (length past - 1) no_step ≡ step_back (k - 1) (get_or c.steps (k - 1) no_step)
      last_is =
          ap (λ (i : ℕ). get_or past (i - 1) no_step) past_long ∙ back_at before 0 (k - 1) (k - 1) (omega arith) (omega arith)
          ∙ ap (step_back (k - 1)) (sym (earlier before x rest split no_step (k - 1) (omega arith)))

      last_kind : (get_or c.steps (k - 1) no_step).tag ≡ x.tag
      last_kind = of_kind.alike (k - 1) (omega (arith, inside)) ∙ sym tag_is

      rises_behind : last_from past ≤ x.from
      rises_behind = omega (arith, ap (λ (y : ChartStep). y.from) last_is, v.sorted (k - 1) k (omega arith) inside, from_is)

      named_behind : x.tag ≡ grouped → last_group past ≤ x.group
      named_behind q =
          let g = pick_true (eqb (get_or c.steps (k - 1) no_step).tag grouped) ((graph c).group (k - 1)) (k - 1) (eq-eqb _ grouped (last_kind ∙ q)) in
          omega (arith, ap (λ (y : ChartStep). y.group) last_is, g, v.grouped (k - 1) k (omega arith) inside, group_is)

    first_is : k ≤ 0 → get_or past (length past - 1) no_step ≡ no_step
    first_is h = get_or-eq_default past no_step {n = length past - 1} (omega (arith, past_long))

    rises : last_from past ≤ x.from
    rises = either (lt_or_le 0 k) rises_behind (λ h. omega (arith, ap (λ (y : ChartStep). y.from) (first_is h)))

    named : (x.tag ≡ plain) ⊎ ((x.tag ≡ grouped) × (two (body_of_step x) 8 ≤ 1023) × (last_group past ≤ two (body_of_step x) 8))
    unfolding pick
    named = either known inl (λ q.
        let g : two (body_of_step x) 8 ≡ x.group = rw q (le2_back x.group) in
        inr (q, omega (arith, g, few), either (lt_or_le 0 k) (λ h. omega (arith, g, named_behind h q)) (λ h. omega (arith, ap (λ (y : ChartStep). y.group) (first_is h)))))

    kind_is : step_kind past x.tag ≡ exactly (step_length x.tag)
    kind_is = kind_own past x.tag known (λ h. ap (λ (y : ChartStep). y.tag) (back_at before 0 0 0 (omega (arith, past_long)) (omega arith))
        ∙ ap (λ (y : ChartStep). y.tag) (sym (earlier before x rest split no_step 0 (omega (arith, past_long)))) ∙ of_kind.alike 0 (omega (arith, inside)) ∙ sym tag_is)

    step_reads : Reads (step_grammar c.stages) (λ y. y.tag) body_of_step (steps_back 0) before x
    step_reads = record {
      other = either known (λ q. rw q) (λ q. rw q);
      known = ap is_foreign kind_is;
      given = ap is_passed_over kind_is;
      fits = ap (λ (i : Kind). length_fits i (length (body_of_step x))) kind_is ∙ eq-eqb _ _ (step_long x);
      passes =
          step_passes c.stages x.tag (last_from past) (last_group past) (length past) (body_of_step x) (omega (arith, v.few, inside, past_long))
          (omega (arith, forward)) (omega (arith, to_inside)) (omega (arith, rises)) (omega (arith, cheap)) named;
      same = ap (λ (y : ChartStep). past ++ y ∷ []) (same_step (length past) x) ∙ back_more before x 0 (length past) (omega (arith, past_long));
    }

    step_bytes_lem : AllBytes (step_bytes x)
    unfolding pick
    step_bytes_lem =
        let to-small : x.to < 65536 = omega (arith, to_inside, v.few_stages) in
        field_bytes_lem x.tag (body_of_step x) (either known (λ q. omega arith) (λ q. omega arith)) (omega (arith, step_long x, length_few x.tag))
        (append_bytes (le2 x.from) (le2 x.to ++ le4 x.cost ++ tail) (le2_bytes x.from (omega (arith, forward)))
        (append_bytes (le2 x.to) (le4 x.cost ++ tail) (le2_bytes x.to to-small) (append_bytes (le4 x.cost) tail (le4_bytes x.cost (omega (arith, cheap))) (small_tail (eqb x.tag grouped)))))
      where
        tail : List ℕ
        tail = pick (eqb x.tag grouped) (le2 x.group) []

        small_tail : (b : Bool) → AllBytes (pick b (le2 x.group) [])
        small_tail true = le2_bytes x.group (omega (arith, few))
        small_tail false = tt

  pub chart_all_bytes : AllBytes (chart_bytes c)
  chart_all_bytes =
      let few = v.few_stages in
      let body = three_bytes c.stages c.start c.end (omega arith) (omega (arith, v.start_inside)) (omega (arith, v.end_inside)) in
      append_bytes (head_bytes c.stages c.start c.end) (each step_bytes c.steps) (field_bytes_lem 1 (body_of_head c.stages c.start c.end) (omega arith) (omega arith) body)
      (each_bytes step_bytes c.steps step_bytes_lem)

  short : length (chart_bytes c) ≤ 32768
  short =
      let h : 3 + step_length kind ≤ 13 = omega (arith, length_few kind) in
      omega (arith, chart_long c kind of_kind, mul-le-mul_right (length c.steps) h, v.few)

  pub chart_read_back : read_chart (chart_bytes c) ≡ record { number = 0; place = 0; chart = chart_back c }
  unfolding read_chart on_field only pick
  chart_read_back =
      let b = body_of_head c.stages c.start c.end in
      let head : Whole 0 3 9 ≡ first_field (chart_bytes c) (only 1 6)
      = first_short (chart_bytes c) 1 6 short _ (field_at_written [] b (each step_bytes c.steps) 1 (only 1 6) refl refl refl) in
      let good : head_fault b ≡ 0 = head_passes b (omega (arith, v.some_stages)) (omega (arith, v.few_stages)) (omega (arith, v.start_inside)) (omega (arith, v.end_inside)) in
      let steps : scan_steps (chart_bytes c) c.stages 9 ≡ stopped (steps_back 0 c.steps) 0 0
      = scan_written (step_grammar c.stages) (λ y. y.tag) body_of_step (steps_back 0) c.steps step_reads (chart_bytes c) (head_bytes c.stages c.start c.end) refl refl in
      rw (← head, good, le2_back c.stages, le2_back c.start, le2_back c.end, steps)

-- ---- diagrams

-- a body's three numbers may be those of a node
node_passes : (steps count step lo hi : ℕ) (step_at : ℕ → ℕ) (b : List ℕ) → two b 0 ≡ step → two b 2 ≡ lo → two b 4 ≡ hi → count < 510 → step < steps
    → child_fits step_at (count + 2) step lo ≡ true → child_fits step_at (count + 2) step hi ≡ true → node_fault steps step_at count b ≡ 0
unfolding node_fault pick
node_passes steps count step lo hi step_at b e f g few exists l h = rw (e, f, g, l, h, lt-leb 510 count few, lt-leb steps step exists)

same_node : (x : InnerNode) → inner_node_of (body_of_node x) ≡ x
same_node x = λ i. nd (le2_back x.step i) (le2_back x.lo i) (le2_back x.hi i)

module _ (steps : ℕ) (d : Diagram) (p : Sound steps d) where
  module _ (before : List InnerNode) (x : InnerNode) (rest : List InnerNode) (split : d.nodes ≡ before ++ x ∷ rest) where
    abbrev n : ℕ
    n = length before + 2

    inner_one : 2 ≤ n
    inner_one = omega arith

    node_is : inner d n ≡ x
    node_is = own before x rest split no_node (n - 2) (omega arith)

    few_before : length before < 510
    few_before = omega (arith, count before x rest split no_node, p.few)

    exists : x.step < steps
    exists = omega (arith, p.exist n inner_one (omega (arith, count before x rest split no_node)), ap (λ (y : InnerNode). y.step) node_is)

    lo_below : x.lo < n
    lo_below = omega (arith, p.ordered.lo_below n inner_one, ap (λ (y : InnerNode). y.lo) node_is)

    hi_below : x.hi < n
    hi_below = omega (arith, p.ordered.hi_below n inner_one, ap (λ (y : InnerNode). y.hi) node_is)

    abbrev step_at : ℕ → ℕ
    step_at r = (get_or before (r - 2) no_node).step

    child : (r : ℕ) → r < n → (2 ≤ r → x.step < (inner d r).step) → child_fits step_at n x.step r ≡ true
    child r l f =
        rw (lt-ltb r n l)
        (either (lt_or_le r 2) (λ h. rw (lt-ltb r 2 h))
        (λ h. rw (le-ltb r 2 h)
        (lt-ltb x.step (step_at r) (omega (arith, f h, ap (λ (y : InnerNode). y.step) (earlier before x rest split no_node (r - 2) (omega arith)))))))

    within : node_fault steps step_at (length before) (body_of_node x) ≡ 0
    within =
        node_passes steps (length before) x.step x.lo x.hi step_at (body_of_node x) (le2_back x.step) (le2_back x.lo) (le2_back x.hi) few_before exists
        (child x.lo lo_below (rw node_is at (p.ordered.lo_later n inner_one))) (child x.hi hi_below (rw node_is at (p.ordered.hi_later n inner_one)))

    no_padding : Unpadded d → padding before x ≡ false
    no_padding u =
        let inside : n < size d = omega (arith, count before x rest split no_node) in
        padding_none before x (λ e. u.forked n inner_one inside (rw node_is e)) (λ i h e.
        let z : i + 2 - 2 ≡ i = omega arith in
        let q : i + 2 ≡ n = u.unlike (i + 2) n (omega arith) (omega arith) inner_one inside
        (ap (λ (k : ℕ). get_or d.nodes k no_node) z ∙ earlier before x rest split no_node i h ∙ e ∙ sym node_is) in
        omega arith)

    passes_by : (mode : Bool) → (mode ≡ true → Unpadded d) → node_fault_after mode steps before (body_of_node x) ≡ 0
    passes_by mode u = fault_within mode steps before (body_of_node x) within ∙ pick_false _ _ _ (go mode u)
      where
        go : (m : Bool) → (m ≡ true → Unpadded d) → (m && padding before (inner_node_of (body_of_node x))) ≡ false
        go true v = ap (padding before) (same_node x) ∙ no_padding (v refl)
        go false v = refl

    node_reads : (mode : Bool) → (mode ≡ true → Unpadded d) → Reads (node_grammar mode steps) (λ y. 18) body_of_node (λ l. l) before x
    unfolding only pick
    node_reads mode u = record { other = refl; known = refl; given = refl; fits = refl; passes = passes_by mode u; same = ap (λ (y : InnerNode). before ++ y ∷ []) (same_node x) }

    node_bytes_lem : steps ≤ 1024 → AllBytes (node_bytes x)
    node_bytes_lem few =
        field_bytes_lem 18 (body_of_node x) (omega arith) (omega arith)
        (three_bytes x.step x.lo x.hi (omega (arith, exists)) (omega (arith, lo_below, few_before)) (omega (arith, hi_below, few_before)))

  pub diagram_all_bytes : steps ≤ 1024 → AllBytes (diagram_bytes d)
  diagram_all_bytes few =
      append_bytes (root_bytes d.root) (each node_bytes d.nodes) (field_bytes_lem 17 (le2 d.root) (omega arith) (omega arith) (le2_bytes d.root (omega (arith, p.root_inside, p.few))))
      (each_bytes node_bytes d.nodes (λ before x rest split. node_bytes_lem before x rest split few))

  -- strictly where it holds no padding
  pub diagram_read_back : (mode : Bool) → (mode ≡ true → Unpadded d) → read_diagram mode (diagram_bytes d) steps ≡ record { number = 0; place = 0; diagram = d }
  unfolding read_diagram on_field only pick
  diagram_read_back mode u =
      let head : Whole 0 3 5 ≡ first_field (diagram_bytes d) (only 17 2)
      = first_short (diagram_bytes d) 17 2 (omega (arith, diagram_long d, p.few)) _ (field_at_written [] (le2 d.root) (each node_bytes d.nodes) 17 (only 17 2) refl refl refl) in
      let nodes : scan_nodes mode (diagram_bytes d) steps 5 ≡ stopped d.nodes 0 0
      = scan_written (node_grammar mode steps) (λ x. 18) body_of_node (λ l. l) d.nodes (λ before x rest split. node_reads before x rest split mode u) (diagram_bytes d) (root_bytes d.root) refl refl in
      rw (← head, le2_back d.root, nodes, lt-leb (length d.nodes + 2) d.root p.root_inside)
