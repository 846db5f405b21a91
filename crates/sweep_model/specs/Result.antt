-- The sweep gives the least costs, counts the reached pairs, and leaves for each reached pair the step by which it was reached at that cost.
-- Assumes nothing.
use Rattle.std.specs.Prelude.{ℕ, zero, suc, ◌+◌, ◌-◌, ◌≤◌, ◌<◌, ◌≡◌, Bool, ◌⊎◌, ltb, length, get_or, set, take, drop}
use Rattle.std.proofs.Math.Path.{refl, sym, ap, ap₂}
use Rattle.std.proofs.Common.{◌∙◌, subst, inl, inr, take-append-drop, get_or-set_same, get_or-set_other, ext_get_or}
use Rattle.std.proofs.Math.Bool.{true, false}
use mathlib.Core.List.{List, [], ◌∷◌, ◌++◌, map}
use Rattle.std.proofs.Math.Option.{Option, none, some}
use native.Mathlib.Omega.{arith}
use Rattle.std.proofs.Math.Dec.{eqb}
use Rattle.std.proofs.Math.ListN.{length-set, length-take}
use Rattle.std.proofs.Math.Seq.{drop-set-lt, get_or-take}
use borrow.Author.Tests.{eqb-true, eqb-false, lt-ltb, le-ltb}
use Rattle.definitions.specs.Basics.{NONE, pick, is_some, upto}
use Rattle.definitions.specs.Ways.{Graph, IsWay, end_of, way_cost}
use Rattle.definitions.specs.Pairs.{Automaton, stands, pair, pairs, stage_of, node_of, least_cost, reached, reached_pairs}
use Rattle.theory.specs.Limits.{Valid}
use Rattle.definitions.specs.Promises.{shown, least_costs}
use Rattle.theory.specs.Basics.{either, same_or_not, pick_true, pick_false, length-map_run, get_d_map_upto}
use Rattle.theory.specs.Least.{least_unique}
use Rattle.theory.specs.Ways.{way_bounded}
use Rattle.theory.specs.Pairs.{Lawful, WayTo, way_start, way_inside, pair_apart, pair_inside, pair_of, node_of_inside, stage_of_inside, stands_dead, least_cost_zero, least_cost_least, cost_attained}
use Rattle.sweep_model.specs.Totals.{total, total_same, total_bump, keep_total}
use Rattle.sweep_model.specs.Model.{Rows, rows, cost_at, node_at, count_at, begun, swept}
use Rattle.sweep_model.specs.Rows.{one, Entry, Table, Past, past_same, past_trans}
use Rattle.sweep_model.specs.Sweeps.{FirstSteps, Done, Swept, rows_made}

-- tables before the sweep: no cost, empty lists; the rest is arbitrary
pub record Fresh (g : Graph) (a : Automaton) (r : Rows) : Type 0 where
  pub cost_fits : pairs g a ≤ length r.cost
  pub via_fits : pairs g a ≤ length r.via
  pub nodes_fits : pairs g a ≤ length r.nodes
  pub counts_fits : g.stages ≤ length r.counts
  pub no_cost : (p : ℕ) → p < pairs g a → get_or r.cost p 0 ≡ NONE
  pub no_node : (s : ℕ) → s < g.stages → get_or r.counts s 0 ≡ 0

-- tables after the sweep: each pair has its least cost, and the lists have the reached pairs
pub record Finished (g : Graph) (a : Automaton) (r : Rows) : Type 0 where
  pub table : Table g a g.stages r
  pub cost_is : (s n : ℕ) → s < g.stages → n < a.size → cost_at a.size r s n ≡ shown (least_cost g a s n)
  pub count_is : total (count_at r) g.stages ≡ length (reached_pairs g a)

total_zero : (f : ℕ → ℕ) (n : ℕ) → ((i : ℕ) → i < n → f i ≡ 0) → total f n ≡ 0
unfolding total
total_zero f zero h = refl
total_zero f (suc n) h = omega (arith, total_zero f n (λ i l. h i (omega arith)), h n (omega arith))

-- a shown cost is below the mark where there is one
mark_of : (o : Option ℕ) → ((m : ℕ) → o ≡ some m → m < NONE) → one (shown o) ≡ pick (is_some o) 1 0
unfolding pick
mark_of none h = refl
mark_of (some m) h = pick_true (ltb m NONE) 1 0 (lt-ltb m NONE (h m refl))

module _ (g : Graph) (a : Automaton) (v : Valid g) (l : Lawful g a) (r : Rows) (new : Fresh g a r) where
  blank : (s n : ℕ) → s < g.stages → n < a.size → cost_at a.size r s n ≡ NONE
  blank s n h i = new.no_cost (pair a s n) (pair_inside g a s n h i)

  no_marks : total (λ p. one (get_or r.cost p 0)) (pairs g a) ≡ 0
  no_marks = total_zero _ (pairs g a) (λ p h. pick_false _ _ _ (le-ltb (get_or r.cost p 0) NONE (omega (arith, new.no_cost p h))))

  -- the root is 0: nothing is reached
  empty_table : Table g a g.start r
  empty_table = record {
    cost_fits = new.cost_fits;
    via_fits = new.via_fits;
    nodes_fits = new.nodes_fits;
    counts_fits = new.counts_fits;
    cell = λ s n h i. inl (blank s n h i);
    lists = λ s k h i. absurd (omega (arith, new.no_node s h));
    once = λ s j k h i. absurd (omega (arith, new.no_node s h));
    listed = λ s n h i b. absurd (omega (arith, blank s n h i));
    counted = total_zero _ g.stages (λ s h. new.no_node s h) ∙ sym no_marks;
  }

  -- the root is not 0: the pair of start and root costs 0
  module _ (nz : a.root ≡ 0 → ⊥) where
    abbrev q : ℕ
    q = pair a g.start a.root

    abbrev r₁ : Rows
    r₁ = rows (set r.cost q 0) r.via (set r.nodes (pair a g.start 0) a.root) (set r.counts g.start 1)

    q_inside : q < pairs g a
    q_inside = pair_inside g a g.start a.root v.start_inside l.root_inside

    place_inside : pair a g.start 0 < pairs g a
    place_inside = pair_inside g a g.start 0 v.start_inside (omega (arith, l.root_inside))

    start_cost : cost_at a.size r₁ g.start a.root ≡ 0
    start_cost = get_or-set_same r.cost q 0 0 (omega (arith, new.cost_fits, q_inside))

    other_cost : (p : ℕ) → (p ≡ q → ⊥) → get_or r₁.cost p 0 ≡ get_or r.cost p 0
    other_cost p h = get_or-set_other r.cost q p 0 0 h

    start_count : count_at r₁ g.start ≡ 1
    start_count = get_or-set_same r.counts g.start 1 0 (omega (arith, new.counts_fits, v.start_inside))

    other_count : (s : ℕ) → (s ≡ g.start → ⊥) → count_at r₁ s ≡ get_or r.counts s 0
    other_count s h = get_or-set_other r.counts g.start s 1 0 h

    start_node : node_at a.size r₁ g.start 0 ≡ a.root
    start_node = get_or-set_same r.nodes (pair a g.start 0) a.root 0 (omega (arith, new.nodes_fits, place_inside))

    -- only the start's row has an entry, its first
    only : (s k : ℕ) → s < g.stages → k < count_at r₁ s → (s ≡ g.start) × (k ≡ 0)
    only s k h i =
        either (same_or_not s g.start) (λ b. (b, omega (arith, start_count, ap (count_at r₁) b)))
        (λ b. absurd (omega (arith, other_count s b, new.no_node s h)))

    begun_cell : (s n : ℕ) → s < g.stages → n < a.size → (cost_at a.size r₁ s n ≡ NONE) ⊎ ((s ≡ g.start) × (n ≡ a.root))
    begun_cell s n h i =
        either (same_or_not (pair a s n) q) (λ b. inr (pair_apart a s n g.start a.root i l.root_inside b))
        (λ b. inl (other_cost (pair a s n) b ∙ blank s n h i))

    start_table : Table g a g.start r₁
    start_table = record {
      cost_fits = omega (arith, new.cost_fits, length-set r.cost q 0);
      via_fits = new.via_fits;
      nodes_fits = omega (arith, new.nodes_fits, length-set r.nodes (pair a g.start 0) a.root);
      counts_fits = omega (arith, new.counts_fits, length-set r.counts g.start 1);
      cell = λ s n h i. either (begun_cell s n h i) (λ b. inl b) (λ b. inr (entry s n b.0 b.1));
      lists = λ s k h i. let b = only s k h i in first_entry s k b.0 b.1;
      once = λ s j k h i c d. (only s j h i).1 ∙ sym (only s k h c).1;
      listed = λ s n h i b. either (begun_cell s n h i) (λ c. absurd (omega arith))
          (λ c. (0, omega (arith, start_count, ap (count_at r₁) c.0), ap (λ (t : ℕ). node_at a.size r₁ t 0) c.0 ∙ start_node ∙ sym c.1));
      counted =
          total_bump (λ s. get_or r.counts s 0) (count_at r₁) g.start g.stages v.start_inside
          (omega (arith, start_count, new.no_node g.start v.start_inside)) (λ s h. other_count s h)
          ∙ ap (λ (z : ℕ). z + 1) (total_zero (λ s. get_or r.counts s 0) g.stages (λ s h. new.no_node s h) ∙ sym no_marks)
          ∙ sym (total_bump (λ p. one (get_or r.cost p 0)) (λ p. one (get_or r₁.cost p 0)) q (pairs g a) q_inside one_more
          (λ p h. ap (λ (z : ℕ). one z) (other_cost p h)));
    }
      where
        entry : (s n : ℕ) → s ≡ g.start → n ≡ a.root → Entry g a r₁ g.start s n
        entry s n b c = record {
          nonzero = λ z. nz (sym c ∙ z);
          way = subst (WayTo g a s n) (sym (ap₂ (λ (i j : ℕ). cost_at a.size r₁ i j) b c ∙ start_cost))
              (subst (λ (i : ℕ). WayTo g a i n 0) (sym b) (subst (λ (j : ℕ). WayTo g a g.start j 0) (sym c) (way_start g a)));
          came = inl (b, c);
        }

        first_entry : (s k : ℕ) → s ≡ g.start → k ≡ 0 → (node_at a.size r₁ s k < a.size) × (cost_at a.size r₁ s (node_at a.size r₁ s k) < NONE)
        first_entry s k b c =
            let z : node_at a.size r₁ s k ≡ a.root = ap₂ (λ (i j : ℕ). node_at a.size r₁ i j) b c ∙ start_node in
            rw z (l.root_inside, omega (arith, start_cost, ap (λ (i : ℕ). cost_at a.size r₁ i a.root) b))

        one_more : one (get_or r₁.cost q 0) ≡ one (get_or r.cost q 0) + 1
        one_more =
            let b : one (get_or r₁.cost q 0) ≡ 1 = ap (λ (z : ℕ). one z) start_cost ∙ pick_true _ _ _ (lt-ltb 0 NONE (omega arith)) in
            let c : one (get_or r.cost q 0) ≡ 0 = pick_false _ _ _ (le-ltb (get_or r.cost q 0) NONE (omega (arith, new.no_cost q q_inside))) in
            omega arith

  module _ (first : ℕ → ℕ) (F : FirstSteps g first) where
    -- what holds before the first row
    record Begun (r₀ : Rows) : Type 0 where
      pub table : Table g a g.start r₀
      pub done : Done g a v l first F g.start r₀
      pub past : Past g a r r₀
      pub start : (a.root ≡ 0 → ⊥) → cost_at a.size r₀ g.start a.root ≡ 0

    begins : Begun (begun g a r)
    unfolding begun pick
    begins = go (eqb a.root 0) refl
      where
        go : (b : Bool) → eqb a.root 0 ≡ b
            → Begun (pick b r (rows (set r.cost (pair a g.start a.root) 0) r.via (set r.nodes (pair a g.start 0) a.root) (set r.counts g.start 1)))
        go true e = record {
          table = empty_table;
          done = λ t n f h i k he hf. absurd (omega (arith, blank t n (omega (arith, v.start_inside)) i));
          past = past_same g a r;
          start = λ z. absurd (z (eqb-true _ _ e));
        }
        go false e =
            let nz = eqb-false _ _ e in
            record {
              table = start_table nz;
              done = λ t n f h i k he hf. either (begun_cell nz t n (omega (arith, v.start_inside)) i) (λ b. absurd (omega arith)) (λ b. absurd (omega arith));
              past = record {
                cost_past = drop-set-lt (pairs g a) r.cost (q nz) 0 (q_inside nz);
                via_past = refl;
                nodes_past = drop-set-lt (pairs g a) r.nodes (pair a g.start 0) a.root (place_inside nz);
                cost_long = length-set r.cost (q nz) 0;
                via_long = refl;
                nodes_long = length-set r.nodes (pair a g.start 0) a.root;
                counts_long = length-set r.counts g.start 1;
              };
              start = λ z. start_cost nz;
            }

    pub begun_table : Table g a g.start (begun g a r)
    begun_table = begins.table

    abbrev pub final : Rows
    final = swept g a first r

    all_rows : Swept g a v l first F g.stages (begun g a r) final
    unfolding swept
    all_rows =
        let n : g.start + (g.stages - g.start) ≡ g.stages = omega (arith, v.start_inside) in
        rw n at (rows_made g a v l first F (g.stages - g.start) g.start (begun g a r) (omega (arith, v.start_inside)) begins.table begins.done)

    final_table : Table g a g.stages final
    final_table = all_rows.table

    pub final_past : Past g a r final
    final_past = past_trans g a r (begun g a r) final begins.past all_rows.past

    -- along a way from a pair of cost at most k the costs are at most k and the cost of the way
    along : (w : List ℕ) (s n k : ℕ) → IsWay g s w → s < g.stages → n < a.size → cost_at a.size final s n ≤ k → k + way_cost g w < NONE
        → (stands a n w ≡ 0 → ⊥) → cost_at a.size final (end_of g s w) (stands a n w) ≤ k + way_cost g w
    unfolding stands
    along [] s n k i h j c b z = omega arith
    along (e ∷ w) s n k i h j c b z =
        let alive : a.next e n ≡ 0 → ⊥ = λ d. z (ap (λ (m : ℕ). stands a m w) d ∙ stands_dead g a l w (g.to e) i.2) in
        let o = all_rows.done s n e h j (omega arith) i.0 i.1 alive in
        omega (arith, along w (g.to e) (a.next e n) (k + g.cost e) i.2 (v.inside e i.0) (l.next_inside e n i.0 j) (omega arith) (omega arith) z)

    -- no way to a pair is cheaper
    lower_bound : (s n k : ℕ) → (n ≡ 0 → ⊥) → WayTo g a s n k → cost_at a.size final s n ≤ k
    lower_bound s n k z w =
        let root-alive : a.root ≡ 0 → ⊥ = λ d. z (sym w.stand ∙ ap (λ (m : ℕ). stands a m w.steps) d ∙ stands_dead g a l w.steps g.start w.way) in
        let c : cost_at a.size final g.start a.root ≤ 0 = omega (arith, all_rows.lower g.start a.root v.start_inside l.root_inside, begins.start root-alive) in
        let t = along w.steps g.start a.root 0 w.way v.start_inside l.root_inside c
        (omega (arith, way_bounded g v w.steps g.start v.start_inside w.way)) (λ d. z (sym w.stand ∙ d)) in
        omega (arith, t, w.costs, ap₂ (λ (i j : ℕ). cost_at a.size final i j) w.ends w.stand)

    -- the cost of a pair is its least cost
    final_cost : (s n : ℕ) → s < g.stages → n < a.size → cost_at a.size final s n ≡ shown (least_cost g a s n)
    final_cost s n h i = either (final_table.cell s n h i) unseen seen
      where
        seen : Entry g a final g.stages s n → cost_at a.size final s n ≡ shown (least_cost g a s n)
        seen e =
            sym (ap shown (least_unique (WayTo g a s n) (least_cost g a s n) (some (cost_at a.size final s n)) (least_cost_least g a v s n e.nonzero)
            (e.way, λ k w. lower_bound s n k e.nonzero w)))

        unseen : cost_at a.size final s n ≡ NONE → cost_at a.size final s n ≡ shown (least_cost g a s n)
        unseen u = either (same_or_not n 0) (λ z. u ∙ sym (ap shown (ap (least_cost g a s) z ∙ least_cost_zero g a s)))
            (λ z. u ∙ sym (ap shown (least_unique (WayTo g a s n) (least_cost g a s n) none (least_cost_least g a v s n z)
            (λ k w. omega (arith, lower_bound s n k z w, way_inside g a v l s n k w)))))

    abbrev least_shown : ℕ → ℕ
    least_shown p = shown (least_cost g a (stage_of a p) (node_of a p))

    cost_by_number : (p : ℕ) → p < pairs g a → get_or final.cost p 0 ≡ least_shown p
    cost_by_number p h =
        let z : 0 < a.size = omega (arith, l.root_inside) in
        ap (λ (i : ℕ). get_or final.cost i 0) (sym (pair_of a p)) ∙ final_cost (stage_of a p) (node_of a p) (stage_of_inside g a p z h) (node_of_inside a p z)

    -- the cost slice
    pub final_costs : final.cost ≡ least_costs g a ++ drop (pairs g a) r.cost
    unfolding least_costs
    final_costs =
        sym (take-append-drop (pairs g a) final.cost)
        ∙ ap₂ (λ (x y : List ℕ). x ++ y)
        (ext_get_or 0 (take (pairs g a) final.cost) (map least_shown (upto (pairs g a)))
        (omega (arith, length-take (pairs g a) final.cost, final_table.cost_fits, length-map_run least_shown 0 (pairs g a)))
        (λ i h.
        let k : i < pairs g a = omega (arith, length-take (pairs g a) final.cost) in
        get_or-take (pairs g a) final.cost i 0 k ∙ cost_by_number i k ∙ sym (get_d_map_upto least_shown (pairs g a) i 0 k)))
        final_past.cost_past

    -- the count
    final_count : total (count_at final) g.stages ≡ length (reached_pairs g a)
    unfolding reached_pairs reached
    final_count =
        final_table.counted
        ∙ total_same _ (λ p. pick (reached g a (stage_of a p) (node_of a p)) 1 0) (pairs g a)
        (λ p h. ap (λ (z : ℕ). one z) (cost_by_number p h) ∙ mark_of (least_cost g a (stage_of a p) (node_of a p))
        (λ m e. omega (arith, way_inside g a v l _ _ m (cost_attained g a (stage_of a p) (node_of a p) m e))))
        ∙ sym (keep_total (λ p. reached g a (stage_of a p) (node_of a p)) (pairs g a))

    pub finished : Finished g a final
    finished = record { table = final_table; cost_is = final_cost; count_is = final_count }
