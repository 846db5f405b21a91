-- One offer keeps what the tables say: the pair gets the lower cost, and joins its row's list where it is new.
-- Assumes nothing.
use Rattle.std.specs.Prelude.{ℕ, suc, ◌+◌, ◌*◌, ◌≤◌, ◌<◌, ◌≡◌, Bool, true, false, List, ◌⊎◌, leb, eqb, length, get_or, set, drop}
use Rattle.std.proofs.Math.Path.{refl}
use Rattle.std.proofs.Common.{sym, ◌∙◌, ap, ap₂, subst, inl, inr, arith, length-set, get_or-set_same, get_or-set_other, drop-set-lt, leb-true, leb-false, eqb-true, lt-ltb, le-ltb}
use Rattle.std.proofs.lemmas.Bool.{eqb-false}
use Rattle.definitions.specs.Basics.{NONE, pick}
use Rattle.definitions.specs.Ways.{Graph}
use Rattle.definitions.specs.Pairs.{Automaton, pair, pairs}
use Rattle.theory.specs.Limits.{Valid}
use Rattle.theory.specs.Ways.{step_cheap}
use Rattle.theory.specs.Basics.{either, same_or_not, pick_true, pick_false}
use Rattle.theory.specs.Pairs.{Lawful, WayTo, way_next, pair_apart, pair_inside}
use Rattle.theory.specs.Counting.{room}
use Rattle.sweep_model.specs.Totals.{total, total_same, total_bump}
use Rattle.via_marks.specs.Marks.{packed}
use Rattle.sweep_model.specs.Model.{Rows, cost_at, node_at, count_at, lowered, joined, offer}
use Rattle.sweep_model.specs.Rows.{one, Entry, Table, Later, Past, later_same, past_same, entry_low, count_fits}

-- what an offer leaves
pub record Offered (g : Graph) (a : Automaton) (s to t v : ℕ) (r r' : Rows) : Type 0 where
  pub table : Table g a (suc s) r'
  pub later : Later g a s r r'
  pub past : Past g a r r'
  pub taken : cost_at a.size r' to t ≤ v

-- the offer of node n of stage s, at cost x, by step e
module _ (g : Graph) (a : Automaton) (v : Valid g) (l : Lawful g a) (s n e x : ℕ) (r : Rows) (tab : Table g a (suc s) r)
    (hs : s < g.stages) (hn : n < a.size) (costs : cost_at a.size r s n ≡ x) (low : x < NONE) (he : e < g.count) (hf : g.from e ≡ s)
    (nz : a.next e n ≡ 0 → ⊥) where
  -- the pair that is offered the cost y: stage S, node T, numbered q
  abbrev S : ℕ
  S = g.to e

  abbrev T : ℕ
  T = a.next e n

  abbrev y : ℕ
  y = x + g.cost e

  abbrev q : ℕ
  q = pair a S T

  later_stage : s < S
  later_stage = omega (arith, v.forward e he, hf)

  stage_inside : S < g.stages
  stage_inside = v.inside e he

  node_inside : T < a.size
  node_inside = l.next_inside e n he hn

  pub pair_fits : q < pairs g a
  pair_fits = pair_inside g a S T stage_inside node_inside

  -- the way to the offered pair
  source : Entry g a r (suc s) s n
  source = either (tab.cell s n hs hn) (λ u. absurd (omega arith)) (λ z. z)

  new_way : WayTo g a S T y
  new_way = way_next g a s n x e (subst (WayTo g a s n) costs source.way) he hf

  y_low : y < NONE
  y_low = omega (arith, entry_low g a v r (suc s) s n source, step_cheap g v e he)

  -- a table whose cost and via have the offer in them
  module _ (r' : Rows) (ec : r'.cost ≡ set r.cost q y) (ev : r'.via ≡ set r.via q (packed S e n)) where
    pub data At (s' n' : ℕ) : Type 0 where
      here : s' ≡ S → n' ≡ T → cost_at a.size r' s' n' ≡ y → get_or r'.via (pair a s' n') 0 ≡ packed S e n → At s' n'
      other : (s' ≡ S → n' ≡ T → ⊥) → cost_at a.size r' s' n' ≡ cost_at a.size r s' n' → get_or r'.via (pair a s' n') 0 ≡ get_or r.via (pair a s' n') 0 → At s' n'

    at : (s' n' : ℕ) → n' < a.size → At s' n'
    at s' n' h =
        either (same_or_not (pair a s' n') q)
        (λ p. let b = pair_apart a s' n' S T h node_inside p in
        here b.0 b.1
        (ap (λ (z : List ℕ). get_or z (pair a s' n') 0) ec ∙ ap (λ (i : ℕ). get_or (set r.cost q y) i 0) p ∙ get_or-set_same r.cost q y 0 (omega (arith, tab.cost_fits, pair_fits)))
        (ap (λ (z : List ℕ). get_or z (pair a s' n') 0) ev ∙ ap (λ (i : ℕ). get_or (set r.via q (packed S e n)) i 0) p ∙ get_or-set_same r.via q (packed S e n) 0 (omega (arith, tab.via_fits, pair_fits))))
        (λ p. other (λ b c. p (ap₂ (λ (i j : ℕ). pair a i j) b c))
        (ap (λ (z : List ℕ). get_or z (pair a s' n') 0) ec ∙ get_or-set_other r.cost q (pair a s' n') y 0 p)
        (ap (λ (z : List ℕ). get_or z (pair a s' n') 0) ev ∙ get_or-set_other r.via q (pair a s' n') (packed S e n) 0 p))

    -- the rows up to s are as they were
    cost_before : (s' n' : ℕ) → s' ≤ s → n' < a.size → cost_at a.size r' s' n' ≡ cost_at a.size r s' n'
    cost_before s' n' h i = go (at s' n' i)
      where
        go : At s' n' → cost_at a.size r' s' n' ≡ cost_at a.size r s' n'
        go (here b c d f) = absurd (omega (arith, later_stage))
        go (other b c d) = c

    cell' : (s' n' : ℕ) → s' < g.stages → n' < a.size → (cost_at a.size r' s' n' ≡ NONE) ⊎ Entry g a r' (suc s) s' n'
    cell' s' n' h i = go (at s' n' i)
      where
        go : At s' n' → (cost_at a.size r' s' n' ≡ NONE) ⊎ Entry g a r' (suc s) s' n'
        go (here b c d f) = inr (record {
          nonzero = λ z. nz (sym c ∙ z);
          way = subst (WayTo g a s' n') (sym d) (subst (λ (i : ℕ). WayTo g a i n' y) (sym b) (subst (λ (j : ℕ). WayTo g a S j y) (sym c) new_way));
          came = inr (record {
            step = e;
            node = n;
            packs = f ∙ ap (λ (t : ℕ). packed t e n) (sym b);
            exists = he;
            leaves = omega arith;
            enters = sym b;
            inside = hn;
            reached = omega (arith, cost_before s n (omega arith) hn, ap (λ (i : ℕ). cost_at a.size r' i n) hf);
            advances = sym c;
            costs = omega (arith, cost_before s n (omega arith) hn, ap (λ (i : ℕ). cost_at a.size r' i n) hf);
          });
        })
        go (other b c d) =
            either (tab.cell s' n' h i) (λ u. inl (c ∙ u))
            (λ z. inr (record {
              nonzero = z.nonzero;
              way = subst (WayTo g a s' n') (sym c) z.way;
              came = either z.came (λ w. inl w) (λ w. inr (record {
                step = w.step;
                node = w.node;
                packs = d ∙ w.packs;
                exists = w.exists;
                leaves = w.leaves;
                enters = w.enters;
                inside = w.inside;
                reached = omega (arith, cost_before (g.from w.step) w.node (omega (arith, w.leaves)) w.inside, w.reached);
                advances = w.advances;
                costs = omega (arith, cost_before (g.from w.step) w.node (omega (arith, w.leaves)) w.inside, w.costs);
              }));
            }))

    lower' : cost_at a.size r S T ≤ NONE → y < cost_at a.size r S T → (s' n' : ℕ) → s' < g.stages → n' < a.size → cost_at a.size r' s' n' ≤ cost_at a.size r s' n'
    lower' b less s' n' h i = go (at s' n' i)
      where
        go : At s' n' → cost_at a.size r' s' n' ≤ cost_at a.size r s' n'
        go (here b c d f) = omega (arith, ap₂ (λ (i j : ℕ). cost_at a.size r i j) b c)
        go (other b c d) = omega arith

    taken' : cost_at a.size r' S T ≤ y
    taken' = go (at S T node_inside)
      where
        go : At S T → cost_at a.size r' S T ≤ y
        go (here b c d f) = omega arith
        go (other b c d) = absurd (b refl refl)

    -- the same for all pairs by their numbers
    cost_by_number : (p : ℕ) → (p ≡ q → ⊥) → get_or r'.cost p 0 ≡ get_or r.cost p 0
    cost_by_number p h = ap (λ (z : List ℕ). get_or z p 0) ec ∙ get_or-set_other r.cost q p y 0 h

    cost_here : get_or r'.cost q 0 ≡ y
    cost_here = ap (λ (z : List ℕ). get_or z q 0) ec ∙ get_or-set_same r.cost q y 0 (omega (arith, tab.cost_fits, pair_fits))

    -- which pairs are reached afterwards
    reached_before : (s' n' : ℕ) → n' < a.size → cost_at a.size r s' n' < NONE → cost_at a.size r' s' n' < NONE
    reached_before s' n' i h = go (at s' n' i)
      where
        go : At s' n' → cost_at a.size r' s' n' < NONE
        go (here b c d f) = omega (arith, y_low)
        go (other b c d) = omega arith

    past' : length r'.nodes ≡ length r.nodes → drop (pairs g a) r'.nodes ≡ drop (pairs g a) r.nodes → length r'.counts ≡ length r.counts → Past g a r r'
    past' nl nd cl = record {
      cost_past = ap (drop (pairs g a)) ec ∙ drop-set-lt (pairs g a) r.cost q y pair_fits;
      via_past = ap (drop (pairs g a)) ev ∙ drop-set-lt (pairs g a) r.via q (packed S e n) pair_fits;
      nodes_past = nd;
      cost_long = ap length ec ∙ length-set r.cost q y;
      via_long = ap length ev ∙ length-set r.via q (packed S e n);
      nodes_long = nl;
      counts_long = cl;
    }

  -- the pair has a higher cost already
  better : cost_at a.size r S T < NONE → y < cost_at a.size r S T → Offered g a s S T y r (lowered q y (packed S e n) r)
  better k h = record {
    table = record {
      cost_fits = omega (arith, tab.cost_fits, length-set r.cost q y);
      via_fits = omega (arith, tab.via_fits, length-set r.via q (packed S e n));
      nodes_fits = tab.nodes_fits;
      counts_fits = tab.counts_fits;
      cell = cell' r' refl refl;
      lists = λ s' j i c. let b = tab.lists s' j i c in (b.0, reached_before r' refl refl s' (node_at a.size r s' j) b.0 b.1);
      once = tab.once;
      listed = λ s' n' i c b. tab.listed s' n' i c (was s' n' c b (at r' refl refl s' n' c));
      counted = tab.counted ∙ total_same _ _ (pairs g a) (λ p i. either (same_or_not p q) (λ b. rw b (sym same_one)) (λ b. ap (λ (z : ℕ). one z) (sym (cost_by_number r' refl refl p b))));
    };
    later = record {
      lower = lower' r' refl refl (omega arith) h;
      cost_same = λ t m i c. cost_before r' refl refl t m i c;
      node_same = λ t m i c. refl;
      count_same = λ t i. refl;
    };
    past = past' r' refl refl refl refl refl;
    taken = taken' r' refl refl;
  }
    where
      r' : Rows
      r' = lowered q y (packed S e n) r

      was : (s' n' : ℕ) → n' < a.size → cost_at a.size r' s' n' < NONE → At r' refl refl s' n' → cost_at a.size r s' n' < NONE
      was s' n' i b (here c d f z) = omega (arith, ap₂ (λ (i j : ℕ). cost_at a.size r i j) c d)
      was s' n' i b (other c d f) = omega arith

      same_one : one (get_or r'.cost q 0) ≡ one (get_or r.cost q 0)
      same_one =
          ap (λ (z : ℕ). one z) (cost_here r' refl refl) ∙ pick_true _ _ _ (lt-ltb y NONE y_low)
          ∙ sym (pick_true _ _ _ (lt-ltb (cost_at a.size r S T) NONE k))

  abbrev k₀ : ℕ
  k₀ = count_at r S

  -- the pair is reached for the first time
  module _ (new : cost_at a.size r S T ≡ NONE) where
    pub roomy : k₀ < a.size
    roomy =
        room a.size k₀ T (λ (j : ℕ). node_at a.size r S j) (λ j i. (tab.lists S j stage_inside i).0) (λ j k i c. tab.once S j k stage_inside i c) node_inside
        (λ j i b. omega (arith, (tab.lists S j stage_inside i).1, ap (λ (m : ℕ). cost_at a.size r S m) b))

    pub place_fits : pair a S k₀ < pairs g a
    place_fits = pair_inside g a S k₀ stage_inside roomy

    abbrev r'' : Rows
    r'' = lowered q y (packed S e n) (joined (S * a.size) S T r)

    data In (s' j : ℕ) : Type 0 where
      joins : s' ≡ S → j ≡ k₀ → node_at a.size r'' s' j ≡ T → In s' j
      stays : (s' ≡ S → j ≡ k₀ → ⊥) → node_at a.size r'' s' j ≡ node_at a.size r s' j → In s' j

    place : (s' j : ℕ) → j < a.size → In s' j
    place s' j h =
        either (same_or_not (pair a s' j) (pair a S k₀))
        (λ p. let b = pair_apart a s' j S k₀ h roomy p in
        joins b.0 b.1
        (ap (λ (i : ℕ). get_or (set r.nodes (pair a S k₀) T) i 0) p ∙ get_or-set_same r.nodes (pair a S k₀) T 0 (omega (arith, tab.nodes_fits, place_fits))))
        (λ p. stays (λ b c. p (ap₂ (λ (i j : ℕ). pair a i j) b c)) (get_or-set_other r.nodes (pair a S k₀) (pair a s' j) T 0 p))

    count_here : count_at r'' S ≡ k₀ + 1
    count_here = get_or-set_same r.counts S (k₀ + 1) 0 (omega (arith, tab.counts_fits, stage_inside))

    count_other : (s' : ℕ) → (s' ≡ S → ⊥) → count_at r'' s' ≡ count_at r s'
    count_other s' h = get_or-set_other r.counts S s' (k₀ + 1) 0 h

    -- an entry of a row's list is the new one or an old one
    data Member (s' j : ℕ) : Type 0 where
      last : s' ≡ S → j ≡ k₀ → node_at a.size r'' s' j ≡ T → Member s' j
      older : j < count_at r s' → j < a.size → node_at a.size r'' s' j ≡ node_at a.size r s' j → Member s' j

    member : (s' j : ℕ) → s' < g.stages → j < count_at r'' s' → Member s' j
    member s' j h i = either (same_or_not s' S) (λ b. same_row b (same_or_not j k₀)) other_row
      where
        at_place : (j < count_at r s') → In s' j → (s' ≡ S → j ≡ k₀ → ⊥) → Member s' j
        at_place c (joins b d f) ne = absurd (ne b d)
        at_place c (stays b d) ne = older c (omega (arith, count_fits g a (suc s) r tab s' h)) d

        at_last : s' ≡ S → j ≡ k₀ → In s' j → Member s' j
        at_last b c (joins d f z) = last b c z
        at_last b c (stays d f) = absurd (d b c)

        same_row : s' ≡ S → (j ≡ k₀) ⊎ (j ≡ k₀ → ⊥) → Member s' j
        same_row b (inl c) = at_last b c (place s' j (omega (arith, roomy)))
        same_row b (inr c) =
            let u : count_at r'' s' ≡ k₀ + 1 = ap (count_at r'') b ∙ count_here in
            let w : count_at r s' ≡ k₀ = ap (count_at r) b in
            let z : j < count_at r s' = omega arith in
            at_place z (place s' j (omega (arith, count_fits g a (suc s) r tab s' h))) (λ _ d. c d)

        other_row : (s' ≡ S → ⊥) → Member s' j
        other_row b =
            let z : j < count_at r s' = omega (arith, count_other s' b) in
            at_place z (place s' j (omega (arith, count_fits g a (suc s) r tab s' h))) (λ d _. b d)

    lists'' : (s' j : ℕ) → s' < g.stages → j < count_at r'' s' → (node_at a.size r'' s' j < a.size) × (cost_at a.size r'' s' (node_at a.size r'' s' j) < NONE)
    lists'' s' j h i = go (member s' j h i)
      where
        go : Member s' j → (node_at a.size r'' s' j < a.size) × (cost_at a.size r'' s' (node_at a.size r'' s' j) < NONE)
        go (last b c d) = rw d (node_inside, omega (arith, y_low, ap (λ (i : ℕ). cost_at a.size r'' i T) b, taken' r'' refl refl))
        go (older b c d) = let u = tab.lists s' j h b in rw d (u.0, reached_before r'' refl refl s' (node_at a.size r s' j) u.0 u.1)

    -- an old entry is not the new node
    not_new : (s' j : ℕ) → s' < g.stages → s' ≡ S → j < count_at r s' → node_at a.size r s' j ≡ T → ⊥
    not_new s' j h b c d = omega (arith, (tab.lists s' j h c).1, new, ap₂ (λ (i m : ℕ). cost_at a.size r i m) b d)

    once'' : (s' j k : ℕ) → s' < g.stages → j < count_at r'' s' → k < count_at r'' s' → node_at a.size r'' s' j ≡ node_at a.size r'' s' k → j ≡ k
    once'' s' j k h i c d = go (member s' j h i) (member s' k h c)
      where
        go : Member s' j → Member s' k → j ≡ k
        go (last b f z) (last b' f' z') = f ∙ sym f'
        go (last b f z) (older b' f' z') = absurd (not_new s' k h b b' (sym z' ∙ sym d ∙ z))
        go (older b f z) (last b' f' z') = absurd (not_new s' j h b' b (sym z ∙ d ∙ z'))
        go (older b f z) (older b' f' z') = tab.once s' j k h b b' (sym z ∙ d ∙ z')

    listed'' : (s' n' : ℕ) → s' < g.stages → n' < a.size → cost_at a.size r'' s' n' < NONE → (k : ℕ) × (k < count_at r'' s') × (node_at a.size r'' s' k ≡ n')
    listed'' s' n' h i low' = go (at r'' refl refl s' n' i)
      where
        new_place : s' ≡ S → n' ≡ T → In s' k₀ → (k : ℕ) × (k < count_at r'' s') × (node_at a.size r'' s' k ≡ n')
        new_place b c (joins d f z) = (k₀, omega (arith, count_here, ap (count_at r'') b), z ∙ sym c)
        new_place b c (stays d f) = absurd (d b refl)

        old_place : (k : ℕ) → k < count_at r s' → node_at a.size r s' k ≡ n' → In s' k → (s' ≡ S) ⊎ (s' ≡ S → ⊥) → (k : ℕ) × (k < count_at r'' s') × (node_at a.size r'' s' k ≡ n')
        old_place k b c (joins d f z) w = absurd (omega (arith, ap (count_at r) d))
        old_place k b c (stays d f) (inl w) = (k, omega (arith, count_here, ap (count_at r'') w, ap (count_at r) w), f ∙ c)
        old_place k b c (stays d f) (inr w) = (k, omega (arith, count_other s' w), f ∙ c)

        go : At r'' refl refl s' n' → (k : ℕ) × (k < count_at r'' s') × (node_at a.size r'' s' k ≡ n')
        go (here b c d f) = new_place b c (place s' k₀ roomy)
        go (other b c d) =
            let u = tab.listed s' n' h i (omega arith) in
            old_place u.0 u.1 u.2 (place s' u.0 (omega (arith, u.1, count_fits g a (suc s) r tab s' h))) (same_or_not s' S)

    counted'' : total (count_at r'') g.stages ≡ total (λ p. one (get_or r''.cost p 0)) (pairs g a)
    counted'' =
        total_bump (count_at r) (count_at r'') S g.stages stage_inside count_here (λ i h. count_other i h)
        ∙ ap (λ (z : ℕ). z + 1) tab.counted
        ∙ sym (total_bump (λ p. one (get_or r.cost p 0)) (λ p. one (get_or r''.cost p 0)) q (pairs g a) pair_fits one_more
        (λ i h. ap (λ (z : ℕ). one z) (cost_by_number r'' refl refl i h)))
      where
        one_more : one (get_or r''.cost q 0) ≡ one (get_or r.cost q 0) + 1
        one_more =
            let b : one (get_or r''.cost q 0) ≡ 1 = ap (λ (z : ℕ). one z) (cost_here r'' refl refl) ∙ pick_true _ _ _ (lt-ltb y NONE y_low) in
            let c : one (get_or r.cost q 0) ≡ 0 = pick_false _ _ _ (le-ltb (cost_at a.size r S T) NONE (omega arith)) in
            omega arith

    fresh : Offered g a s S T y r r''
    fresh = record {
      table = record {
        cost_fits = omega (arith, tab.cost_fits, length-set r.cost q y);
        via_fits = omega (arith, tab.via_fits, length-set r.via q (packed S e n));
        nodes_fits = omega (arith, tab.nodes_fits, length-set r.nodes (pair a S k₀) T);
        counts_fits = omega (arith, tab.counts_fits, length-set r.counts S (k₀ + 1));
        cell = cell' r'' refl refl;
        lists = lists'';
        once = once'';
        listed = listed'';
        counted = counted'';
      };
      later = record {
        lower = lower' r'' refl refl (omega arith) (omega (arith, y_low));
        cost_same = λ t m i c. cost_before r'' refl refl t m i c;
        node_same = λ t m i c. node_before t m i (place t m c);
        count_same = λ t i. count_other t (λ b. omega (arith, later_stage));
      };
      past = past' r'' refl refl (length-set r.nodes (pair a S k₀) T) (drop-set-lt (pairs g a) r.nodes (pair a S k₀) T place_fits) (length-set r.counts S (k₀ + 1));
      taken = taken' r'' refl refl;
    }
      where
        node_before : (t m : ℕ) → t ≤ s → In t m → node_at a.size r'' t m ≡ node_at a.size r t m
        node_before t m i (joins b c d) = absurd (omega (arith, later_stage))
        node_before t m i (stays b c) = c

  -- what an offer leaves, in each case
  pub offered : Offered g a s S T y r (offer (S * a.size) S T y (packed S e n) r)
  unfolding offer pick
  offered = go (leb (cost_at a.size r S T) y) refl (eqb (cost_at a.size r S T) NONE) refl
    where
      in_table : (cost_at a.size r S T ≡ NONE) ⊎ Entry g a r (suc s) S T
      in_table = tab.cell S T stage_inside node_inside

      go : (b : Bool) → leb (cost_at a.size r S T) y ≡ b → (c : Bool) → eqb (cost_at a.size r S T) NONE ≡ c
          → Offered g a s S T y r (pick b r (pick c (lowered q y (packed S e n) (joined (S * a.size) S T r)) (lowered q y (packed S e n) r)))
      go true d c f = record { table = tab; later = later_same g a s r; past = past_same g a r; taken = leb-true (cost_at a.size r S T) y d }
      go false d true f = fresh (eqb-true (cost_at a.size r S T) NONE f)
      go false d false f =
          better
          (either in_table (λ u. absurd (eqb-false (cost_at a.size r S T) NONE f u)) (λ u. omega (arith, entry_low g a v r (suc s) S T u)))
          (leb-false (cost_at a.size r S T) y d)
