-- An open pair x of smallest key is taken: it has its least cost, the log stays in order with it as the next entry, and there is room for it.
-- Assumes nothing.
use Rattle.std.specs.Prelude.{ℕ, ◌+◌, ◌≤◌, ◌<◌, ◌≡◌, refl, List, ◌⊎◌, length, get_or}
use Rattle.std.proofs.Common.{sym, ◌∙◌, ap, subst₂, inl, inr, arith}
use Rattle.std.proofs.Math.Option.{some}
use Rattle.definitions.specs.Basics.{NONE}
use Rattle.definitions.specs.Ways.{Graph}
use Rattle.definitions.specs.Pairs.{Automaton, Estimate, pair, pairs, stage_of, node_of}
use Rattle.definitions.specs.Promises.{least_cost_at, sum_at, Follows, Settled}
use Rattle.theory.specs.Basics.{Order, less, same, more, order, either, same_or_not, some_inj}
use Rattle.theory.specs.Counting.{room}
use Rattle.theory.specs.BestFirst.{Consistent, smallest_is_least}
use Rattle.theory.specs.Pairs.{sum_some}
use Rattle.theory.specs.Product.{Edge, Reaches, LeastTo, start_pair, estimate_at, reach_inside, least_is_cost, consistent}
use Rattle.guided_model.specs.State.{Guide, Marks, Smallest, Without, without, In, cost_so_far, Keyed, key_is, Came, Searching}
use Rattle.guided_model.specs.Logs.{longer, longer_before, Place, earlier, last, place}
use Rattle.guided_model.specs.Bounds.{reach_stage, reach_cheap, estimate_small, estimate_alive}
use Rattle.guided_model.specs.Moves.{Frontier}

module _ {g : Graph} {a : Automaton} {h : Estimate} (u : Guide g a h) where
  pub consistent_pairs : Consistent ℕ (Edge g a) (estimate_at a h)
  consistent_pairs = consistent g a u.lawful u.base h u.consistent

  -- a pair of least cost m with an estimate: its sum
  pub least_sum : (p m r : ℕ) → LeastTo g a p m → estimate_at a h p ≡ some r → (least_cost_at g a h p ≡ some m) × (sum_at g a h p ≡ some (m + r))
  least_sum p m r t e =
      let c = least_is_cost g a u.lawful u.valid p m (estimate_alive u p r e) t in
      (c, sum_some g a h (stage_of a p) (node_of a p) m r c e)

  module _ {now : Marks} {log : List ℕ} {floor : ℕ} (s : Searching g a h now log floor) where
    abbrev cost : ℕ → ℕ
    cost p = cost_so_far g a h now.keys p

    -- an opened pair has a way of its cost so far
    pub opened_reach : (p : ℕ) → In log p ⊎ now.Open p → Reaches g a p (cost p)
    opened_reach p (inl t) = (s.best.settled p t).attained
    opened_reach p (inr o) = s.best.opened p o

    pub opened_low : (p : ℕ) → In log p ⊎ now.Open p → get_or now.keys p 0 < NONE
    opened_low p t =
        let k = s.has_key p t in
        omega (arith, k.sums, reach_cheap u p (cost p) (opened_reach p t), estimate_small u p k.rest k.has)

    -- a settled pair's least cost and sum
    pub log_least : (p : ℕ) → In log p → (least_cost_at g a h p ≡ some (cost p)) × (sum_at g a h p ≡ some (get_or now.keys p 0))
    log_least p t =
        let k = s.has_key p (inl t) in
        let c = least_sum p (cost p) k.rest (s.best.settled p t) k.has in
        (c.0, c.1 ∙ ap (λ (m : ℕ). some m) (sym k.sums))

    module _ {x : ℕ} (o : Smallest now x) where
      pub chosen_key : Keyed g a h now.keys x
      chosen_key = s.has_key x (inr o.is_open)

      pub smallest : (y r : ℕ) → now.Open y → estimate_at a h y ≡ some r → cost x + chosen_key.rest ≤ cost y + r
      smallest y r p e = omega (arith, o.least y p, chosen_key.sums, key_is g a h now.keys y r (s.has_key y (inr p)) e)

      pub chosen_least : LeastTo g a x (cost x)
      chosen_least =
          smallest_is_least ℕ (Edge g a) (start_pair g a) (estimate_at a h) consistent_pairs (In log) now.Open (cost_so_far g a h now.keys) s.best
          x chosen_key.rest o.is_open chosen_key.has smallest

      pub chosen_sum : (least_cost_at g a h x ≡ some (cost x)) × (sum_at g a h x ≡ some (get_or now.keys x 0))
      chosen_sum =
          let c = least_sum x (cost x) chosen_key.rest chosen_least chosen_key.has in
          (c.0, c.1 ∙ ap (λ (m : ℕ). some m) (sym chosen_key.sums))

      -- where it stands, and what it costs
      pub chosen_inside : x < pairs g a
      chosen_inside = reach_inside g a u.lawful u.valid x (cost x) chosen_least.attained

      pub chosen_stage : g.start ≤ stage_of a x
      chosen_stage = reach_stage u x (cost x) chosen_least.attained

      pub chosen_cheap : cost x ≤ 510000000
      chosen_cheap = reach_cheap u x (cost x) chosen_least.attained

      -- it is not in the log, so the log has fewer entries than there are pairs
      pub chosen_room : length log < pairs g a
      chosen_room =
          room (pairs g a) (length log) x (λ (i : ℕ). get_or log i 0) s.settled.inside
          (λ i j hi hj e. apart i j hi hj e (order i j)) chosen_inside (λ i hi e. s.apart x (i, hi, e) o.is_open)
        where
          apart : (i j : ℕ) → i < length log → j < length log → get_or log i 0 ≡ get_or log j 0 → Order i j → i ≡ j
          apart i j hi hj e (less b) = absurd (s.settled.once i j b hj e)
          apart i j hi hj e (same b) = b
          apart i j hi hj e (more b) = absurd (s.settled.once j i b hi (sym e))

      -- the log with it
      follows_from : Came g a h now log x → (i : ℕ) × (i < length log) × Follows g a h (get_or log i 0) x
      follows_from c =
          let t = c.settled in
          let q : get_or log t.0 0 ≡ c.source = t.2 in (
            t.0,
            t.1,
            record {
              step = c.step;
              exists = c.exists;
              leaves = c.leaves ∙ ap (λ (p : ℕ). stage_of a p) (sym q);
              enters = c.enters ∙ ap (λ (p : ℕ). pair a (g.to c.step) (a.next c.step (node_of a p))) (sym q);
              before = cost c.source;
              least_before = ap (λ (p : ℕ). least_cost_at g a h p) q ∙ (log_least c.source t).0;
              least = chosen_sum.0 ∙ ap (λ (m : ℕ). some m) c.costs;
            },
          )

      pub chosen_log : Settled g a h (longer log x)
      chosen_log = record { first = first; inside = inside; sums = sums; rises = rises; once = once; follows = follows }
        where
          sum_at_lem : (i : ℕ) → Place log x i → (k : ℕ) × (sum_at g a h (get_or (longer log x) i 0) ≡ some k) × (k ≤ get_or now.keys x 0) × (i ≡ length log → k ≡ get_or now.keys x 0)
          sum_at_lem i (earlier b q) =
              let p = get_or log i 0 in (
                get_or now.keys p 0,
                ap (λ (z : ℕ). sum_at g a h z) q ∙ (log_least p (i, b, refl)).1,
                omega (arith, s.below p (i, b, refl), s.above x o.is_open),
                λ e. absurd (omega arith),
              )
          sum_at_lem i (last b q) = (get_or now.keys x 0, ap (λ (z : ℕ). sum_at g a h z) q ∙ chosen_sum.1, omega arith, λ e. refl)

          first : 0 < length (longer log x) → get_or (longer log x) 0 0 ≡ start_pair g a
          first b = go (place log x 0 b)
            where
              go : Place log x 0 → get_or (longer log x) 0 0 ≡ start_pair g a
              go (earlier c q) = q ∙ s.settled.first c
              go (last c q) = q ∙ either (s.came x (inr o.is_open)) (λ d. d) (λ d. absurd (omega (arith, d.settled.1)))

          inside : (i : ℕ) → i < length (longer log x) → get_or (longer log x) i 0 < pairs g a
          inside i b = go (place log x i b)
            where
              go : Place log x i → get_or (longer log x) i 0 < pairs g a
              go (earlier c q) = omega (arith, q, s.settled.inside i c)
              go (last c q) = omega (arith, q, chosen_inside)

          sums : (i : ℕ) → i < length (longer log x) → (k : ℕ) × (sum_at g a h (get_or (longer log x) i 0) ≡ some k)
          sums i b = let t = sum_at_lem i (place log x i b) in (t.0, t.1)

          rises : (i j k m : ℕ) → i ≤ j → j < length (longer log x) → sum_at g a h (get_or (longer log x) i 0) ≡ some k → sum_at g a h (get_or (longer log x) j 0) ≡ some m → k ≤ m
          rises i j k m b c e f = go (place log x i (omega arith)) (place log x j c)
            where
              go : Place log x i → Place log x j → k ≤ m
              go (earlier d q) (earlier d' q') =
                  s.settled.rises i j k m b d' (ap (λ (z : ℕ). sum_at g a h z) (sym q) ∙ e) (ap (λ (z : ℕ). sum_at g a h z) (sym q') ∙ f)
              go (earlier d q) (last d' q') =
                  let t = sum_at_lem i (earlier d q) in
                  let w = sum_at_lem j (last d' q') in
                  omega (arith, some_inj k t.0 (sym e ∙ t.1), some_inj m w.0 (sym f ∙ w.1), t.2, w.3 d')
              go (last d q) (earlier d' q') = absurd (omega arith)
              go (last d q) (last d' q') =
                  let w : i ≡ j = omega arith in
                  omega (arith, some_inj k m (sym e ∙ ap (λ (z : ℕ). sum_at g a h (get_or (longer log x) z 0)) w ∙ f))

          once : (i j : ℕ) → i < j → j < length (longer log x) → get_or (longer log x) i 0 ≡ get_or (longer log x) j 0 → ⊥
          once i j b c e = go (place log x i (omega arith)) (place log x j c)
            where
              go : Place log x i → Place log x j → ⊥
              go (earlier d q) (earlier d' q') = s.settled.once i j b d' (sym q ∙ e ∙ q')
              go (earlier d q) (last d' q') = s.apart x (i, d, sym q ∙ e ∙ q') o.is_open
              go (last d q) (earlier d' q') = omega arith
              go (last d q) (last d' q') = omega arith

          follows : (j : ℕ) → 0 < j → j < length (longer log x) → (i : ℕ) × (i < j) × Follows g a h (get_or (longer log x) i 0) (get_or (longer log x) j 0)
          follows j b c = go (place log x j c)
            where
              go : Place log x j → (i : ℕ) × (i < j) × Follows g a h (get_or (longer log x) i 0) (get_or (longer log x) j 0)
              go (earlier d q) =
                  let t = s.settled.follows j b d in
                  (t.0, t.1, subst₂ (Follows g a h) (sym (longer_before log x t.0 (omega (arith, t.1)))) (sym q) t.2)
              go (last d q) =
                  either (s.came x (inr o.is_open)) (λ e. absurd (s.apart x (0, omega arith, s.settled.first (omega arith) ∙ sym e) o.is_open))
                  (λ e. let t = follows_from e in (t.0, omega (arith, t.1), subst₂ (Follows g a h) (sym (longer_before log x t.0 t.1)) (sym q) t.2))

      -- the open pairs without it
      pub chosen_frontier : {rest : ℕ → Type 0} → Without now x rest → Frontier g a h (without now rest) (get_or now.keys x 0)
      chosen_frontier w = record {
        finite = λ k p. opened_low k (inr (w.only k p));
        covered = λ k r b. either (s.opened k r b) (λ t. inr (omega (arith, s.below k t, s.above x o.is_open)))
            (λ p. either (same_or_not k x) (λ q. inr (omega (arith, ap (λ (z : ℕ). get_or now.keys z 0) q))) (λ q. inl (w.kept k p q)));
      }
