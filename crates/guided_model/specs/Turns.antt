-- How the search begins, and what one turn leaves: x is settled, and what follows from it by a step is opened or gets a lower key.
-- Assumes nothing.
use Rattle.std.specs.Prelude.{ℕ, ◌+◌, ◌≤◌, ◌<◌, ◌≡◌, refl, false, List, [], ◌⊎◌, length, get_or, set}
use Rattle.std.proofs.Common.{sym, ◌∙◌, ap, ap₂, subst, inl, inr, arith, get_or-set_same, get_or-set_other}
use Rattle.std.proofs.Math.Option.{some}
use Rattle.definitions.specs.Basics.{NONE}
use Rattle.definitions.specs.Ways.{Graph}
use Rattle.definitions.specs.Pairs.{Automaton, Estimate, pair}
use Rattle.definitions.specs.Promises.{goal_at}
use Rattle.theory.specs.Ways.{step_cheap}
use Rattle.theory.specs.Basics.{either, same_or_not}
use Rattle.theory.specs.BestFirst.{here as begin-here, Turn, turn_keeps}
use Rattle.theory.specs.Product.{Edge, edge_to, edge_from, start_pair, estimate_at}
use Rattle.via_marks.specs.Marks.{packed}
use Rattle.guided_model.specs.State.{Guide, Marks, Smallest, Without, without, In, Openable, cost_so_far, cost_is, cost_same, Keyed, keyed, key_is, keyed_same, Came, Searching}
use Rattle.guided_model.specs.Logs.{nothing_settled, longer, in_more, in_last, in_cases}
use Rattle.guided_model.specs.Bounds.{stage_is, node_is, openable, step_rises}
use Rattle.guided_model.specs.Moves.{Stayed, FellBy, Moved, Offered}
use Rattle.guided_model.specs.Chosen.{consistent_pairs, chosen_key, smallest, chosen_stage, chosen_cheap, chosen_log}

module _ {g : Graph} {a : Automaton} {h : Estimate} (u : Guide g a h) where
  -- only the pair of start and root is open, at its estimate; no pair that may be opened had a key, and the rest of the slices is arbitrary
  pub search_start : (filled : List ℕ) (now : Marks) (r : ℕ) → h g.start a.root ≡ some r
      → ((p : ℕ) → Openable g a h p → get_or filled p 0 ≡ NONE) → start_pair g a < length filled → now.keys ≡ set filled (start_pair g a) r
      → now.Open (start_pair g a) → ((k : ℕ) → now.Open k → k ≡ start_pair g a) → Searching g a h now [] 0
  search_start filled now r e clear fits stored here only = record {
    best = record {
      settled = λ p i. absurd (omega (arith, i.1));
      opened = λ p o. rw (only p o, free) begin-here;
      begun = λ b q. inr (here, omega (arith, free));
      follows = λ p q k i. absurd (omega (arith, i.1));
    };
    has_key = λ p t. either t (λ i. absurd (omega (arith, i.1))) (λ o. rw (only p o) key);
    opened = λ p w b. either (same_or_not p (start_pair g a)) (λ q. inr (rw q here))
        (λ q. absurd (omega (arith, clear p w, ap (λ (z : List ℕ). get_or z p 0) stored, get_or-set_other filled (start_pair g a) p r 0 q)));
    apart = λ p i. absurd (omega (arith, i.1));
    came = λ p t. either t (λ i. absurd (omega (arith, i.1))) (λ o. inl (only p o));
    below = λ p i. absurd (omega (arith, i.1));
    above = λ p o. omega arith;
    settled = nothing_settled g a h;
    no_goal = λ p i. absurd (omega (arith, i.1));
  }
    where
      has : estimate_at a h (start_pair g a) ≡ some r
      has = ap₂ h (stage_is a g.start a.root _ u.lawful.root_inside refl) (node_is a g.start a.root _ u.lawful.root_inside refl) ∙ e

      at : get_or now.keys (start_pair g a) 0 ≡ 0 + r
      at = omega (arith, ap (λ (z : List ℕ). get_or z (start_pair g a) 0) stored, get_or-set_same filled (start_pair g a) r 0 fits)

      key : Keyed g a h now.keys (start_pair g a)
      key = keyed g a h now.keys (start_pair g a) 0 r has at

      free : cost_so_far g a h now.keys (start_pair g a) ≡ 0
      free = cost_is g a h now.keys (start_pair g a) 0 r has at

  module _ {now : Marks} {log : List ℕ} {floor : ℕ} (s : Searching g a h now log floor)
      {x : ℕ} (o : Smallest now x)
      {rest : ℕ → Type 0} (others : Without now x rest)
      (t n spent : ℕ) (inside : n < a.size) (is : x ≡ pair a t n) (costs : spent ≡ cost_so_far g a h now.keys x)
      {after : Marks} (moved : Moved g a h t n spent (without now rest) after)
      (offered : (e : ℕ) → e < g.count → g.from e ≡ t → Offered g a h t n spent after.keys e) where
    abbrev cost : ℕ → ℕ
    cost p = cost_so_far g a h now.keys p

    abbrev cost' : ℕ → ℕ
    cost' p = cost_so_far g a h after.keys p

    abbrev key_x : Keyed g a h now.keys x
    key_x = chosen_key u s o

    -- the estimate of what a step leads to, by its number
    there : (e r : ℕ) → e < g.count → h (g.to e) (a.next e n) ≡ some r → estimate_at a h (pair a (g.to e) (a.next e n)) ≡ some r
    there e r i q =
        let j = u.lawful.next_inside e n i inside in
        ap₂ h (stage_is a (g.to e) (a.next e n) _ j refl) (node_is a (g.to e) (a.next e n) _ j refl) ∙ q

    estimate_x : h t n ≡ some key_x.rest
    estimate_x = ap₂ h (sym (stage_is a t n x inside is)) (sym (node_is a t n x inside is)) ∙ key_x.has

    -- what falls gets a key no smaller than that of x
    fell_rises : (k : ℕ) → (f : FellBy g a h t n spent (without now rest) after k) → get_or now.keys x 0 ≤ get_or after.keys k 0
    fell_rises k f =
        omega (
          arith,
          f.fell.new_key,
          key_x.sums,
          costs,
          step_rises u f.step n f.rest key_x.rest f.exists f.has (ap (λ (z : ℕ). h z n) f.leaves ∙ estimate_x),
        )

    low_stays : (k : ℕ) → get_or now.keys k 0 ≤ get_or now.keys x 0 → Stayed (without now rest) after k
    low_stays k b = either (moved k) (λ y. y) (λ f. absurd (omega (arith, f.fell.new_key, f.fell.lower, fell_rises k f)))

    -- settled pairs stay
    settled_stays : (k : ℕ) → In (longer log x) k → Stayed (without now rest) after k
    settled_stays k i =
        low_stays k (either (in_cases log x k i) (λ j. omega (arith, s.below k j, s.above x o.is_open)) (λ q. omega (arith, ap (λ (z : ℕ). get_or now.keys z 0) q)))

    settled_cost : (k : ℕ) → In (longer log x) k → cost' k ≡ cost k
    settled_cost k i = cost_same g a h now.keys after.keys k (settled_stays k i).same_key

    fell_key : (k : ℕ) (f : FellBy g a h t n spent (without now rest) after k) → estimate_at a h k ≡ some f.rest
    fell_key k f = ap (λ (z : ℕ). estimate_at a h z) f.enters ∙ there f.step f.rest f.exists f.has

    fell_cost : (k : ℕ) (f : FellBy g a h t n spent (without now rest) after k) → cost' k ≡ cost x + g.cost f.step
    fell_cost k f = cost_is g a h after.keys k (cost x + g.cost f.step) f.rest (fell_key k f) (omega (arith, f.fell.new_key, costs))

    fell_edge : (k : ℕ) (f : FellBy g a h t n spent (without now rest) after k) → Edge g a x k (g.cost f.step)
    fell_edge k f =
        subst (λ (z : ℕ). Edge g a z k (g.cost f.step)) (sym is)
        (subst (λ (z : ℕ). Edge g a (pair a t n) z (g.cost f.step)) (sym f.enters) (edge_to g a t n f.step inside f.exists f.leaves))

    -- the open pairs afterwards
    before : (k : ℕ) → now.Open k → (k ≡ x) ⊎ rest k
    before k p = either (same_or_not k x) (λ q. inl q) (λ q. inr (others.kept k p q))

    has_key' : (k : ℕ) → In (longer log x) k ⊎ after.Open k → Keyed g a h after.keys k
    has_key' k (inl i) =
        keyed_same g a h now.keys after.keys k (settled_stays k i).same_key
        (either (in_cases log x k i) (λ j. s.has_key k (inl j)) (λ q. rw q key_x))
    has_key' k (inr p) =
        either (moved k) (λ y. keyed_same g a h now.keys after.keys k y.same_key (s.has_key k (inr (others.only k (y.only p)))))
        (λ f. keyed g a h after.keys k (spent + g.cost f.step) f.rest (fell_key k f) f.fell.new_key)

    -- a pair that may be opened and has a key is opened
    opened' : (k : ℕ) → Openable g a h k → get_or after.keys k 0 < NONE → In (longer log x) k ⊎ after.Open k
    opened' k r b =
        either (moved k)
        (λ y. either (s.opened k r (omega (arith, y.same_key))) (λ i. inl (in_more log x k i))
        (λ p. either (before k p) (λ q. inl (rw q (in_last log x))) (λ p₁. inr (y.still p₁))))
        (λ f. inr f.fell.is_open)

    apart' : (k : ℕ) → In (longer log x) k → after.Open k → ⊥
    apart' k i p =
        let p₁ = (settled_stays k i).only p in
        either (in_cases log x k i) (λ j. s.apart k j (others.only k p₁)) (λ (q : k ≡ x). others.gone (rw q at p₁))

    turn : Turn ℕ (Edge g a) (estimate_at a h) (In log) now.Open (cost_so_far g a h now.keys) x (In (longer log x)) after.Open (cost_so_far g a h after.keys)
    turn = record {
      kept = λ y i. (in_more log x y i, settled_cost y (in_more log x y i));
      added = (in_last log x, settled_cost x (in_last log x));
      only = λ y i. either (in_cases log x y i) (λ j. inl (j, settled_cost y i)) (λ q. inr q);
      opens = λ y p. either (moved y) (λ w. inl (others.only y (w.only p), cost_same g a h now.keys after.keys y w.same_key))
          (λ f. inr (g.cost f.step, fell_edge y f, fell_cost y f));
      still = λ y p. either (before y p) (λ q. inl (rw q (in_last log x))) (λ p₁. inr (falls y p p₁));
      relaxed = relaxes;
    }
      where
        falls : (y : ℕ) → now.Open y → rest y → after.Open y × (cost' y ≤ cost y)
        falls y p p₁ =
            either (moved y) (λ w. (w.still p₁, omega (arith, cost_same g a h now.keys after.keys y w.same_key)))
            (λ f. (
              f.fell.is_open,
              omega (arith, f.fell.new_key, f.fell.lower, fell_cost y f, costs, key_is g a h now.keys y f.rest (s.has_key y (inr p)) (fell_key y f)),
            ))

        relaxes : (y c : ℕ) → Edge g a x y c → (r : ℕ) → estimate_at a h y ≡ some r → In (longer log x) y ⊎ (after.Open y × (cost' y ≤ cost x + c))
        relaxes y c d r e =
            let w = edge_from g a t n y c inside (subst (λ (z : ℕ). Edge g a z y c) is d) in
            let j = u.lawful.next_inside w.0 n w.1 inside in
            let q : h (g.to w.0) (a.next w.0 n) ≡ some r
            = ap₂ h (sym (stage_is a (g.to w.0) (a.next w.0 n) y j w.3)) (sym (node_is a (g.to w.0) (a.next w.0 n) y j w.3)) ∙ e in
            let b : get_or after.keys y 0 ≤ spent + c + r = omega (arith, offered w.0 w.1 w.2 r q, ap (λ (z : ℕ). get_or after.keys z 0) w.3, w.4) in
            let may_open : Openable g a h y = subst (Openable g a h) (sym w.3) (openable u (g.to w.0) (a.next w.0 n) r
            (omega (arith, u.valid.forward w.0 w.1, w.2, stage_is a t n x inside is, chosen_stage u s o)) j q) in
            let low : get_or after.keys y 0 < NONE = omega (
              arith,
              b,
              costs,
              w.4,
              step_cheap g u.valid w.0 w.1,
              u.bounded _ _ r j q,
              chosen_cheap u s o,
            ) in
            either (opened' y may_open low) (λ i. inl i) (λ p. inr (p, omega (arith, b, costs, key_is g a h after.keys y r (has_key' y (inr p)) e)))

    came_same : (k : ℕ) → get_or after.keys k 0 ≡ get_or now.keys k 0 → get_or after.via k 0 ≡ get_or now.via k 0 → (k ≡ start_pair g a) ⊎ Came g a h now log k
        → (k ≡ start_pair g a) ⊎ Came g a h after (longer log x) k
    came_same k ek ev (inl q) = inl q
    came_same k ek ev (inr c) = inr (record {
      source = c.source;
      step = c.step;
      settled = in_more log x c.source c.settled;
      exists = c.exists;
      leaves = c.leaves;
      enters = c.enters;
      packs = ev ∙ c.packs;
      costs = omega (arith, c.costs, cost_same g a h now.keys after.keys k ek, settled_cost c.source (in_more log x c.source c.settled));
    })

    came' : (k : ℕ) → In (longer log x) k ⊎ after.Open k → (k ≡ start_pair g a) ⊎ Came g a h after (longer log x) k
    came' k (inl i) =
        let y = settled_stays k i in
        came_same k y.same_key y.same_via (s.came k (either (in_cases log x k i) (λ j. inl j) (λ q. inr (rw q o.is_open))))
    came' k (inr p) =
        either (moved k) (λ y. came_same k y.same_key y.same_via (s.came k (inr (others.only k (y.only p)))))
        (λ f. inr (record {
          source = x;
          step = f.step;
          settled = in_last log x;
          exists = f.exists;
          leaves = f.leaves ∙ sym (stage_is a t n x inside is);
          enters = f.enters ∙ ap (λ (m : ℕ). pair a (g.to f.step) (a.next f.step m)) (sym (node_is a t n x inside is));
          packs = f.fell.new_via ∙ ap (λ (m : ℕ). packed (g.to f.step) f.step m) (sym (node_is a t n x inside is));
          costs = omega (arith, fell_cost k f, settled_cost x (in_last log x));
        }))

    pub search_turn : goal_at g a h x ≡ false → Searching g a h after (longer log x) (get_or now.keys x 0)
    search_turn no_goal = record {
      best =
          turn_keeps ℕ (Edge g a) (start_pair g a) (estimate_at a h) (consistent_pairs u) (In log) now.Open (cost_so_far g a h now.keys) s.best
          x key_x.rest o.is_open key_x.has (smallest u s o) (In (longer log x)) after.Open (cost_so_far g a h after.keys) turn;
      has_key = has_key';
      opened = opened';
      apart = apart';
      came = came';
      below = λ p i. either (in_cases log x p i) (λ j. omega (arith, (settled_stays p i).same_key, s.below p j, s.above x o.is_open))
          (λ q. omega (arith, (settled_stays p i).same_key, ap (λ (z : ℕ). get_or now.keys z 0) q));
      above = λ p q. either (moved p) (λ y. omega (arith, y.same_key, o.least p (others.only p (y.only q)))) (λ f. fell_rises p f);
      settled = chosen_log u s o;
      no_goal = λ p i. either (in_cases log x p i) (λ j. s.no_goal p j) (λ q. rw q no_goal);
    }
