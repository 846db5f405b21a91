-- What relaxing steps does to the keys, to `via` and to the open pairs: each pair stays as it was, or falls to the key that a step offers and is open.
-- Assumes nothing.
use Rattle.std.specs.Prelude.{ℕ, ◌+◌, ◌≤◌, ◌<◌, ◌≡◌, refl, List, ◌⊎◌, length, get_or, set}
use Rattle.std.proofs.Common.{sym, ◌∙◌, ap, inl, inr, arith, get_or-set_same, get_or-set_other}
use Rattle.std.proofs.Math.Option.{none, some}
use Rattle.definitions.specs.Basics.{NONE}
use Rattle.definitions.specs.Ways.{Graph}
use Rattle.definitions.specs.Pairs.{Automaton, Estimate, pair}
use Rattle.theory.specs.Basics.{either, lt_or_le, same_or_not, none_not_some, some_inj}
use Rattle.via_marks.specs.Marks.{packed}
use Rattle.guided_model.specs.State.{Openable, Marks}

-- ---- one edge

-- pair k is as it was
pub record Stayed (now after : Marks) (k : ℕ) : Type 0 where
  pub same_key : get_or after.keys k 0 ≡ get_or now.keys k 0
  pub same_via : get_or after.via k 0 ≡ get_or now.via k 0
  pub still : now.Open k → after.Open k
  pub only : after.Open k → now.Open k

-- pair k has the key v, which is lower than before, came by what `mark` says, and is open
pub record Fell (v mark : ℕ) (now after : Marks) (k : ℕ) : Type 0 where
  pub new_key : get_or after.keys k 0 ≡ v
  pub lower : v < get_or now.keys k 0
  pub low : v < NONE
  pub new_via : get_or after.via k 0 ≡ mark
  pub is_open : after.Open k

-- what is asked of the pair y that is offered the key v: where it was never opened it is not in the queue, where it has a higher key it is
pub record Offerable (now : Marks) (y v : ℕ) : Type 0 where
  pub outside : get_or now.keys y 0 ≡ NONE → now.Open y → ⊥
  pub inside : v < get_or now.keys y 0 → get_or now.keys y 0 < NONE → now.Open y

-- what an edge to the pair y that offers the key v leaves
pub record Relaxed (y v mark : ℕ) (now after : Marks) : Type 0 where
  pub at_others : (k : ℕ) → (k ≡ y → ⊥) → Stayed now after k
  pub at_target : Stayed now after y ⊎ Fell v mark now after y
  pub taken : get_or after.keys y 0 ≤ v

pub stayed_same : (now : Marks) (k : ℕ) → Stayed now now k
stayed_same now k = record { same_key = refl; same_via = refl; still = λ o. o; only = λ o. o }

-- the target's key is no higher
pub relaxed_none : (y v mark : ℕ) (now : Marks) → get_or now.keys y 0 ≤ v → Relaxed y v mark now now
relaxed_none y v mark now h = record {
  at_others = λ k n. stayed_same now k;
  at_target = inl (stayed_same now y);
  taken = h;
}

-- the target is put into the queue, or moved up in it
pub relaxed_falls : (y v mark : ℕ) (now after : Marks)
    → y < length now.keys → y < length now.via → v < get_or now.keys y 0 → v < NONE → after.keys ≡ set now.keys y v → after.via ≡ set now.via y mark
    → after.Open y → ((k : ℕ) → now.Open k → after.Open k) → ((k : ℕ) → after.Open k → (k ≡ y → ⊥) → now.Open k)
    → Relaxed y v mark now after
relaxed_falls y v mark now after fk fv less low ek ev here kept only = record {
  at_others = λ k n. record {
    same_key = ap (λ (z : List ℕ). get_or z k 0) ek ∙ get_or-set_other now.keys y k v 0 n;
    same_via = ap (λ (z : List ℕ). get_or z k 0) ev ∙ get_or-set_other now.via y k mark 0 n;
    still = kept k;
    only = λ o. only k o n;
  };
  at_target = inr (record {
    new_key = there;
    lower = less;
    low = low;
    new_via = ap (λ (z : List ℕ). get_or z y 0) ev ∙ get_or-set_same now.via y mark 0 fv;
    is_open = here;
  });
  taken = omega (arith, there);
}
  where
    there : get_or after.keys y 0 ≡ v
    there = ap (λ (z : List ℕ). get_or z y 0) ek ∙ get_or-set_same now.keys y v 0 fk

-- ---- the steps from one pair

module _ (g : Graph) (a : Automaton) (h : Estimate) where
  -- the open pairs have keys, and a pair that may be opened and has a key is open or has at most the floor
  pub record Frontier (now : Marks) (floor : ℕ) : Type 0 where
    pub finite : (k : ℕ) → now.Open k → get_or now.keys k 0 < NONE
    pub covered : (k : ℕ) → Openable g a h k → get_or now.keys k 0 < NONE → now.Open k ⊎ (get_or now.keys k 0 ≤ floor)

  -- so a candidate never beats a settled pair
  pub offerable : (now : Marks) (floor y v : ℕ) → Frontier now floor → Openable g a h y → floor ≤ v → Offerable now y v
  offerable now floor y v f r b = record {
    outside = λ e o. omega (arith, f.finite y o);
    inside = λ l i. either (f.covered y r i) (λ o. o) (λ c. absurd (omega arith));
  }

  -- from the pair of stage s and node n, of cost so far `spent`
  module _ (s n spent : ℕ) where
    -- pair k fell by a step
    pub record FellBy (now after : Marks) (k : ℕ) : Type 0 where
      pub step : ℕ
      pub rest : ℕ
      pub exists : step < g.count
      pub leaves : g.from step ≡ s
      pub enters : k ≡ pair a (g.to step) (a.next step n)
      pub has : h (g.to step) (a.next step n) ≡ some rest
      pub fell : Fell (spent + g.cost step + rest) (packed (g.to step) step n) now after k

    abbrev pub Moved : Marks → Marks → Type 0
    Moved now after = (k : ℕ) → Stayed now after k ⊎ FellBy now after k

    -- the step e has been offered: what it leads to, if it has an estimate, has at most the key that the step offers
    abbrev pub Offered : List ℕ → ℕ → Type 0
    Offered keys e = (rest : ℕ) → h (g.to e) (a.next e n) ≡ some rest → get_or keys (pair a (g.to e) (a.next e n)) 0 ≤ spent + g.cost e + rest

    -- what relaxing the steps from `first` to before `until` leaves
    pub record Expanded (first until : ℕ) (now after : Marks) : Type 0 where
      pub moved : Moved now after
      pub offered : (e : ℕ) → first ≤ e → e < until → Offered after.keys e

    moved_same : (now : Marks) → Moved now now
    moved_same now k = inl (stayed_same now k)

    moved_more : (now after later : Marks)
        → Moved now after → Moved after later → Moved now later
    moved_more now after later m m' k = go (m k) (m' k)
      where
        deeper : (v mark : ℕ) → get_or after.keys k 0 ≤ get_or now.keys k 0 → Fell v mark after later k → Fell v mark now later k
        deeper v mark le f = record { new_key = f.new_key; lower = omega (arith, f.lower); low = f.low; new_via = f.new_via; is_open = f.is_open }

        again : get_or after.keys k 0 ≤ get_or now.keys k 0 → FellBy after later k → FellBy now later k
        again le f = record {
          step = f.step;
          rest = f.rest;
          exists = f.exists;
          leaves = f.leaves;
          enters = f.enters;
          has = f.has;
          fell = deeper (spent + g.cost f.step + f.rest) (packed (g.to f.step) f.step n) le f.fell;
        }

        go : Stayed now after k ⊎ FellBy now after k → Stayed after later k ⊎ FellBy after later k
            → Stayed now later k ⊎ FellBy now later k
        go (inl x) (inl y) = inl (record {
          same_key = y.same_key ∙ x.same_key;
          same_via = y.same_via ∙ x.same_via;
          still = λ o. y.still (x.still o);
          only = λ o. x.only (y.only o);
        })
        go (inl x) (inr y) = inr (again (omega (arith, x.same_key)) y)
        go (inr x) (inl y) = inr (record {
          step = x.step;
          rest = x.rest;
          exists = x.exists;
          leaves = x.leaves;
          enters = x.enters;
          has = x.has;
          fell = record {
            new_key = y.same_key ∙ x.fell.new_key;
            lower = x.fell.lower;
            low = x.fell.low;
            new_via = y.same_via ∙ x.fell.new_via;
            is_open = y.still x.fell.is_open;
          };
        })
        go (inr x) (inr y) = inr (again (omega (arith, x.fell.new_key, x.fell.lower)) y)

    -- no key rises
    pub moved_lower : (now after : Marks) → Moved now after
        → (k : ℕ) → get_or after.keys k 0 ≤ get_or now.keys k 0
    moved_lower now after m k = either (m k) (λ x. omega (arith, x.same_key)) (λ x. omega (arith, x.fell.new_key, x.fell.lower))

    -- the frontier stays one
    pub frontier_moved : (now after : Marks) (floor : ℕ)
        → Frontier now floor → Moved now after → Frontier after floor
    frontier_moved now after floor f m = record {
      finite = λ k o. either (m k) (λ x. omega (arith, x.same_key, f.finite k (x.only o))) (λ x. omega (arith, x.fell.new_key, x.fell.low));
      covered = λ k r l. either (m k)
          (λ x. either (f.covered k r (omega (arith, x.same_key))) (λ o. inl (x.still o)) (λ b. inr (omega (arith, x.same_key))))
          (λ x. inl x.fell.is_open);
    }

    -- an edge is a step
    moved_step : (e rest y v mark : ℕ) (now after : Marks)
        → e < g.count → g.from e ≡ s → h (g.to e) (a.next e n) ≡ some rest → y ≡ pair a (g.to e) (a.next e n) → v ≡ spent + g.cost e + rest → mark ≡ packed (g.to e) e n
        → Relaxed y v mark now after → Moved now after
    moved_step e rest y v mark now after i l has ey ev em x k =
        either (same_or_not k y) (λ q. rw q (either x.at_target (λ t. inl t) (λ t. inr (by t)))) (λ q. inl (x.at_others k q))
      where
        by : Fell v mark now after y → FellBy now after y
        by t = record { step = e; rest = rest; exists = i; leaves = l; enters = ey; has = has; fell = rw (ev, em) at t }

    -- ---- the loop over the steps

    -- steps that lead to no pair with an estimate
    pub expanded_none : (first until : ℕ) (now : Marks)
        → ((e : ℕ) → first ≤ e → e < until → h (g.to e) (a.next e n) ≡ none) → Expanded first until now now
    expanded_none first until now q = record {
      moved = moved_same now;
      offered = λ e i j rest b. absurd (none_not_some rest (sym (q e i j) ∙ b));
    }

    -- one step: what it leads to has no estimate
    pub step_none : (e : ℕ) (now : Marks) → h (g.to e) (a.next e n) ≡ none → Expanded e (e + 1) now now
    step_none e now q =
        expanded_none e (e + 1) now
        (λ f i j. let d : f ≡ e = omega arith in ap (λ (z : ℕ). h (g.to z) (a.next z n)) d ∙ q)

    -- or it has one
    pub step_relaxed : (e rest y v mark : ℕ) (now after : Marks)
        → e < g.count → g.from e ≡ s → h (g.to e) (a.next e n) ≡ some rest → y ≡ pair a (g.to e) (a.next e n) → v ≡ spent + g.cost e + rest → mark ≡ packed (g.to e) e n
        → Relaxed y v mark now after → Expanded e (e + 1) now after
    step_relaxed e rest y v mark now after i l has ey ev em r = record {
      moved = moved_step e rest y v mark now after i l has ey ev em r;
      offered = λ f i j m b.
          let d : f ≡ e = omega arith in
          let t : rest ≡ m = some_inj rest m (sym has ∙ ap (λ (z : ℕ). h (g.to z) (a.next z n)) (sym d) ∙ b) in
          let c : get_or after.keys (pair a (g.to f) (a.next f n)) 0 ≡ get_or after.keys y 0
          = ap (λ (z : ℕ). get_or after.keys (pair a (g.to z) (a.next z n)) 0) d ∙ ap (λ (z : ℕ). get_or after.keys z 0) (sym ey) in
          omega (arith, r.taken, ap g.cost d);
    }

    -- some steps, and then others
    pub expanded_more : (first e until : ℕ) (now after later : Marks)
        → Expanded first e now after → Expanded e until after later → Expanded first until now later
    expanded_more first e until now after later x y = record {
      moved = moved_more now after later x.moved y.moved;
      offered = λ f i j. either (lt_or_le f e)
          (λ l rest b. omega (arith, x.offered f i l rest b, moved_lower after later y.moved (pair a (g.to f) (a.next f n))))
          (λ l. y.offered f l j);
    }
