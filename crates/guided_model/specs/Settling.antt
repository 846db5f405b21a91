-- The pair that is being settled, by its stage and node: where they come from, and what is asked of the steps from it.
-- Assumes nothing.
use Rattle.std.specs.Prelude.{ℕ, ◌+◌, ◌-◌, ◌*◌, ◌≤◌, ◌<◌, ◌≡◌, refl, Bool, true, false, List, get_or}
use Rattle.std.proofs.Common.{sym, ◌∙◌, ap, ap₂, inr, arith}
use Rattle.std.proofs.Math.Option.{some}
use Rattle.definitions.specs.Basics.{NONE}
use Rattle.definitions.specs.Ways.{Graph}
use Rattle.definitions.specs.Pairs.{Automaton, Estimate, pair, pairs, stage_of, node_of}
use Rattle.definitions.specs.Promises.{shown, goal_at}
use Rattle.theory.specs.Ways.{step_cheap}
use Rattle.theory.specs.Basics.{either, true_not_false}
use Rattle.theory.specs.Pairs.{pair_inside, pair_of, stage_of_inside, goal_parts}
use Rattle.theory.specs.Product.{start_pair}
use Rattle.via_marks.specs.Marks.{stage_in, stage_packed}
use Rattle.guided_model.specs.State.{Guide, Marks, Smallest, Openable, cost_so_far, Came, Searching}
use Rattle.guided_model.specs.Bounds.{stage_is, node_is, node_inside, openable, step_rises}
use Rattle.guided_model.specs.Chosen.{chosen_key, chosen_stage, chosen_cheap, chosen_inside}

-- x is the pair of stage t and node n
pub record Located (g : Graph) (a : Automaton) (x t n : ℕ) : Type 0 where
  pub stage : t < g.stages
  pub late : g.start ≤ t
  pub node : n < a.size
  pub is : x ≡ pair a t n

-- what settling the pair of stage t and node n, of the cost `spent` and the key `floor`, rests on
pub record Settling (g : Graph) (a : Automaton) (h : Estimate) (t n spent floor : ℕ) : Type 0 where
  pub stage : t < g.stages
  pub late : g.start ≤ t
  pub node : n < a.size
  pub rest : ℕ
  pub has : h t n ≡ some rest
  pub sums : floor ≡ spent + rest
  pub cheap : spent ≤ 510000000

-- a pair of another stage than the end, or of a node that does not accept, is no goal pair
module _ (g : Graph) (a : Automaton) (h : Estimate) (x t n : ℕ) (p : Located g a x t n) where
  not_goal : (goal_at g a h x ≡ true → ⊥) → goal_at g a h x ≡ false
  not_goal f = go (goal_at g a h x) refl
    where
      go : (b : Bool) → goal_at g a h x ≡ b → goal_at g a h x ≡ false
      go true e = absurd (f e)
      go false e = e

  pub no_goal_stage : (t ≡ g.end → ⊥) → goal_at g a h x ≡ false
  no_goal_stage f = not_goal (λ b. f (sym (stage_is a t n x p.node p.is) ∙ (goal_parts g a (stage_of a x) (node_of a x) b).1))

  pub no_goal_node : a.accepts n ≡ false → goal_at g a h x ≡ false
  no_goal_node f =
      not_goal (λ b. true_not_false (sym (goal_parts g a (stage_of a x) (node_of a x) b).2 ∙ ap a.accepts (node_is a t n x p.node p.is) ∙ f))

module _ {g : Graph} {a : Automaton} {h : Estimate} (u : Guide g a h) where
  -- a step from it to a pair with an estimate: the pair may be opened, and the key that the step offers is no smaller than the floor
  pub record Target (floor y k : ℕ) : Type 0 where
    pub pair_inside : y < pairs g a
    pub may_open : Openable g a h y
    pub above : floor ≤ k
    pub low : k < NONE

  pub target : (t n spent floor e rest : ℕ) → Settling g a h t n spent floor → e < g.count → g.from e ≡ t → h (g.to e) (a.next e n) ≡ some rest
      → Target floor (pair a (g.to e) (a.next e n)) (spent + g.cost e + rest)
  target t n spent floor e rest s i f q =
      let j = u.lawful.next_inside e n i s.node in
      record {
        pair_inside = pair_inside g a (g.to e) (a.next e n) (u.valid.inside e i) j;
        may_open = openable u (g.to e) (a.next e n) rest (omega (arith, u.valid.forward e i, s.late)) j q;
        above = omega (arith, s.sums, step_rises u e n rest s.rest i q (ap (λ (z : ℕ). h z n) f ∙ s.has));
        low = omega (arith, s.cheap, step_cheap g u.valid e i, u.bounded (g.to e) (a.next e n) rest j q);
      }

  module _ {now : Marks} {log : List ℕ} {floor : ℕ} (s : Searching g a h now log floor)
      {x : ℕ} (o : Smallest now x) where
    -- x by its stage: it stands in the stage's row
    located : (t : ℕ) → stage_of a x ≡ t → (t * a.size ≤ x) × Located g a x t (x - t * a.size)
    located t e =
        let b : t * a.size + node_of a x ≡ x = ap (λ (z : ℕ). pair a z (node_of a x)) (sym e) ∙ pair_of a x in
        let j = node_inside u x in
        let i = chosen_inside u s o in
        let z : 0 < a.size = omega arith in (
          omega arith,
          record {
            stage = omega (arith, e, stage_of_inside g a x z i);
            late = omega (arith, e, chosen_stage u s o);
            node = omega arith;
            is = omega arith;
          },
        )

    -- the start stage, where x is the pair of start and root
    pub located_start : x ≡ start_pair g a → (g.start * a.size ≤ x) × Located g a x g.start (x - g.start * a.size)
    located_start q = located g.start (stage_is a g.start a.root x u.lawful.root_inside q)

    -- else the stage in `via`
    pub located_via : a.size ≤ 512 → (x ≡ start_pair g a → ⊥)
        → (stage_in (get_or now.via x 0) * a.size ≤ x) × Located g a x (stage_in (get_or now.via x 0)) (x - stage_in (get_or now.via x 0) * a.size)
    located_via w f = by (either (s.came x (inr o.is_open)) (λ q. absurd (f q)) (λ c. c))
      where
        by : Came g a h now log x
            → (stage_in (get_or now.via x 0) * a.size ≤ x) × Located g a x (stage_in (get_or now.via x 0)) (x - stage_in (get_or now.via x 0) * a.size)
        by c =
            let m = node_of a c.source in
            let j = node_inside u c.source in
            let few : c.step < 1024 = omega (arith, c.exists, u.valid.few) in
            let e = stage_packed (g.to c.step) c.step m (get_or now.via x 0) c.packs few (omega (arith, j)) in
            rw e (located (g.to c.step) (stage_is a (g.to c.step) (a.next c.step m) x (u.lawful.next_inside c.step m c.exists j) c.enters))

    -- its cost so far, and what settling it rests on, where the tables show r for its estimate
    pub chosen_settling : (t n r : ℕ) → Located g a x t n → r ≡ shown (h t n)
        → (r ≤ get_or now.keys x 0) × (get_or now.keys x 0 - r ≡ cost_so_far g a h now.keys x) × Settling g a h t n (get_or now.keys x 0 - r) (get_or now.keys x 0)
    chosen_settling t n r p e =
        let k = chosen_key u s o in
        let q : h t n ≡ some k.rest = sym (ap₂ h (stage_is a t n x p.node p.is) (node_is a t n x p.node p.is)) ∙ k.has in
        let d : r ≡ k.rest = e ∙ ap shown q in
        let c = chosen_cheap u s o in (
          omega (arith, k.sums),
          omega (arith, k.sums),
          record {
            stage = p.stage;
            late = p.late;
            node = p.node;
            rest = k.rest;
            has = q;
            sums = omega (arith, k.sums);
            cheap = omega (arith, k.sums);
          },
        )
