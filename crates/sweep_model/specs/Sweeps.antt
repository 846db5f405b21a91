-- The sweep's rows in turn: once a row is relaxed, every step from its reached pairs has been offered, and later rows change nothing of that.
-- Assumes nothing.
use Prim.Native.Nat.{ℕ, zero, suc, ◌+◌, ◌-◌, ◌*◌, ◌≤◌, ◌<◌}
use Rattle.std.specs.Prelude.{◌≡◌, Bool}
use Rattle.std.proofs.Math.Path.{refl, sym, ap, ap₂}
use Rattle.std.proofs.Common.{◌∙◌}
use Rattle.std.proofs.Math.Bool.{true, false}
use native.Mathlib.Omega.{arith}
use Rattle.std.proofs.Math.Dec.{eqb}
use borrow.Author.Tests.{eqb-true, eqb-false}
use Rattle.definitions.specs.Basics.{NONE, pick}
use Rattle.definitions.specs.Ways.{Graph}
use Rattle.definitions.specs.Pairs.{Automaton}
use Rattle.theory.specs.Limits.{Valid}
use Rattle.theory.specs.Basics.{either, same_or_not}
use Rattle.theory.specs.Pairs.{Lawful}
use Rattle.via_marks.specs.Marks.{packed}
use Rattle.sweep_model.specs.Model.{Rows, cost_at, node_at, count_at, offer, relax_step, relax_steps, relax_node, relax_nodes, relax_rows}
use Rattle.sweep_model.specs.Rows.{Table, Later, Past, later_same, later_trans, past_same, past_trans, table_more, count_fits}
use Rattle.sweep_model.specs.Offers.{offered}

-- `first` gives each stage's first step: the steps from `first s` to before `first (s + 1)` are those that leave s
pub record FirstSteps (g : Graph) (first : ℕ → ℕ) : Type 0 where
  pub leave : (s e : ℕ) → s < g.stages → first s ≤ e → e < first (suc s) → (e < g.count) × (g.from e ≡ s)
  pub all : (s e : ℕ) → s < g.stages → e < g.count → g.from e ≡ s → (first s ≤ e) × (e < first (suc s))

module _ (g : Graph) (a : Automaton) (v : Valid g) (l : Lawful g a) where
  -- node n at cost x has been offered by step f
  abbrev pub Offer : Rows → ℕ → ℕ → ℕ → Type 0
  Offer r n x f = (a.next f n ≡ 0 → ⊥) → cost_at a.size r (g.to f) (a.next f n) ≤ x + g.cost f

  -- an offer stays made
  pub offer_stays : (s n x f : ℕ) (r r' : Rows) → Later g a s r r' → f < g.count → n < a.size → Offer r n x f → Offer r' n x f
  offer_stays s n x f r r' t h i o z = omega (arith, o z, t.lower (g.to f) (a.next f n) (v.inside f h) (l.next_inside f n h i))

  pub record Relaxed (s : ℕ) (Made : ℕ → ℕ → ℕ → Type 0) (r r' : Rows) : Type 0 where
    pub table : Table g a (suc s) r'
    pub later : Later g a s r r'
    pub past : Past g a r r'
    pub made : (n x f : ℕ) → Made n x f → Offer r' n x f

  module _ (s n x : ℕ) (hs : s < g.stages) (hn : n < a.size) (low : x < NONE) where
    pub step_made : (e : ℕ) (r : Rows) → Table g a (suc s) r → cost_at a.size r s n ≡ x → e < g.count → g.from e ≡ s
        → Relaxed s (λ m y f. (m ≡ n) × (y ≡ x) × (f ≡ e)) r (relax_step g a n x e r)
    unfolding relax_step pick
    step_made e r t c he hf = go (eqb (a.next e n) 0) refl
      where
        go : (b : Bool) → eqb (a.next e n) 0 ≡ b
            → Relaxed s (λ m y f. (m ≡ n) × (y ≡ x) × (f ≡ e)) r (pick b r (offer (g.to e * a.size) (g.to e) (a.next e n) (x + g.cost e) (packed (g.to e) e n) r))
        go true q = record {
          table = t;
          later = later_same g a s r;
          past = past_same g a r;
          made = λ m y f k z. absurd (z (ap₂ (λ (i j : ℕ). a.next j i) k.0 k.2 ∙ eqb-true _ _ q));
        }
        go false q =
            let o = offered g a v l s n e x r t hs hn c low he hf (eqb-false _ _ q) in
            record {
              table = o.table;
              later = o.later;
              past = o.past;
              made = λ m y f k z. omega (
                arith,
                o.taken,
                ap₂ (λ (i j : ℕ). cost_at a.size (offer (g.to e * a.size) (g.to e) (a.next e n) (x + g.cost e) (packed (g.to e) e n) r) (g.to j) (a.next j i)) k.0 k.2,
                ap g.cost k.2,
              );
            }

    pub steps_made : (k e : ℕ) (r : Rows) → Table g a (suc s) r → cost_at a.size r s n ≡ x → ((f : ℕ) → e ≤ f → f < e + k → (f < g.count) × (g.from f ≡ s))
        → Relaxed s (λ m y f. (m ≡ n) × (y ≡ x) × (e ≤ f) × (f < e + k)) r (relax_steps g a n x e k r)
    unfolding relax_steps
    steps_made zero e r t c h = record {
      table = t;
      later = later_same g a s r;
      past = past_same g a r;
      made = λ m y f k z. absurd (omega (arith, k.2, k.3));
    }
    steps_made (suc k) e r t c h =
        let he = h e (omega arith) (omega arith) in
        let one = step_made e r t c he.0 he.1 in
        let r₁ = relax_step g a n x e r in
        let rest = steps_made k (suc e) r₁ one.table (one.later.cost_same s n (omega arith) hn ∙ c) (λ f i j. h f (omega arith) (omega arith)) in
        record {
          table = rest.table;
          later = later_trans g a s r r₁ _ one.later rest.later;
          past = past_trans g a r r₁ _ one.past rest.past;
          made = λ m y f p. either (same_or_not f e)
              (λ q. offer_stays s m y f r₁ _ rest.later (h f p.2 p.3).0 (omega (arith, p.0)) (one.made m y f (p.0, p.1, q)))
              (λ q. rest.made m y f (p.0, p.1, omega (arith, p.2), omega (arith, p.3)));
        }

  module _ (first : ℕ → ℕ) (F : FirstSteps g first) where
    -- one of m nodes of row s from the k-th of its list on, with its cost, and a step that leaves s
    pub record Listed (r : Rows) (s k m n x f : ℕ) : Type 0 where
      pub place : ℕ
      pub from_place : k ≤ place
      pub to_place : place < k + m
      pub node : node_at a.size r s place ≡ n
      pub costs : x ≡ cost_at a.size r s n
      pub exists : f < g.count
      pub leaves : g.from f ≡ s

    pub nodes_made : (s : ℕ) → s < g.stages → (m k : ℕ) (r : Rows) → Table g a (suc s) r → k + m ≤ count_at r s
        → Relaxed s (Listed r s k m) r (relax_nodes g a first s k m r)
    unfolding relax_nodes relax_node
    nodes_made s hs zero k r t h = record {
      table = t;
      later = later_same g a s r;
      past = past_same g a r;
      made = λ n x f p z. absurd (omega (arith, p.from_place, p.to_place));
    }
    nodes_made s hs (suc m) k r t h =
        let n₀ = node_at a.size r s k in
        let x₀ = cost_at a.size r s n₀ in
        let u = t.lists s k hs (omega arith) in
        let one = steps_made s n₀ x₀ hs u.0 u.1 (first (suc s) - first s) (first s) r t refl
        (λ f i j. F.leave s f hs i (omega arith)) in
        let r₁ = relax_steps g a n₀ x₀ (first s) (first (suc s) - first s) r in
        let fits = count_fits g a (suc s) r t s hs in
        let rest = nodes_made s hs m (suc k) r₁ one.table (omega (arith, one.later.count_same s (omega arith))) in
        record {
          table = rest.table;
          later = later_trans g a s r r₁ _ one.later rest.later;
          past = past_trans g a r r₁ _ one.past rest.past;
          made = λ n x f p.
              let j = p.place in
              let inside : n < a.size = omega (arith, t.lists s j hs (omega (arith, p.to_place)), p.node) in
              either (same_or_not j k)
              (λ q.
              let e : n ≡ n₀ = sym p.node ∙ ap (node_at a.size r s) q in
              let w = F.all s f hs p.exists p.leaves in
              offer_stays s n x f r₁ _ rest.later p.exists inside
              (one.made n x f (e, p.costs ∙ ap (cost_at a.size r s) e, w.0, omega (arith, w.0, w.1))))
              (λ q. rest.made n x f (record {
                place = j;
                from_place = omega (arith, p.from_place);
                to_place = omega (arith, p.to_place);
                node = one.later.node_same s j (omega arith) (omega (arith, p.to_place)) ∙ p.node;
                costs = p.costs ∙ sym (one.later.cost_same s n (omega arith) inside);
                exists = p.exists;
                leaves = p.leaves;
              }));
        }

    -- every step from every reached pair of a stage below s has been offered
    abbrev pub Done : ℕ → Rows → Type 0
    Done s r = (t n f : ℕ) → t < s → n < a.size → cost_at a.size r t n < NONE → f < g.count → g.from f ≡ t → Offer r n (cost_at a.size r t n) f

    pub record Swept (s : ℕ) (r r' : Rows) : Type 0 where
      pub table : Table g a s r'
      pub done : Done s r'
      pub lower : (t n : ℕ) → t < g.stages → n < a.size → cost_at a.size r' t n ≤ cost_at a.size r t n
      pub past : Past g a r r'

    row_made : (s : ℕ) → s < g.stages → (r : Rows) → Table g a s r → Done s r → Swept (suc s) r (relax_nodes g a first s 0 (count_at r s) r)
    row_made s hs r t d =
        let x = nodes_made s hs (count_at r s) 0 r (table_more g a s (suc s) r (omega arith) t) (omega arith) in
        let r' = relax_nodes g a first s 0 (count_at r s) r in
        record {
          table = x.table;
          done = λ u n f hu hn k he hf.
              let same = x.later.cost_same u n (omega arith) hn in
              let k' : cost_at a.size r u n < NONE = omega arith in
              either (same_or_not u s)
              (λ q.
              let w = t.listed s n hs hn (omega (arith, ap (λ (i : ℕ). cost_at a.size r i n) q)) in
              x.made n (cost_at a.size r' u n) f (record {
                place = w.0;
                from_place = omega arith;
                to_place = omega (arith, w.1);
                node = w.2;
                costs = same ∙ ap (λ (i : ℕ). cost_at a.size r i n) q;
                exists = he;
                leaves = hf ∙ q;
              }))
              (λ q z.
              let b = offer_stays s n (cost_at a.size r u n) f r r' x.later he hn (d u n f (omega arith) hn k' he hf) z in
              omega arith);
          lower = x.later.lower;
          past = x.past;
        }

    pub rows_made : (m s : ℕ) (r : Rows) → s + m ≤ g.stages → Table g a s r → Done s r → Swept (s + m) r (relax_rows g a first s m r)
    unfolding relax_rows
    rows_made zero s r h t d =
        let q : s + 0 ≡ s = omega arith in
        rw q (record { table = t; done = d; lower = λ u n i j. omega arith; past = past_same g a r })
    rows_made (suc m) s r h t d =
        let one = row_made s (omega arith) r t d in
        let r₁ = relax_nodes g a first s 0 (count_at r s) r in
        let rest = rows_made m (suc s) r₁ (omega arith) one.table one.done in
        let q : s + suc m ≡ suc s + m = omega arith in
        rw q (record {
          table = rest.table;
          done = rest.done;
          lower = λ u n i j. omega (arith, one.lower u n i j, rest.lower u n i j);
          past = past_trans g a r r₁ _ one.past rest.past;
        })
