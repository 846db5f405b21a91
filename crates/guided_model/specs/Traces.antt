-- The trail of an opened pair: `via` leads from it back to the start by the steps of a way of its cost so far.
-- Assumes nothing.
use Rattle.std.specs.Prelude.{ℕ, zero, suc, ◌<◌, ◌≡◌, List, [], ◌∷◌, ◌++◌, ◌⊎◌, get_or}
use Rattle.std.proofs.Math.Path.{sym, subst}
use Rattle.std.proofs.Common.{◌∙◌, ap, inl, inr, arith}
use Rattle.definitions.specs.Ways.{Graph}
use Rattle.definitions.specs.Pairs.{Automaton, Estimate, stands, pair, node_of}
use Rattle.theory.specs.Basics.{either}
use Rattle.theory.specs.Ways.{snoc_way, snoc_end, snoc_cost, snoc_stands}
use Rattle.theory.specs.BestFirst.{here as begin-here}
use Rattle.theory.specs.Pairs.{WayTo, pair_apart, pair_of}
use Rattle.theory.specs.Product.{start_pair}
use Rattle.via_marks.specs.Marks.{packed}
use Rattle.trace.specs.Trails.{Trail, begin, more}
use Rattle.guided_model.specs.State.{Guide, Marks, In, cost_so_far, Came, Searching}
use Rattle.guided_model.specs.Bounds.{reach_stage, node_inside}
use Rattle.guided_model.specs.Chosen.{opened_reach}

module _ {g : Graph} {a : Automaton} {h : Estimate} (u : Guide g a h)
    {now : Marks} {log : List ℕ} {floor : ℕ} (s : Searching g a h now log floor) where
  abbrev cost : ℕ → ℕ
  cost p = cost_so_far g a h now.keys p

  start_free : In log (start_pair g a) ⊎ now.Open (start_pair g a) → cost (start_pair g a) ≡ 0
  start_free (inl i) = omega (arith, (s.best.settled (start_pair g a) i).lower 0 begin-here)
  start_free (inr o) =
      let k = s.has_key (start_pair g a) (inr o) in
      either (s.best.begun k.rest k.has) (λ i. absurd (s.apart (start_pair g a) i o)) (λ b. omega (arith, b.1))

  -- a way to the pair of stage t and node n, of its cost so far, that `via` has from its last step back
  abbrev pub Traced : List ℕ → ℕ → ℕ → Type 0
  Traced from t n = (w : WayTo g a t n (cost (pair a t n))) × Trail now.via from a.size g.start t n w.steps

  module _ (from : List ℕ) (held : (e : ℕ) → e < g.count → get_or from e 0 ≡ g.from e) where
    trace_start : (t n : ℕ) → t ≡ g.start → n ≡ a.root → cost (pair a t n) ≡ 0 → Traced from t n
    unfolding stands
    trace_start t n q r c = (
      record { steps = []; way = tt; ends = sym q; stand = sym r; costs = sym c },
      subst (λ (z : ℕ). Trail now.via from a.size g.start z n []) (sym q) begin,
    )

    source_at : (p : ℕ) (c : Came g a h now log p) → pair a (get_or from c.step 0) (node_of a c.source) ≡ c.source
    source_at p c = ap (λ (z : ℕ). pair a z (node_of a c.source)) (held c.step c.exists ∙ c.leaves) ∙ pair_of a c.source

    trace_more : (t n : ℕ) → n < a.size → (c : Came g a h now log (pair a t n)) → Traced from (get_or from c.step 0) (node_of a c.source) → Traced from t n
    trace_more t n i c w =
        let e = c.step in
        let m = node_of a c.source in
        let f = held e c.exists in
        let x = w.0 in
        let j = node_inside u c.source in
        let p = pair_apart a t n (g.to e) (a.next e m) i (u.lawful.next_inside e m c.exists j) c.enters in
        let b = u.valid.forward e c.exists in
        let z = reach_stage u c.source (cost c.source) (opened_reach u s c.source (inl c.settled)) in (
          record {
            steps = x.steps ++ e ∷ [];
            way = snoc_way g e x.steps g.start x.way c.exists (sym f ∙ sym x.ends);
            ends = snoc_end g e x.steps g.start ∙ sym p.0;
            stand = snoc_stands a e x.steps a.root ∙ ap (a.next e) x.stand ∙ sym p.1;
            costs = omega (arith, snoc_cost g e x.steps, x.costs, c.costs, ap (λ (q : ℕ). cost q) (source_at (pair a t n) c));
          },
          more {s = t} {n = n} {e = e} {m = m} {w = x.steps} (omega (arith, c.leaves, p.0)) (omega (arith, c.exists, u.valid.few)) j (omega (arith, p.0)) (c.packs ∙ ap (λ (q : ℕ). packed q e m) (sym p.0)) w.1,
        )

    trace : (k t n : ℕ) → t < k → n < a.size → In log (pair a t n) ⊎ now.Open (pair a t n) → Traced from t n
    trace zero t n b i j = absurd (omega arith)
    trace (suc k) t n b i j =
        go (s.came (pair a t n) j) (λ c d. trace k (get_or from c.step 0) (node_of a c.source) d (node_inside u c.source) (inl (rw (source_at (pair a t n) c) c.settled)))
      where
        go : (pair a t n ≡ start_pair g a) ⊎ Came g a h now log (pair a t n)
            → ((c : Came g a h now log (pair a t n)) → get_or from c.step 0 < k → Traced from (get_or from c.step 0) (node_of a c.source)) → Traced from t n
        go (inl q) again =
            let p = pair_apart a t n g.start a.root i u.lawful.root_inside q in
            trace_start t n p.0 p.1 (ap (λ (z : ℕ). cost z) q ∙ start_free (subst (λ (z : ℕ). In log z ⊎ now.Open z) q j))
        go (inr c) again =
            let m = node_of a c.source in
            let p = pair_apart a t n (g.to c.step) (a.next c.step m) i (u.lawful.next_inside c.step m c.exists (node_inside u c.source)) c.enters in
            trace_more t n i c (again c (omega (arith, held c.step c.exists, u.valid.forward c.step c.exists, p.0)))

    pub traced : (t n : ℕ) → n < a.size → In log (pair a t n) ⊎ now.Open (pair a t n) → Traced from t n
    traced t n i j = trace (suc t) t n (omega arith) i j
