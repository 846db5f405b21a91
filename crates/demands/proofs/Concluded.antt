-- What a caller of both searches concludes from the demands: their answers are alike.
-- Assumes nothing.
use Rattle.std.specs.Prelude.{ℕ, ◌≡◌, List, ◌⊎◌}
use Rattle.std.proofs.Common.{sym, ◌∙◌, ap, inl, inr, arith}
use Rattle.definitions.specs.Promises.{SweepSlices, GuidedSlices}
use Rattle.definitions.specs.declared.Answer.{Answer}
use Rattle.theory.specs.Basics.{either, same_or_not}
use Rattle.demands.specs.Demands.{Call, sweep_call, guided_call, Refusal, Demand2, Searched, Agree, Demands}
use Rattle.demands.specs.Concluded.{Alike}

equal_alike : (r q : Answer) → r ≡ q → Alike r q
equal_alike r q e = record {
  number = ap (λ (a : Answer). a.number) e;
  file = ap (λ (a : Answer). a.file) e;
  place = ap (λ (a : Answer). a.place) e;
  cost = ap (λ (a : Answer). a.cost) e;
  fewer = omega (arith, ap (λ (a : Answer). a.count) e);
}

searched_or_not : (r : Answer) → Searched r ⊎ (Searched r → ⊥)
searched_or_not r =
    either (same_or_not r.number 0) (λ z. inl (inl z))
    (λ z. either (same_or_not r.number 8) (λ e. inl (inr e)) (λ e. inr (λ s. either s z e)))

module _ (chart rules : List ℕ) where
  no_file : (x : Call) → Demand2 chart rules x → Searched x.answer → (x.answer.file ≡ 0) × (x.answer.place ≡ 0)
  no_file x two (inl z) = let g = (two.given z).3 in (g.no_file, g.no_place)
  no_file x two (inr z) = let t = two.eight z in (t.file, t.place)

-- ---- both searches

module _ (chart rules : List ℕ) (lent lent' : SweepSlices) (r : Answer) (given given' : GuidedSlices) (q : Answer) where
  -- the answers are alike, unless one search alone was lent too little
  pub alike : Demands chart rules lent lent' r given given' q → Alike r q ⊎ (Refusal 7 0 0 0 r × Searched q) ⊎ (Searched r × Refusal 7 0 0 0 q)
  alike t = go (searched_or_not r) (searched_or_not q)
    where
      agree : Agree r q
      agree = t.both_3.agree

      go : Searched r ⊎ (Searched r → ⊥) → Searched q ⊎ (Searched q → ⊥) → Alike r q ⊎ (Refusal 7 0 0 0 r × Searched q) ⊎ (Searched r × Refusal 7 0 0 0 q)
      go (inl h) (inl i) =
          let f = no_file chart rules (sweep_call lent lent' r) t.sweep_2 h in
          let g = no_file chart rules (guided_call given given' q) t.guided_2 i in
          inl (record {
            number = agree.number h i;
            file = f.0 ∙ sym g.0;
            place = f.1 ∙ sym g.1;
            cost = agree.cost h i;
            fewer = agree.fewer h i;
          })
      go (inl h) (inr i) = inr (inr (h, agree.guided_short h i))
      go (inr h) (inl i) = inr (inl (agree.sweep_short h i, i))
      go (inr h) (inr i) = inl (equal_alike r q (agree.refused h i))
