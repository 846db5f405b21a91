-- A chart that was read from a file is read again from the file that is written of it; and so is the chart of the same steps with their groups named. What is asked
-- of the chart holds of each that is accepted (`chart_accepted` of `chart`).
-- Assumes nothing.
use Rattle.std.specs.Prelude.{ℕ, zero, suc, ◌+◌, ◌%◌, ◌≤◌, ◌<◌, ◌≡◌, refl, Bool, true, false, List, [], ◌∷◌, map, ◌⊎◌, eqb, length, get_or}
use Rattle.std.proofs.Common.{sym, ◌∙◌, ap, ap₂, subst, inl, inr, arith, eq-eqb}
use Rattle.std.proofs.Math.Decide.{dec_lt}
use Rattle.definitions.specs.Basics.{pick}
use Rattle.definitions.specs.Charts.{Chart, ChartStep, plain, grouped, no_step, rounded, read_chart}
use Rattle.definitions.specs.Bytes.{step_back, steps_back, chart_bytes}
use Rattle.definitions.specs.Ways.{Graph}
use Rattle.definitions.specs.Plans.{graph}
use Rattle.theory.specs.Limits.{Valid, Small, Ticked, OneKind}
use Rattle.theory.specs.Basics.{pick_true}
use Rattle.theory.specs.Kinds.{named, named_chart, named_graph}
use Rattle.field_writer.specs.Sizes.{OfKind}
use Rattle.field_writer.specs.RoundTrip.{chart_read_back}

-- a step that is read back as it is: it costs whole ticks, and names its group or is of the group of its own number
record Stays (e : ℕ) (x : ChartStep) : Type 0 where
  pub ticks : x.cost % 50 ≡ 0
  pub group : (x.tag ≡ grouped) ⊎ (x.group ≡ e)

step_stays : (e : ℕ) (x : ChartStep) → Stays e x → step_back e x ≡ x
unfolding pick
step_stays e x s = λ i. record { tag = x.tag; from = x.from; to = x.to; cost = same_cost i; group = go s.group i }
  where
    same_cost : rounded x.cost ≡ x.cost
    same_cost = omega (arith, s.ticks)

    choice : (b : Bool) → x.group ≡ e → pick b x.group e ≡ x.group
    choice true q = refl
    choice false q = sym q

    go : (x.tag ≡ grouped) ⊎ (x.group ≡ e) → pick (eqb x.tag grouped) x.group e ≡ x.group
    go (inl q) = pick_true (eqb x.tag grouped) x.group e (eq-eqb x.tag grouped q)
    go (inr q) = choice (eqb x.tag grouped) q

steps_stay : (e : ℕ) (l : List ChartStep) → ((k : ℕ) → k < length l → Stays (e + k) (get_or l k no_step)) → steps_back e l ≡ l
steps_stay e [] all = refl
steps_stay e (x ∷ l) all =
    let first : Stays e x = let z : e + 0 ≡ e = omega arith in subst (λ (i : ℕ). Stays i x) z (all 0 (omega arith)) in
    ap₂ (λ (y : ChartStep) (r : List ChartStep). y ∷ r) (step_stays e x first)
    (steps_stay (suc e) l (λ k h. let z : e + suc k ≡ suc e + k = omega arith in subst (λ (i : ℕ). Stays i (get_or l k no_step)) z (all (suc k) (omega arith))))

-- the kind of all its steps
kind_of : (c : Chart) → OneKind c → (kind : ℕ) × OfKind c kind
kind_of c k = go (dec_lt 0 (length c.steps))
  where
    go : Dec (0 < length c.steps) → (kind : ℕ) × OfKind c kind
    go (yes h) = ((get_or c.steps 0 no_step).tag, record { known = k.tags 0 h; alike = λ e i. k.alike e 0 i h })
    go (no h) = (plain, record { known = inl refl; alike = λ e i. absurd (omega arith) })

module _ (c : Chart) (v : Valid (graph c)) (small : Small c) (ticked : Ticked (graph c)) (kinds : OneKind c) where
  pub read_again : read_chart (chart_bytes c) ≡ record { number = 0; place = 0; chart = c }
  read_again =
      let k = kind_of c kinds in
      chart_read_back c v small k.0 k.1 ∙ ap (λ (l : List ChartStep). record { number = 0; place = 0; chart = record { stages = c.stages; start = c.start; end = c.end; steps = l } }) (steps_stay 0 c.steps stays)
    where
      stays : (e : ℕ) → e < length c.steps → Stays (0 + e) (get_or c.steps e no_step)
      stays e h = record { ticks = ticked e h; group = go (kinds.tags e h) }
        where
          go : ((get_or c.steps e no_step).tag ≡ plain) ⊎ ((get_or c.steps e no_step).tag ≡ grouped) → ((get_or c.steps e no_step).tag ≡ grouped) ⊎ ((get_or c.steps e no_step).group ≡ 0 + e)
          go (inl q) = inr (omega (arith, kinds.alone e h q))
          go (inr q) = inl q

-- all steps of the chart that names its groups are grouped
named_tags : (l : List ChartStep) (e : ℕ) → e < length (map named l) → (get_or (map named l) e no_step).tag ≡ grouped
named_tags [] e h = absurd (omega arith)
named_tags (x ∷ l) zero h = refl
named_tags (x ∷ l) (suc e) h = named_tags l e (omega arith)

module _ (c : Chart) (v : Valid (graph c)) (small : Small c) (ticked : Ticked (graph c)) where
  named_kinds : OneKind (named_chart c)
  named_kinds = record {
    tags = λ e h. inr (named_tags c.steps e h);
    alike = λ e f h i. named_tags c.steps e h ∙ sym (named_tags c.steps f i);
    alone = λ e h q. absurd (let z : ◌≡◌ {A = ℕ} 2 3 = sym q ∙ named_tags c.steps e h in omega arith);
  }

  pub named_again : read_chart (chart_bytes (named_chart c)) ≡ record { number = 0; place = 0; chart = named_chart c }
  named_again =
      read_again (named_chart c) (subst Valid (sym (named_graph c)) v) (subst (λ (g : Graph). (e : ℕ) → e < g.count → g.cost e ≤ 1000000) (sym (named_graph c)) small)
      (subst Ticked (sym (named_graph c)) ticked) named_kinds
