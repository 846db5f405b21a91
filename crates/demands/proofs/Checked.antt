-- What the checks of a call give: `load` is `ready c d` exactly where all checks pass for the chart c and the diagram d, and else it is the one refusal.
-- Assumes nothing.
use Rattle.std.specs.Prelude.{ℕ, zero, suc, ◌-◌, ◌≤◌, ◌<◌, ◌≡◌, refl, Bool, true, false, cond, List, [], ◌∷◌, map, leb, length, get_or}
use Rattle.std.proofs.Common.{sym, ◌∙◌, ap₂, arith, le-leb, leb-true}
use Rattle.definitions.specs.Basics.{every}
use Rattle.definitions.specs.Charts.{Chart, read_chart}
use Rattle.definitions.specs.Diagrams.{Diagram}
use Rattle.definitions.specs.Answers.{ready, refused, space_fits}
use Rattle.theory.specs.Basics.{both, either, same_or_not, true_not_false}
use Rattle.checks.specs.Outcome.{chart_refuses, rules_refuse, space_refuses, all_ready, refused_not_ready, ready_files}
use Rattle.demands.specs.Demands.{Call, rules_read, Files, need, Space, Passes}
use Rattle.demands.specs.Checked.{load_of, Judged, chart_bad, rules_bad, too_short, all_pass}

-- ---- the space

every_long : (n : ℕ) (ws : List (List ℕ)) → every (leb n) (map length ws) ≡ true → (i : ℕ) → i < length ws → n ≤ length (get_or ws i [])
every_long n [] e i h = absurd (omega arith)
every_long n (w ∷ ws) e i h = go (leb n (length w)) refl e i h (every_long n ws)
  where
    go : (b : Bool) → leb n (length w) ≡ b → cond b (every (leb n) (map length ws)) false ≡ true → (i : ℕ) → i < suc (length ws)
        → (every (leb n) (map length ws) ≡ true → (i : ℕ) → i < length ws → n ≤ length (get_or ws i [])) → n ≤ length (get_or (w ∷ ws) i [])
    go true p e zero h k = leb-true n (length w) p
    go true p e (suc i) h k = k e i (omega arith)
    go false p e i h k = absurd (true_not_false (sym e))

long_every : (n : ℕ) (ws : List (List ℕ)) → ((i : ℕ) → i < length ws → n ≤ length (get_or ws i [])) → every (leb n) (map length ws) ≡ true
long_every n [] f = refl
long_every n (w ∷ ws) f = simp (le-leb n (length w) (f 0 (omega arith)), long_every n ws (λ i h. f (suc i) (omega arith)))

module _ (x : Call) (c : Chart) (d : Diagram) where
  space_fits_lem : Space x c d → space_fits c d (map length x.works) (length x.plan) ≡ true
  space_fits_lem s = simp (long_every (need c d) x.works s.works, le-leb (c.stages - 1) (length x.plan) s.plan)

  fits_space : space_fits c d (map length x.works) (length x.plan) ≡ true → Space x c d
  fits_space e =
      let t = both (every (leb (need c d)) (map length x.works)) (leb (c.stages - 1) (length x.plan)) e in
      record { works = every_long (need c d) x.works t.0; plan = leb-true (c.stages - 1) (length x.plan) t.1 }

-- ---- the one outcome

module _ (chart rules : List ℕ) (x : Call) where
  abbrev C : Chart
  C = (read_chart chart).chart

  abbrev D : Diagram
  D = (rules_read chart rules).diagram

  held : (read_chart chart).number ≡ 0 → (rules_read chart rules).number ≡ 0 → Files chart rules C D
  held p q = record { chart_passes = p; rules_pass = q; chart_held = refl; rules_held_lem = refl }

  pub judged : Judged chart rules x
  judged =
      either (same_or_not (read_chart chart).number 0)
      (λ p. either (same_or_not (rules_read chart rules).number 0) (λ q. go p q (space_fits C D (map length x.works) (length x.plan)) refl)
      (λ q. rules_bad p q (rules_refuse chart rules (map length x.works) (length x.plan) p q)))
      (λ p. chart_bad p (chart_refuses chart rules (map length x.works) (length x.plan) p))
    where
      go : (read_chart chart).number ≡ 0 → (rules_read chart rules).number ≡ 0 → (b : Bool) → space_fits C D (map length x.works) (length x.plan) ≡ b → Judged chart rules x
      go p q true e = all_pass (record { files = held p q; space = fits_space x C D e }) (all_ready chart rules (map length x.works) (length x.plan) p q e)
      go p q false e =
          too_short (held p q) (λ s. true_not_false (sym (space_fits_lem x C D s) ∙ e)) (space_refuses chart rules (map length x.works) (length x.plan) p q e)

  pub space_load : (c : Chart) (d : Diagram) → Files chart rules c d → (Space x c d → ⊥) → load_of chart rules x ≡ refused 7 0 0
  space_load c d f n = go judged
    where
      go : Judged chart rules x → load_of chart rules x ≡ refused 7 0 0
      go (chart_bad p q) = absurd (p f.chart_passes)
      go (rules_bad p q u) = absurd (q f.rules_pass)
      go (too_short h s q) = q
      go (all_pass a q) = absurd (n (rw (← f.chart_held, ← f.rules_held_lem) a.space))

  -- ---- ready exactly where all checks pass

  pub passes_ready : (c : Chart) (d : Diagram) → Passes chart rules x c d → load_of chart rules x ≡ ready c d
  passes_ready c d a =
      let f = a.files in
      all_ready chart rules (map length x.works) (length x.plan) f.chart_passes f.rules_pass
      (ap₂ (λ (i : Chart) (j : Diagram). space_fits i j (map length x.works) (length x.plan)) f.chart_held f.rules_held_lem ∙ space_fits_lem x c d a.space)
      ∙ ap₂ (λ (i : Chart) (j : Diagram). ready i j) f.chart_held f.rules_held_lem

  pub ready_passes : (c : Chart) (d : Diagram) → load_of chart rules x ≡ ready c d → Passes chart rules x c d
  ready_passes c d e = go judged
    where
      go : Judged chart rules x → Passes chart rules x c d
      go (chart_bad p q) = absurd (refused_not_ready _ _ _ c d (sym q ∙ e))
      go (rules_bad p q u) = absurd (refused_not_ready _ _ _ c d (sym u ∙ e))
      go (too_short f s q) = absurd (refused_not_ready _ _ _ c d (sym q ∙ e))
      go (all_pass a q) =
          let t = ready_files chart rules (map length x.works) (length x.plan) c d e in
          rw (t.0, t.1) a
