-- From the outcome of the checks to the promise of `guided`.
-- Assumes nothing.
use Prim.Native.Nat.{ℕ, ◌*◌, ◌≤◌}
use mathlib.Core.Path.{◌≡◌, refl, sym, ◌∙◌, ap, subst}
use mathlib.Core.List.{List, [], ◌∷◌}
use native.Mathlib.Omega.{arith}
use lib.ListN.{length, drop}
use Rattle.definitions.specs.Answers.{Load, ready, load, work_need, plan_need, refusal}
use Rattle.definitions.specs.Promises.{Scratch, GuidedSlices, guided_load, GuidedPromise, GuidedCall}
use Rattle.definitions.specs.declared.Answer.{Answer}
use Rattle.definitions.specs.declared.Shape.{Shape}
use Rattle.definitions.specs.Refusals.{number}
use Rattle.checks.specs.declared.answers.Refused.{Refused}
use Rattle.checks.specs.Refusing.{file_mark, refused_as}
use Rattle.checks.specs.Tables.{Read, chart_in, diagram_in, Tables, pairs_in}
use Rattle.checks.specs.Ready.{width_is}
use Rattle.checks.specs.Outcome.{shortest, load_shortest, ready_space}
use Rattle.guided.specs.Runs.{Room, Runs}

-- a refusal leaves everything
kept_refused : (r : Refused) (x : GuidedSlices) (a : Answer) → a ≡ refusal (number r.refusal) (file_mark r.file) r.place 0 → GuidedPromise (refused_as r) x x a
kept_refused r x a e = record {
  guided = (e, refl, refl);
  keys = refl;
  via = refl;
  heap = refl;
  pos = refl;
  stack = refl;
}

-- the files s and u, the slices x, of whose work slices the shortest has `lent` entries
module _ (s u : List ℕ) (x : GuidedSlices) {lent : ℕ}
    (ew : lent ≡ shortest (length x.keys) (length x.via ∷ length x.heap ∷ length x.pos ∷ length x.stack ∷ length x.log ∷ [])) where
  judged : guided_load s u x ≡ load s u (lent ∷ []) (length x.plan)
  judged =
      load_shortest s u (length x.keys) (length x.via ∷ length x.heap ∷ length x.pos ∷ length x.stack ∷ length x.log ∷ []) (length x.plan)
      ∙ ap (λ (k : ℕ). load s u (k ∷ []) (length x.plan)) (sym ew)

  pub call_refused : (r : Refused) {a : Answer} → load s u (lent ∷ []) (length x.plan) ≡ refused_as r → a ≡ refusal (number r.refusal) (file_mark r.file) r.place 0 → GuidedCall s u x x a
  call_refused r {a} is e = subst (λ (o : Load). GuidedPromise o x x a) (sym (judged ∙ is)) (kept_refused r x a e)

  module _ {z : Shape} {t : Read} (is : load s u (lent ∷ []) (length x.plan) ≡ ready (chart_in z t) (diagram_in z t)) (tables : Tables z t) where
    need : work_need (chart_in z t) (diagram_in z t) ≡ pairs_in z
    need = ap (λ (k : ℕ). z.stages * k) (width_is z t tables)

    enough : (work_need (chart_in z t) (diagram_in z t) ≤ lent) × (plan_need (chart_in z t) ≤ length x.plan)
    enough = ready_space s u lent (length x.plan) (chart_in z t) (diagram_in z t) is

    -- what `run` asks
    pub call_room : Room z x
    call_room = record {
      space = record {
        keys_fit = omega (arith, need, enough);
        via_fits = omega (arith, need, enough);
        heap_fits = omega (arith, need, enough);
        pos_fits = omega (arith, need, enough);
        stack_fits = omega (arith, need, enough);
        log_fits = omega (arith, need, enough);
      };
      plan_fits = enough.1;
    }

    scratch : (w w' : List ℕ) → length w' ≡ length w → drop (pairs_in z) w' ≡ drop (pairs_in z) w → Scratch (ready (chart_in z t) (diagram_in z t)) w w'
    scratch w w' e p = (e, ap (λ (k : ℕ). drop k w') need ∙ p ∙ ap (λ (k : ℕ). drop k w) (sym need))

    pub call_done : {y : GuidedSlices} {r : Answer} → Runs z t x y r → length y.keys ≡ length x.keys → length y.via ≡ length x.via → length y.heap ≡ length x.heap
        → length y.pos ≡ length x.pos → length y.stack ≡ length x.stack → GuidedCall s u x y r
    call_done {y} {r} m lk lv lh lp ls =
        subst (λ (o : Load). GuidedPromise o x y r) (sym (judged ∙ is)) (record {
          guided = (m.outcome, m.logged);
          keys = scratch x.keys y.keys lk m.past.keys_past;
          via = scratch x.via y.via lv m.past.via_past;
          heap = scratch x.heap y.heap lh m.past.heap_past;
          pos = scratch x.pos y.pos lp m.past.pos_past;
          stack = scratch x.stack y.stack ls m.past.stack_past;
        })
