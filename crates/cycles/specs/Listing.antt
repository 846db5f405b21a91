-- The loop over a list: what holds before each turn, and that the call keeps its promise.
-- Assumes nothing.
use Rattle.std.specs.Prelude.{ℕ, ◌+◌, ◌*◌, ◌≤◌, ◌<◌, ◌≡◌, refl, Bool, true, false, cond, List, [], ◌∷◌, Ok, leb, length, get_or, set, drop, replicate}
use Rattle.std.proofs.Common.{sym, ◌∙◌, ap, ap₂, subst, arith, length-set, get_or-set_same, get_or-set_other, leb-true}
use Rattle.std.proofs.lemmas.List.{length-replicate}
use Rattle.definitions.specs.Basics.{every}
use Rattle.definitions.specs.Charts.{Chart}
use Rattle.definitions.specs.Diagrams.{Diagram, strict}
use Rattle.definitions.specs.Answers.{Load, ready, refused, read_files, with_work, load_work, work_fits, work_need, refusal, accepted}
use Rattle.definitions.specs.Promises.{CycleSlices, Cycled, no_cycle, Scratch, cycles_load, CyclesPromise, CyclesCall}
use Rattle.definitions.specs.declared.Cycle.{Cycle}
use Rattle.definitions.specs.declared.Shape.{Shape}
use Rattle.theory.specs.Basics.{true_not_false, pick_cases, same_or_not, either}
use Rattle.definitions.specs.Refusals.{number}
use Rattle.checks.specs.declared.answers.Refused.{Refused}
use Rattle.checks.specs.Refusing.{file_mark, refused_as}
use Rattle.checks.specs.Tables.{chart_in, diagram_in, pairs_in}
use Rattle.checks.specs.Ready.{Walk, width_is}
use Rattle.checks.specs.Outcome.{refused_not_ready, ready_left, ready_right}
use Rattle.guided_offers.specs.Work.{past_same, past_more}
use Rattle.guided_loop.specs.declared.turns.Slices.{Slices}
use Rattle.guided_loop.specs.Views.{SameLent}
use Rattle.guided_seek.specs.Seeks.{Prepared}
use Rattle.cycles.specs.Cycles.{Blank, lent, PreparesAs, Asking, Pasts, Answered}

-- ---- the checks

-- tables of zeros
pub blank : Blank (record { ends = replicate 1024 0; costs = replicate 1024 0 }) (replicate 512 0) (replicate 257 0) (replicate 256 0) (replicate 512 0)
blank = record {
  room = record {
    of_steps = record { ends = length-replicate {A = ℕ} 1024 0; costs = length-replicate {A = ℕ} 1024 0 };
    of_nodes = record { long = length-replicate {A = ℕ} 512 0 };
  };
  no_first = refl;
  no_row = refl;
  no_node = refl;
}

-- where all checks pass, the work slices are long enough
work_passed : (works : List ℕ) (o : Load) (c : Chart) (d : Diagram) → with_work works o ≡ ready c d → work_fits c d works ≡ true
work_passed works (refused number file place) c d e = absurd (refused_not_ready number file place c d e)
work_passed works (ready c' d') c d e =
    either (pick_cases _ _ _ _ e) (λ x. fits_at x.1 x.0) (λ x. absurd (refused_not_ready 7 0 0 c d x.1))
  where
    fits_at : ready c' d' ≡ ready c d → work_fits c' d' works ≡ true → work_fits c d works ≡ true
    fits_at q f = ap₂ (λ (i : Chart) (j : Diagram). work_fits i j works) (sym (ready_left c' d' c d q)) (sym (ready_right c' d' c d q)) ∙ f

pub ready_work : (s u works : List ℕ) (c : Chart) (d : Diagram) → load_work s u works ≡ ready c d → work_fits c d works ≡ true
unfolding load_work
ready_work s u works c d e = work_passed works (read_files strict s u) c d e

one_fits : (n a : ℕ) (rest : List ℕ) → every (leb n) (a ∷ rest) ≡ true → (n ≤ a) × (every (leb n) rest ≡ true)
one_fits n a rest = go (leb n a) refl
  where
    go : (b : Bool) → leb n a ≡ b → cond b (every (leb n) rest) false ≡ true → (n ≤ a) × (every (leb n) rest ≡ true)
    go true h e = (leb-true n a h, e)
    go false h e = absurd (true_not_false (sym e))

-- what each of six slices has room for
record AllFit (n : ℕ) (x : CycleSlices) : Type 0 where
  pub keys : n ≤ length x.keys
  pub via : n ≤ length x.via
  pub heap : n ≤ length x.heap
  pub pos : n ≤ length x.pos
  pub stack : n ≤ length x.stack
  pub log : n ≤ length x.log

all_fit : (n : ℕ) (x : CycleSlices) → every (leb n) (length x.keys ∷ length x.via ∷ length x.heap ∷ length x.pos ∷ length x.stack ∷ length x.log ∷ []) ≡ true → AllFit n x
all_fit n x e =
    let k = one_fits n (length x.keys) (length x.via ∷ length x.heap ∷ length x.pos ∷ length x.stack ∷ length x.log ∷ []) e in
    let v = one_fits n (length x.via) (length x.heap ∷ length x.pos ∷ length x.stack ∷ length x.log ∷ []) k.1 in
    let h = one_fits n (length x.heap) (length x.pos ∷ length x.stack ∷ length x.log ∷ []) v.1 in
    let p = one_fits n (length x.pos) (length x.stack ∷ length x.log ∷ []) h.1 in
    let t = one_fits n (length x.stack) (length x.log ∷ []) p.1 in
    let l = one_fits n (length x.log) [] t.1 in
    record { keys = k.0; via = v.0; heap = h.0; pos = p.0; stack = t.0; log = l.0 }

-- ---- the loop

-- each slice is as long as before
pub record Lengths (x x' : CycleSlices) : Type 0 where
  pub keys : length x'.keys ≡ length x.keys
  pub via : length x'.via ≡ length x.via
  pub heap : length x'.heap ≡ length x.heap
  pub pos : length x'.pos ≡ length x.pos
  pub stack : length x'.stack ≡ length x.stack
  pub log : length x'.log ≡ length x.log

-- the same slices are as long
pub lengths_same : (s s' : Slices) → SameLent s s' → Lengths (lent s) (lent s')
lengths_same s s' e = record { keys = e.0.1; via = e.1.1; heap = e.2.1; pos = e.3.1; stack = e.4.1; log = e.5.1 }

-- the first i entries of the list are answered, the others are as they were
pub record Going (z : Shape) (on : Walk) (list : List Cycle) (x : CycleSlices) (list' : List Cycle) (x' : CycleSlices) (i : ℕ) : Type 0 where
  pub long : length list' ≡ length list
  pub lengths : Lengths x x'
  pub past : Pasts (pairs_in z) x x'
  pub answered : (k : ℕ) → k < i → Cycled (chart_in z on.read) (diagram_in z on.read) (get_or list k no_cycle) (get_or list' k no_cycle)
  pub others : (k : ℕ) → i ≤ k → get_or list' k no_cycle ≡ get_or list k no_cycle

pub going_none : {z : Shape} {on : Walk} {list : List Cycle} {x : CycleSlices} → Going z on list x list x 0
going_none = record {
  long = refl;
  lengths = record { keys = refl; via = refl; heap = refl; pos = refl; stack = refl; log = refl };
  past = record { work_past = past_same; log_past = refl };
  answered = λ k h. absurd (omega arith);
  others = λ k h. refl;
}

module _ {z : Shape} {on : Walk} {list : List Cycle} {x : CycleSlices} {list' : List Cycle} {x' : CycleSlices} {i : ℕ} (g : Going z on list x list' x' i) where
  abbrev C : Chart
  C = chart_in z on.read

  abbrev D : Diagram
  D = diagram_in z on.read

  need : {byNode : List ℕ} → Prepared z on byNode → work_need C D ≡ pairs_in z
  need p = ap (λ (k : ℕ). z.stages * k) (width_is z on.read p.ready.tables)

  -- what the next entry's search asks
  pub going_asks : (s u byNode : List ℕ) → PreparesAs (cycles_load s u x) on byNode (Ok z) → Asking z on byNode x'
  going_asks s u byNode h =
      let fit = all_fit (work_need C D) x (ready_work s u _ C D h.0) in
      let e = need h.1 in
      let l = g.lengths in
      record {
        prepared = h.1;
        space = record {
          keys_fit = omega (arith, e, fit.keys, l.keys);
          via_fits = omega (arith, e, fit.via, l.via);
          heap_fits = omega (arith, e, fit.heap, l.heap);
          pos_fits = omega (arith, e, fit.pos, l.pos);
          stack_fits = omega (arith, e, fit.stack, l.stack);
          log_fits = omega (arith, e, fit.log, l.log);
        };
      }

  -- a turn
  pub going_more : {y : Cycle} {x'' : CycleSlices} → i < length list → Answered z on.read x' x'' (get_or list' i no_cycle) y → Lengths x' x''
      → Going z on list x (set list' i y) x'' (i + 1)
  going_more {y} less a l = record {
    long = length-set list' i y ∙ g.long;
    lengths = record {
      keys = l.keys ∙ g.lengths.keys;
      via = l.via ∙ g.lengths.via;
      heap = l.heap ∙ g.lengths.heap;
      pos = l.pos ∙ g.lengths.pos;
      stack = l.stack ∙ g.lengths.stack;
      log = l.log ∙ g.lengths.log;
    };
    past = record { work_past = past_more g.past.work_past a.past.work_past; log_past = a.past.log_past ∙ g.past.log_past };
    answered = λ k h. either (same_or_not k i)
        (λ (q : k ≡ i). rw (q, get_or-set_same list' i y no_cycle (omega (arith, g.long, less))) (rw (g.others i (omega arith)) at a.cycled))
        (λ q. rw (get_or-set_other list' i k y no_cycle q) (g.answered k (omega arith)));
    others = λ k h. get_or-set_other list' i k y no_cycle (λ q. omega arith) ∙ g.others k (omega arith);
  }

  -- ---- the end

  scratch : {byNode : List ℕ} → Prepared z on byNode → (w w' : List ℕ) → length w' ≡ length w → drop (pairs_in z) w' ≡ drop (pairs_in z) w → Scratch (ready C D) w w'
  scratch p w w' e q = (e, ap (λ (k : ℕ). drop k w') (need p) ∙ q ∙ ap (λ (k : ℕ). drop k w) (sym (need p)))

  -- every entry is answered
  pub going_all : (s u byNode : List ℕ) → PreparesAs (cycles_load s u x) on byNode (Ok z) → length list ≤ i → CyclesCall s u x x' list list' (accepted 0 0 0)
  going_all s u byNode h over =
      let p = h.1 in
      let w = g.past.work_past in
      let l = g.lengths in
      subst (λ (o : Load). CyclesPromise o x x' list list' (accepted 0 0 0)) (sym h.0) (record {
        listed = (refl, record { long = g.long; each = λ k h. g.answered k (omega arith) });
        keys = scratch p x.keys x'.keys l.keys w.keys_past;
        via = scratch p x.via x'.via l.via w.via_past;
        heap = scratch p x.heap x'.heap l.heap w.heap_past;
        pos = scratch p x.pos x'.pos l.pos w.pos_past;
        stack = scratch p x.stack x'.stack l.stack w.stack_past;
        log = scratch p x.log x'.log l.log g.past.log_past;
      })

-- a refusal leaves everything
pub none_answered : (s u : List ℕ) (x : CycleSlices) (list : List Cycle) (r : Refused) → cycles_load s u x ≡ refused_as r
    → CyclesCall s u x x list list (refusal (number r.refusal) (file_mark r.file) r.place 0)
none_answered s u x list r is =
    subst (λ (o : Load). CyclesPromise o x x list list (refusal (number r.refusal) (file_mark r.file) r.place 0)) (sym is)
    (record { listed = (refl, refl); keys = refl; via = refl; heap = refl; pos = refl; stack = refl; log = refl })
