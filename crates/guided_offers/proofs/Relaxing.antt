-- What `relax` leaves, on each of its ways.
-- Assumes nothing.
use Prim.Native.Nat.{ℕ, ◌≤◌, ◌<◌}
use mathlib.Core.Path.{◌≡◌, refl, ◌∙◌, ap}
use mathlib.Core.List.{List}
use native.Mathlib.Omega.{arith}
use lib.ListN.{length, get_or, set, drop}
use lib.Seq.{drop-set-lt}
use Rattle.definitions.specs.Basics.{NONE}
use Rattle.queue.specs.declared.Counts.{Counts}
use Rattle.queue.specs.Queue.{state, Contains, Inserting, Inserted, Decreasing, Decreased}
use Rattle.queue.proofs.Facts.{keys_fit}
use Rattle.guided_model.specs.Moves.{relaxed_none, relaxed_falls}
use Rattle.guided_offers.specs.Work.{Work, work, queue_in, marks_in, kept_same, Offering, Relaxes}

module _ {floor y v : ℕ} {x : Work} {c : Counts} (o : Offering floor y v x c) where
  abbrev p : ℕ
  p = o.p

  -- y has no higher key
  pub relax_none : {mark : ℕ} → get_or x.keys y 0 ≤ v → Relaxes p floor y v mark x c x c
  relax_none {mark} h = record { relaxed = relaxed_none y v mark (marks_in x c) h; kept = kept_same o.queue }

  pub relax_fits : (y < length x.keys) × (y < length x.via)
  relax_fits = (omega (arith, o.pair, keys_fit o.queue), omega (arith, o.pair, o.fits))

  module _ {mark : ℕ} (less : v < get_or x.keys y 0) where
    -- y is opened
    pub relax_inserts : {keys' heap' pos' stack' : List ℕ} {c' : Counts} → Inserted p floor y v (queue_in x c) (state keys' heap' pos' stack' c')
        → Relaxes p floor y v mark x c (work keys' (set x.via y mark) heap' pos' stack') c'
    relax_inserts {keys'} {heap'} {pos'} {stack'} {c'} i = record {
      relaxed = relaxed_falls y v mark (marks_in x c) (marks_in (work keys' (set x.via y mark) heap' pos' stack') c')
          relax_fits.0 relax_fits.1 less o.low i.stored refl i.here i.kept i.only;
      kept = record {
        queue = i.queue;
        past = record {
          keys_past = ap (drop p) i.stored ∙ drop-set-lt p x.keys y v o.pair;
          via_past = drop-set-lt p x.via y mark o.pair;
          heap_past = i.past.heap_past;
          pos_past = i.past.pos_past;
          stack_past = i.past.stack_past;
        };
      };
    }

    -- y is moved up
    pub relax_decreases : {keys' heap' pos' stack' : List ℕ} {c' : Counts} → Contains (queue_in x c) y → stack' ≡ x.stack → c' ≡ c
        → Decreased p floor y v (queue_in x c) (state keys' heap' pos' x.stack c)
        → Relaxes p floor y v mark x c (work keys' (set x.via y mark) heap' pos' stack') c'
    relax_decreases {keys'} {heap'} {pos'} w es ec d = rw (es, ec) (record {
      relaxed = relaxed_falls y v mark (marks_in x c) (marks_in (work keys' (set x.via y mark) heap' pos' x.stack) c)
          relax_fits.0 relax_fits.1 less o.low d.stored refl (d.kept y w) d.kept (λ k i n. d.only k i);
      kept = record {
        queue = d.queue;
        past = record {
          keys_past = ap (drop p) d.stored ∙ drop-set-lt p x.keys y v o.pair;
          via_past = drop-set-lt p x.via y mark o.pair;
          heap_past = d.past.heap_past;
          pos_past = d.past.pos_past;
          stack_past = refl;
        };
      };
    })

  -- y is not open where it has no key
  abbrev pub relax_opens : get_or x.keys y 0 ≡ NONE → Inserting floor y v (queue_in x c)
  relax_opens n = record { p = p; queue = o.queue; pair = o.pair; at_least = o.above; outside = o.offerable.outside n }

  -- y is open where it has a key
  abbrev pub relax_lowers : v < get_or x.keys y 0 → get_or x.keys y 0 ≤ NONE → (get_or x.keys y 0 ≡ NONE → ⊥) → Decreasing y v (queue_in x c)
  relax_lowers less b n = record { p = p; floor = floor; queue = o.queue; here = o.offerable.inside less (omega arith); above = o.above; lower = less }
