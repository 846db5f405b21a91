-- Before the first turn: the block of keys of the pair of start and root is filled, and the pair of start and root is opened.
-- Assumes nothing.
use Prim.Native.Nat.{ℕ, ◌+◌, ◌*◌, ◌≤◌, ◌<◌}
use mathlib.Core.Path.{◌≡◌, refl, sym, ◌∙◌, ap, subst}
use mathlib.Core.Bool.{Bool, true, false}
use mathlib.Core.List.{List}
use native.Mathlib.Omega.{arith}
use lib.ListN.{length, get_or, set, drop, replicate, length-replicate, get_or-replicate}
use lib.Seq.{drop-set-lt}
use Rattle.definitions.specs.Charts.{group_count}
use Rattle.definitions.specs.Basics.{NONE}
use Rattle.definitions.specs.Ways.{Graph}
use Rattle.definitions.specs.Pairs.{Automaton, stage_of, node_of}
use Rattle.definitions.specs.declared.Shape.{Shape}
use Rattle.theory.specs.Limits.{Sound}
use Rattle.theory.specs.Basics.{either, same_or_not, true_not_false}
use Rattle.theory.specs.Pairs.{pair_inside, pair_of, node_of_inside}
use Rattle.theory.specs.Product.{start_pair}
use Rattle.queue.specs.declared.Counts.{Counts}
use Rattle.queue.specs.Queue.{state, Contains, Queue, Empty, Inserting, Inserted}
use Rattle.queue.proofs.Facts.{queue_empty, contains_none}
use Rattle.checks.specs.Tables.{chart_in, diagram_in, Tables, pairs_in}
use Rattle.checks.specs.Ready.{Walk, graph_in, automaton_in, width_is, few_stages, few_nodes, row_start_lem}
use Rattle.guided_model.specs.State.{Openable}
use Rattle.guided_model.specs.Charts.{Running, running_start}
use Rattle.guided_offers.specs.Estimates.{Estimates}
use Rattle.guided_keys.specs.Fills.{block_of, is_filled, filled_block, BlockOpened}
use Rattle.guided_keys.specs.Seen.{seen, seen_long, seen_fresh, seen_set, opened_seen}
use Rattle.guided_offers.specs.Work.{Work, work, queue_in, Past, past_same, past_more}
use Rattle.guided_expand.specs.Progress.{Progress, progress, queue_of, seen_in}
use Rattle.guided_expand.specs.Guides.{Guides, few_pairs}
use Rattle.guided_loop.specs.Search.{Start, Begun, Searched}
use Rattle.guided_ends.specs.declared.Ended.{Ended}

-- a queue that holds no pair
pub no_pairs : Empty (record { heaped = 0; top = 0 })
no_pairs = record { none_held = refl; none_stacked = refl }

module _ {z : Shape} {on : Walk} {t : Estimates} (by : Guides z on t) where
  abbrev pub g : Graph
  g = graph_in z on.read

  abbrev pub a : Automaton
  a = automaton_in z on.read

  abbrev pub tables : Tables z on.read
  tables = by.ready.tables

  pub sound : Sound (group_count (chart_in z on.read)) (diagram_in z on.read)
  sound = tables.sound

  pub width : a.size ≡ z.nodes + 2
  width = width_is z on.read tables

  pub narrow : z.nodes + 2 ≤ 512
  narrow = omega (arith, few_nodes z on.read tables)

  pub pairs_are : z.stages * a.size ≡ pairs_in z
  pairs_are = ap (λ (k : ℕ). z.stages * k) width

  pub start_small : z.start.0 < 256
  start_small = omega (arith, tables.valid.start_inside, few_stages z on.read tables)

  -- the number that the code finds for the pair of start and root
  pub begin_is : {begin : ℕ} → begin ≡ get_or on.row z.start.0 0 + z.root.0 → begin ≡ start_pair g a
  begin_is e =
      omega (arith, e, row_start_lem z on by.ready z.start.0 tables.valid.start_inside, ap (λ (k : ℕ). z.start.0 * k) width)

module _ {z : Shape} {on : Walk} {t : Estimates} {rest : ℕ} {x : Work} {log : List ℕ} (b : Start z on t rest x log) where
  abbrev by : Guides z on t
  by = b.by

  -- no block is filled
  abbrev none_filled : List Bool
  none_filled = replicate 1024 false

  module _ {begin : ℕ} (e : begin ≡ get_or on.row z.start.0 0 + z.root.0) where
    pub begins : begin ≡ start_pair (g by) (a by)
    begins = begin_is by e

    pub begin_inside : begin < pairs_in z
    begin_inside =
        omega (arith, begins, pairs_are by, pair_inside (g by) (a by) z.start.0 z.root.0 (tables by).valid.start_inside (sound by).root_inside)

    -- that of the pair of start and root can be
    pub begin_block : (begin < pairs_in z) × (pairs_in z ≤ 131072) × (pairs_in z ≤ length x.keys) × (length none_filled ≡ 1024)
    begin_block = (begin_inside, few_pairs by.ready, b.space.keys_fit, length-replicate {A = Bool} 1024 false)

  module _ {begin : ℕ} (e : begin ≡ get_or on.row z.start.0 0 + z.root.0) {keys₁ : List ℕ} {filled : List Bool} (long : length keys₁ ≡ length x.keys)
      (o : BlockOpened begin (pairs_in z) x.keys none_filled keys₁ filled) {c : Counts} (no : Empty c) where
    abbrev x₁ : Work
    x₁ = work keys₁ x.via x.heap x.pos x.stack

    keys_fit : pairs_in z ≤ length keys₁
    keys_fit = omega (arith, b.space.keys_fit)

    pub begin_queue : Queue (pairs_in z) 0 (queue_in x₁ c)
    begin_queue = queue_empty no (omega (arith, few_pairs by.ready)) keys_fit b.space.heap_fits b.space.pos_fits b.space.stack_fits

    abbrev pub begin_asks : Inserting 0 begin rest (queue_in x₁ c)
    begin_asks = record { p = pairs_in z; queue = begin_queue; pair = begin_inside e; at_least = omega arith; outside = λ w. contains_none begin_queue no.none_held w }

    fresh : (k : ℕ) → k < pairs_in z → is_filled (pairs_in z) none_filled k ≡ false
    fresh k i = go (is_filled (pairs_in z) none_filled k) refl
      where
        go : (v : Bool) → is_filled (pairs_in z) none_filled k ≡ v → is_filled (pairs_in z) none_filled k ≡ false
        go true q =
            absurd (true_not_false (sym (filled_block (pairs_in z) none_filled k q) ∙ get_or-replicate {A = Bool} 1024 (block_of k) false false (omega (arith, few_pairs by.ready))))
        go false q = q

    -- no pair that may be opened has a key
    clear : (k : ℕ) → Openable (g by) (a by) by.h k → get_or (seen (pairs_in z) filled keys₁) k 0 ≡ NONE
    clear k may =
        let s = stage_of (a by) k in
        let some-nodes : 0 < (a by).size = omega (arith, width by) in
        let in-chart = b.inside s (node_of (a by) k) may.1.0 may.1.1 in
        let within = pair_inside (g by) (a by) s (node_of (a by) k) in-chart (node_of_inside (a by) k some-nodes) in
        let i : k < pairs_in z = omega (arith, pairs_are by, pair_of (a by) k, within) in
        opened_seen long o k ∙ seen_fresh (pairs_in z) none_filled x.keys k (omega (arith, b.space.keys_fit)) (fresh k i)

    module _ {keys' heap' pos' stack' : List ℕ} {c' : Counts}
        (inserted : (q : Inserting 0 begin rest (queue_in x₁ c)) → Inserted q.p 0 begin rest (queue_in x₁ c) (state keys' heap' pos' stack' c')) where
      pub first_opened : Inserted (pairs_in z) 0 begin rest (queue_in x₁ c) (state keys' heap' pos' stack' c')
      first_opened = inserted begin_asks

      abbrev begun : Progress
      begun = progress (work keys' x.via heap' pos' stack') filled c'

      only_begin : (k : ℕ) → Contains (queue_of begun) k → k ≡ begin
      only_begin k w = either (same_or_not k begin) (λ q. q) (λ q. absurd (contains_none begin_queue no.none_held (first_opened.only k w q)))

      stored : seen (pairs_in z) filled keys' ≡ set (seen (pairs_in z) filled keys₁) (start_pair (g by) (a by)) rest
      stored =
          ap (seen (pairs_in z) filled) (first_opened.stored ∙ ap (λ (k : ℕ). set keys₁ k rest) (begins e))
          ∙ seen_set (pairs_in z) filled keys₁ (start_pair (g by) (a by)) rest (omega (arith, begins e, begin_inside e, keys_fit))
          (subst (λ (k : ℕ). is_filled (pairs_in z) filled k ≡ true) (begins e) o.opened)

      pub begin_running : Running (chart_in z on.read) (diagram_in z on.read) by.h (seen_in (pairs_in z) begun) log log 0 0
      begin_running =
          running_start (chart_in z on.read) (diagram_in z on.read) (sound by) by.guide (seen (pairs_in z) filled keys₁) log (seen_in (pairs_in z) begun) rest b.has clear
          (omega (arith, begins e, begin_inside e, keys_fit, seen_long (pairs_in z) filled keys₁)) stored
          (subst (Contains (queue_of begun)) (begins e) first_opened.here) (λ k w. only_begin k w ∙ begins e) (omega (arith, pairs_are by, b.space.log_fits))

      -- the loop may begin
      abbrev pub begin_begun : Begun z on t begin begun log 0
      begin_begun = record {
        by = b.by;
        begins = begins e;
        turning = record {
          queue = first_opened.queue;
          fits = b.space.via_fits;
          blocks = o.long ∙ length-replicate {A = Bool} 1024 false;
          running = begin_running;
          past = past_same;
        };
      }

      begin_past : Past (pairs_in z) x begun.slices
      begin_past = record {
        keys_past = ap (drop (pairs_in z)) first_opened.stored ∙ drop-set-lt (pairs_in z) keys₁ begin rest (begin_inside e) ∙ o.past;
        via_past = refl;
        heap_past = first_opened.past.heap_past;
        pos_past = first_opened.past.pos_past;
        stack_past = first_opened.past.stack_past;
      }

      pub begin_searched : {x'' : Work} {log'' : List ℕ} {r : Ended} → Searched b.by begun.slices log x'' log'' r → Searched b.by x log x'' log'' r
      begin_searched s = record { goal = s.goal; no_goal = s.no_goal; past = past_more begin_past s.past }

-- what stands in the slices at the end
pub searched_as : {z : Shape} {on : Walk} {t : Estimates} {by : Guides z on t} {x : Work} {log keys via heap pos stack end keys' via' heap' pos' stack' end' : List ℕ} {r : Ended}
    → Searched by x log (work keys via heap pos stack) end r → keys' ≡ keys → via' ≡ via → heap' ≡ heap → pos' ≡ pos → stack' ≡ stack → end' ≡ end
    → Searched by x log (work keys' via' heap' pos' stack') end' r
searched_as s ek ev eh ep es el = rw (ek, ev, eh, ep, es, el) s
