-- One step from a pair that is settled: where it leads, the block of keys that it enters, what it offers, and what `offer` leaves.
-- Assumes nothing.
use Prim.Native.Nat.{ℕ, ◌+◌, ◌*◌, ◌≤◌, ◌<◌}
use mathlib.Core.Path.{◌≡◌, refl, ◌∙◌, ap, ap₂, subst}
use mathlib.Core.Bool.{Bool, true}
use mathlib.Core.List.{List}
use mathlib.Core.Logic.{inl}
use mathlib.Core.Option.{some}
use native.Mathlib.Omega.{arith}
use lib.ListN.{length, get_or}
use Rattle.definitions.specs.Basics.{NONE}
use Rattle.queue.specs.declared.Counts.{Counts}
use Rattle.queue.specs.Queue.{Contains}
use Rattle.queue.proofs.Facts.{keys_fit, contains_pair, contains_keys, queue_keys}
use Rattle.definitions.specs.Ways.{Graph}
use Rattle.definitions.specs.Pairs.{Automaton, Estimate, pair}
use Rattle.definitions.specs.Promises.{shown}
use Rattle.definitions.specs.declared.Shape.{Shape}
use Rattle.theory.specs.Ways.{step_cheap}
use Rattle.via_marks.specs.Marks.{packed}
use Rattle.checks.specs.Tables.{Tables, pairs_in}
use Rattle.checks.specs.Ready.{Walk, graph_in, automaton_in, count_is, width_is, few_stages, few_nodes, few_steps, to_at, cost_at_lem}
use Rattle.guided_model.specs.Bounds.{estimate_none, estimate_some}
use Rattle.guided_model.specs.Moves.{Offerable, offerable, step_none, step_relaxed}
use Rattle.guided_model.specs.Settling.{Target, target}
use Rattle.guided_offers.specs.Estimates.{Estimates, paired}
use Rattle.guided_keys.specs.Fills.{is_filled, BlockOpened}
use Rattle.guided_keys.specs.Seen.{seen_block, offerable_seen, relaxed_seen, opened_seen}
use Rattle.guided_offers.specs.Work.{Work, work, marks_in, kept_same, Offering, Relaxes}
use Rattle.guided_expand.specs.Progress.{Progress, progress, queue_of, seen_in}
use Rattle.guided_expand.specs.Guides.{row_begins, few_pairs}
use Rattle.guided_expand.specs.Opening.{source_stage, source_node, Opened, opens_on, Leading}
use Rattle.guided_expand.specs.declared.steps.Source.{Source}

module _ {on : Walk} {t : Estimates} {from : Source} {pairs e to : ℕ} {x : Progress} (l : Leading on t from pairs e to x) where
  abbrev s : ℕ
  s = source_stage from

  abbrev n : ℕ
  n = source_node from

  abbrev spent : ℕ
  spent = from.cost

  abbrev z : Shape
  z = l.z

  abbrev g : Graph
  g = graph_in z on.read

  abbrev a : Automaton
  a = automaton_in z on.read

  abbrev h : Estimate
  h = l.by.h

  abbrev tables : Tables z on.read
  tables = l.by.ready.tables

  size_is : a.size ≡ z.nodes + 2
  size_is = width_is z on.read tables

  narrow : a.size ≤ 512
  narrow = omega (arith, size_is, few_nodes z on.read tables)

  exists : e < g.count
  exists = omega (arith, l.exists, count_is z on.read tables)

  pub step_small : e < 1024
  step_small = omega (arith, l.exists, few_steps z on.read tables)

  stage_inside : g.to e < z.stages
  stage_inside = tables.valid.inside e exists

  next_inside : a.next e n < a.size
  next_inside = l.by.guide.lawful.next_inside e n exists l.opens.settling.node

  pub target_small : to < 512
  target_small = omega (arith, l.enters, next_inside, narrow)

  cost_is : get_or on.read.steps.cost e 0 ≡ g.cost e
  cost_is = cost_at_lem z on.read tables e l.exists

  pairs_are : z.stages * a.size ≡ pairs_in z
  pairs_are = ap (λ (k : ℕ). z.stages * k) size_is

  -- the code finds the stage that the step enters
  module _ {entered : ℕ} (led : entered ≡ get_or on.read.steps.to e 0) where
    to_stage : entered ≡ g.to e
    to_stage = led ∙ to_at z on.read tables e l.exists

    pub stage_small : entered < 256
    stage_small = omega (arith, to_stage, stage_inside, few_stages z on.read tables)

    stage_late : z.start.0 ≤ entered
    stage_late = omega (arith, to_stage, l.opens.settling.late, l.leaves, tables.valid.forward e exists)

    entered_inside : entered < z.stages
    entered_inside = omega (arith, to_stage, stage_inside)

    row_is : get_or on.row entered 0 ≡ entered * a.size
    row_is = row_begins l.by.ready entered entered_inside

    module _ (rest : ℕ) (er : rest ≡ paired t entered to) where
      shown_is : rest ≡ shown (h (g.to e) (a.next e n))
      shown_is = er ∙ l.by.holds entered to stage_late stage_small (omega (arith, l.enters, next_inside, size_is)) ∙ ap shown (ap₂ h to_stage l.enters)

      pub leads_none : rest ≡ NONE → Opened l.by from e (e + 1) x x
      leads_none q = record {
        expanded = step_none g a h s n spent e (seen_in (pairs_in z) x) (estimate_none l.by.guide (g.to e) (a.next e n) rest next_inside shown_is q);
        kept = kept_same l.opens.queue;
        blocks = refl;
      }

      module _ (q : rest ≡ NONE → ⊥) where
        has : h (g.to e) (a.next e n) ≡ some rest
        has = estimate_some l.by.guide (g.to e) (a.next e n) rest shown_is q

        pub leads_fit : spent + get_or on.read.steps.cost e 0 + rest ≤ 2820000000
        leads_fit =
            omega (arith, l.opens.settling.cheap, cost_is, step_cheap g tables.valid e exists, l.by.guide.bounded (g.to e) (a.next e n) rest next_inside has)

        leads : Target l.by.guide from.key (pair a (g.to e) (a.next e n)) (spent + g.cost e + rest)
        leads = target l.by.guide s n spent from.key e rest l.opens.settling exists l.leaves has

        module _ (y : ℕ) (ey : y ≡ get_or on.row entered 0 + to) where
          pair_is : y ≡ pair a (g.to e) (a.next e n)
          pair_is = omega (arith, row_is, l.enters, to_stage, ap (λ (k : ℕ). k * a.size) to_stage)

          pub inside : y < pairs_in z
          inside = omega (arith, pair_is, leads.pair_inside, pairs_are)

          has_key : y < length x.slices.keys
          has_key = omega (arith, inside, keys_fit l.opens.queue)

          -- ---- the block of keys is filled

          pub leads_block : (y < pairs) × (pairs ≤ 131072) × (pairs ≤ length x.slices.keys) × (length x.filled ≡ 1024)
          leads_block = (omega (arith, inside, l.opens.all), omega (arith, few_pairs l.by.ready, l.opens.all), omega (arith, l.opens.all, keys_fit l.opens.queue), l.opens.blocks)

          module _ {keys' : List ℕ} {filled' : List Bool} (long : length keys' ≡ length x.slices.keys)
              (o : BlockOpened y pairs x.slices.keys x.filled keys' filled') where
            abbrev x' : Progress
            x' = progress (work keys' x.slices.via x.slices.heap x.slices.pos x.slices.stack) filled' x.counts

            block : BlockOpened y (pairs_in z) x.slices.keys x.filled keys' filled'
            block = subst (λ (p : ℕ). BlockOpened y p x.slices.keys x.filled keys' filled') l.opens.all o

            pub block_filled : is_filled (pairs_in z) filled' y ≡ true
            block_filled = block.opened

            open_same : (q : ℕ) → Contains (queue_of x) q → get_or keys' q 0 ≡ get_or x.slices.keys q 0
            open_same q w =
                let i : q < length x.slices.keys = omega (arith, contains_pair l.opens.queue w, keys_fit l.opens.queue) in
                block.same q (seen_block (pairs_in z) x.filled x.slices.keys q i (l.opens.frontier.finite q w))

            -- it is filled, and nothing else has changed
            pub block_opened : Opened l.by from e e x x'
            block_opened = record {
              expanded = record {
                moved = λ k. inl (record { same_key = opened_seen long block k; same_via = refl; still = contains_keys keys'; only = contains_keys x.slices.keys });
                offered = λ f i j. absurd (omega arith);
              };
              kept = record {
                queue = queue_keys keys' l.opens.queue (omega (arith, keys_fit l.opens.queue)) open_same;
                past = record { keys_past = block.past; via_past = refl; heap_past = refl; pos_past = refl; stack_past = refl };
              };
              blocks = o.long;
            }

            abbrev pub block_leading : Leading on t from pairs e to x'
            block_leading = record {
              z = l.z;
              by = l.by;
              opens = opens_on l.by from refl l.opens block_opened;
              exists = l.exists;
              leaves = l.leaves;
              enters = l.enters;
            }

          -- ---- the offer

          module _ (v : ℕ) (ev : v ≡ spent + get_or on.read.steps.cost e 0 + rest) (filled : is_filled (pairs_in z) x.filled y ≡ true) where
            key_is : v ≡ spent + g.cost e + rest
            key_is = omega (arith, cost_is)

            pub above : from.key ≤ v
            above = omega (arith, leads.above, key_is)

            pub low : v < NONE
            low = omega (arith, key_is, leads.low)

            pub may_offer : Offerable (marks_in x.slices x.counts) y v
            may_offer =
                offerable_seen (pairs_in z) x.filled x.slices.keys y has_key filled
                (offerable g a h (seen_in (pairs_in z) x) from.key y v l.opens.frontier (rw pair_is leads.may_open) above)

            abbrev pub leads_ask : Offering from.key y v x.slices x.counts
            leads_ask = record { p = pairs_in z; queue = l.opens.queue; pair = inside; fits = l.opens.fits; above = above; low = low; offerable = may_offer }

            pub leads_some : {mark : ℕ} {w : Work} {c : Counts} → mark ≡ packed entered e n → length w.keys ≡ length x.slices.keys
                → Relaxes (pairs_in z) from.key y v mark x.slices x.counts w c → Opened l.by from e (e + 1) x (progress w x.filled c)
            leads_some {mark} {w} {c} em long r = record {
              expanded = step_relaxed g a h s n spent e rest y v mark (seen_in (pairs_in z) x) (seen_in (pairs_in z) (progress w x.filled c)) exists l.leaves has pair_is key_is (em ∙ ap (λ (t : ℕ). packed t e n) to_stage)
                  (relaxed_seen (pairs_in z) x.filled x.slices.keys y has_key filled w.keys long r.relaxed);
              kept = r.kept;
              blocks = refl;
            }
