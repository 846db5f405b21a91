-- Two diagrams without padding that say yes to the same sets have equal counts of reached pairs over one chart: numbers of nodes may differ, and nodes that the root does not
-- lead to. So two files that every call takes and that mean the same have equal counts.
-- Assumes nothing.
use Rattle.std.specs.Prelude.{ℕ, ◌/◌, ◌%◌, ◌≤◌, ◌<◌, ◌≡◌, refl, Bool, get_or}
use Rattle.std.proofs.Math.Path.{sym, ap, ap₂}
use Rattle.std.proofs.Common.{◌∙◌, arith}
use Rattle.std.proofs.Math.Bool.{true}
use mathlib.Core.List.{List, [], ◌∷◌, map}
use Rattle.std.proofs.Math.ListN.{length}
use Rattle.definitions.specs.Basics.{upto}
use Rattle.definitions.specs.Charts.{Chart, read_chart, group_count}
use Rattle.definitions.specs.Diagrams.{DiagramRead, Diagram, size, strict, advance}
use Rattle.definitions.specs.Pairs.{Automaton, stands, reached, pair, stage_of, node_of, reached_pairs}
use Rattle.definitions.specs.Plans.{graph, automaton, variable}
use Rattle.definitions.specs.Promises.{SweepSlices, SweepCall, ReduceCall}
use Rattle.definitions.specs.Reductions.{Tree, no_leaf, accepts, member, position}
use Rattle.definitions.specs.declared.Answer.{Answer}
use Rattle.theory.specs.Basics.{member_at, get_d_map_upto, length-map_run}
use Rattle.theory.specs.Counting.{among}
use Rattle.theory.specs.Diagrams.{advance_le}
use Rattle.theory.specs.Limits.{Valid, Sound, Unpadded}
use Rattle.theory.specs.Pairs.{lawful, stands_inside, stage_of_pair, node_of_pair, pair_of, node_of_inside, pair_inside, way_reached, reached_pairs_in}
use Rattle.theory.specs.Ways.{end_inside}
use Rattle.chart.specs.Accepted.{chart_accepted}
use Rattle.diagram.specs.Accepted.{diagram_accepted, diagram_unpadded}
use Rattle.demands.specs.Counted.{pairs_only, pairs_once}
use Rattle.demands.specs.Demands.{rules_read, sweep_call, Reached, Searched}
use Rattle.demands.proofs.Demanded.{sweep_promised, swept_count}
use Rattle.demands.proofs.Results.{searched_passes}
use Rattle.reduction_theory.specs.Advances.{advanced, advance_tree}
use Rattle.reduction_theory.specs.Numbering.{get_d_member, member_position}
use Rattle.reduction_theory.specs.Reduced.{trees_apart}
use Rattle.reduction_theory.specs.Reduction.{tree_leaf, same_trees}
use Rattle.reduction_theory.specs.Trees.{tree}
use Rattle.reductions.specs.Reductions.{SameSets}
use Rattle.reductions.proofs.Reductions.{sets_all}
use Rattle.reductions.specs.Reduces.{held_strict}
use Rattle.reductions.proofs.Searches.{reduced_file, reduced_file_lem, reduced_means}

-- the node of a tree, among a diagram's nodes
node_of_lem : Diagram → Tree → ℕ
node_of_lem d t = position t (map (tree d) (upto (size d)))

module _ (n : ℕ) (d : Diagram) (p : Sound n d) (x : Unpadded d) where
  abbrev trees : List Tree
  trees = map (tree d) (upto (size d))

  tree_at_lem : (i : ℕ) → i < size d → get_or trees i no_leaf ≡ tree d i
  tree_at_lem i h = get_d_map_upto (tree d) (size d) i no_leaf h

  node_is : (m : ℕ) → m < size d → node_of_lem d (tree d m) ≡ m
  unfolding node_of_lem
  node_is m h =
      let long : length trees ≡ size d = length-map_run (tree d) 0 (size d) in
      let among-them : member (tree d m) trees ≡ true = ap (λ (t : Tree). member t trees) (sym (tree_at_lem m h)) ∙ get_d_member trees m (omega arith) in
      let there = member_position (tree d m) trees among-them in
      let inside : position (tree d m) trees < size d = omega (arith, there.1) in
      trees_apart d p.ordered x.unlike x.forked (position (tree d m) trees) m inside h (sym (tree_at_lem (position (tree d m) trees) inside) ∙ there.0)

module _ (c : Chart) (v : Valid (graph c)) (d e : Diagram) (p : Sound (group_count c) d) (q : Sound (group_count c) e) (x : Unpadded d) (y : Unpadded e)
    (a : (s : ℕ → Bool) → accepts d s ≡ accepts e s) where
  abbrev A : Automaton
  A = automaton c d

  abbrev B : Automaton
  B = automaton c e

  -- nodes with one tree are advanced to nodes with one tree
  follows : (w : List ℕ) (m k : ℕ) → m < size d → k < size e → tree d m ≡ tree e k → tree d (stands A m w) ≡ tree e (stands B k w)
  unfolding stands
  follows [] m k h i t = t
  follows (s ∷ w) m k h i t =
      follows w (advance d (variable c s) m) (advance e (variable c s) k) (omega (arith, advance_le d p.ordered (variable c s) m))
      (omega (arith, advance_le e q.ordered (variable c s) k))
      (advance_tree d p.ordered x (variable c s) m h ∙ ap (advanced (variable c s)) t ∙ sym (advance_tree e q.ordered y (variable c s) k i))

  -- the pair of the first diagram with the stage and the tree of a pair of the second
  code : ℕ → ℕ
  code t = pair A (stage_of B t) (node_of_lem d (tree e (node_of B t)))

  -- each reached pair of the first diagram comes from a reached pair of the second
  from_other : (t m : ℕ) → Reached c d t m → (j : ℕ) × (j < length (reached_pairs (graph c) B)) × (code (get_or (reached_pairs (graph c) B) j 0) ≡ t)
  unfolding code
  from_other t m r =
      let w = r.way.0 in
      let leads = r.way.1 in
      let s = t / size d in
      let n = t % size d in
      let k = stands B e.root w in
      let n-in : n < size d = node_of_inside A t (omega arith) in
      let k-in : k < size e = stands_inside (graph c) B (lawful c e q) w c.start e.root leads.0 q.root_inside in
      let s-in : s < c.stages = omega (arith, end_inside (graph c) v w c.start v.start_inside leads.0, leads.1) in
      let same_tree : tree d n ≡ tree e k =
      ap (tree d) (sym leads.2) ∙ follows w d.root e.root p.root_inside q.root_inside (same_trees d e p.ordered q.ordered a) in
      let alive : k ≡ 0 → ⊥ =
      λ z. r.alive (trees_apart d p.ordered x.unlike x.forked n 0 n-in (omega arith)
      (same_tree ∙ ap (tree e) z ∙ tree_leaf e q.ordered 0 (omega arith) ∙ sym (tree_leaf d p.ordered 0 (omega arith)))) in
      let at_stage : stage_of B (pair B s k) ≡ s = stage_of_pair B s k k-in in
      let at_node : node_of B (pair B s k) ≡ k = node_of_pair B s k k-in in
      let is : reached (graph c) B s k ≡ true = way_reached (graph c) B v s k m alive (record { steps = w; way = leads.0; ends = leads.1; stand = refl; costs = r.way.2 }) in
      let found =
      member_at (reached_pairs (graph c) B)
      (reached_pairs_in (graph c) B (pair B s k) (pair_inside (graph c) B s k s-in k-in) (ap₂ (λ (i j : ℕ). reached (graph c) B i j) at_stage at_node ∙ is)) in (
        found.0,
        found.1,
        ap (λ (u : ℕ). pair A (stage_of B u) (node_of_lem d (tree e (node_of B u)))) found.2 ∙ ap₂ (λ (i j : ℕ). pair A i (node_of_lem d (tree e j))) at_stage at_node
            ∙ ap (λ (u : Tree). pair A s (node_of_lem d u)) (sym same_tree) ∙ ap (pair A s) (node_is (group_count c) d p x n n-in) ∙ pair_of A t,
      )

  no_more : length (reached_pairs (graph c) A) ≤ length (reached_pairs (graph c) B)
  no_more =
      among (length (reached_pairs (graph c) A)) (length (reached_pairs (graph c) B)) (λ i. get_or (reached_pairs (graph c) A) i 0) (λ j. code (get_or (reached_pairs (graph c) B) j 0))
      (λ i h. let r = pairs_only c d v i (get_or (reached_pairs (graph c) A) i 0) (h, refl) in from_other (get_or (reached_pairs (graph c) A) i 0) r.0 r.1)
      (λ i j hi hj z. pairs_once c d v i j (get_or (reached_pairs (graph c) A) j 0) (hi, z) (hj, refl))

pub counts_same : (c : Chart) → Valid (graph c) → (d e : Diagram) → Sound (group_count c) d → Sound (group_count c) e → Unpadded d → Unpadded e
    → SameSets (group_count c) d e → length (reached_pairs (graph c) (automaton c d)) ≡ length (reached_pairs (graph c) (automaton c e))
counts_same c v d e p q x y a =
    let all = sets_all (group_count c) d e p q a in
    omega (arith, no_more c v d e p q x y all, no_more c v e d q p y x (λ s. sym (all s)))

-- ---- two files over one chart

-- The counts of two sweeps over one chart that no check refused, on files that say yes to the same sets of its steps, are equal
pub sweeps_count : (chart rules more : List ℕ) (lent lent' : SweepSlices) (r : Answer) (given given' : SweepSlices) (s : Answer)
    → SweepCall chart rules lent lent' r → SweepCall chart more given given' s → Searched r → Searched s
    → SameSets (group_count (read_chart chart).chart) (rules_read chart rules).diagram (rules_read chart more).diagram → r.count ≡ s.count
sweeps_count chart rules more lent lent' r given given' s promise other is-r is-s same =
    let n = group_count (read_chart chart).chart in
    let x = searched_passes chart rules (sweep_call lent lent' r) (sweep_promised chart rules lent lent' r promise) is-r in
    let y = searched_passes chart more (sweep_call given given' s) (sweep_promised chart more given given' s other) is-s in
    let first = x.2.files in
    let second = y.2.files in
    swept_count chart rules lent lent' r promise x.0 x.1 x.2
    ∙ ap₂ counted (sym first.chart_held) (sym first.rules_held_lem)
    ∙ counts_same (read_chart chart).chart (chart_accepted chart first.chart_passes).0 (rules_read chart rules).diagram (rules_read chart more).diagram
    (diagram_accepted strict rules n first.rules_pass) (diagram_accepted strict more n second.rules_pass) (diagram_unpadded rules n) (diagram_unpadded more n) same
    ∙ ap₂ counted second.chart_held second.rules_held_lem ∙ sym (swept_count chart more given given' s other y.0 y.1 y.2)
  where
    counted : Chart → Diagram → ℕ
    counted c d = length (reached_pairs (graph c) (automaton c d))

-- So a file that every call takes and its own reduction have equal counts
pub reduced_count : (chart rules out out' : List ℕ) (r : Answer) (promise : ReduceCall chart rules out out' r) (passed : r.number ≡ 0)
    → (lent lent' : SweepSlices) (a : Answer) (given given' : SweepSlices) (b : Answer)
    → SweepCall chart rules lent lent' a → SweepCall chart (reduced_file chart rules out out' r promise passed) given given' b → Searched a → Searched b → a.count ≡ b.count
reduced_count chart rules out out' r promise passed lent lent' a given given' b first second is-a is_b =
    let x = searched_passes chart rules (sweep_call lent lent' a) (sweep_promised chart rules lent lent' a first) is-a in
    let held = held_strict chart rules x.2.files.rules_pass in
    let written = reduced_file_lem chart rules out out' r promise passed strict in
    sweeps_count chart rules (reduced_file chart rules out out' r promise passed) lent lent' a given given' b first second is-a is_b (λ s i.
    ap (λ (y : DiagramRead). accepts y.diagram s) (sym held) ∙ sym (reduced_means chart rules out out' r promise passed s) ∙ ap (λ (y : DiagramRead). accepts y.diagram s) (sym written))
