-- The walk from the roots, what is written after it, and one law for each way out of the code.
-- Assumes nothing.
use Prim.Native.Nat.{ℕ, ◌+◌, ◌*◌, ◌≤◌, ◌<◌}
use Rattle.std.specs.Prelude.{◌≡◌, replicate, Option, Some, None, Ok}
use Rattle.std.proofs.Math.Path.{sym, ap, ap₂, subst}
use Rattle.std.proofs.Common.{◌∙◌, length-append, length-drop, drop_at}
use mathlib.Core.List.{List, [], ◌++◌}
use native.Mathlib.Omega.{arith}
use Rattle.std.proofs.Math.ListN.{length, get_or, drop, length-map, get_or-append}
use Rattle.std.proofs.lemmas.List.{length-replicate, get_or-replicate}
use borrow.Author.Tests.{lt-ltb, le-ltb}
use Rattle.definitions.specs.Answers.{LoadTwo, load_two, refusal, Filed}
use Rattle.definitions.specs.Basics.{NONE}
use Rattle.definitions.specs.Bytes.{diagram_bytes}
use Rattle.definitions.specs.Charts.{Chart, group_count}
use Rattle.definitions.specs.Diagrams.{InnerNode, Diagram, size}
use Rattle.definitions.specs.Promises.{written_answer, written_buffer, ConjoinPromise, ConjoinCall, conjoin_slices}
use Rattle.definitions.specs.Reductions.{postorder, numbered, nodes_of, diagram_of, conjunction}
use Rattle.definitions.specs.declared.Answer.{Answer}
use Rattle.theory.specs.Basics.{pick_true, pick_false}
use Rattle.theory.specs.Limits.{Sound}
use Rattle.reduction_theory.specs.Expansion.{conjunction_joined}
use Rattle.reduction_theory.specs.Numbering.{good_nil}
use Rattle.reduction_theory.specs.Trees.{tree, meet, joined}
use Rattle.unique_table.specs.Nodes.{nodes_long}
use Rattle.unique_table.specs.Held.{Blank}
use Rattle.unique_table.specs.Tables.{UniqueTable}
use Rattle.apply.specs.declared.operands.Operands.{Operands}
use Rattle.apply.specs.declared.operands.Pair.{Pair}
use Rattle.apply.specs.Operands.{Inside}
use Rattle.apply.specs.Pairs.{pair_tree, pair_inside}
use Rattle.apply.specs.Walks.{State}
use Rattle.apply.specs.Views.{ReadyFor}
use Rattle.apply.specs.Whole.{Walked}
use Rattle.diagram_writer.specs.Files.{drawn}
use Rattle.conjoin.specs.Loads.{Loaded, LoadsTwo}
use Rattle.conjoin.specs.declared.load.LoadedTwo.{LoadedTwo}

-- what the walk asks: two diagrams over a chart of so many groups stand in tables, and there is a work entry for each pair of their nodes
pub record Joinable (work : List ℕ) (o : Operands) (pairs : ℕ) (roots : Pair) : Type 0 where
  pub groups : ℕ
  pub d : Diagram
  pub e : Diagram
  pub inside : Inside d e o.left.now o.right.now o.width work
  pub sound_first : Sound groups d
  pub sound_second : Sound groups e
  pub root_first : roots.first ≡ d.root
  pub root_second : roots.second ≡ e.root
  pub needs : pairs ≡ size d * size e

-- what comes of it
pub record Joins {work : List ℕ} {o : Operands} {pairs : ℕ} {roots : Pair} (x : Joinable work o pairs roots) (file work' file' : List ℕ) (r : Answer)
    : Type 0 where
  pub answer : r ≡ written_answer (conjunction x.groups x.d x.e) (length file)
  pub buffer : file' ≡ written_buffer (conjunction x.groups x.d x.e) file
  pub long : length work' ≡ length work
  pub rest : drop (size x.d * size x.e) work' ≡ drop (size x.d * size x.e) work

-- the work entries before the walk
cleared : ℕ → List ℕ → List ℕ
cleared pairs work = replicate pairs NONE ++ drop pairs work

cleared_at : (pairs : ℕ) (work : List ℕ) (i : ℕ) → i < pairs → get_or (cleared pairs work) i 0 ≡ NONE
unfolding cleared
cleared_at pairs work i h =
    get_or-append (replicate {A = ℕ} pairs NONE) (drop pairs work) 0 i (omega (arith, length-replicate {A = ℕ} pairs NONE)) ∙ get_or-replicate {A = ℕ} pairs i NONE 0 h

cleared_rest : (pairs : ℕ) (work : List ℕ) → drop pairs (cleared pairs work) ≡ drop pairs work
unfolding cleared
cleared_rest pairs work = drop_at (replicate {A = ℕ} pairs NONE) (drop pairs work) pairs (length-replicate {A = ℕ} pairs NONE)

cleared_long : (pairs : ℕ) (work : List ℕ) → pairs ≤ length work → length (cleared pairs work) ≡ length work
unfolding cleared
cleared_long pairs work h = length-append (replicate {A = ℕ} pairs NONE) (drop pairs work) ∙ omega (arith, length-replicate {A = ℕ} pairs NONE, length-drop pairs work)

module _ {work : List ℕ} {o : Operands} {pairs : ℕ} {roots : Pair} (x : Joinable work o pairs roots) where
  pub pairs_inside : pairs ≤ length work
  pairs_inside = omega (arith, x.needs, x.inside.room)

  -- the work entries are cleared, and the table is without nodes
  module _ (w₁ : List ℕ) (is-cleared : w₁ ≡ replicate pairs NONE ++ drop pairs work) {words : List ℕ} {t₁ : UniqueTable} (empty : Blank words t₁) where
    same_cleared : w₁ ≡ cleared pairs work
    unfolding cleared
    same_cleared = is-cleared

    long₁ : length w₁ ≡ length work
    long₁ = ap length same_cleared ∙ cleared_long pairs work pairs_inside

    -- nothing is left yet, and no pair is done
    started : State x.d x.e [] w₁ t₁
    unfolding nodes_of
    started = record {
      good = good_nil;
      nodes = empty.empty;
      known = λ i j h k s. absurd (omega (
        arith,
        ap (λ (l : List ℕ). get_or l (i * size x.e + j) 0) same_cleared,
        x.needs,
        cleared_at pairs work (i * size x.e + j) (omega (arith, x.needs, pair_inside (size x.e) (size x.d) i j h k)),
      ));
    }

    pub walk_ready : ReadyFor w₁ t₁ o roots
    walk_ready = record {
      d = x.d;
      e = x.e;
      inside = record { first = x.inside.first; second = x.inside.second; wide = x.inside.wide; room = omega (arith, x.inside.room, long₁) };
      a_inside = omega (arith, x.root_first, x.sound_first.root_inside);
      b_inside = omega (arith, x.root_second, x.sound_second.root_inside);
      entries = empty.table;
      state = started;
    }

    abbrev made : Diagram
    made = conjunction x.groups x.d x.e

    made_is : made ≡ diagram_of (pair_tree x.d x.e roots.first roots.second)
    unfolding joined pair_tree
    made_is =
        conjunction_joined x.groups x.d x.e x.sound_first x.sound_second
        ∙ ap₂ (λ (m n : ℕ). diagram_of (meet (tree x.d m) (tree x.e n))) (sym x.root_first) (sym x.root_second)

    made_long : length made.nodes ≡ length (postorder (pair_tree x.d x.e roots.first roots.second) [])
    unfolding diagram_of nodes_of
    made_long =
        ap (λ (c : Diagram). length c.nodes) made_is
        ∙ length-map (postorder (pair_tree x.d x.e roots.first roots.second) []) (numbered (postorder (pair_tree x.d x.e roots.first roots.second) []))

    module _ {w₂ : List ℕ} {t₂ : UniqueTable} {root : Option ℕ} (walked : Walked walk_ready w₂ t₂ root) where
      long₂ : length w₂ ≡ length work
      long₂ = walked.long ∙ long₁

      rest₂ : drop (size x.d * size x.e) w₂ ≡ drop (size x.d * size x.e) work
      unfolding walk_ready
      rest₂ = walked.rest ∙ ap (drop (size x.d * size x.e)) same_cleared ∙ ap (λ (n : ℕ). drop n (cleared pairs work)) (sym x.needs) ∙ cleared_rest pairs work
          ∙ ap (λ (n : ℕ). drop n work) x.needs

    -- 12
    pub joins_full : {w₂ : List ℕ} {t₂ : UniqueTable} (walked : Walked walk_ready w₂ t₂ None) → {r : Answer} → r ≡ refusal 12 0 0 0 → (file : List ℕ) → Joins x file w₂ file r
    unfolding written_answer written_buffer walk_ready
    joins_full walked e file =
        let many = lt-ltb 510 (length made.nodes) (omega (arith, walked.leaves, made_long)) in
        record { answer = e ∙ sym (pick_true _ _ _ many); buffer = sym (pick_true _ _ _ many); long = long₂ walked; rest = rest₂ walked }

    -- the diagram in the table is the conjunction
    module _ {w₂ : List ℕ} {t₂ : UniqueTable} {root : ℕ} (walked : Walked walk_ready w₂ t₂ (Some root)) where
      drawn_is : drawn root t₂ ≡ made
      unfolding diagram_of walk_ready
      drawn_is = ap₂ whole walked.leaves.2 walked.leaves.1 ∙ sym made_is
        where
          whole : ℕ → List InnerNode → Diagram
          whole n l = record { root = n; nodes = l }

      pub joins_made : {file file' : List ℕ} {r : Answer} → Filed (diagram_bytes (drawn root t₂)) file file' r → Joins x file w₂ file' r
      unfolding written_answer written_buffer
      joins_made {file} {file'} {r} filed =
          let few = le-ltb 510 (length made.nodes) (omega (arith, ap (λ (c : Diagram). length c.nodes) drawn_is, nodes_long t₂, walked.entries.few)) in
          let f = subst (λ (c : Diagram). Filed (diagram_bytes c) file file' r) drawn_is filed in
          record { answer = f.answer ∙ sym (pick_false _ _ _ few); buffer = f.buffer ∙ sym (pick_false _ _ _ few); long = long₂ walked; rest = rest₂ walked }

-- ---- the whole call

-- what the walk asks, where all checks pass
abbrev asked : {c : Chart} {d e : Diagram} {work : List ℕ} {got : LoadedTwo} (o : Operands) → o.width ≡ got.width → Loaded c d e (length work) o.left.now o.right.now got
    → Joinable work o got.pairs got.roots
asked {c} {d} {e} o is l = record {
  groups = group_count c;
  d = d;
  e = e;
  inside = record { first = l.operand_first; second = l.operand_second; wide = is ∙ l.wide; room = l.room };
  sound_first = l.sound_first;
  sound_second = l.sound_second;
  root_first = l.root_first;
  root_second = l.root_second;
  needs = l.needs;
}

module _ (chart rules more work file : List ℕ) where
  -- passed: what comes of the walk
  module _ (o : Operands) (got : LoadedTwo) (is : o.width ≡ got.width) (loads : LoadsTwo (load_two chart rules more (length work)) (length work) o.left.now o.right.now (Ok got)) where
    pub call_joined : (work' file' : List ℕ) (r : Answer) → ((x : Joinable work o got.pairs got.roots) → Joins x file work' file' r)
        → ConjoinCall chart rules more (conjoin_slices work file) (conjoin_slices work' file') r
    call_joined work' file' r joins =
        let j = joins (asked o is loads.4) in
        subst (λ (o : LoadTwo). ConjoinPromise o (conjoin_slices work file) (conjoin_slices work' file') r) (sym loads.3) (j.answer, j.buffer, j.long, j.rest)
