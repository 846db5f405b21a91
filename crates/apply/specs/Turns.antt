-- The turns of the walk over pairs: one law for each way out of the code.
-- Assumes nothing.
use Rattle.std.specs.Prelude.{ℕ, suc, ◌+◌, ◌*◌, ◌≤◌, ◌<◌, ◌≡◌, refl, true, false, Option, Some, None, length, get_or, set, drop}
use Rattle.std.proofs.Math.Path.{sym, ap, subst}
use Rattle.std.proofs.Common.{◌∙◌, ap₂, arith, add-one, length-set, drop-set-lt}
use mathlib.Core.List.{List, [], ◌++◌}
use Rattle.definitions.specs.Diagrams.{Diagram, InnerNode, size}
use Rattle.definitions.specs.Reductions.{Tree, mk, postorder, ref, nodes_of}
use Rattle.diagram_fields.specs.Words.{step_of, lo_of, hi_of, unpacked, MARK}
use Rattle.unique_table.specs.Tables.{UniqueTable, inner_node, nodes_in, Table, Interned, Interns, alone, found, added}
use Rattle.reduction_theory.specs.Numbering.{held, Good, post_laws}
use Rattle.reduction_theory.specs.Growth.{post_held, post_prefix}
use Rattle.apply.specs.Interning.{Numbered, Numbers, lo_held, interned}
use Rattle.apply.specs.Operands.{half_in, top_in, step_top, step_small, lo_first, lo_second, hi_first, hi_second}
use Rattle.apply.specs.Pairs.{top, pair_tree, pair_canon, pair_inside, Down, down}
use Rattle.apply.specs.Stacks.{frame_of, frame_parts, lo_a, lo_b, hi_a, hi_b, lo_tree, hi_tree, Apart, Entered, in_lo, in_hi, Stacked, stacked_inside, overflow, push_lo, push_hi}
use Rattle.apply.specs.Walks.{Known, known_more, known_set, known_in, known_held, known_apart, State, Returned, Walking, Descending, Placed, placed, few_frames}
use Rattle.apply.specs.Weights.{power, power_suc, power_some, power_rises, weights, top_open, top_half, put_open, put_half}

-- ---- down along lo

-- after the way down: r is the reference of a pair that k' frames ask for
pub record Descended {stack work left right : List ℕ} {width k a b : ℕ} (x : Descending stack work left right width k a b) (stack' : List ℕ) (k' r : ℕ) : Type 0 where
  pub a' : ℕ
  pub b' : ℕ
  pub small : r < 512
  pub long : length stack' ≡ 1024
  pub stacked : Stacked x.d x.e x.A x.B stack' k' a' b' x.ts
  pub is_held : held x.ts (pair_tree x.d x.e a' b') ≡ true
  pub at : r ≡ ref x.ts (pair_tree x.d x.e a' b')
  pub light : weights stack' k' + 4 ≤ weights stack k + power (suc (suc (a + b)))

module _ {stack₀ work left right : List ℕ} {width k₀ a₀ b₀ : ℕ} (x : Descending stack₀ work left right width k₀ a₀ b₀) where
  abbrev d : Diagram
  d = x.d

  abbrev e : Diagram
  e = x.e

  -- what the loop keeps: the pair a, b is asked for by k frames
  pub record Onward (stack : List ℕ) (k a b : ℕ) : Type 0 where
    pub long : length stack ≡ 1024
    pub stacked : Stacked x.d x.e x.A x.B stack k a b x.ts
    pub light : weights stack k + power (suc (suc (a + b))) ≤ weights stack₀ k₀ + power (suc (suc (a₀ + b₀)))

  pub onward_start : Onward stack₀ k₀ a₀ b₀
  onward_start = record { long = x.long; stacked = x.stacked; light = omega arith }

  module _ (stack : List ℕ) (k a b : ℕ) (w : Onward stack k a b) where
    pair_in : (a < size d) × (b < size e)
    pair_in = stacked_inside d e x.inside.first.ordered x.inside.second.ordered x.A x.B x.A-inside x.B-inside stack k a b x.ts w.stacked

    pub onward_placed : Placed width a b work
    onward_placed = placed d e left right width work x.inside a b pair_in.0 pair_in.1

    pub onward_few : k + (a + b) ≤ 1022
    onward_few = few_frames d e left right width work x.inside x.A x.B x.A-inside x.B-inside stack k a b x.ts w.stacked

    -- one pair further down
    module _ (unknown : None ≡ known_in work width a b) where
      apart : Apart d e a b
      apart = known_apart d e left right width work x.inside x.ts x.known a b pair_in.0 pair_in.1 unknown

      module _ (a' b' : ℕ) (ea : a' ≡ half_in false left (top_in left right a b) a) (eb : b' ≡ half_in false right (top_in left right a b) b) where
        qa : a' ≡ lo_a d e a b
        qa = ea ∙ lo_first d e left right width work x.inside a b pair_in.0 pair_in.1 apart.some _ refl

        qb : b' ≡ lo_b d e a b
        qb = eb ∙ lo_second d e left right width work x.inside a b pair_in.0 pair_in.1 apart.some _ refl

        pub onward_falls : a' + b' < a + b
        onward_falls = omega (arith, (down d e x.inside.first.ordered x.inside.second.ordered a b apart.some).lo_falls, qa, qb)

        next_stacked : Stacked d e x.A x.B (set stack k (frame_of 512 a b)) (suc k) a' b' x.ts
        next_stacked =
            subst (λ (n : ℕ). Stacked d e x.A x.B (set stack k (frame_of 512 a b)) (suc k) a' n x.ts) (sym qb)
            (subst (λ (m : ℕ). Stacked d e x.A x.B (set stack k (frame_of 512 a b)) (suc k) m (lo_b d e a b) x.ts) (sym qa)
            (push_lo d e x.A x.B stack k a b x.ts w.stacked apart x.good (omega (arith, w.long, onward_few))))

        pub onward_next : (f : ℕ) → f ≡ frame_of 512 a b → Onward (set stack k f) (k + 1) a' b'
        onward_next f is-frame =
            rw (is-frame, add-one k) (record {
              long = length-set stack k (frame_of 512 a b) ∙ w.long;
              stacked = next_stacked;
              light = omega (
                arith,
                w.light,
                put_open a b onward_placed.a_small onward_placed.b_small stack k (omega (arith, w.long, onward_few)),
                power_suc (suc (a + b)),
                power_rises (suc (suc (a' + b'))) (suc (a + b)) (omega (arith, onward_falls)),
              );
            })

    -- at a pair that needs no walk
    pub onward_end : (r : ℕ) → Some r ≡ known_in work width a b → Descended x stack k r
    onward_end r is =
        let h = known_held d e left right width work x.inside x.ts x.known a b pair_in.0 pair_in.1 r is in
        record {
          a' = a;
          b' = b;
          small = h.0;
          long = w.long;
          stacked = w.stacked;
          is_held = h.1;
          at = h.2;
          light = omega (arith, w.light, power_suc (suc (a + b)), power_suc (a + b), power_some (a + b));
        }

-- ---- one turn

module _ {stack work : List ℕ} {table : UniqueTable} {left right : List ℕ} {width k r : ℕ} (x : Walking stack work table left right width k r) where
  -- by the answer of a turn: the reference of a pair whose walk is done, or none where the whole walk leaves more than 510 nodes
  abbrev pub Outcome : List ℕ → List ℕ → UniqueTable → ℕ → Option ℕ → Type 0
  Outcome stack' work' table' k' (Some r') = Returned x.d x.e x.A x.B stack' k' r' work' table' × (weights stack' k' < weights stack k)
  Outcome stack' work' table' k' None = 510 < length (postorder (pair_tree x.d x.e x.A x.B) [])

  pub record Turned (stack' work' : List ℕ) (table' : UniqueTable) (k' : ℕ) (r' : Option ℕ) : Type 0 where
    pub long : length stack' ≡ 1024
    pub entries : Table table'
    pub long_work : length work' ≡ length work
    pub rest : drop (size x.d * size x.e) work' ≡ drop (size x.d * size x.e) work
    pub outcome : Outcome stack' work' table' k' r'

-- the reference of a half in a frame, where s stands for it: none at 512
abbrev pub Half : ℕ → Option ℕ → Type 0
Half s None = s ≡ 512
Half s (Some l) = (l ≡ s) × (s ≡ 512 → ⊥)

-- what the code takes from the last frame: its pair, and the reference of its lo half
pub record Taken (stack : List ℕ) (last a b : ℕ) (lo : Option ℕ) : Type 0 where
  pub first : a ≡ hi_of (get_or stack last 0)
  pub second : b ≡ lo_of (get_or stack last 0)
  pub half : Half (step_of (get_or stack last 0)) lo

-- it is known whether the lo half is done
pub taken_as : {stack : List ℕ} {last a b : ℕ} {lo lo' : Option ℕ} → Taken stack last a b lo → lo ≡ lo' → Taken stack last a b lo'
taken_as {stack} {last} {a} {b} t e = subst (Taken stack last a b) e t

-- the same stack, frames and pair by other names
renamed : (d e : Diagram) (A B : ℕ) {s s' : List ℕ} {k k' a a' b b' : ℕ} (ts : List Tree) → s ≡ s' → k ≡ k' → a ≡ a' → b ≡ b'
    → Stacked d e A B s' k' a' b' ts → Stacked d e A B s k a b ts
renamed d e A B {s} {s'} {k} {k'} {a} {a'} {b} {b'} ts es ek ea eb t =
    subst (λ (z : List ℕ). Stacked d e A B z k a b ts) (sym es)
    (subst (λ (z : ℕ). Stacked d e A B s' z a b ts) (sym ek)
    (subst (λ (z : ℕ). Stacked d e A B s' k' z b ts) (sym ea)
    (subst (λ (z : ℕ). Stacked d e A B s' k' a' z ts) (sym eb) t)))

-- what interning leaves is a table
interned_table : (t : UniqueTable) (v l h r : ℕ) (t' : UniqueTable) → Table t → Interned t v l h r t' → Table t'
interned_table t v l h r t' w (alone e q s) = rw s w
interned_table t v l h r t' w (found n f s) = rw s w
interned_table t v l h r t' w (added n f c a) = a.table

interns_table : (t : UniqueTable) (v l h : ℕ) (r : Option ℕ) (t' : UniqueTable) → Table t → Interns t v l h r t' → Table t'
interns_table t v l h (Some r) t' w i = interned_table t v l h r t' w i
interns_table t v l h None t' w f = rw f.same w

module _ {stack work : List ℕ} {table : UniqueTable} {left right : List ℕ} {width k r : ℕ} (x : Walking stack work table left right width k r) where
  pub walking_few : k ≤ 1022
  walking_few =
      omega (
        arith,
        few_frames x.d x.e left right width work x.inside x.A x.B x.A-inside x.B-inside stack k x.returned.a x.returned.b
            x.returned.ts x.returned.stacked,
      )

  module _ (last : ℕ) (is_last : k ≡ suc last) where
    abbrev d' : Diagram
    d' = x.d

    abbrev e' : Diagram
    e' = x.e

    abbrev now' : Returned d' e' x.A x.B stack k r work table
    now' = x.returned

    -- the last frame: its pair, where its walk began, and how the walk of the half that is done was entered
    framed : Stacked d' e' x.A x.B stack (suc last) now'.a now'.b now'.ts
    framed = subst (λ (n : ℕ). Stacked d' e' x.A x.B stack n now'.a now'.b now'.ts) is_last now'.stacked

    abbrev p : ℕ
    p = framed.0

    abbrev q : ℕ
    q = framed.1

    abbrev us : List Tree
    us = framed.2

    abbrev parted : Apart d' e' p q
    parted = framed.3

    abbrev frame : ℕ
    frame = get_or stack last 0

    pair_placed : Placed width p q work
    pair_placed = placed d' e' left right width work x.inside p q parted.a_inside parted.b_inside

    parts : (l : ℕ) → l ≤ 512 → frame ≡ frame_of l p q → (hi_of frame ≡ p) × (lo_of frame ≡ q) × (step_of frame ≡ l)
    parts l h f =
        let z : unpacked frame ≡ inner_node l q p = ap unpacked f ∙ frame_parts l p q h pair_placed.a_small pair_placed.b_small in
        (ap (λ (n : InnerNode). n.hi) z, ap (λ (n : InnerNode). n.lo) z, ap (λ (n : InnerNode). n.step) z)

    frame_is : (hi_of frame ≡ p) × (lo_of frame ≡ q) × (step_of frame ≤ 512)
    frame_is = go framed.6
      where
        go : Entered d' e' frame p q us now'.a now'.b now'.ts → (hi_of frame ≡ p) × (lo_of frame ≡ q) × (step_of frame ≤ 512)
        go (in_lo f ea eb et) = let y = parts 512 (omega arith) f in (y.0, y.1, omega (arith, y.2))
        go (in_hi l h f m ea eb et) = let y = parts l (omega arith) f in (y.0, y.1, omega (arith, y.2))

    -- what the code takes from the frame
    module _ {a b : ℕ} {lo : Option ℕ} (taken : Taken stack last a b lo) where
      ap_is : a ≡ p
      ap_is = taken.first ∙ frame_is.0

      bq_is : b ≡ q
      bq_is = taken.second ∙ frame_is.1

      pub frame_placed : Placed width a b work
      frame_placed = rw (ap_is, bq_is) pair_placed

      least_is : top_in left right a b ≡ top_in left right p q
      least_is = ap₂ (top_in left right) ap_is bq_is

    -- the lo half is done: its reference is kept, and the hi half is walked
    module _ {a b : ℕ} (taken : Taken stack last a b None) where
      module _ (stack₁ : List ℕ) (k₁ : ℕ) (is-stack : stack₁ ≡ set stack last (frame_of r a b)) (is-count : k₁ ≡ suc last) (a₁ b₁ : ℕ) (fa : a₁ ≡ half_in true left (top_in left right a b) a) (fb : b₁ ≡ half_in true right (top_in left right a b) b) where
        ga : a₁ ≡ hi_a d' e' p q
        ga = fa ∙ ap (half_in true left (top_in left right a b)) (ap_is taken)
            ∙ hi_first d' e' left right width work x.inside p q parted.a_inside parted.b_inside parted.some _ (least_is taken)

        gb : b₁ ≡ hi_b d' e' p q
        gb = fb ∙ ap (half_in true right (top_in left right a b)) (bq_is taken)
            ∙ hi_second d' e' left right width work x.inside p q parted.a_inside parted.b_inside parted.some _ (least_is taken)

        -- it was the lo half
        was_lo : (frame ≡ frame_of 512 p q) × (pair_tree d' e' now'.a now'.b ≡ lo_tree d' e' p q) × (now'.ts ≡ us)
        was_lo = go framed.6
          where
            go : Entered d' e' frame p q us now'.a now'.b now'.ts
                → (frame ≡ frame_of 512 p q) × (pair_tree d' e' now'.a now'.b ≡ lo_tree d' e' p q) × (now'.ts ≡ us)
            go (in_lo g i j t) = (g, ap₂ (pair_tree d' e') i j, t)
            go (in_hi l h g m i j t) = absurd (omega (arith, (parts l (omega arith) g).2, taken.half))

        left_lo : postorder (pair_tree d' e' now'.a now'.b) now'.ts ≡ postorder (lo_tree d' e' p q) us
        left_lo = ap₂ postorder was_lo.1 was_lo.2

        kept_at : r ≡ ref (postorder (lo_tree d' e' p q) us) (lo_tree d' e' p q)
        kept_at = now'.at ∙ ap₂ ref left_lo was_lo.1

        same_frame : stack₁ ≡ set stack last (frame_of r p q)
        same_frame = is-stack ∙ ap₂ (λ (m n : ℕ). set stack last (frame_of r m n)) (ap_is taken) (bq_is taken)

        room : last < length stack
        room = omega (arith, x.long, walking_few)

        hi_stacked : Stacked d' e' x.A x.B stack₁ k₁ a₁ b₁ (postorder (lo_tree d' e' p q) us)
        hi_stacked =
            renamed d' e' x.A x.B (postorder (lo_tree d' e' p q) us) same_frame is-count ga gb
            (push_hi d' e' x.A x.B stack last p q us framed.5 parted framed.4 room r now'.small kept_at)

        pub hi_descending : Descending stack₁ work left right width k₁ a₁ b₁
        hi_descending = record {
          d = x.d;
          e = x.e;
          A = x.A;
          B = x.B;
          ts = postorder (lo_tree d' e' p q) us;
          inside = x.inside;
          A-inside = x.A-inside;
          B-inside = x.B-inside;
          long = ap length is-stack ∙ length-set stack last (frame_of r a b) ∙ x.long;
          known = subst (Known d' e' work) left_lo now'.state.known;
          good = subst Good left_lo now'.state.good;
          stacked = hi_stacked;
        }

        hi_lighter : (stack' : List ℕ) (k' : ℕ) → weights stack' k' + 4 ≤ weights stack₁ k₁ + power (suc (suc (a₁ + b₁))) → weights stack' k' < weights stack k
        hi_lighter stack' k' h =
            let w = down d' e' x.inside.first.ordered x.inside.second.ordered p q parted.some in
            let before : weights stack k ≡ weights stack last + power (suc (p + q)) =
            ap (weights stack) is_last ∙ top_open p q pair_placed.a_small pair_placed.b_small stack last was_lo.0 in
            let after : weights stack₁ k₁ ≡ weights stack last + 1 =
            ap₂ weights same_frame is-count ∙ put_half p q pair_placed.a_small pair_placed.b_small stack last r now'.small room in
            omega (arith, before, after, power_rises (suc (suc (a₁ + b₁))) (suc (p + q)) (omega (arith, w.hi_falls, ga, gb)))

        pub turned_lo : (stack' : List ℕ) (k' r' : ℕ) → Descended hi_descending stack' k' r' → Turned x stack' work table k' (Some r')
        unfolding hi_descending
        turned_lo stack' k' r' t =
            let ts' = postorder (lo_tree d' e' p q) us in
            let z = post_held (pair_tree d' e' t.a' t.b') ts' t.is_held in
            let now : Returned d' e' x.A x.B stack' k' r' work table = record {
              a = t.a';
              b = t.b';
              ts = ts';
              stacked = t.stacked;
              state = subst (λ (u : List Tree). State d' e' u work table) (left_lo ∙ sym z) now'.state;
              at = t.at ∙ ap (λ (u : List Tree). ref u (pair_tree d' e' t.a' t.b')) (sym z);
              small = t.small;
            } in
            record { long = t.long; entries = x.entries; long_work = refl; rest = refl; outcome = (now, hi_lighter stack' k' t.light) }

    -- the hi half is done: the pair's node is interned
    module _ {a b lo : ℕ} (taken : Taken stack last a b (Some lo)) where
      module _ (v : ℕ) (least : v ≡ top_in left right a b) (made : Option ℕ) (table' : UniqueTable) (got : Interns table v lo r made table') where
        abbrev L : Tree
        L = lo_tree d' e' p q

        abbrev H : Tree
        H = hi_tree d' e' p q

        abbrev both' : List Tree
        both' = postorder H (postorder L us)

        -- it was the hi half, and lo is the reference of the lo half
        was_hi : (lo < 512) × (frame ≡ frame_of lo p q) × (lo ≡ ref (postorder L us) L) × (pair_tree d' e' now'.a now'.b ≡ H) × (now'.ts ≡ postorder L us)
        was_hi = go framed.6
          where
            go : Entered d' e' frame p q us now'.a now'.b now'.ts
                → (lo < 512) × (frame ≡ frame_of lo p q) × (lo ≡ ref (postorder L us) L) × (pair_tree d' e' now'.a now'.b ≡ H) × (now'.ts ≡ postorder L us)
            go (in_lo f i j t) = absurd (taken.half.1 (parts 512 (omega arith) f).2)
            go (in_hi l h f m i j t) =
                let z : lo ≡ l = taken.half.0 ∙ (parts l (omega arith) f).2 in
                (omega arith, f ∙ ap (λ (n : ℕ). frame_of n p q) (sym z), z ∙ m, ap₂ (pair_tree d' e') i j, t)

        left_both : postorder (pair_tree d' e' now'.a now'.b) now'.ts ≡ both'
        left_both = ap₂ postorder was_hi.3 was_hi.4

        half : Down d' e' p q
        half = down d' e' x.inside.first.ordered x.inside.second.ordered p q parted.some

        v_is : v ≡ top d' e' p q
        v_is = step_top d' e' left right width work x.inside p q parted.a_inside parted.b_inside parted.some v (least ∙ least_is taken)

        v_small : v < MARK
        v_small = step_small d' e' left right width work x.inside p q parted.a_inside parted.b_inside parted.some v (least ∙ least_is taken)

        node_in : Numbers us (mk (top d' e' p q) L H) made table'
        node_in =
            let g = framed.4 in
            let l-is : lo ≡ ref both' L = was_hi.2 ∙ sym (lo_held us g (top d' e' p q) L H half.lo_canon half.hi_canon).1 in
            let h-is : r ≡ ref both' H = now'.at ∙ ap₂ ref left_both was_hi.3 in
            let holds : nodes_in table ≡ nodes_of both' = now'.state.nodes ∙ ap nodes_of left_both in
            interned us g (top d' e' p q) L H half.lo_canon half.hi_canon (omega (arith, v_is, v_small)) table x.entries holds made table'
            (subst (λ (n : ℕ). Interns table n (ref both' L) (ref both' H) made table') v_is
            (subst (λ (n : ℕ). Interns table v (ref both' L) n made table') h-is (subst (λ (n : ℕ). Interns table v n r made table') l-is got)))

        whole_tree : postorder (pair_tree d' e' p q) us ≡ postorder (mk (top d' e' p q) L H) us
        whole_tree = ap (λ (u : Tree). postorder u us) half.same_tree

        pub made_table : Table table'
        made_table = interns_table table v lo r made table' x.entries got

        made_few : length (postorder (pair_tree d' e' p q) us) ≤ length (postorder (pair_tree d' e' x.A x.B) [])
        made_few = overflow d' e' x.inside.first.ordered x.inside.second.ordered x.A x.B stack last p q us framed.5

      module _ (v : ℕ) (least : v ≡ top_in left right a b) (table' : UniqueTable) where
        -- there is no room for it
        pub turned_full : Interns table v lo r None table' → Turned x stack work table' last None
        turned_full got = record {
          long = x.long;
          entries = made_table v least None table' got;
          long_work = refl;
          rest = refl;
          outcome = omega (arith, node_in v least None table' got, ap length (whole_tree v least None table' got), made_few v least None table' got);
        }

        -- the node's reference is kept as the pair's
        module _ (made : ℕ) (got : Interns table v lo r (Some made) table') (i : ℕ) (place : i ≡ a * width + b) where
          node_made : Numbered us (mk (top d' e' p q) (lo_tree d' e' p q) (hi_tree d' e' p q)) made table'
          node_made = node_in v least (Some made) table' got

          at_pair : i ≡ p * size e' + q
          at_pair = place ∙ ap₂ (λ (m n : ℕ). m * width + n) (ap_is taken) (bq_is taken) ∙ ap (λ (w : ℕ). p * w + q) x.inside.wide

          at_inside : p * size e' + q < size d' * size e'
          at_inside = pair_inside (size e') (size d') p q parted.a_inside parted.b_inside

          pub entry_inside : i < length work
          entry_inside = omega (arith, at_pair, at_inside, x.inside.room)

          whole : postorder (pair_tree d' e' p q) us ≡ postorder (mk (top d' e' p q) (lo_tree d' e' p q) (hi_tree d' e' p q)) us
          whole = whole_tree v least (Some made) table' got

          ref_is : made ≡ ref (postorder (pair_tree d' e' p q) us) (pair_tree d' e' p q)
          ref_is = node_made.at ∙ ap₂ ref (sym whole) (sym (half v least (Some made) table' got).same_tree)

          made_state : State d' e' (postorder (pair_tree d' e' p q) us) (set work i made) table'
          made_state =
              let g = framed.4 in
              let H = half v least (Some made) table' got in
              let m = post_prefix us g (top d' e' p q) (lo_tree d' e' p q) (hi_tree d' e' p q) H.lo_canon H.hi_canon in
              let B = postorder (hi_tree d' e' p q) (postorder (lo_tree d' e' p q) us) in
              let grown : postorder (pair_tree d' e' p q) us ≡ B ++ m.0 = whole ∙ m.1 in
              let laws = post_laws (pair_tree d' e' p q) 0 us (pair_canon d' e' x.inside.first.ordered x.inside.second.ordered p q) g in
              let known' : Known d' e' work (postorder (pair_tree d' e' p q) us) =
              subst (Known d' e' work) (sym grown) (known_more d' e' work B m.0 (subst (Known d' e' work) (left_both v least (Some made) table' got) now'.state.known)) in
              record {
                good = laws.good;
                nodes = node_made.nodes ∙ ap nodes_of (sym whole);
                known =
                    subst (λ (n : ℕ). Known d' e' (set work n made) (postorder (pair_tree d' e' p q) us)) (sym at_pair)
                    (known_set d' e' work (postorder (pair_tree d' e' p q) us) p q made parted.a_inside parted.b_inside (omega (arith, at_inside, x.inside.room)) known'
                    laws.holds ref_is);
              }

          pub turned_made : Turned x stack (set work i made) table' last (Some made)
          turned_made =
              let halved = was_hi v least (Some made) table' got in
              let now : Returned d' e' x.A x.B stack last made (set work i made) table' =
              record { a = p; b = q; ts = us; stacked = framed.5; state = made_state; at = ref_is; small = node_made.small } in
              record {
                long = x.long;
                entries = made_table v least (Some made) table' got;
                long_work = length-set work i made;
                rest = drop-set-lt (size d' * size e') work i made (omega (arith, at_pair, at_inside));
                outcome = (now, omega (arith, ap (weights stack) is_last, top_half p q pair_placed.a_small pair_placed.b_small stack last lo halved.0 halved.1));
              }
