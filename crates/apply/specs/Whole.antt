-- The whole walk from a pair of nodes: what it asks, what it leaves, and what its loop keeps.
-- Assumes nothing.
use Rattle.std.specs.Prelude.{ℕ, suc, ◌*◌, ◌≤◌, ◌<◌, ◌≡◌, refl, Option, Some, None, length, replicate, drop}
use Rattle.std.proofs.Common.{sym, ◌∙◌, arith}
use Rattle.std.proofs.Math.Path.{ap, ap₂, subst}
use mathlib.Core.List.{List, []}
use Rattle.definitions.specs.Diagrams.{Diagram, size}
use Rattle.definitions.specs.Reductions.{Tree, postorder, ref, nodes_of}
use Rattle.unique_table.specs.Tables.{UniqueTable, nodes_in, Table}
use Rattle.reduction_theory.specs.Growth.{post_held}
use Rattle.reduction_theory.specs.Numbering.{good_nil}
use Rattle.std.proofs.lemmas.List.{length-replicate}
use Rattle.apply.specs.declared.stack.Stack.{Stack}
use Rattle.apply.specs.Operands.{Inside}
use Rattle.apply.specs.Pairs.{pair_tree}
use Rattle.apply.specs.Stacks.{Stacked}
use Rattle.apply.specs.Turns.{Descended, Turned}
use Rattle.apply.specs.Walks.{State, Returned, Walking, Descending, few_frames}
use Rattle.apply.specs.Weights.{weights}

-- two diagrams in tables, a pair of their nodes, and a table in which nothing has been left
pub record Ready (work : List ℕ) (table : UniqueTable) (left right : List ℕ) (width a b : ℕ) : Type 0 where
  pub d : Diagram
  pub e : Diagram
  pub inside : Inside d e left right width work
  pub a_inside : a < size d
  pub b_inside : b < size e
  pub entries : Table table
  pub state : State d e [] work table

-- by the answer: r is the reference of the tree u and the table holds the nodes that its walk leaves, or none and that would be more than 510 nodes
abbrev pub Leaves : Tree → UniqueTable → Option ℕ → Type 0
Leaves u table (Some r) = (r < 512) × (nodes_in table ≡ nodes_of (postorder u [])) × (r ≡ ref (postorder u []) u)
Leaves u table None = 510 < length (postorder u [])

-- what the whole walk leaves
pub record Walked {work : List ℕ} {table : UniqueTable} {left right : List ℕ} {width a b : ℕ} (x : Ready work table left right width a b) (work' : List ℕ) (table' : UniqueTable) (r : Option ℕ) : Type 0 where
  pub entries : Table table'
  pub long : length work' ≡ length work
  pub rest : drop (size x.d * size x.e) work' ≡ drop (size x.d * size x.e) work
  pub leaves : Leaves (pair_tree x.d x.e a b) table' r

-- what the loop keeps, from what its first turn begins with
pub record Going {stack₀ work₀ : List ℕ} {table₀ : UniqueTable} {left right : List ℕ} {width k₀ r₀ : ℕ} (y : Walking stack₀ work₀ table₀ left right width k₀ r₀) (stack work : List ℕ) (table : UniqueTable) (k r : ℕ)
    : Type 0 where
  pub long : length stack ≡ 1024
  pub entries : Table table
  pub long_work : length work ≡ length work₀
  pub rest : drop (size y.d * size y.e) work ≡ drop (size y.d * size y.e) work₀
  pub returned : Returned y.d y.e y.A y.B stack k r work table

module _ {stack₀ work₀ : List ℕ} {table₀ : UniqueTable} {left right : List ℕ} {width k₀ r₀ : ℕ} (y : Walking stack₀ work₀ table₀ left right width k₀ r₀) where
  pub going_start : Going y stack₀ work₀ table₀ k₀ r₀
  going_start = record { long = y.long; entries = y.entries; long_work = refl; rest = refl; returned = y.returned }

  pub inside_on : {stack work : List ℕ} {table : UniqueTable} {k r : ℕ} → Going y stack work table k r → Inside y.d y.e left right width work
  inside_on g = record { first = y.inside.first; second = y.inside.second; wide = y.inside.wide; room = omega (arith, y.inside.room, g.long_work) }

  module _ {stack work : List ℕ} {table : UniqueTable} {k r : ℕ} (g : Going y stack work table k r) where
    pub going_few : k ≤ 1022
    going_few =
        omega (
          arith,
          few_frames y.d y.e left right width work (inside_on g) y.A y.B y.A-inside y.B-inside stack k g.returned.a g.returned.b g.returned.ts g.returned.stacked,
        )

    -- the last frame is taken off the stack
    module _ {stack' : List ℕ} {last : ℕ} (is-stack : stack' ≡ stack) (is-last : k ≡ suc last) where
      unfoldable pub going_on : Walking stack' work table left right width (suc last) r
      going_on = record {
        d = y.d;
        e = y.e;
        A = y.A;
        B = y.B;
        inside = inside_on g;
        A-inside = y.A-inside;
        B-inside = y.B-inside;
        long = ap length is-stack ∙ g.long;
        entries = g.entries;
        returned =
            subst (λ (s : List ℕ). Returned y.d y.e y.A y.B s (suc last) r work table) (sym is-stack)
            (subst (λ (n : ℕ). Returned y.d y.e y.A y.B stack n r work table) is-last g.returned);
      }

      module _ {stack″ work″ : List ℕ} {table″ : UniqueTable} {k″ r″ : ℕ} (t : Turned going_on stack″ work″ table″ k″ (Some r″)) where
        pub going_turn : Going y stack″ work″ table″ k″ r″
        unfolding going_on
        going_turn = record { long = t.long; entries = t.entries; long_work = t.long_work ∙ g.long_work; rest = t.rest ∙ g.rest; returned = t.outcome.0 }

        pub going_less : weights stack″ k″ < weights stack k
        unfolding going_on
        going_less = omega (arith, t.outcome.1, ap₂ weights is-stack (sym is-last))

-- ---- from the pair

-- no pair's walk has begun
abbrev pub empty_stack : Stack
empty_stack = record { frames = replicate 1024 0; count = 0 }

module _ {work : List ℕ} {table : UniqueTable} {left right : List ℕ} {width a b : ℕ} (x : Ready work table left right width a b) (s : Stack) (new : s ≡ empty_stack) where
  unfoldable pub first_descending : Descending s.frames work left right width s.count a b
  first_descending = record {
    d = x.d;
    e = x.e;
    A = a;
    B = b;
    ts = [];
    inside = x.inside;
    A-inside = x.a_inside;
    B-inside = x.b_inside;
    long = ap (λ (z : Stack). length z.frames) new ∙ length-replicate {A = ℕ} 1024 0;
    known = x.state.known;
    good = good_nil;
    stacked = subst (λ (n : ℕ). Stacked x.d x.e a b s.frames n a b []) (ap (λ (z : Stack). z.count) (sym new)) (refl, refl, refl);
  }

  module _ {stack₁ : List ℕ} {k₁ r₁ : ℕ} (t : Descended first_descending stack₁ k₁ r₁) where
    pub first_walking : Walking stack₁ work table left right width k₁ r₁
    unfolding first_descending
    first_walking =
        let z = post_held (pair_tree x.d x.e t.a' t.b') [] t.is_held in
        record {
          d = x.d;
          e = x.e;
          A = a;
          B = b;
          inside = x.inside;
          A-inside = x.a_inside;
          B-inside = x.b_inside;
          long = t.long;
          entries = x.entries;
          returned = record {
            a = t.a';
            b = t.b';
            ts = [];
            stacked = t.stacked;
            state = subst (λ (u : List Tree). State x.d x.e u work table) (sym z) x.state;
            at = t.at ∙ ap (λ (u : List Tree). ref u (pair_tree x.d x.e t.a' t.b')) (sym z);
            small = t.small;
          };
        }

    module _ {stack₂ work₂ : List ℕ} {table₂ : UniqueTable} {k₂ r₂ : ℕ} (g : Going first_walking stack₂ work₂ table₂ k₂ r₂) where
      -- no frame is left: the walk of the pair itself is done
      pub walked_end : k₂ ≡ 0 → Walked x work₂ table₂ (Some r₂)
      unfolding first_walking
      walked_end z =
          let n = g.returned in
          let last : Stacked x.d x.e a b stack₂ 0 n.a n.b n.ts = subst (λ (m : ℕ). Stacked x.d x.e a b stack₂ m n.a n.b n.ts) z n.stacked in
          let tree_is : pair_tree x.d x.e n.a n.b ≡ pair_tree x.d x.e a b = ap₂ (pair_tree x.d x.e) last.0 last.1 in
          let left_is : postorder (pair_tree x.d x.e n.a n.b) n.ts ≡ postorder (pair_tree x.d x.e a b) [] = ap₂ postorder tree_is last.2 in
          record {
            entries = g.entries;
            long = g.long_work;
            rest = g.rest;
            leaves = (n.small, n.state.nodes ∙ ap nodes_of left_is, n.at ∙ ap₂ ref left_is tree_is);
          }

      -- there is no room for a node
      pub walked_full : {stack′ : List ℕ} {last : ℕ} (is-stack : stack′ ≡ stack₂) (is-last : k₂ ≡ suc last) {stack₃ work₃ : List ℕ} {table₃ : UniqueTable} {k₃ : ℕ}
          → Turned (going_on first_walking g is-stack is-last) stack₃ work₃ table₃ k₃ None → Walked x work₃ table₃ None
      unfolding first_walking going_on
      walked_full is-stack is-last t₃ = record { entries = t₃.entries; long = t₃.long_work ∙ g.long_work; rest = t₃.rest ∙ g.rest; leaves = t₃.outcome }
