-- What interning a node is to a walk: after the walks of its children, the table holds what the walk of the node has left.
-- Assumes nothing.
use Rattle.std.specs.Prelude.{ℕ, suc, ◌+◌, ◌-◌, ◌≤◌, ◌<◌, ◌≡◌, Bool, true, false, List, [], ◌∷◌, ◌++◌, Option, Some, None, get_or}
use Rattle.std.proofs.Math.Path.{refl}
use Rattle.std.proofs.Common.{sym, ◌∙◌, ap, ap₂, subst, arith, length-append}
use Rattle.std.proofs.Math.ListN.{length, get_or-map}
use Rattle.std.proofs.lemmas.List.{length-map}
use Rattle.definitions.specs.Diagrams.{InnerNode, no_node}
use Rattle.theory.specs.Basics.{fails, true_not_false}
use Rattle.diagram_fields.specs.Words.{word_of, unpacked, node_word, word_node}
use Rattle.unique_table.specs.Nodes.{nodes_long, node_listed}
use Rattle.unique_table.specs.Tables.{UniqueTable, inner_node, node_at, count_in, nodes_in, Table, Lacks, Interned, Interns, alone, found, added}
use Rattle.definitions.specs.Reductions.{Tree, mk, no_leaf, yes_leaf, branch, member, position, postorder, ref, numbered, nodes_of}
use Rattle.reduction_theory.specs.Growth.{held_kid, ref_apart, nodes_snoc, post_held, post_node, settled}
use Rattle.reduction_theory.specs.Numbering.{held, member_position, member_last, get_d_member, ref_more, ref_at, member_held, post_new, Good, Posted, post_laws}
use Rattle.reduction_theory.specs.Trees.{Canon, clash, mk_same, mk_apart}

nodes_length : (ts : List Tree) → length (nodes_of ts) ≡ length ts
unfolding nodes_of
nodes_length ts = length-map ts (numbered ts)

nodes_at : (ts : List Tree) (i : ℕ) → get_or (nodes_of ts) i no_node ≡ numbered ts (get_or ts i no_leaf)
unfolding nodes_of numbered
nodes_at ts i = get_or-map (numbered ts) ts i no_leaf

table_at : (t : UniqueTable) (n : ℕ) → 2 ≤ n → n < count_in t + 2 → get_or (nodes_in t) (n - 2) no_node ≡ unpacked (node_at t n)
table_at t n h l =
    let q : n - 2 + 2 ≡ n = omega arith in
    node_listed t (n - 2) (omega arith) ∙ ap (λ (m : ℕ). unpacked (node_at t m)) q

numbered_branch : (ts : List Tree) (v : ℕ) (l h : Tree) → numbered ts (branch v l h) ≡ inner_node v (ref ts l) (ref ts h)
unfolding numbered
numbered_branch ts v l h = refl

ref_branch : (ts : List Tree) (v : ℕ) (l h : Tree) → ref ts (branch v l h) ≡ position (branch v l h) ts + 2
unfolding ref
ref_branch ts v l h = refl

-- the table holds the nodes ts
module _ (t : UniqueTable) (ts : List Tree) (g : Good ts) (holds : nodes_in t ≡ nodes_of ts) where
  pub held_count : count_in t ≡ length ts
  held_count = sym (nodes_long t) ∙ ap length holds ∙ nodes_length ts

  held_node_lem : (n : ℕ) → 2 ≤ n → n < count_in t + 2 → unpacked (node_at t n) ≡ numbered ts (get_or ts (n - 2) no_leaf)
  held_node_lem n h l = sym (table_at t n h l) ∙ ap (λ (x : List InnerNode). get_or x (n - 2) no_node) holds ∙ nodes_at ts (n - 2)

  module _ (v : ℕ) (small : v < 16384) (l h : Tree) (hl : held ts l ≡ true) (hh : held ts h ≡ true) where
    -- a node of the table with these references is that of the tree
    node_tree : (n : ℕ) → 2 ≤ n → n < count_in t + 2 → unpacked (node_at t n) ≡ inner_node v (ref ts l) (ref ts h) → get_or ts (n - 2) no_leaf ≡ branch v l h
    unfolding ref
    node_tree n b c e = go (get_or ts (n - 2) no_leaf) refl
      where
        inside : n - 2 < length ts
        inside = omega (arith, held_count)

        go : (u : Tree) → get_or ts (n - 2) no_leaf ≡ u → get_or ts (n - 2) no_leaf ≡ branch v l h
        go no_leaf q = absurd (omega (arith, g.once (n - 2) inside, ap (ref ts) q))
        go yes_leaf q = absurd (omega (arith, g.once (n - 2) inside, ap (ref ts) q))
        go (branch w m k) q =
            let x : inner_node w (ref ts m) (ref ts k) ≡ inner_node v (ref ts l) (ref ts h) = sym (held_node_lem n b c ∙ ap (numbered ts) q ∙ numbered_branch ts w m k) ∙ e in
            let p₁ : w ≡ v = ap (λ (y : InnerNode). y.step) x in
            let p₂ : m ≡ l = ref_apart ts m l (g.lo_held (n - 2) w m k inside q).0 hl (ap (λ (y : InnerNode). y.lo) x) in
            let p₃ : k ≡ h = ref_apart ts k h (g.hi_held (n - 2) w m k inside q).0 hh (ap (λ (y : InnerNode). y.hi) x) in
            q ∙ (λ i. branch (p₁ i) (p₂ i) (p₃ i))

    -- the node fits in one number
    fits_word : length ts ≤ 510 → unpacked (word_of (inner_node v (ref ts l) (ref ts h))) ≡ inner_node v (ref ts l) (ref ts h)
    fits_word few = node_word (inner_node v (ref ts l) (ref ts h)) small (omega (arith, (ref_at l ts hl).1)) (omega (arith, (ref_at h ts hh).1))

    pub node_member : length ts ≤ 510 → (n : ℕ) → 2 ≤ n → n < count_in t + 2 → node_at t n ≡ word_of (inner_node v (ref ts l) (ref ts h)) → (member (branch v l h) ts ≡ true) × (n ≡ ref ts (branch v l h))
    node_member few n b c e =
        let q = node_tree n b c (ap unpacked e ∙ fits_word few) in
        let inside : n - 2 < length ts = omega (arith, held_count) in
        (subst (λ (u : Tree). member u ts ≡ true) q (get_d_member ts (n - 2) inside), omega (arith, g.once (n - 2) inside, ap (ref ts) q))

    pub lacks_member : Table t → Lacks t (word_of (inner_node v (ref ts l) (ref ts h))) → member (branch v l h) ts ≡ false
    lacks_member w f =
        fails (member (branch v l h) ts) (λ m.
        let x = member_position (branch v l h) ts m in
        let at = position (branch v l h) ts + 2 in
        let q : at - 2 ≡ position (branch v l h) ts = omega arith in
        let inside : at < count_in t + 2 = omega (arith, x.1, held_count) in
        let here : unpacked (node_at t at) ≡ inner_node v (ref ts l) (ref ts h) =
        held_node_lem at (omega arith) inside ∙ ap (λ (i : ℕ). numbered ts (get_or ts i no_leaf)) q ∙ ap (numbered ts) x.0 ∙ numbered_branch ts v l h in
        f at (omega arith) inside (sym (word_node (node_at t at) (w.fits at (omega arith) inside)) ∙ ap word_of here))

-- what interning leaves in the table for the tree of the node, with r as its reference
pub record Numbered (ts : List Tree) (u : Tree) (r : ℕ) (t' : UniqueTable) : Type 0 where
  pub small : r < 512
  pub nodes : nodes_in t' ≡ nodes_of (postorder u ts)
  pub at : r ≡ ref (postorder u ts) u

-- by the answer: none where there are more than 510 nodes
abbrev pub Numbers : List Tree → Tree → Option ℕ → UniqueTable → Type 0
Numbers ts u (Some r) t' = Numbered ts u r t'
Numbers ts u None t' = 510 < length (postorder u ts)

module _ (ts : List Tree) (g : Good ts) (v : ℕ) (l h : Tree) (cl : Canon (suc v) l) (ch : Canon (suc v) h) where
  abbrev ts₁ : List Tree
  ts₁ = postorder l ts

  abbrev ts₂ : List Tree
  ts₂ = postorder h (postorder l ts)

  good₁ : Posted l ts ts₁
  good₁ = post_laws l (suc v) ts cl g

  good₂ : Posted h ts₁ ts₂
  good₂ = post_laws h (suc v) ts₁ ch good₁.good

  pub lo_held : (held ts₂ l ≡ true) × (ref ts₂ l ≡ ref ts₁ l)
  lo_held = rw good₂.extends (ref_more l ts₁ good₂.added good₁.holds)

  pub hi_held : held ts₂ h ≡ true
  hi_held = good₂.holds

  module _ (small : v < 16384) (t : UniqueTable) (w : Table t) (holds : nodes_in t ≡ nodes_of ts₂) where
    abbrev u : Tree
    u = mk v l h

    few : length ts₂ ≤ 510
    few = omega (arith, held_count t ts₂ good₂.good holds, w.few)

    -- a node that the table lacks is left last
    new_node : (ref ts₂ l ≡ ref ts₂ h → ⊥) → Lacks t (word_of (inner_node v (ref ts₂ l) (ref ts₂ h)))
        → (postorder (mk v l h) ts ≡ ts₂ ++ branch v l h ∷ []) × (member (branch v l h) ts₂ ≡ false)
    new_node n f =
        let out = lacks_member t ts₂ good₂.good holds v small l h lo_held.0 hi_held w f in
        let before : member (branch v l h) ts ≡ false = fails (member (branch v l h) ts) (λ m.
        let k = held_kid ts g v l h m in
        let y : ts₂ ≡ ts = settled ts g v l h cl ch k.0 k.1 in
        true_not_false (sym m ∙ ap (member (branch v l h)) (sym y) ∙ out)) in
        (ap (λ (x : Tree). postorder x ts) (mk_apart v l h (λ q. n (ap (ref ts₂) q))) ∙ post_node v l h ts before, out)

    -- by the ways of `intern`
    made_in : (r : ℕ) (t' : UniqueTable) → Interned t v (ref ts₂ l) (ref ts₂ h) r t' → Numbered ts (mk v l h) r t'
    made_in r t' (alone e q s) =
        let same_tree : l ≡ h = ref_apart ts₂ l h lo_held.0 hi_held e in
        let z : postorder (mk v l h) ts ≡ ts₁ = ap (λ (x : Tree). postorder x ts) (mk_same v l h same_tree) in
        let y : ts₂ ≡ ts₁ = ap (λ (x : Tree). postorder x ts₁) (sym same_tree) ∙ post_held l ts₁ good₁.holds in
        let b : ref ts₂ l < length ts₂ + 2 = (ref_at l ts₂ lo_held.0).1 in
        record {
          small = omega (arith, b, few);
          nodes = ap nodes_in s ∙ holds ∙ ap nodes_of (y ∙ sym z);
          at = q ∙ ap₂ ref (y ∙ sym z) (sym (mk_same v l h same_tree));
        }
    made_in r t' (found n f s) =
        let x = node_member t ts₂ good₂.good holds v small l h lo_held.0 hi_held few r f.inner f.inside f.hit in
        let apart : l ≡ h → ⊥ = λ q. n (ap (ref ts₂) q) in
        let m : member (branch v l h) ts ≡ true = before (member (branch v l h) ts) refl x.0 in
        let k = held_kid ts g v l h m in
        let y : ts₂ ≡ ts = settled ts g v l h cl ch k.0 k.1 in
        let z : postorder (mk v l h) ts ≡ ts = ap (λ (x : Tree). postorder x ts) (mk_apart v l h apart) ∙ post_held (branch v l h) ts (member_held (branch v l h) ts m) in
        record {
          small = omega (arith, w.few, f.inside);
          nodes = ap nodes_in s ∙ holds ∙ ap nodes_of (y ∙ sym z);
          at = x.1 ∙ ap₂ ref (y ∙ sym z) (sym (mk_apart v l h apart));
        }
      where
        before : (b : Bool) → member (branch v l h) ts ≡ b → member (branch v l h) ts₂ ≡ true → member (branch v l h) ts ≡ true
        before true q i = q
        before false q i = clash (sym i ∙ post_new v l h ts q)
    made_in r t' (added n f c a) =
        let y = new_node n f in
        let z = y.0 in
        let e : nodes_in t' ≡ nodes_of (ts₂ ++ branch v l h ∷ []) =
        a.nodes ∙ ap₂ (λ (x : List InnerNode) (y : InnerNode). x ++ y ∷ []) holds (fits_word t ts₂ good₂.good holds v small l h lo_held.0 hi_held few) ∙ sym (nodes_snoc ts₂ good₂.good v l h lo_held.0 hi_held) in
        record {
          small = omega (arith, a.number);
          nodes = e ∙ ap nodes_of (sym z);
          at =
              omega (arith, a.number, held_count t ts₂ good₂.good holds, ref_branch (ts₂ ++ branch v l h ∷ []) v l h, (member_last (branch v l h) ts₂ y.1).1)
              ∙ ap₂ ref (sym z) (sym (mk_apart v l h (λ q. n (ap (ref ts₂) q))));
        }

    pub interned : (r : Option ℕ) (t' : UniqueTable) → Interns t v (ref ts₂ l) (ref ts₂ h) r t' → Numbers ts (mk v l h) r t'
    interned (Some r) t' i = made_in r t' i
    interned None t' f =
        omega (arith, ap length (new_node f.apart f.lacks).0, length-append ts₂ (branch v l h ∷ []), held_count t ts₂ good₂.good holds, f.full)
