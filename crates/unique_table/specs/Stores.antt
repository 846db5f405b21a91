-- A new node, its chain's head and the count are stored, and the table stays one.
-- Assumes nothing.
use Rattle.std.specs.Prelude.{ℕ, ◌+◌, ◌-◌, ◌≤◌, ◌<◌, ◌≡◌, refl, ◌⊎◌, length, get_or, set, replicate}
use Rattle.std.proofs.Common.{sym, ◌∙◌, inl, inr}
use Rattle.std.proofs.Math.Path.{ap}
use mathlib.Core.List.{List, [], ◌∷◌, ◌++◌, map}
use native.Mathlib.Omega.{arith}
use Rattle.std.proofs.Math.ListN.{length-set}
use Rattle.std.proofs.lemmas.List.{length-replicate, get_or-replicate}
use Rattle.std.proofs.Math.Seq.{get_or-set_same, get_or-set_other}
use Rattle.definitions.specs.Basics.{upto}
use Rattle.theory.specs.Basics.{either, lt_or_le, same_or_not, upto_grown}
use Rattle.diagram_fields.specs.Words.{unpacked}
use Rattle.unique_table.specs.Tables.{UniqueTable, unique_table, node_at, next_of, head_of, count_in, nodes_in, hash, Table, Adds}

module _ (t : UniqueTable) (table : Table t) (room : count_in t < 510) (w : ℕ) (w_Fits : w < 4294967296) (k n : ℕ)
    (chain : k ≡ hash w) (k-small : k < 512) (number : n ≡ count_in t + 2) where
  -- the chains after each of the stores
  c₁ : List ℕ
  c₁ = set t.chains n (get_or t.chains (512 + k) 0)

  c₂ : List ℕ
  c₂ = set c₁ (512 + k) n

  c₃ : List ℕ
  c₃ = set c₂ 0 (n - 1)

  t' : UniqueTable
  t' = unique_table (set t.nodes n w) c₃

  long₁ : length c₁ ≡ 1024
  unfolding c₁
  long₁ = length-set t.chains n (get_or t.chains (512 + k) 0) ∙ table.chains_long

  long₂ : length c₂ ≡ 1024
  unfolding c₂
  long₂ = length-set c₁ (512 + k) n ∙ long₁

  long₃ : length c₃ ≡ 1024
  unfolding c₃
  long₃ = length-set c₂ 0 (n - 1) ∙ long₂

  -- what stands where after the stores
  elsewhere : (j : ℕ) → (j ≡ 0 → ⊥) → (j ≡ n → ⊥) → (j ≡ 512 + k → ⊥) → get_or c₃ j 0 ≡ get_or t.chains j 0
  unfolding c₃ c₂ c₁
  elsewhere j a b d = get_or-set_other c₂ 0 j (n - 1) 0 a ∙ get_or-set_other c₁ (512 + k) j n 0 d ∙ get_or-set_other t.chains n j (get_or t.chains (512 + k) 0) 0 b

  at_node : node_at t' n ≡ w
  unfolding t'
  at_node = get_or-set_same t.nodes n w 0 (omega (arith, table.nodes_long))

  at_next : next_of t' n ≡ head_of t k
  unfolding t' c₃ c₂ c₁
  at_next =
      get_or-set_other c₂ 0 n (n - 1) 0 (λ e. omega arith) ∙ get_or-set_other c₁ (512 + k) n n 0 (λ e. omega arith)
      ∙ get_or-set_same t.chains n (get_or t.chains (512 + k) 0) 0 (omega (arith, table.chains_long))

  at_head : head_of t' k ≡ n
  unfolding t' c₃ c₂
  at_head = get_or-set_other c₂ 0 (512 + k) (n - 1) 0 (λ e. omega arith) ∙ get_or-set_same c₁ (512 + k) n 0 (omega (arith, long₁))

  at_count : count_in t' ≡ count_in t + 1
  unfolding t' c₃
  at_count = get_or-set_same c₂ 0 (n - 1) 0 (omega (arith, long₂)) ∙ omega arith

  -- the nodes and heads before stay
  old_node : (m : ℕ) → 2 ≤ m → m < n → node_at t' m ≡ node_at t m
  unfolding t'
  old_node m i j = get_or-set_other t.nodes n m w 0 (λ e. omega arith)

  old_next : (m : ℕ) → 2 ≤ m → m < n → next_of t' m ≡ next_of t m
  unfolding t'
  old_next m i j = elsewhere m (λ e. omega arith) (λ e. omega arith) (λ e. omega arith)

  old_head : (j : ℕ) → (j ≡ k → ⊥) → head_of t' j ≡ head_of t j
  unfolding t'
  old_head j g = elsewhere (512 + j) (λ e. omega arith) (λ e. omega arith) (λ e. g (omega arith))

  old_hash : (m : ℕ) → 2 ≤ m → m < n → hash (node_at t' m) ≡ hash (node_at t m)
  old_hash m i j = ap hash (old_node m i j)

  new_hash : hash (node_at t' n) ≡ k
  new_hash = ap hash at_node ∙ sym chain

  -- a number is the new one or an old one
  split : (m : ℕ) → m < count_in t' + 2 → (m ≡ n) ⊎ (m < n)
  split m g = either (lt_or_le m n) inr (λ i. inl (omega (arith, at_count)))

  still_long : length t'.nodes ≡ 512
  unfolding t'
  still_long = length-set t.nodes n w ∙ table.nodes_long

  chains_kept : length t'.chains ≡ 1024
  unfolding t'
  chains_kept = long₃

  stored_table : Table t'
  stored_table = record {
    nodes_long = still_long;
    chains_long = chains_kept;
    few = omega (arith, at_count);
    fits = λ m i g. either (split m g)
        (λ e. omega (arith, ap (node_at t') e, at_node))
        (λ e. omega (arith, old_node m i e, table.fits m i (omega arith)));
    head_inside = λ j g. either (same_or_not j k)
        (λ e. omega (arith, ap (head_of t') e, at_head, at_count))
        (λ e. omega (arith, old_head j e, table.head_inside j g, at_count));
    head_hash = λ j g i. either (same_or_not j k)
        (λ e. ap (λ (m : ℕ). hash (node_at t' m)) (ap (head_of t') e ∙ at_head) ∙ new_hash ∙ sym e)
        (λ e. let q = old_head j e in
        ap (λ (m : ℕ). hash (node_at t' m)) q ∙ old_hash (head_of t j) (omega arith) (omega (arith, table.head_inside j g)) ∙ table.head_hash j g (omega arith));
    head_last = λ m i g. either (split m g)
        (λ e. omega (arith, ap (head_of t') (ap (λ (z : ℕ). hash (node_at t' z)) e ∙ new_hash), at_head))
        (λ e. either (same_or_not (hash (node_at t m)) k)
        (λ f. omega (arith, ap (head_of t') (old_hash m i e ∙ f), at_head))
        (λ f. omega (arith, ap (head_of t') (old_hash m i e), old_head (hash (node_at t m)) f, table.head_last m i (omega arith))));
    next_below = λ m i g. either (split m g)
        (λ e. omega (arith, ap (next_of t') e, at_next, table.head_inside k k-small))
        (λ e. omega (arith, old_next m i e, table.next_below m i (omega arith)));
    next_hash = λ m i g j. either (split m g)
        (λ e. let q : next_of t' m ≡ head_of t k = ap (next_of t') e ∙ at_next in
        ap (λ (z : ℕ). hash (node_at t' z)) q ∙ old_hash (head_of t k) (omega arith) (omega (arith, table.head_inside k k-small)) ∙ table.head_hash k k-small (omega arith)
        ∙ sym (ap (λ (z : ℕ). hash (node_at t' z)) e ∙ new_hash))
        (λ e. let q = old_next m i e in
        let b = table.next_below m i (omega arith) in
        ap (λ (z : ℕ). hash (node_at t' z)) q ∙ old_hash (next_of t m) (omega arith) (omega arith) ∙ table.next_hash m i (omega arith) (omega arith) ∙ sym (old_hash m i e));
    next_last = λ i m a b g e. either (split m g)
        (λ f. let r : hash (node_at t i) ≡ k = sym (old_hash i a (omega arith)) ∙ e ∙ ap (λ (z : ℕ). hash (node_at t' z)) f ∙ new_hash in
        omega (arith, ap (next_of t') f, at_next, table.head_last i a (omega arith), ap (head_of t) r))
        (λ f. omega (arith, old_next m (omega arith) f, table.next_last i m a b (omega arith) (sym (old_hash i a (omega arith)) ∙ e ∙ old_hash m (omega arith) f)));
  }

  nodes_grown : nodes_in t' ≡ nodes_in t ++ unpacked w ∷ []
  unfolding nodes_in
  nodes_grown =
      ap (λ (c : ℕ). map (λ i. unpacked (node_at t' (i + 2))) (upto c)) at_count
      ∙ upto_grown (λ (i : ℕ). unpacked (node_at t (i + 2))) (λ (i : ℕ). unpacked (node_at t' (i + 2))) (count_in t) (unpacked w)
      (λ i g. ap unpacked (old_node (i + 2) (omega arith) (omega arith))) (ap (λ (m : ℕ). unpacked (node_at t' m)) (sym number) ∙ ap unpacked at_node)

  pub stored_adds : Adds t w n (unique_table (set t.nodes n w) (set (set (set t.chains n (get_or t.chains (512 + k) 0)) (512 + k) n) 0 (n - 1)))
  unfolding t' c₃ c₂ c₁
  stored_adds = record { number = number; stored = refl; table = stored_table; nodes = nodes_grown }

-- ---- the empty table

-- nothing but 0 in the chains, and whatever stands in the list of the nodes
abbrev pub blank : List ℕ
blank = replicate 1024 0

blank_at : (j : ℕ) → j < 1024 → get_or blank j 0 ≡ 0
blank_at j g = get_or-replicate {A = ℕ} 1024 j 0 0 g

pub empty_table : (nodes : List ℕ) → length nodes ≡ 512 → Table (unique_table nodes blank)
empty_table nodes long =
    let none = blank_at 0 (omega arith) in
    record {
      nodes_long = long;
      chains_long = length-replicate {A = ℕ} 1024 0;
      few = omega arith;
      fits = λ n i g. absurd (omega arith);
      head_inside = λ k g. omega (arith, blank_at (512 + k) (omega arith));
      head_hash = λ k g i. absurd (omega (arith, blank_at (512 + k) (omega arith)));
      head_last = λ n i g. absurd (omega arith);
      next_below = λ n i g. absurd (omega arith);
      next_hash = λ n i g j. absurd (omega arith);
      next_last = λ m n i j g e. absurd (omega arith);
    }

pub empty_nodes : (nodes : List ℕ) → nodes_in (unique_table nodes blank) ≡ []
unfolding nodes_in
empty_nodes nodes = ap (λ (c : ℕ). map (λ i. unpacked (node_at (unique_table nodes blank) (i + 2))) (upto c)) (blank_at 0 (omega arith))
