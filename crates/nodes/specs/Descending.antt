-- Laws of the first half of advancing a node.
-- Assumes nothing.
use Rattle.std.specs.Prelude.{ℕ, ◌≤◌, ◌<◌, ◌≡◌, refl}
use Rattle.std.proofs.Common.{sym, ◌∙◌, arith, lt-ltb, le-ltb}
use Rattle.definitions.specs.Basics.{pick}
use Rattle.definitions.specs.Diagrams.{Diagram, inner, advance}
use Rattle.theory.specs.Limits.{Ordered}
use Rattle.theory.specs.Basics.{either, lt_or_le, Order, less, same, more, order}
use Rattle.theory.specs.Diagrams.{descend_leaf, descend_inner, induction, advance_leaf, advance_below, advance_at, advance_above}
use Rattle.nodes.specs.Walks.{lowered}

module _ (d : Diagram) (o : Ordered d) where
  pub lowered_leaf : (e n : ℕ) → n < 2 → lowered d e n ≡ n
  unfolding lowered
  lowered_leaf e n h = descend_leaf d o _ _ n h

  pub lowered_below : (e n : ℕ) → 2 ≤ n → (inner d n).step < e → lowered d e n ≡ lowered d e (inner d n).lo
  unfolding lowered pick
  lowered_below e n h l = descend_inner d o _ _ n h ∙ simp (lt-ltb (inner d n).step e l)

  pub lowered_stop : (e n : ℕ) → 2 ≤ n → e ≤ (inner d n).step → lowered d e n ≡ n
  unfolding lowered pick
  lowered_stop e n h g = descend_inner d o _ _ n h ∙ simp (le-ltb (inner d n).step e g)

  pub lowered_zero : (n : ℕ) → lowered d 0 n ≡ n
  lowered_zero n = either (lt_or_le n 2) (lowered_leaf 0 n) (λ h. lowered_stop 0 n h (omega arith))

  -- what holds of a node where the walk stops and is kept by going to lo, holds of the walk
  along : (e : ℕ) (P : ℕ → ℕ → Type 0) → ((n : ℕ) → n < 2 → P n n) → ((n : ℕ) → 2 ≤ n → e ≤ (inner d n).step → P n n)
      → ((n m : ℕ) → 2 ≤ n → (inner d n).step < e → P (inner d n).lo m → P n m) → (n : ℕ) → P n (lowered d e n)
  along e P leaf stop on =
      induction d o (λ n. P n (lowered d e n)) (λ n h. rw (lowered_leaf e n h) (leaf n h))
      (λ n h l r. either (lt_or_le (inner d n).step e) (λ q. rw (lowered_below e n h q) (on n _ h q l)) (λ q. rw (lowered_stop e n h q) (stop n h q)))

  -- an inner node where the walk stops has a step that is not below e
  pub lowered_late : (e n : ℕ) → 2 ≤ lowered d e n → e ≤ (inner d (lowered d e n)).step
  lowered_late e = along e (λ n m. 2 ≤ m → e ≤ (inner d m).step) (λ n h g. absurd (omega arith)) (λ n h q g. q) (λ n m h q l. l)

  -- it may be carried on from a lower step to a higher one
  pub lowered_lowered : (e f n : ℕ) → e ≤ f → lowered d f (lowered d e n) ≡ lowered d f n
  lowered_lowered e f n le =
      along e (λ n m. lowered d f m ≡ lowered d f n) (λ n h. refl) (λ n h q. refl) (λ n m h q l. l ∙ sym (lowered_below f n h (omega arith))) n

  pub advance_lowered : (e f n : ℕ) → e ≤ f → advance d f (lowered d e n) ≡ advance d f n
  advance_lowered e f n le =
      along e (λ n m. advance d f m ≡ advance d f n) (λ n h. refl) (λ n h q. refl) (λ n m h q l. l ∙ sym (advance_below d o f n h (omega arith))) n

  -- advancing is lowering, and then to hi where the node is inner and its step is e
  pub advance_hi : (e n : ℕ) → 2 ≤ lowered d e n → (inner d (lowered d e n)).step ≡ e → advance d e n ≡ (inner d (lowered d e n)).hi
  advance_hi e n h q = sym (advance_lowered e e n (omega arith)) ∙ advance_at d o e (lowered d e n) h q

  pub advance_stays : (e n : ℕ) → (2 ≤ lowered d e n → (inner d (lowered d e n)).step ≡ e → ⊥) → advance d e n ≡ lowered d e n
  advance_stays e n h =
      sym (advance_lowered e e n (omega arith))
      ∙ either (lt_or_le (lowered d e n) 2) (advance_leaf d o e (lowered d e n))
      (λ g. go g (order (inner d (lowered d e n)).step e))
    where
      go : 2 ≤ lowered d e n → Order (inner d (lowered d e n)).step e → advance d e (lowered d e n) ≡ lowered d e n
      go g (less q) = absurd (omega (arith, lowered_late e n g))
      go g (same q) = absurd (h g q)
      go g (more q) = advance_above d o e (lowered d e n) g q
