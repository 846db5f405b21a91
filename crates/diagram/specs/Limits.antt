-- What is known of a node's body that passes, and that its check looks at the steps of the inner nodes before it alone.
-- Assumes nothing.
use Rattle.std.specs.Prelude.{ℕ, ◌+◌, ◌≤◌, ◌<◌, ◌≡◌, true, not, ◌&&◌, ◌||◌, List, leb, ltb}
use Rattle.std.proofs.Common.{ap, arith, leb-false, ltb-true, le-ltb, lt-ltb}
use Rattle.std.proofs.lemmas.Bool.{not-false}
use Rattle.definitions.specs.Fields.{two}
use Rattle.definitions.specs.Diagrams.{child_fits, node_fault}
use Rattle.theory.specs.Choices.{past}
use Rattle.theory.specs.Basics.{either, lt_or_le, both}

-- ---- only the steps of the inner nodes before it matter

child_fits_same : (f g : ℕ → ℕ) (own step r : ℕ) → ((k : ℕ) → 2 ≤ k → k < own → f k ≡ g k) → child_fits f own step r ≡ child_fits g own step r
child_fits_same f g own step r same =
    either (lt_or_le r own)
    (λ l. either (lt_or_le r 2) (λ i. simp (lt-ltb r 2 i)) (λ i. ap (λ (k : ℕ). ltb r own && (ltb r 2 || ltb step k)) (same r i l)))
    (λ l. simp (le-ltb r own l))

pub node_fault_same : (steps : ℕ) (f g : ℕ → ℕ) (count : ℕ) (b : List ℕ) → ((k : ℕ) → 2 ≤ k → k < count + 2 → f k ≡ g k)
    → node_fault steps f count b ≡ node_fault steps g count b
unfolding node_fault
node_fault_same steps f g count b same =
    rw (child_fits_same f g (count + 2) (two b 0) (two b 2) same, child_fits_same f g (count + 2) (two b 0) (two b 4) same)

-- ---- a body that passes

-- r may be a child of the node numbered `own`
pub record Child (step_at : ℕ → ℕ) (own step r : ℕ) : Type 0 where
  pub below : r < own
  pub later : 2 ≤ r → step < step_at r

child_of : (step_at : ℕ → ℕ) (own step r : ℕ) → child_fits step_at own step r ≡ true → Child step_at own step r
child_of step_at own step r t = let a = both _ _ t in record { below = ltb-true _ _ a.0; later = λ g. is_later g a.1 }
  where
    is_later : 2 ≤ r → (ltb r 2 || ltb step (step_at r)) ≡ true → step < step_at r
    is_later g e = ltb-true _ _ (simp (le-ltb r 2 g) at e)

pub record NodeFits (steps : ℕ) (step_at : ℕ → ℕ) (count : ℕ) (b : List ℕ) : Type 0 where
  pub few : count < 510
  pub exists : two b 0 < steps
  pub lo : Child step_at (count + 2) (two b 0) (two b 2)
  pub hi : Child step_at (count + 2) (two b 0) (two b 4)

pub node_fits : (steps : ℕ) (step_at : ℕ → ℕ) (count : ℕ) (b : List ℕ) → 0 ≡ node_fault steps step_at count b → NodeFits steps step_at count b
unfolding node_fault
node_fits steps step_at count b p =
    let p1 = past (leb 510 count) (λ q. omega arith) p in
    let p2 = past (leb steps (two b 0)) (λ q. omega arith) p1.1 in
    let p3 = past (not (child_fits step_at (count + 2) (two b 0) (two b 2))) (λ q. omega arith) p2.1 in
    let p4 = past (not (child_fits step_at (count + 2) (two b 0) (two b 4))) (λ q. omega arith) p3.1 in
    record {
      few = leb-false 510 count p1.0;
      exists = leb-false steps (two b 0) p2.0;
      lo = child_of step_at (count + 2) (two b 0) (two b 2) (not-false _ p3.0);
      hi = child_of step_at (count + 2) (two b 0) (two b 4) (not-false _ p4.0);
    }
