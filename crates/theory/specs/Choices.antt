-- A choice by a test: from a fact to the outcome of its test, and from what was chosen back to the test.
-- Assumes nothing.
use Rattle.std.specs.Prelude.{◌≡◌, refl, Bool, true, false}
use Rattle.std.proofs.Common.{lt-ltb, le-ltb, le-leb, eq-eqb, ne_eqb}
use Rattle.std.proofs.lemmas.Bool.{lt-leb}
use Rattle.definitions.specs.Basics.{pick}

-- a test's outcome, from a fact that is at hand
pub ruleset tests = (lt-ltb, le-ltb, le-leb, lt-leb, eq-eqb, ne_eqb)

-- a chain of choices whose value is not the first one went on to the rest
pub past : {A : Type 0} (b : Bool) {v x y : A} → (v ≡ x → ⊥) → v ≡ pick b x y → (b ≡ false) × (v ≡ y)
unfolding pick
past true n e = absurd (n e)
past false n e = (refl, e)

-- what holds of both values holds of the chosen one
pub both : {A : Type 0} (Q : A → Type 0) (b : Bool) {x y : A} → Q x → Q y → Q (pick b x y)
unfolding pick
both Q true p q = p
both Q false p q = q
