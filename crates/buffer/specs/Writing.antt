-- What a writer leaves: bytes appended to its buffer, and its place behind them; and laws of that.
-- Assumes nothing.
use Rattle.std.specs.Prelude.{ℕ, ◌+◌, ◌≤◌, ◌<◌, ◌≡◌, List, ◌++◌, length, get_or, take}
use Rattle.std.proofs.Common.{◌∙◌}
use Rattle.definitions.specs.Basics.{each}
use Rattle.buffer.specs.declared.Writer.{Writer}
use Rattle.buffer.specs.Appending.{Appended}
use Rattle.buffer.specs.Appends.{append_both, append_long, append_inside}
use Rattle.buffer.specs.Members.{append_next, append_all}

-- the writer before and after; it keeps the buffer that it was lent
abbrev pub Wrote : Writer → List ℕ → Writer → Type 0
Wrote before bytes after = (after.out.ghost_name ≡ before.out.ghost_name) × Appended before.out.now before.at bytes after.out.now after.at

-- ---- what callers need: the place stays in the buffer, two parts written one behind the other, and the members of a list. The laws are over the parts of
-- the writers (g is the name of a writer's buffer), which the facts of a call determine

module _ {g g' at r : ℕ} {x out o : List ℕ} (h : at ≤ length out) (p : (g' ≡ g) × Appended out at x o r) where
  pub wrote_inside : r ≤ length o
  wrote_inside = append_inside h p.1

  pub wrote_long : length o ≡ length out
  wrote_long = append_long h p.1

  pub wrote_both : {g'' r' : ℕ} {y o' : List ℕ} → (g'' ≡ g') × Appended o r y o' r' → (g'' ≡ g) × Appended out at (x ++ y) o' r'
  wrote_both q = (q.0 ∙ p.0, append_both h p.1 q.1)

module _ {A : Type 0} (f : A → List ℕ) (xs : List A) (k : ℕ) {g g' at r : ℕ} {out o : List ℕ} where
  pub wrote_next : (d : A) → at ≤ length out → k < length xs → (g' ≡ g) × Appended out at (each f (take k xs)) o r
      → {g'' r' : ℕ} {o' : List ℕ} → (g'' ≡ g') × Appended o r (f (get_or xs k d)) o' r' → (g'' ≡ g) × Appended out at (each f (take (k + 1) xs)) o' r'
  wrote_next d h l p q = (q.0 ∙ p.0, append_next f xs k d h l p.1 q.1)

  pub wrote_all : length xs ≤ k → (g' ≡ g) × Appended out at (each f (take k xs)) o r → (g' ≡ g) × Appended out at (each f xs) o r
  wrote_all h p = (p.0, append_all f xs k h p.1)
