-- The loop of `copy`: after i turns the buffer is `paste out at bytes i`.
-- Assumes nothing.
use Prim.Native.Nat.{ℕ, ◌+◌, ◌-◌, ◌≤◌, ◌<◌, min}
use mathlib.Core.Path.{◌≡◌, sym, ◌∙◌, ap, ap₂}
use mathlib.Core.List.{List, ◌++◌}
use native.Mathlib.Omega.{arith}
use native.Mathlib.Numerals.{add-one}
use lib.ListN.{length, get_or, take, drop, set}
use lib.Seq.{paste, paste-suc}
use Rattle.buffer.specs.Appending.{Appended}

pub copy_more : (out : List ℕ) (at : ℕ) (bytes now : List ℕ) (i count : ℕ)
    → at ≤ length out → count ≡ min (length bytes) (length out - at) → i < count → now ≡ paste out at bytes i
    → set now (at + i) (get_or bytes i 0) ≡ paste out at bytes (i + 1)
copy_more out at bytes now i count h e l p =
    ap (λ (z : List ℕ). set z (at + i) (get_or bytes i 0)) p
    ∙ paste-suc out at bytes i 0 (omega arith) (omega arith)
    ∙ ap (paste out at bytes) (sym (add-one i))

-- a copy of as many bytes as there is room for
pub copied : (out : List ℕ) (at : ℕ) (bytes now : List ℕ) (i count : ℕ)
    → count ≡ min (length bytes) (length out - at) → i ≤ count → count ≤ i → now ≡ paste out at bytes i
    → Appended out at bytes now (at + count)
copied out at bytes now i count e l g p =
    let a : i ≡ at + count - at = omega arith in
    let b : at + i ≡ at + count = omega arith in
    record { end = ap (λ (k : ℕ). at + k) e; held = p ∙ ap₂ (λ (n m : ℕ). take at out ++ take n bytes ++ drop m out) a b }
