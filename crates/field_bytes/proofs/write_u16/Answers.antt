-- `field_bytes::write_u16` meets its contract.
use Rattle.std.proofs.Common.{rules, arith, subst, ◌≡◌, ℕ, ◌/◌, ◌%◌, List, [], ◌∷◌, get_or}
use Rattle.buffer.specs.Writing.{Wrote, wrote_both}
use Rattle.field_bytes.proofs.write_u16.Goals as goal

pub returns : goal.returns
returns c =
    let high : c.args.n / 256 % 256 ≡ c.args.n / 256 = omega arith in
    subst (λ (h : ℕ). Wrote c.args.w.now (c.args.n % 256 ∷ h ∷ []) c.write_u8-2.new.w) high
    (subst (λ (l : List ℕ). Wrote c.args.w.now (get_or l 0 0 ∷ get_or l 1 0 ∷ []) c.write_u8-2.new.w) c.to_le_bytes-bytes.ensures
    (wrote_both (search rules) c.write_u8.ensures c.write_u8-2.ensures))
