-- The first field of a file: too long, or what stands at place 0; and what is known of a whole one.
-- Assumes nothing.
use Rattle.std.specs.Prelude.{ℕ, ◌≤◌, ◌<◌, ◌≡◌, not, List, leb, length, get_or}
use Rattle.std.proofs.Common.{sym, ◌∙◌}
use Rattle.definitions.specs.Fields.{two, part, only, field_at, longest, first_field}
use Rattle.definitions.proofs.Remarks.{long_first, short_first}
use Rattle.definitions.specs.declared.Field.{Field}
use Rattle.definitions.specs.declared.Field.TheVariants.{Faulty, Whole}
use Rattle.definitions.specs.declared.Refusal.TheVariants.{LongFile}
use Rattle.theory.specs.Choices.{past}
use Rattle.fields.specs.Positions.{Within, within, unlike_faulty, only_length, whole_order, whole_length}

module _ (s : List ℕ) (tag len : ℕ) where
  pub first_long : longest < length s → Faulty LongFile longest ≡ first_field s (only tag len)
  first_long h = sym (long_first s h (only tag len))

  pub first_short : length s ≤ longest → (r : Field) → r ≡ field_at s 0 (only tag len) → r ≡ first_field s (only tag len)
  first_short h r e = e ∙ sym (short_first s h (only tag len))

-- what a caller asks of the body that it was given
module _ (s : List ℕ) (tag len p a e : ℕ) (r : Field) (given : r ≡ first_field s (only tag len)) (found : r ≡ Whole p a e) where
  first_within : Within s 0 (only tag len) p a e
  unfolding first_field
  first_within = within s 0 (only tag len) p a e (past (not (leb (length s) longest)) unlike_faulty (sym found ∙ given)).1

  first_said : two s 1 ≡ len
  first_said = only_length tag len (get_or s 0 0) (two s 1) first_within.fits

  pub first_order : a ≤ e
  first_order = whole_order s 0 (only tag len) p a e len first_within first_said

  pub first_fits : e ≤ length s
  first_fits = first_within.inside

  pub first_length : length (part s a e) ≡ len
  first_length = whole_length s 0 (only tag len) p a e len first_within first_said

pub ruleset first-laws = (first_order, first_fits, first_length)
