-- The kind, the group and the two stages of a step in one number, and the columns of each.
-- Assumes nothing.
use Rattle.std.specs.Prelude.{ℕ, ◌/◌, ◌%◌, ◌<◌, ◌≡◌, List, map, get_or}
use Rattle.std.proofs.Math.ListN.{get_or-map}
use Rattle.theory.specs.Packing.{pack, first_packed, second_packed}

abbrev pub ends_of : ℕ → ℕ → ℕ → ℕ → ℕ
ends_of tag group from to = pack 256 (pack 256 (pack 4 group tag) to) from

abbrev pub from_of : ℕ → ℕ
from_of ends = ends % 256

abbrev pub to_of : ℕ → ℕ
to_of ends = ends / 256 % 256

abbrev pub tag_of : ℕ → ℕ
tag_of ends = ends / 256 / 256 % 4

abbrev pub group_of : ℕ → ℕ
group_of ends = ends / 256 / 256 / 4

-- the stages that steps leave, those that they lead to, the kinds and the groups
unfoldable pub froms : List ℕ → List ℕ
froms ends = map from_of ends

unfoldable pub tos : List ℕ → List ℕ
tos ends = map to_of ends

unfoldable pub tags : List ℕ → List ℕ
tags ends = map tag_of ends

unfoldable pub groups : List ℕ → List ℕ
groups ends = map group_of ends

module _ (ends : List ℕ) (e : ℕ) where
  pub froms_at : get_or (froms ends) e 0 ≡ from_of (get_or ends e 0)
  unfolding froms
  froms_at = get_or-map from_of ends e 0

  pub tos_at : get_or (tos ends) e 0 ≡ to_of (get_or ends e 0)
  unfolding tos
  tos_at = get_or-map to_of ends e 0

  pub tags_at : get_or (tags ends) e 0 ≡ tag_of (get_or ends e 0)
  unfolding tags
  tags_at = get_or-map tag_of ends e 0

  pub groups_at : get_or (groups ends) e 0 ≡ group_of (get_or ends e 0)
  unfolding groups
  groups_at = get_or-map group_of ends e 0

-- each is taken out again
module _ (tag group from to ends : ℕ) (packs : ends ≡ ends_of tag group from to) (f : from < 256) where
  pub from_packed : from_of ends ≡ from
  from_packed = second_packed 256 (pack 256 (pack 4 group tag) to) from ends packs f

  rest : ends / 256 ≡ pack 256 (pack 4 group tag) to
  rest = first_packed 256 (pack 256 (pack 4 group tag) to) from ends packs f

  module _ (t : to < 256) where
    pub to_packed : to_of ends ≡ to
    to_packed = second_packed 256 (pack 4 group tag) to (ends / 256) rest t

    above_stages : ends / 256 / 256 ≡ pack 4 group tag
    above_stages = first_packed 256 (pack 4 group tag) to (ends / 256) rest t

    module _ (k : tag < 4) where
      pub tag_packed : tag_of ends ≡ tag
      tag_packed = second_packed 4 group tag (ends / 256 / 256) above_stages k

      pub group_packed : group_of ends ≡ group
      group_packed = first_packed 4 group tag (ends / 256 / 256) above_stages k
