-- Level tables computed by the definitions: document 01's M9, M10 and M11, document 02's without a greatest lower bound, and one for each way to fail.
-- Assumes nothing.
use Prim.Native.Nat.{ℕ}
use mathlib.Core.Path.{◌≡◌, refl}
use mathlib.Core.Bool.{true, false}
use mathlib.Core.List.{List, [], ◌∷◌}
use lib.ListN.{length}
use Rattle.lists.specs.Range.{all, first}
use Rattle.dominance.specs.Order.{strictly, incomparable, reflexive, antisymmetric, transitive, is_order}
use Rattle.dominance.specs.Join.{is_least, join, has_joins}
use Rattle.dominance.specs.Meet.{meet}
use Rattle.dominance.specs.Table.{dominates, names_present, is_ordered, join_of, is_joined, verdict_of, number_of_verdict}

-- document 01's number for a table
abbrev number : List ℕ → ℕ
number masks = number_of_verdict (verdict_of masks)

-- level 3 over 1 and 2, and these over 0
abbrev diamond : List ℕ
diamond = 0x01 ∷ 0x03 ∷ 0x05 ∷ 0x0F ∷ []

-- level 0 over 3, that over 1 and 2, and these over 4
abbrev top_first : List ℕ
top_first = 0x1F ∷ 0x12 ∷ 0x14 ∷ 0x1E ∷ 0x10 ∷ []

-- the greatest lower bound of two levels of a table
abbrev meet_of : List ℕ → ℕ → ℕ → ℕ
meet_of masks = meet (length masks) (dominates masks)

pub record Examples : Type 0 where
  m9 : number diamond ≡ 0
  m9_bound : join_of diamond 1 2 ≡ 3
  m9_strictly : strictly (dominates diamond) 3 0 ≡ true
  m9_not_itself : strictly (dominates diamond) 3 3 ≡ false
  m9_incomparable : incomparable (dominates diamond) 1 2 ≡ true
  m9_comparable : incomparable (dominates diamond) 1 3 ≡ false
  m10 : number (0x01 ∷ 0x02 ∷ []) ≡ 5
  m11 : number (0x03 ∷ 0x03 ∷ []) ≡ 4
  m9_lower_bound : meet_of diamond 1 2 ≡ 0
  -- document 02: "Masks 01, 02, 07 (hex) passed until now and no longer do"
  no_lower_bound : number (0x01 ∷ 0x02 ∷ 0x07 ∷ []) ≡ 17
  no_lower_bound_joined : is_joined (0x01 ∷ 0x02 ∷ 0x07 ∷ []) ≡ true
  no_lower_bound_of : meet_of (0x01 ∷ 0x02 ∷ 0x07 ∷ []) 0 1 ≡ 3
  -- the lowest level need not be level 0, nor the top one the last
  lowest_last : number (0x03 ∷ 0x02 ∷ []) ≡ 0
  -- least by dominance and not by number: level 0 is an upper bound of 1 and 2 too. Greatest likewise: so is level 4 a lower one of 0 and 3
  top-first : join_of top_first 1 2 ≡ 3
  top_first_lower : meet_of top_first 0 3 ≡ 3
  top_first_passes : number top_first ≡ 0
  -- and without level 4 a pair without a greatest lower bound
  top_first_unmet : number (0x0F ∷ 0x02 ∷ 0x04 ∷ 0x0E ∷ []) ≡ 17
  -- a table that fails 5 and 17 is refused by 5
  join_first : number (0x01 ∷ 0x02 ∷ []) ≡ 5
  -- two upper bounds of 0 and 1, neither of which dominates the other
  no_least : number (0x01 ∷ 0x02 ∷ 0x07 ∷ 0x0B ∷ []) ≡ 5
  -- 2 over 1, 1 over 0, and 2 not over 0
  gap : number (0x01 ∷ 0x03 ∷ 0x06 ∷ []) ≡ 4
  own_bit_missing : number (0x01 ∷ 0x01 ∷ []) ≡ 4
  absent_level_named : number (0x01 ∷ 0x07 ∷ []) ≡ 4
  -- a table of 17 masks of 16 bits: the last has no room for its own bit
  too_many :
      number
      (0x1 ∷ 0x3 ∷ 0x7 ∷ 0xF ∷ 0x1F ∷ 0x3F ∷ 0x7F ∷ 0xFF ∷ 0x1FF ∷ 0x3FF ∷ 0x7FF ∷ 0xFFF ∷ 0x1FFF ∷ 0x3FFF ∷ 0x7FFF ∷ 0xFFFF ∷ 0xFFFF ∷ [])
      ≡ 4
  sixteen :
      number
      (0x1 ∷ 0x3 ∷ 0x7 ∷ 0xF ∷ 0x1F ∷ 0x3F ∷ 0x7F ∷ 0xFF ∷ 0x1FF ∷ 0x3FF ∷ 0x7FF ∷ 0xFFF ∷ 0x1FFF ∷ 0x3FFF ∷ 0x7FFF ∷ 0xFFFF ∷ [])
      ≡ 0
  no_levels : number [] ≡ 0

pub examples : Examples
unfolding all first reflexive antisymmetric transitive is_order is_least join has_joins dominates names_present is_ordered verdict_of
examples =
    record {
      m9 = refl;
      m9_bound = refl;
      m9_strictly = refl;
      m9_not_itself = refl;
      m9_incomparable = refl;
      m9_comparable = refl;
      m10 = refl;
      m11 = refl;
      m9_lower_bound = refl;
      no_lower_bound = refl;
      no_lower_bound_joined = refl;
      no_lower_bound_of = refl;
      lowest_last = refl;
      top-first = refl;
      top_first_lower = refl;
      top_first_passes = refl;
      top_first_unmet = refl;
      join_first = refl;
      no_least = refl;
      gap = refl;
      own_bit_missing = refl;
      absent_level_named = refl;
      too_many = refl;
      sixteen = refl;
      no_levels = refl;
    }
