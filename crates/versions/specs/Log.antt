-- The versions of each level as numbers of the work slice. Assumes nothing.
-- Laws: a version is read back from its two numbers (`proofs/Laws/Packing`: `version_back`); a longer log has the last version in front
-- (`Log`: `log_more`); a change elsewhere, or in another level's log, leaves a log as it is (`log_before`, `log_after`, `log_others`).
use Rattle.std.specs.Prelude.{ℕ, zero, suc, ◌+◌, ◌*◌, ◌/◌, ◌%◌, ◌^◌, ◌<◌, ◌≤◌, List, [], ◌∷◌, length, slice_index}
use Rattle.session.specs.Limits.{max_levels}
use Rattle.scripts.specs.Limits.{max_writes, write_stamps}
use Rattle.scripts.specs.Value.{tag, number_in}
use Rattle.scripts.specs.Existence.{existence}
use Rattle.fields.specs.Fields.{value_of}
use Rattle.model.specs.Limits.{max_managers, work_numbers}
use Rattle.model.specs.Level.{Version}

-- the versions that a level has room for: "16 writes that take effect" of each of "32 forks"
abbrev pub max_versions : ℕ
max_versions = max_managers * max_writes

-- a version in two numbers, the second of which is the value's
abbrev pub version_numbers : ℕ
version_numbers = 2

abbrev pub number_place : ℕ
number_place = 1

-- question 10: the work slice holds a log for each level, of two numbers for each version
abbrev pub log_numbers : ℕ
log_numbers = max_versions * version_numbers

abbrev pub log_start : ℕ → ℕ
log_start level = log_numbers * level

-- what one more is worth in the first number, of the write stamp, the field and the object
abbrev pub stamp_unit : ℕ
stamp_unit = 2

abbrev pub field_unit : ℕ
field_unit = stamp_unit * write_stamps

abbrev pub object_unit : ℕ
object_unit = field_unit * 2 ^ 2

-- "Versions written carry it", the write stamp: a version in two numbers. The first has in its bits, from the lowest on, the tag
-- (1 number, 0 NIL), 16 of the write stamp, 2 of the field, which is 3 for existence, and those of the object; the second is the number, 0 for NIL
unfoldable pub version_of : ℕ → ℕ → Version
version_of packed number =
    record {
      stamp = packed / stamp_unit % write_stamps;
      object = packed / object_unit;
      field = packed / field_unit % 2 ^ 2;
      value = value_of (packed % stamp_unit) number;
    }

-- what the first number holds for an object and a field
abbrev pub key_of : ℕ → ℕ → ℕ
key_of object field = object_unit * object + field_unit * field

-- the two numbers of a version
abbrev pub first_of : Version → ℕ
first_of v = key_of v.object v.field + stamp_unit * v.stamp + tag v.value

abbrev pub second_of : Version → ℕ
second_of v = number_in v.value

-- the version in the two numbers at a place
abbrev pub version_at : List ℕ → ℕ → Version
version_at work at = version_of (slice_index work at) (slice_index work (at + number_place))

-- the first n versions of the log that starts at a place, newest first: the last one written is the newest
unfoldable pub log_of : List ℕ → ℕ → ℕ → List Version
log_of work start zero = []
log_of work start (suc n) = version_at work (start + version_numbers * n) ∷ log_of work start n

-- a level, a log of n versions and a field, or existence, for which the work slice has room
pub record Within (work : List ℕ) (level n field : ℕ) : Type 0 where
  pub level_present : level < max_levels
  pub fits : n ≤ max_versions
  pub field_fits : field ≤ existence
  pub long : work_numbers ≤ length work
