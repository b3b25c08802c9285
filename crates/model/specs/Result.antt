-- Result records. Assumes nothing.
-- Laws, in `theorems` (`Laws/Reader/Bytes`): what a reader finds in the bytes of a result (`objects_found`, `histories_found`, `reply_found`), and
-- that they are made of it (`made_of_records`); what is read off a history's record (`Reader/Fields`).
use Rattle.std.specs.Prelude.{ℕ, ◌+◌, ◌*◌, ◌/◌, ◌%◌, ◌^◌, Bool, cond, ◌&&◌, List, [], ◌∷◌, ◌++◌, map, replicate, eqb}
use Rattle.session.specs.Limits.{max_objects, made_objects}
use Rattle.lists.specs.Lists.{tab, select, joined}
use Rattle.session.specs.Record.{Record, byte_of, word_of}
use Rattle.session.specs.Program.{Program}
use Rattle.session.specs.Value.{Value}
use Rattle.std.specs.Prelude.{None}
use Rattle.scripts.specs.Existence.{existence, initially, is_there}
use Rattle.scripts.specs.Value.{tag, number_in}
use Rattle.scripts.specs.Ending.{number_of_ending}
use Rattle.model.specs.History.{History}
use Rattle.model.specs.Level.{newest}
use Rattle.model.specs.Step.{State, level_at}
use Rattle.model.specs.DepthFirst.{Progress, tally_at, field_now}
use Rattle.session.specs.Parts.{of_kind}

-- what a run leaves: the fields and the existence of objects, and the histories of each level in stamp order
pub record Result : Type 0 where
  pub field : ℕ → ℕ → Value
  pub ended : ℕ → List History

-- of a list of scheduler steps
abbrev pub result_of : Program → State → Result
result_of p st =
    record {
      field = λ o k. newest (initially p o k) o k (level_at st (p.level o)).versions;
      ended = λ l. (level_at st l).ended;
    }

-- of the depth-first run
abbrev pub result_of_depth_first : Program → Progress → Result
result_of_depth_first p g = record { field = field_now p g; ended = λ l. (tally_at g l).ended }

-- "Numbers are little-endian": of 16 and of 32 bits
abbrev pub bytes2 : ℕ → List ℕ
bytes2 n = n % 2 ^ 8 ∷ n / 2 ^ 8 % 2 ^ 8 ∷ []

abbrev pub bytes4 : ℕ → List ℕ
bytes4 n = n % 2 ^ 8 ∷ n / 2 ^ 8 % 2 ^ 8 ∷ n / 2 ^ 16 % 2 ^ 8 ∷ n / 2 ^ 24 % 2 ^ 8 ∷ []

-- "Kind 5: .. laid out as kind 2"
unfoldable pub object_record : ℕ → ℕ → (ℕ → Value) → Record
object_record o level field =
    5 ∷ o ∷ level ∷ (tag (field 0) + 2 * tag (field 1) + 4 * tag (field 2)) ∷ []
    ++ bytes4 (number_in (field 0))
    ++ bytes4 (number_in (field 1))
    ++ bytes4 (number_in (field 2))

-- "Kind 6: .. byte 1 level, 2 ending, 3 writes, 4 to 7 fork stamp, 8 and 9 first write stamp .., 10 and 11 last .., 12 and 13 script steps"
unfoldable pub history_record : ℕ → History → Record
history_record level h =
    6 ∷ level ∷ number_of_ending h.ending ∷ h.writes ∷ []
    ++ bytes4 h.stamp
    ++ bytes2 h.first
    ++ bytes2 h.last
    ++ bytes2 h.steps
    ++ replicate 2 0

-- what a record of kind 6 says, read off its bytes
abbrev pub level_in : Record → ℕ
level_in rec = byte_of rec 1

abbrev pub ending_in : Record → ℕ
ending_in rec = byte_of rec 2

abbrev pub writes_in : Record → ℕ
writes_in rec = byte_of rec 3

abbrev pub stamp_in : Record → ℕ
stamp_in rec = word_of rec 4

-- a number of 16 bits from byte k on
abbrev pub half_of : Record → ℕ → ℕ
half_of rec k = byte_of rec k + 2 ^ 8 * byte_of rec (k + 1)

abbrev pub first_in : Record → ℕ
first_in rec = half_of rec 8

abbrev pub last_in : Record → ℕ
last_in rec = half_of rec 10

abbrev pub steps_in : Record → ℕ
steps_in rec = half_of rec 12

-- "Kind 7 ..: byte 1 that level, byte 3 tag, 4 to 7 reply"
unfoldable pub reply_record : ℕ → Value → Record
reply_record level v = 7 ∷ level ∷ 0 ∷ tag v ∷ [] ++ bytes4 (number_in v) ++ replicate 8 0

-- "Kind 5: objects by number": those of the session; "Existing made [objects] are shown after the others by number" (document 02, job 7)
abbrev pub numbers_of : Program → List ℕ
numbers_of p = tab p.objects (λ o. o) ++ tab (made_objects * p.levels) (λ i. max_objects + i)

-- "For levels the clearance dominates"; "[An object] withdrawn by the end is not shown", nor is one that was never made
abbrev pub is_shown : Program → Result → ℕ → ℕ → Bool
is_shown p r c o = p.dom c (p.level o) && is_there (r.field o existence)

unfoldable pub objects_shown : Program → Result → ℕ → List Record
objects_shown p r c = map (λ o. object_record o (p.level o) (r.field o)) (select (is_shown p r c) (numbers_of p))

-- the levels that clearance c is shown, by rising number
abbrev pub levels_shown : Program → ℕ → List ℕ
levels_shown p c = select (p.dom c) (tab p.levels (λ l. l))

-- "Kind 6: histories, one level's together in stamp order"; "groups of kind 6 stand by rising level number" (document 02, job 2)
unfoldable pub histories_shown : Program → Result → ℕ → List Record
histories_shown p r c = joined (map (λ l. map (history_record l) (r.ended l)) (levels_shown p c))

-- the reply of the root manager, whose fork stamp, 0, is the first at its level. "Replies of ended stacks with frames are NIL"
abbrev pub reply_of : List History → Value
reply_of [] = None
reply_of (h ∷ hs) = h.reply

-- "Kind 7, if the root's level is dominated"
unfoldable pub reply_shown : Program → Result → ℕ → ℕ → List Record
reply_shown p r c rootLevel = cond (p.dom c rootLevel) (reply_record rootLevel (reply_of (r.ended rootLevel)) ∷ []) []

-- the bytes of a result for clearance c
unfoldable pub bytes_of : Program → ℕ → Result → ℕ → List ℕ
bytes_of p rootLevel r c = joined (objects_shown p r c ++ histories_shown p r c ++ reply_shown p r c rootLevel)

-- "the .. kind 6 records of that level", in their order
abbrev pub histories_at : ℕ → List ℕ → List Record
histories_at l bytes = select (λ rec. eqb (level_in rec) l) (of_kind 6 bytes)
