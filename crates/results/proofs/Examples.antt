-- Document 01's M1 and M2, from the words that a run of its session W leaves, and from words where objects were made and withdrawn: computed by
-- the definitions. Assumes nothing.
use Prim.Native.Nat.{ℕ}
use mathlib.Core.Path.{◌≡◌, refl}
use mathlib.Core.List.{List, [], ◌∷◌, ◌++◌}
use lib.ListN.{replicate}
use Rattle.dominance.specs.Table.{dominates}
use Rattle.lists.specs.Lists.{tab, select, joined}
use Rattle.session.specs.Record.{record_at, records_of}
use Rattle.session.specs.Parts.{of_kind, masks_of}
use Rattle.session.specs.Meaning.{owner_of, level_of}
use Rattle.session.specs.Program.{program_of}
use Rattle.session.specs.SessionW.{session_w}
use Rattle.fields.specs.Fields.{field_at}
use Rattle.model.specs.Result.{object_record, history_record, reply_record, objects_shown, histories_shown, reply_shown, bytes_of}
use Rattle.rows.specs.Rows.{row_at, rows_at}
use Rattle.histories.specs.Histories.{history_of_row, histories_at}
use Rattle.results.specs.Writing.{result_in, bytes_in}

-- object 0 holds 9, NIL, NIL, and object 1 holds 5, 5, NIL; both are there, with their own methods
abbrev words0 : List ℕ
words0 = 1 ∷ 9 ∷ 0 ∷ 0 ∷ 0 ∷ 0 ∷ 1 ∷ 1 ∷ []

abbrev words1 : List ℕ
words1 = 1 ∷ 5 ∷ 1 ∷ 5 ∷ 0 ∷ 0 ∷ 1 ∷ 2 ∷ []

abbrev fields : List ℕ
fields = words0 ++ words1

-- one history at each level
abbrev histories : List ℕ
histories = 0 ∷ 0 ∷ 1 ∷ 1 ∷ 2 ∷ 5 ∷ 1 ∷ 9 ∷ replicate 248 0 ++ (0x10000000 ∷ 0 ∷ 2 ∷ 1 ∷ 1 ∷ 5 ∷ 0 ∷ 0 ∷ [])

abbrev bytes_from : List ℕ → ℕ → List ℕ
bytes_from ws c = bytes_in session_w (result_in ws histories (1 ∷ 1 ∷ [])) c 0

abbrev bytes_for : ℕ → List ℕ
bytes_for = bytes_from fields

-- the same, but that object 0 is withdrawn, and that level 1 made object 36, with the methods of object 1, which holds 7
abbrev changed : List ℕ
changed = (1 ∷ 9 ∷ 0 ∷ 0 ∷ 0 ∷ 0 ∷ 1 ∷ 0 ∷ []) ++ words1 ++ replicate 272 0 ++ (1 ∷ 7 ∷ 0 ∷ 0 ∷ 0 ∷ 0 ∷ 1 ∷ 2 ∷ [])

abbrev object0 : List ℕ
object0 = 5 ∷ 0 ∷ 0 ∷ 1 ∷ 9 ∷ replicate 11 0

abbrev history0 : List ℕ
history0 = 6 ∷ 0 ∷ 0 ∷ 1 ∷ 0 ∷ 0 ∷ 0 ∷ 0 ∷ 1 ∷ 0 ∷ 2 ∷ 0 ∷ 5 ∷ 0 ∷ 0 ∷ 0 ∷ []

abbrev reply : List ℕ
reply = 7 ∷ 0 ∷ 0 ∷ 1 ∷ 9 ∷ replicate 11 0

abbrev object1 : List ℕ
object1 = 5 ∷ 1 ∷ 1 ∷ 3 ∷ 5 ∷ 0 ∷ 0 ∷ 0 ∷ 5 ∷ replicate 7 0

abbrev object36 : List ℕ
object36 = 5 ∷ 36 ∷ 1 ∷ 1 ∷ 7 ∷ replicate 11 0

abbrev history1 : List ℕ
history1 = 6 ∷ 1 ∷ 0 ∷ 2 ∷ 0 ∷ 0 ∷ 0 ∷ 0x10 ∷ 1 ∷ 0 ∷ 1 ∷ 0 ∷ 5 ∷ 0 ∷ 0 ∷ 0 ∷ []

pub record Examples : Type 0 where
  m1 : bytes_for 0 ≡ object0 ++ history0 ++ reply
  m2 : bytes_for 1 ≡ object0 ++ object1 ++ history0 ++ history1 ++ reply
  -- "[An object] withdrawn by the end is not shown", and made ones are, to whom their level is shown
  changed_low : bytes_from changed 0 ≡ history0 ++ reply
  changed_high : bytes_from changed 1 ≡ object1 ++ object36 ++ history0 ++ history1 ++ reply

pub examples : Examples
unfolding dominates tab select joined record_at records_of of_kind masks_of owner_of level_of program_of session_w object_record history_record reply_record objects_shown histories_shown reply_shown bytes_of row_at rows_at field_at history_of_row histories_at
examples = record { m1 = refl; m2 = refl; changed_low = refl; changed_high = refl }
