-- The records of a run, written to a buffer. Assumes nothing.
-- Laws: the bytes depend on the fields and the existence of objects that have numbers and on the histories of shown levels alone
-- (`proofs/Laws/Depends`: `bytes_depend`); they fit question 11's buffer (`Written`: `bytes_fit`).
use Rattle.std.specs.Prelude.{ℕ, ◌+◌, ◌≤◌, ◌<◌, cond, ◌&&◌, List, [], map, length}
use Rattle.dominance.specs.Order.{Dominance}
use Rattle.lists.specs.Lists.{joined}
use Rattle.session.specs.Parts.{level_count}
use Rattle.session.specs.Meaning.{Numbered}
use Rattle.session.specs.Program.{Program, program_of}
use Rattle.session.specs.Value.{Value}
use Rattle.scripts.specs.Existence.{existence, is_there}
use Rattle.fields.specs.Fields.{field_at, FieldsReady}
use Rattle.model.specs.Limits.{result_bytes}
use Rattle.model.specs.History.{History}
use Rattle.model.specs.Result.{Result, object_record, history_record, reply_record, reply_of, numbers_of, bytes_of}
use Rattle.histories.specs.Histories.{ended_in, HistoriesReady}

-- what the words of a run say
abbrev pub result_in : List ℕ → List ℕ → List ℕ → Result
result_in fields histories counts = record { field = field_at fields; ended = ended_in histories counts }

-- the bytes of its records for clearance c
abbrev pub bytes_in : List ℕ → Result → ℕ → ℕ → List ℕ
bytes_in s r c rootLevel = bytes_of (program_of s) rootLevel r c

-- the words of a run of session s are there, the root's level is present, and there is room for the records
pub record Ready (s masks fields histories counts : List ℕ) (rootLevel : ℕ) (buffer : List ℕ) : Type 0 where
  pub fields_ready : FieldsReady s masks fields
  pub histories_ready : HistoriesReady histories counts
  pub root : rootLevel < level_count s
  pub room : result_bytes ≤ length buffer

-- "For levels the clearance dominates": the record of an object that is there, a level's histories and the reply, or nothing
unfoldable pub shown_object : Program → (ℕ → ℕ → Value) → ℕ → ℕ → List ℕ
shown_object p field c o = cond (p.dom c (p.level o) && is_there (field o existence)) (object_record o (p.level o) (field o)) []

unfoldable pub shown_level : Dominance → (ℕ → List History) → ℕ → ℕ → List ℕ
shown_level dom ended c l = cond (dom c l) (joined (map (history_record l) (ended l))) []

unfoldable pub shown_reply : Dominance → (ℕ → List History) → ℕ → ℕ → List ℕ
shown_reply dom ended c l = cond (dom c l) (reply_record l (reply_of (ended l))) []

-- all objects: the session's by number, and then those that were made
abbrev pub shown_objects : Program → (ℕ → ℕ → Value) → ℕ → List ℕ
shown_objects p field c = joined (map (shown_object p field c) (numbers_of p))

-- `count` numbers from `first` on are all numbers of objects
abbrev pub NumberedFrom : List ℕ → ℕ → ℕ → Type 0
NumberedFrom s first count = (i : ℕ) → i < count → Numbered s (first + i)
