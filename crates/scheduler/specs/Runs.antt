-- What the stages of a run promise each other. No meaning rests on these. Assumes nothing.
-- Laws: the session as read in (`proofs/Laws/Start`); the answers (`Answers`).
use Rattle.std.specs.Prelude.{ℕ, ◌≤◌, ◌<◌, ◌≡◌, Option, Some, None, List, Result, length, get_or}
use Rattle.session.specs.Meaning.{level_of, root_object, root_of}
use Rattle.session.specs.Program.{program_of}
use Rattle.model.specs.Limits.{work_numbers, result_bytes}
use Rattle.model.specs.Schedule.{initial_state, run_of, plain_order}
use Rattle.calls.specs.Entries.{answer_of}
use Rattle.fields.specs.Limits.{field_words}
use Rattle.histories.specs.Limits.{history_words}
use Rattle.results.specs.Writing.{result_in, bytes_in}
use Rattle.lists.specs.Placed.{Written}
use Rattle.calls.specs.Refusals.{number_told, place_told, count_told}
use Rattle.calls.specs.declared.Refusal.{Refusal}
use Rattle.queues.specs.Queue.{queue_words}
use Rattle.tallies.specs.Places.{start_tallies}
use Rattle.level_state.specs.Ends.{Quiescent}

-- words that no run has used: those of fields are all 0, so that no object but the session's is there
pub record Fresh (current tallies queue : List ℕ) : Type 0 where
  pub fields_room : field_words ≤ length current
  pub fields_none : (i : ℕ) → i < field_words → get_or current i 0 ≡ 0
  pub counts : tallies ≡ start_tallies
  pub forks_room : queue_words ≤ length queue

-- with any words for histories and versions they represent the session as read in; the root's object is at a level
pub record InitialWords (s current tallies queue : List ℕ) (level : ℕ) : Type 0 where
  pub level_is : level ≡ level_of s (root_object s)
  pub quiescent : (ended work : List ℕ) → history_words ≤ length ended → work_numbers ≤ length work → Quiescent s (record { current = current; ended = ended; tallies = tallies; queue = queue; work = work }) (initial_state s)

-- the scheduler steps of a run: those of a timetable, if there is one, or the plain ones
abbrev pub list_of : List ℕ → Option (List ℕ) → List ℕ
list_of s (Some ls) = ls
list_of s None = plain_order (program_of s) (root_of s)

-- the records of the words' result for a clearance are written
abbrev pub Shows : List ℕ → List ℕ → List ℕ → List ℕ → ℕ → ℕ → List ℕ → List ℕ → ℕ → Type 0
Shows s current ended tallies clearance level = Written (bytes_in s (result_in current ended tallies) clearance level)

-- a run has the room that questions 10 and 11 ask for
pub record RunReady (work result : List ℕ) : Type 0 where
  pub work_room : work_numbers ≤ length work
  pub result_room : result_bytes ≤ length result

-- the whole answer of a list of scheduler steps, the level groups by rising number
abbrev pub ListDone : List ℕ → List ℕ → ℕ → List ℕ → List ℕ → List ℕ → List ℕ → Result ℕ Refusal → Type 0
ListDone s ls clearance work work' buffer buffer' r =
    record { number = number_told r; place = place_told r; count = count_told r; work = work'; buffer = buffer' }
    ≡ answer_of (record { session = s; clearance = clearance; work = work; buffer = buffer }) (run_of (program_of s) (root_of s) ls)
