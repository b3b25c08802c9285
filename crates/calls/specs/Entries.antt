-- The whole answers of the entries that run a session, for every input. Assumes nothing.
-- Laws, in `theorems` (`Laws/Reader/Answers`): what a finished answer says: its questions said yes, and these are its bytes (`finished-run`,
-- `deep-bytes`).
use Rattle.std.specs.Prelude.{ℕ, ◌≡◌, Bool, true, cond, List, ◌++◌, eqb, leb, ltb, length, drop, replicate}
use Rattle.lists.specs.Placed.{written_over}
use Rattle.session.specs.Parts.{level_count}
use Rattle.session.specs.Questions.{verdict_of, number_of_verdict}
use Rattle.session.specs.Meaning.{level_of, root_object, root_of}
use Rattle.session.specs.Program.{program_of}
use Rattle.model.specs.Limits.{work_numbers, result_bytes}
use Rattle.model.specs.Schedule.{Outcome, finished, refused, run_of, plain_order}
use Rattle.model.specs.DepthFirst.{depth_first}
use Rattle.model.specs.Result.{Result, result_of, result_of_depth_first, bytes_of}

-- a session, a clearance, and what the lent work slice and result buffer hold
pub record Request : Type 0 where
  pub session : List ℕ
  pub clearance : ℕ
  pub work : List ℕ
  pub buffer : List ℕ

-- the answer, and what the lent slices hold afterwards
pub record Answer : Type 0 where
  pub number : ℕ
  pub place : ℕ
  pub count : ℕ
  pub work : List ℕ
  pub buffer : List ℕ

-- 9. Is the clearance a present level?
abbrev pub question9 : Request → Bool
question9 q = ltb q.clearance (level_count q.session)

-- 10. Is the work slice at least 8,192 numbers of 32 bits?
abbrev pub question10 : Request → Bool
question10 q = leb work_numbers (length q.work)

-- 11. Is the result buffer at least 5,136 bytes?
abbrev pub question11 : Request → Bool
question11 q = leb result_bytes (length q.buffer)

-- the first of Check's questions and 9 to 11 that says no, or 0. "depth-first 1 to 9 and 11": `ten` is question 10's answer, or yes
unfoldable pub entry_refusal : Bool → Request → ℕ
entry_refusal ten q =
    let number = number_of_verdict (verdict_of q.session) in
    let rest : ℕ = cond (question9 q) (cond ten (cond (question11 q) 0 11) 10) 9 in
    cond (eqb number 0) rest number

-- "a refused run gives count 0. Up to 11, both buffers stay untouched"
abbrev pub untouched : Request → ℕ → Answer
untouched q number =
    record { number = number; place = 0; count = 0; work = q.work; buffer = q.buffer }

-- "the work slice's first 8,192 numbers are 0. Beyond those .. nothing changes"
unfoldable pub cleared : List ℕ → List ℕ
cleared work = replicate work_numbers 0 ++ drop work_numbers work

-- the bytes of a result of the request's session
abbrev pub bytes_for : Request → Result → List ℕ
bytes_for q r =
    let s = q.session in
    bytes_of (program_of s) (level_of s (root_object s)) r q.clearance

-- "All yes gives number 0, place 0 and, from a run, the count of result bytes written"
abbrev pub success : Request → List ℕ → List ℕ → Answer
success q work bytes =
    record { number = 0; place = 0; count = length bytes; work = work; buffer = written_over bytes q.buffer }

-- "After 12 to 15 the result buffer is untouched; then, and after success, the work slice's first 8,192 numbers are 0"
unfoldable pub answer_of : Request → Outcome → Answer
answer_of q (finished st) = success q (cleared q.work) (bytes_for q (result_of (program_of q.session) st))
answer_of q (refused number place) =
    record { number = number; place = place; count = 0; work = cleared q.work; buffer = q.buffer }

-- the timetabled run, for a timetable
unfoldable pub timetabled : Request → List ℕ → Answer
timetabled q timetable =
    let number = entry_refusal (question10 q) q in
    let ran = answer_of q (run_of (program_of q.session) (root_of q.session) timetable) in
    cond (eqb number 0) ran (untouched q number)

-- the plain run: "A timetable, or the order of a plain run, is one list of scheduler steps"
unfoldable pub plain : Request → Answer
plain q = timetabled q (plain_order (program_of q.session) (root_of q.session))

-- the depth-first run, which has no work slice
unfoldable pub deep : Request → Answer
deep q =
    let p = program_of q.session in
    let number = entry_refusal true q in
    let ran = success q q.work (bytes_for q (result_of_depth_first p (depth_first p (root_of q.session)))) in
    cond (eqb number 0) ran (untouched q number)

-- an entry's number, place and count, and what the lent slices hold afterwards, are those of a definition's answer
abbrev pub Answers : Answer → ℕ → ℕ → ℕ → List ℕ → List ℕ → Type 0
Answers a number place count work buffer =
    record { number = number; place = place; count = count; work = work; buffer = buffer } ≡ a
