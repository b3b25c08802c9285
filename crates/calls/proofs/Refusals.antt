-- Questions 9 to 15, computed: the number, the place and the count of each refusal, which of two questions that say no decides, and what
-- the lent slices hold afterwards, also after a finished run. Assumes nothing.
use Prim.Native.Nat.{ℕ}
use mathlib.Core.Path.{◌≡◌, refl}
use mathlib.Core.Bool.{Bool, true, ◌&&◌}
use mathlib.Core.List.{List, [], ◌∷◌, ◌++◌}
use lib.Dec.{eqb}
use lib.ListN.{length, take, drop, set, replicate}
use Rattle.lists.specs.Lists.{every}
use Rattle.session.specs.Meaning.{root_of}
use Rattle.session.specs.Program.{Program, program_of}
use Rattle.session.specs.SessionW.{session_w}
use Rattle.session.specs.declared.Step.TheVariants.{Send}
use Rattle.model.specs.Limits.{work_numbers}
use Rattle.model.specs.Schedule.{Outcome, refused, run_of}
use Rattle.calls.specs.Entries.{Request, Answer, timetabled, plain, deep}
use Rattle.model.proofs.Computing.{computing, each_level, message}
use Rattle.calls.proofs.Answering.{lending, lent, answering}

-- number, place and count
abbrev answered : Answer → List ℕ
answered a = a.number ∷ a.place ∷ a.count ∷ []

-- session W and what is lent to its runs: the clearance and the lengths
abbrev lent_w : ℕ → ℕ → ℕ → Request
lent_w = lending session_w

-- a list of scheduler steps of session W, and the same as a call, for clearance 1
abbrev ran_w : List ℕ → Outcome
ran_w = run_of (program_of session_w) (root_of session_w)

abbrev by_timetable : List ℕ → Answer
by_timetable ls = timetabled (lent session_w 1) ls

-- Levels in a chain, an object at each, with empty methods but for the root's, at 0, which sends to 1 and to 2
abbrev siblings : Program
siblings = each_level (0x01 ∷ 0x03 ∷ 0x07 ∷ []) (((Send 1 0 1 ∷ Send 1 0 2 ∷ []) ∷ []) ∷ [])

-- session W with level 1's mask naming an absent level: question 4 says no
abbrev unordered : List ℕ
unordered = set session_w 18 0x07

-- each number of the work slice is 7 and each byte of the buffer 9, as they were lent
abbrev is_untouched : Answer → Bool
is_untouched a = every (eqb 7) a.work && every (eqb 9) a.buffer

-- the first 8,192 numbers of the work slice are 0, those beyond as they were
abbrev is_zeroed : Answer → Bool
is_zeroed a = every (eqb 0) (take work_numbers a.work) && every (eqb 7) (drop work_numbers a.work)

-- and the buffer is as it was
abbrev is_cleared : Answer → Bool
is_cleared a = is_zeroed a && every (eqb 9) a.buffer

-- a run that question 12 ends, one that question 15 ends, and one that finishes
abbrev stopped_run : Answer
stopped_run = by_timetable (0 ∷ 2 ∷ [])

abbrev unended_run : Answer
unended_run = by_timetable (replicate 6 0)

abbrev finished_run : Answer
finished_run = by_timetable (replicate 6 0 ++ replicate 6 1)

pub record Refusals : Type 0 where
  -- 9. "Is the clearance a present level?"
  nine : answered (plain (lent_w 2 8192 5136)) ≡ 9 ∷ 0 ∷ 0 ∷ []
  nine_timetabled : answered (timetabled (lent_w 2 8192 5136) []) ≡ 9 ∷ 0 ∷ 0 ∷ []
  nine_depth_first : answered (deep (lent_w 2 0 5136)) ≡ 9 ∷ 0 ∷ 0 ∷ []
  -- 10. "Is the work slice at least 8,192 numbers of 32 bits?"
  ten : answered (plain (lent_w 1 8191 5136)) ≡ 10 ∷ 0 ∷ 0 ∷ []
  ten_enough : (plain (lent_w 1 8192 5136)).number ≡ 0
  ten_not_asked : (deep (lent_w 1 0 5136)).number ≡ 0
  -- 11. "Is the result buffer at least 5,136 bytes?"
  eleven : answered (plain (lent_w 1 8192 5135)) ≡ 11 ∷ 0 ∷ 0 ∷ []
  eleven_depth_first : answered (deep (lent_w 1 0 5135)) ≡ 11 ∷ 0 ∷ 0 ∷ []
  -- "Questions 1 to 11 are each put of the whole input before the next"
  four_before_nine : answered (plain (lending unordered 2 0 0)) ≡ 4 ∷ 0 ∷ 0 ∷ []
  nine_before_ten : answered (plain (lent_w 2 8191 5136)) ≡ 9 ∷ 0 ∷ 0 ∷ []
  nine_before_eleven : answered (plain (lent_w 2 8192 5135)) ≡ 9 ∷ 0 ∷ 0 ∷ []
  ten_before_eleven : answered (plain (lent_w 1 8191 5135)) ≡ 10 ∷ 0 ∷ 0 ∷ []
  nine_to_eleven : answered (timetabled (lent_w 2 8191 5135) (2 ∷ [])) ≡ 9 ∷ 0 ∷ 0 ∷ []
  nine_before_eleven_depth_first : answered (deep (lent_w 2 0 5135)) ≡ 9 ∷ 0 ∷ 0 ∷ []
  ten_before_twelve : answered (timetabled (lent_w 1 8191 5136) (2 ∷ [])) ≡ 10 ∷ 0 ∷ 0 ∷ []
  -- 12. "Per timetable byte: is it a present level?" Session W has levels 0 and 1
  twelve_first : ran_w (2 ∷ []) ≡ refused 12 0
  twelve_later : ran_w (0 ∷ 0 ∷ 0 ∷ 2 ∷ 1 ∷ []) ≡ refused 12 3
  twelve_byte : ran_w (0 ∷ 255 ∷ []) ≡ refused 12 1
  twelve_last : ran_w (replicate 6 0 ++ replicate 6 1 ++ 2 ∷ []) ≡ refused 12 12
  -- 13. "Has that level a manager that hasn't ended?"
  thirteen : ran_w (0 ∷ 0 ∷ 1 ∷ []) ≡ refused 13 2
  thirteen_ended : ran_w (replicate 7 0) ≡ refused 13 6
  -- 14. "have all managers ended that sit at the named level or one it dominates, have a smaller fork stamp than the manager about to step, and
  -- are not its ancestors?" The root of session W is the ancestor of its only fork; more in `Orders`
  fourteen : run_of siblings (message 0) (0 ∷ 0 ∷ 0 ∷ 2 ∷ []) ≡ refused 14 3
  fourteen_ancestor : ran_w (replicate 5 0 ++ 1 ∷ []) ≡ refused 15 0
  -- "12 to 14 are put of one timetable byte, its step is made, then the next byte follows"
  first_byte_decides : ran_w (0 ∷ 1 ∷ 2 ∷ []) ≡ refused 13 1
  -- 15. "At the timetable's end: have all managers ended?"
  fifteen_empty : ran_w [] ≡ refused 15 0
  fifteen : ran_w (replicate 6 0 ++ replicate 5 1) ≡ refused 15 0
  -- "Up to 11, both buffers stay untouched"
  ten_untouched : is_untouched (plain (lent_w 1 8191 5138)) ≡ true
  eleven_untouched_depth_first : is_untouched (deep (lent_w 1 8194 5135)) ≡ true
  -- "After 12 to 15 the result buffer is untouched; then .. the work slice's first 8,192 numbers are 0"
  twelve_answered : answered stopped_run ≡ 12 ∷ 1 ∷ 0 ∷ []
  twelve_cleared : is_cleared stopped_run ≡ true
  fifteen_answered : answered unended_run ≡ 15 ∷ 0 ∷ 0 ∷ []
  fifteen_cleared : is_cleared unended_run ≡ true
  -- "then, and after success, the work slice's first 8,192 numbers are 0. Beyond those, and beyond the result written, nothing changes"
  finished_answered : answered finished_run ≡ 0 ∷ 0 ∷ 80 ∷ []
  finished_work : is_zeroed finished_run ≡ true
  finished_beyond : every (eqb 9) (drop 80 finished_run.buffer) ≡ true
  finished_length : length finished_run.buffer ≡ 5137
  finished_work_depth_first : every (eqb 7) (deep (lent session_w 1)).work ≡ true
  finished_beyond_depth_first : every (eqb 9) (drop 80 (deep (lent session_w 1)).buffer) ≡ true

pub refusals : Refusals
unfolding computing answering
refusals =
    record {
      nine = refl;
      nine_timetabled = refl;
      nine_depth_first = refl;
      ten = refl;
      ten_enough = refl;
      ten_not_asked = refl;
      eleven = refl;
      eleven_depth_first = refl;
      four_before_nine = refl;
      nine_before_ten = refl;
      nine_before_eleven = refl;
      ten_before_eleven = refl;
      nine_to_eleven = refl;
      nine_before_eleven_depth_first = refl;
      ten_before_twelve = refl;
      twelve_first = refl;
      twelve_later = refl;
      twelve_byte = refl;
      twelve_last = refl;
      thirteen = refl;
      thirteen_ended = refl;
      fourteen = refl;
      fourteen_ancestor = refl;
      first_byte_decides = refl;
      fifteen_empty = refl;
      fifteen = refl;
      ten_untouched = refl;
      eleven_untouched_depth_first = refl;
      twelve_answered = refl;
      twelve_cleared = refl;
      fifteen_answered = refl;
      fifteen_cleared = refl;
      finished_answered = refl;
      finished_work = refl;
      finished_beyond = refl;
      finished_length = refl;
      finished_work_depth_first = refl;
      finished_beyond_depth_first = refl;
    }
