-- What holds of pages, as statements. Their proofs are in proofs/Pages.antt. Assumes nothing.
use Rattle.std.specs.Prelude.{ℕ, ◌+◌, ◌*◌, ◌-◌, ◌≤◌, ◌<◌, ◌≡◌, true, false, List, [], ◌∷◌, ◌++◌, map, length, take, drop}
use Rattle.session.specs.Limits.{max_levels}
use Rattle.session.specs.Record.{Record}
use Rattle.session.specs.Meaning.{root_of}
use Rattle.session.specs.Program.{program_of}
use Rattle.session.specs.Emptied.{emptied}
use Rattle.model.specs.DepthFirst.{depth_first}
use Rattle.model.specs.Result.{Result, result_of_depth_first, history_record, level_in, ending_in, writes_in, stamp_in, first_in, last_in, steps_in, histories_at}
use Rattle.calls.specs.Entries.{Request, Answer, question9, question11, bytes_for}
use Rattle.lists.specs.Placed.{written_over}
use Rattle.theorems.specs.Faults.{Question, asks, check_asks, AllYes, FirstNo, Put}
use Rattle.calls.specs.Reader.{bytes_written, EqualToReader}
use Rattle.theorems.specs.Demands.{DepthFirstRun}
use Rattle.calls.specs.Refusals.{number_told}
use Rattle.calls.specs.Page.{question16, paged, PageResult, counts_told, PageAnswers}
use Rattle.text.specs.Text.{line_of, total_line, sum_of, total_of, histories_in, managers_at, steps_at, quotient_at, remainder_at, levels_in, average_of, page_of, read_aligned, read_hex}

-- "Two accepted sessions whose depth-first runs, emptied for a reader's level, are equal to that reader give it the same page": the pages of the
-- sessions' own depth-first runs a and a'; d and d' are those of the emptied sessions
abbrev pub SamePage : Type 0
SamePage =
    (c : ℕ) (s s' : List ℕ) (a a' d d' : Answer)
    → DepthFirstRun s c a
    → DepthFirstRun s' c a'
    → DepthFirstRun (emptied c s) c d
    → DepthFirstRun (emptied c s') c d'
    → EqualToReader d d'
    → page_of (bytes_written a) ≡ page_of (bytes_written a')

-- the characters of a line from one column to another, counted from 1
abbrev pub columns : ℕ → ℕ → List ℕ → List ℕ
columns from to line = take (to + 1 - from) (drop (from - 1) line)

-- each number of a record is read back from its columns: "Fork stamp .. at columns 1 to 8, level at 10, ending at 12 .. writes 14 to 15, first
-- stamp 17 to 19, last 21 to 23, steps 25 to 27"
pub record ReadBack (rec : Record) : Type 0 where
  pub stamp : read_hex (columns 1 8 (line_of rec)) ≡ stamp_in rec
  pub level : read_aligned (columns 10 10 (line_of rec)) ≡ level_in rec
  pub ending : read_aligned (columns 12 12 (line_of rec)) ≡ ending_in rec
  pub writes : read_aligned (columns 14 15 (line_of rec)) ≡ writes_in rec
  pub first : read_aligned (columns 17 19 (line_of rec)) ≡ first_in rec
  pub last : read_aligned (columns 21 23 (line_of rec)) ≡ last_in rec
  pub steps : read_aligned (columns 25 27 (line_of rec)) ≡ steps_in rec

abbrev pub AllReadBack : List Record → Type 0
AllReadBack [] = Unit
AllReadBack (rec ∷ recs) = ReadBack rec × AllReadBack recs

-- a level has a line
abbrev pub HasLine : List ℕ → ℕ → Type 0
HasLine bytes level = (level < max_levels) × (0 < managers_at level bytes)

-- and each number of it is read back: "the level at 7, then .. a whole quotient at 17 to 19 and its remainder at 25 to 27"
pub record LevelReadBack (bytes : List ℕ) (level : ℕ) : Type 0 where
  pub number : read_aligned (columns 7 7 (average_of bytes level)) ≡ level
  pub quotient : read_aligned (columns 17 19 (average_of bytes level)) ≡ quotient_at level bytes
  pub remainder : read_aligned (columns 25 27 (average_of bytes level)) ≡ remainder_at level bytes

-- Every number of a page fits its columns: those of each history shown, the total, "right-aligned at 23 to 27", which is the sum of their steps,
-- and those of each level that has a line
pub record NumbersFit (a : Answer) : Type 0 where
  pub histories : AllReadBack (histories_in (bytes_written a))
  pub total : read_aligned (columns 23 27 (total_line (total_of (bytes_written a)))) ≡ total_of (bytes_written a)
  pub levels : (level : ℕ) → HasLine (bytes_written a) level → LevelReadBack (bytes_written a) level

abbrev pub PagesFit : Type 0
PagesFit = (c : ℕ) (s : List ℕ) (a : Answer) → DepthFirstRun s c a → NumbersFit a

-- "Quotient × managers + remainder is the level's sum, and the remainder is less than the number of managers", of any bytes
pub record Averaged (bytes : List ℕ) (level : ℕ) : Type 0 where
  pub sum : quotient_at level bytes * managers_at level bytes + remainder_at level bytes ≡ steps_at level bytes
  pub remainder : remainder_at level bytes < managers_at level bytes

abbrev pub LevelsAveraged : Type 0
LevelsAveraged = (bytes : List ℕ) (level : ℕ) → HasLine bytes level → Averaged bytes level

-- The sums of the levels that have a line come to the total
abbrev pub LevelsTotal : Type 0
LevelsTotal =
    (c : ℕ) (s : List ℕ) (a : Answer)
    → DepthFirstRun s c a
    → sum_of (map (λ level. steps_at level (bytes_written a)) (levels_in (bytes_written a))) ≡ total_of (bytes_written a)

-- what the depth-first run of a session leaves
abbrev pub left_by : List ℕ → Result
left_by s = result_of_depth_first (program_of s) (depth_first (program_of s) (root_of s))

-- A "shown level that had managers": the histories of a level, whose steps are averaged, are those that the run left there, where the clearance
-- dominates the level. Of another level, and of one that is not there, there are none, and so no line
pub record LevelShown (s : List ℕ) (c : ℕ) (bytes : List ℕ) (level : ℕ) : Type 0 where
  pub shown : level < (program_of s).levels → (program_of s).dom c level ≡ true → histories_at level bytes ≡ map (history_record level) ((left_by s).ended level)
  pub hidden : level < (program_of s).levels → (program_of s).dom c level ≡ false → histories_at level bytes ≡ []
  pub absent : (program_of s).levels ≤ level → histories_at level bytes ≡ []

abbrev pub LevelsShown : Type 0
LevelsShown = (c : ℕ) (s : List ℕ) (a : Answer) → DepthFirstRun s c a → (level : ℕ) → LevelShown s c (bytes_written a) level

-- The same of calls: what the contract of the entry promises of one on session s, for a reader cleared to level c, that answered 0 and wrote
-- this text to its page buffer
pub record PageCalled (s : List ℕ) (c : ℕ) (text : List ℕ) : Type 0 where
  pub request : Request
  pub session_is : request.session ≡ s
  pub clearance_is : request.clearance ≡ c
  pub lent : List ℕ
  pub answer : PageResult
  pub buffer : List ℕ
  pub page : List ℕ
  pub answers : PageAnswers (paged request lent) answer buffer page
  pub finished : number_told answer ≡ 0
  pub written : text ≡ take (counts_told answer).page_count page

abbrev pub SamePageCalls : Type 0
SamePageCalls =
    (c : ℕ) (s s' text text' : List ℕ) (d d' : Answer)
    → PageCalled s c text
    → PageCalled s' c text'
    → DepthFirstRun (emptied c s) c d
    → DepthFirstRun (emptied c s') c d'
    → EqualToReader d d'
    → text ≡ text'

-- the questions that the entry puts
abbrev pub page_asks : Request → List ℕ → List Question
page_asks q page =
    check_asks q.session ++ asks 9 (question9 q) ∷ asks 11 (question11 q) ∷ asks 16 (question16 page) ∷ []

-- the bytes of the depth-first run
abbrev pub bytes_run : Request → List ℕ
bytes_run q = bytes_for q (left_by q.session)

-- Demand 1 of the page entry, for any bytes, clearance and buffers
pub record Demand1Page : Type 0 where
  pub refused : (q : Request) (page : List ℕ) (k : ℕ) → FirstNo (page_asks q page) k →
      paged q page ≡ record { number = k; place = 0; count = 0; page_count = 0; buffer = q.buffer; page = page }
  pub ended : (q : Request) (page : List ℕ) → AllYes (page_asks q page) →
      paged q page
      ≡ record {
        number = 0;
        place = 0;
        count = length (bytes_run q);
        page_count = length (page_of (bytes_run q));
        buffer = written_over (bytes_run q) q.buffer;
        page = written_over (page_of (bytes_run q)) page;
      }
  pub put : (q : Request) (page : List ℕ) → Put (page_asks q page)
