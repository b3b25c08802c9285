-- What the client demands of runs, as statements. Their proofs are in proofs/Demands.antt. Assumes nothing.
use Rattle.std.specs.Prelude.{ℕ, ◌≤◌, ◌<◌, ◌≡◌, true, List, length}
use Rattle.session.specs.Parts.{level_count}
use Rattle.session.specs.Questions.{verdict_of, Accepted}
use Rattle.session.specs.Meaning.{root_of}
use Rattle.session.specs.Program.{program_of}
use Rattle.session.specs.Emptied.{emptied}
use Rattle.model.specs.Limits.{result_bytes}
use Rattle.model.specs.History.{AllLimited}
use Rattle.model.specs.Step.{State, level_at, moved, move_at}
use Rattle.model.specs.Schedule.{read_in, finished, run_of, Leads}
use Rattle.model.specs.DepthFirst.{depth_first, tally_at}
use Rattle.calls.specs.Entries.{Request, Answer, question10, entry_refusal, timetabled, plain, deep}
use Rattle.calls.specs.Reader.{Finished, bytes_written, EqualToReader}
use Rattle.theorems.specs.Isolation.{Isolated}

-- "A session is accepted when every question Check uses says yes"
abbrev pub IsAccepted : List ℕ → Type 0
IsAccepted s = verdict_of s ≡ Accepted

-- the list of scheduler steps ls of session s finishes in state t
abbrev pub EndsIn : List ℕ → List ℕ → State → Type 0
EndsIn s ls t = run_of (program_of s) (root_of s) ls ≡ finished t

-- Any two lists that finish end in the same state
abbrev pub OneEnd : Type 0
OneEnd = (s : List ℕ) → IsAccepted s → (ls ks : List ℕ) (t w : State) → EndsIn s ls t → EndsIn s ks w → t ≡ w

-- "so an emptied session is accepted too", for any level
abbrev pub EmptiedAccepted : Type 0
EmptiedAccepted = (s : List ℕ) → IsAccepted s → (c : ℕ) → IsAccepted (emptied c s)

-- The plain run is finished wherever Check's questions and 9 to 11 say yes
abbrev pub PlainFinishes : Type 0
PlainFinishes = (q : Request) → entry_refusal (question10 q) q ≡ 0 → Finished (plain q)

-- The depth-first run is finished wherever Check's questions, 9 and 11 say yes
abbrev pub DeepFinishes : Type 0
DeepFinishes = (q : Request) → entry_refusal true q ≡ 0 → Finished (deep q)

-- Demand 2: a finished run has the records of the depth-first run. Byte by byte, for any clearance
abbrev pub Demand2 : Type 0
Demand2 =
    (q : Request) (ls : List ℕ)
    → Finished (timetabled q ls)
    → Finished (deep q) × (bytes_written (timetabled q ls) ≡ bytes_written (deep q))

abbrev pub Demand2Plain : Type 0
Demand2Plain =
    (q : Request)
    → Finished (plain q)
    → Finished (deep q) × (bytes_written (plain q) ≡ bytes_written (deep q))

-- The depth-first runs of a session and of the session emptied for a reader's level are equal to that reader
abbrev pub DeepEmptied : Type 0
DeepEmptied =
    (q q' : Request)
    → q'.session ≡ emptied q.clearance q.session → q'.clearance ≡ q.clearance
    → Finished (deep q) → Finished (deep q')
    → EqualToReader (deep q) (deep q')

-- The histories of a depth-first run are within the limits of a run
abbrev pub HistoriesLimited : Type 0
HistoriesLimited =
    (s : List ℕ) → IsAccepted s
    → (l : ℕ) → l < level_count s → AllLimited (tally_at (depth_first (program_of s) (root_of s)) l).ended

-- A step is made from what its level sees alone (`move_at`). On every state that a run reaches it is the step made from the whole state and
-- the whole program: nothing that a manager looks at is hidden from its level
abbrev pub StepFromView : Type 0
StepFromView =
    (s : List ℕ) → IsAccepted s
    → (ls : List ℕ) (st : State) → Leads (program_of s) (read_in (program_of s) (root_of s)) ls st
    → (l : ℕ) → l < level_count s
    → move_at (program_of s) l st ≡ moved (program_of s) st l (level_at st l) (level_at st l).activity

-- Strike from a list that finishes every level that c does not dominate: what is left runs in the session emptied for c, step by step, with
-- the same states at the levels that c dominates
abbrev pub Isolation : Type 0
Isolation =
    (s : List ℕ) → IsAccepted s
    → (c : ℕ) → c < level_count s
    → (ls : List ℕ) (t : State) → EndsIn s ls t
    → Isolated (program_of s) (program_of (emptied c s)) c ls (read_in (program_of s) (root_of s)) (read_in (program_of (emptied c s)) (root_of (emptied c s)))

-- a is the answer of a finished timetabled run of session s for a reader cleared to level c, whatever its list and its buffers. A plain run
-- is one
pub record TimetabledRun (s : List ℕ) (c : ℕ) (a : Answer) : Type 0 where
  pub request : Request
  pub of : request.session ≡ s
  pub reader : request.clearance ≡ c
  pub list : List ℕ
  pub answer : a ≡ timetabled request list
  pub finished : Finished a

-- a is that of a finished depth-first run
pub record DepthFirstRun (s : List ℕ) (c : ℕ) (a : Answer) : Type 0 where
  pub request : Request
  pub of : request.session ≡ s
  pub reader : request.clearance ≡ c
  pub answer : a ≡ deep request
  pub finished : Finished a

-- The depth-first run of an emptied session is there for every accepted session and each of its levels, with any buffer that question 11 lets
-- pass and any work slice
abbrev pub EmptiedRuns : Type 0
EmptiedRuns =
    (s : List ℕ) → IsAccepted s
    → (c : ℕ) → c < level_count s
    → (q : Request) → q.session ≡ emptied c s → q.clearance ≡ c → result_bytes ≤ length q.buffer
    → DepthFirstRun (emptied c s) c (deep q)

-- Demand 3: any two accepted sessions, any two whole lists of scheduler steps that finish: the two runs are equal to a reader exactly when
-- the depth-first runs of the two sessions emptied for that reader are. A finished run's session is accepted and has the level c. By
-- `EmptiedRuns` the two depth-first runs are there for every such pair
abbrev pub Demand3 : Type 0
Demand3 =
    (c : ℕ) (s s' : List ℕ) (a a' d d' : Answer)
    → TimetabledRun s c a
    → TimetabledRun s' c a'
    → DepthFirstRun (emptied c s) c d
    → DepthFirstRun (emptied c s') c d'
    → (EqualToReader a a' → EqualToReader d d') × (EqualToReader d d' → EqualToReader a a')
