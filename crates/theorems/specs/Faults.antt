-- Demand 1: how each call ends, by the questions of its entry. For every input one of the cases of an entry's record holds (`Put`, `Listed`),
-- and each says the whole answer. That no call goes on for ever or traps needs no statement: every function is proved to end and to be safe
-- before it is compiled. The proofs are in proofs/Faults.antt. Assumes nothing.
use Rattle.std.specs.Prelude.{ℕ, ◌≡◌, Bool, true, false, List, [], ◌∷◌, ◌++◌, length, drop}
use Rattle.lists.specs.Lists.{every}
use Rattle.session.specs.Questions.{question1, question2, question3, question4, question5, question17, question6, question7, question8, verdict_of}
use Rattle.session.specs.Questions as session
use Rattle.session.specs.Meaning.{root_of}
use Rattle.session.specs.Program.{Program, program_of}
use Rattle.model.specs.Step.{State, step_at}
use Rattle.model.specs.Schedule.{initial_state, question12, question13, question14, question15, plain_order}
use Rattle.model.specs.DepthFirst.{depth_first}
use Rattle.model.specs.Result.{result_of, result_of_depth_first}
use Rattle.calls.specs.Entries.{Request, Answer, question9, question10, question11, cleared, bytes_for, timetabled, plain, deep}

-- a question's number, and what it says
pub record Question : Type 0 where
  pub number : ℕ
  pub says : Bool

abbrev pub asks : ℕ → Bool → Question
asks k b = record { number = k; says = b }

-- "Check uses 1 to 8", with 17 "put straight after question 5"
abbrev pub check_asks : List ℕ → List Question
check_asks s =
    asks 1 (question1 s)
    ∷ asks 2 (question2 s)
    ∷ asks 3 (question3 s)
    ∷ asks 4 (question4 s)
    ∷ asks 5 (question5 s)
    ∷ asks 17 (question17 s)
    ∷ asks 6 (question6 s)
    ∷ asks 7 (question7 s)
    ∷ asks 8 (question8 s)
    ∷ []

-- "the plain run 1 to 11", and so the timetabled run before its first step
abbrev pub run_asks : Request → List Question
run_asks q =
    check_asks q.session ++ asks 9 (question9 q) ∷ asks 10 (question10 q) ∷ asks 11 (question11 q) ∷ []

-- "depth-first 1 to 9 and 11"
abbrev pub deep_asks : Request → List Question
deep_asks q = check_asks q.session ++ asks 9 (question9 q) ∷ asks 11 (question11 q) ∷ []

-- "12 to 14 are put of one timetable byte": of level l, in a state
abbrev pub step_asks : Program → State → ℕ → List Question
step_asks p st l = asks 12 (question12 p l) ∷ asks 13 (question13 st l) ∷ asks 14 (question14 p st l) ∷ []

-- each of some questions says yes
abbrev pub AllYes : List Question → Type 0
AllYes qs = every (λ x. x.says) qs ≡ true

-- question k says no, and each one before it yes: it is the first that says no, in the order in which they are put
pub record FirstNo (qs : List Question) (k : ℕ) : Type 0 where
  pub before : List Question
  pub behind : List Question
  pub place : qs ≡ before ++ asks k false ∷ behind
  pub passed : AllYes before

-- questions that are put one after the other: one ends the call, or all say yes
pub data Put (qs : List Question) : Type 0 where
  ends : (k : ℕ) → FirstNo qs k → Put qs
  passes : AllYes qs → Put qs

-- Check, for any bytes
pub record Demand1Check : Type 0 where
  pub refused : (s : List ℕ) (k : ℕ) → FirstNo (check_asks s) k → session.answer_of (verdict_of s) ≡ record { number = k; place = 0 }
  pub accepted : (s : List ℕ) → AllYes (check_asks s) → session.answer_of (verdict_of s) ≡ record { number = 0; place = 0 }
  pub put : (s : List ℕ) → Put (check_asks s)

-- "its step is made, then the next byte follows": questions 12 to 14 say yes of each byte of a list in turn, and its steps lead from state a
-- to b
unfoldable pub Made : Program → State → List ℕ → State → Type 0
Made p a [] b = a ≡ b
Made p a (l ∷ ls) b = AllYes (step_asks p a l) × Made p (step_at p l a) ls b

-- question k is the first of 12 to 14 that says no of the byte at position i, and the steps before it are made
pub record StopsAt (s ls : List ℕ) (k i : ℕ) : Type 0 where
  pub before : List ℕ
  pub byte : ℕ
  pub behind : List ℕ
  pub place : ls ≡ before ++ byte ∷ behind
  pub position : length before ≡ i
  pub state : State
  pub made : Made (program_of s) (initial_state s) before state
  pub refusal : FirstNo (step_asks (program_of s) state byte) k

-- the whole list is made, and this is what question 15 says at its end
pub record ListMade (s ls : List ℕ) (state : State) (fifteen : Bool) : Type 0 where
  pub made : Made (program_of s) (initial_state s) ls state
  pub says : question15 (program_of s) state ≡ fifteen

-- how a list of scheduler steps of session s ends
pub data Listed (s ls : List ℕ) : Type 0 where
  stops : (k i : ℕ) → StopsAt s ls k i → Listed s ls
  unended : (t : State) → ListMade s ls t false → Listed s ls
  ended : (t : State) → ListMade s ls t true → Listed s ls

-- "All yes gives number 0, place 0 and, from a run, the count of result bytes written"; "beyond the result written, nothing changes": the
-- answer with these bytes and this work slice
abbrev pub answer_with : Request → List ℕ → List ℕ → Answer
answer_with q work bytes =
    record { number = 0; place = 0; count = length bytes; work = work; buffer = bytes ++ drop (length bytes) q.buffer }

-- The timetabled run, for any bytes, clearance, timetable and slices
pub record Demand1Timetabled : Type 0 where
  -- Check's questions and 9 to 11: "otherwise 0", "Up to 11, both buffers stay untouched"
  pub refused : (q : Request) (ls : List ℕ) (k : ℕ) → FirstNo (run_asks q) k →
      timetabled q ls ≡ record { number = k; place = 0; count = 0; work = q.work; buffer = q.buffer }
  -- 12 to 14: "for 12 to 14 the timetable position from 0", "After 12 to 15 the result buffer is untouched; then .. the work slice's first
  -- 8,192 numbers are 0"
  pub stopped : (q : Request) (ls : List ℕ) (k i : ℕ) → AllYes (run_asks q) → StopsAt q.session ls k i →
      timetabled q ls ≡ record { number = k; place = i; count = 0; work = cleared q.work; buffer = q.buffer }
  -- 15
  pub unended : (q : Request) (ls : List ℕ) (t : State) → AllYes (run_asks q) → ListMade q.session ls t false →
      timetabled q ls ≡ record { number = 15; place = 0; count = 0; work = cleared q.work; buffer = q.buffer }
  pub ended : (q : Request) (ls : List ℕ) (t : State) → AllYes (run_asks q) → ListMade q.session ls t true →
      timetabled q ls ≡ answer_with q (cleared q.work) (bytes_for q (result_of (program_of q.session) t))
  pub put : (q : Request) → Put (run_asks q)
  pub listed : (s ls : List ℕ) → Listed s ls

-- The plain run, for any bytes, clearance and slices: past question 11 nothing refuses it
pub record Demand1Plain : Type 0 where
  pub refused : (q : Request) (k : ℕ) → FirstNo (run_asks q) k →
      plain q ≡ record { number = k; place = 0; count = 0; work = q.work; buffer = q.buffer }
  pub ended : (q : Request) → AllYes (run_asks q) →
      (t : State)
      × (ListMade q.session (plain_order (program_of q.session) (root_of q.session)) t true
      × (plain q ≡ answer_with q (cleared q.work) (bytes_for q (result_of (program_of q.session) t))))
  pub put : (q : Request) → Put (run_asks q)

-- The depth-first run, for any bytes, clearance and buffer. It has no work slice
pub record Demand1DepthFirst : Type 0 where
  pub refused : (q : Request) (k : ℕ) → FirstNo (deep_asks q) k →
      deep q ≡ record { number = k; place = 0; count = 0; work = q.work; buffer = q.buffer }
  pub ended : (q : Request) → AllYes (deep_asks q) →
      deep q
      ≡ answer_with q q.work (bytes_for q (result_of_depth_first (program_of q.session) (depth_first (program_of q.session) (root_of q.session))))
  pub put : (q : Request) → Put (deep_asks q)
