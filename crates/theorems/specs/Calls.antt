-- The client's demands 2 and 3 of calls of the entries: over the answers that their contracts promise and the bytes that they wrote. The
-- proofs are in proofs/Calls.antt. Assumes nothing.
use Rattle.std.specs.Prelude.{ℕ, ◌≡◌, List, [], take}
use Rattle.session.specs.Emptied.{emptied}
use Rattle.calls.specs.Entries.{Request, Answer, timetabled, plain, deep, Answers}

-- a call on session s, for a reader cleared to level c, answered 0, and wrote these bytes to its result buffer: what the contract of an
-- entry promises of it, whatever its buffers held
pub record Called (of : Request → Answer) (s : List ℕ) (c : ℕ) (bytes : List ℕ) : Type 0 where
  pub request : Request
  pub session_is : request.session ≡ s
  pub clearance_is : request.clearance ≡ c
  pub place : ℕ
  pub count : ℕ
  pub work : List ℕ
  pub buffer : List ℕ
  pub answers : Answers (of request) 0 place count work buffer
  pub written : bytes ≡ take count buffer

-- of the depth-first entry
abbrev pub DeepCalled : List ℕ → ℕ → List ℕ → Type 0
DeepCalled = Called deep

-- of the timetabled entry, with some timetable, or of the plain one
pub data RunCalled (s : List ℕ) (c : ℕ) (bytes : List ℕ) : Type 0 where
  by_timetable_lem : (ls : List ℕ) → Called (λ q. timetabled q ls) s c bytes → RunCalled s c bytes
  plainly : Called plain s c bytes → RunCalled s c bytes

-- What the contracts of the entries promise of a call that answered 0 is what the demands below speak of: the number, place and count that
-- the entry returned, and what the work slice and the result buffer held afterwards. Of the timetabled entry
abbrev pub TimetabledContract : Type 0
TimetabledContract =
    (s ls : List ℕ) (c : ℕ) (work buffer work' buffer' : List ℕ) (number place count : ℕ)
    → Answers (timetabled (record { session = s; clearance = c; work = work; buffer = buffer }) ls) number place count work' buffer'
    → number ≡ 0
    → RunCalled s c (take count buffer')

-- of the plain one, for any clearance, and so for that of the root's level
abbrev pub PlainContract : Type 0
PlainContract =
    (s : List ℕ) (c : ℕ) (work buffer work' buffer' : List ℕ) (number place count : ℕ)
    → Answers (plain (record { session = s; clearance = c; work = work; buffer = buffer })) number place count work' buffer'
    → number ≡ 0
    → RunCalled s c (take count buffer')

-- of the depth-first one, which is lent no work slice
abbrev pub DeepContract : Type 0
DeepContract =
    (s : List ℕ) (c : ℕ) (buffer buffer' : List ℕ) (number place count : ℕ)
    → Answers (deep (record { session = s; clearance = c; work = []; buffer = buffer })) number place count [] buffer'
    → number ≡ 0
    → DeepCalled s c (take count buffer')

-- Demand 2: the run and the depth-first run of one session, for one reader, wrote the same bytes
abbrev pub Demand2Calls : Type 0
Demand2Calls = (c : ℕ) (s b d : List ℕ) → RunCalled s c b → DeepCalled s c d → b ≡ d

-- Demand 3: two runs of two sessions are equal to the reader exactly when the depth-first runs of the two sessions emptied for him are
abbrev pub Demand3Calls : Type 0
Demand3Calls =
    (c : ℕ) (s s' b b' d d' : List ℕ)
    → RunCalled s c b
    → RunCalled s' c b'
    → DeepCalled (emptied c s) c d
    → DeepCalled (emptied c s') c d'
    → (b ≡ b' → d ≡ d') × (d ≡ d' → b ≡ b')
