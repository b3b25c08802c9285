-- What the computed cases of calls share. To name `answering` on an `unfolding` line opens the definitions of the entries. Assumes nothing.
use Prim.Native.Nat.{ℕ}
use mathlib.Core.List.{List, ◌∷◌}
use lib.ListN.{replicate}
use Rattle.calls.specs.Entries.{Request, Answer, entry_refusal, cleared, answer_of, timetabled, plain, deep}
use Rattle.calls.specs.Reader.{bytes_written}

unfoldable pub answering : Unit {0}
unfolding entry_refusal cleared answer_of timetabled plain deep
answering = tt

-- a session run for a clearance, lent so many numbers, each 7, and so many bytes, each 9
abbrev pub lending : List ℕ → ℕ → ℕ → ℕ → Request
lending s c work buffer =
    record { session = s; clearance = c; work = replicate work 7; buffer = replicate buffer 9 }

-- the same, lent the least that questions 10 and 11 ask for, and one place more
abbrev pub lent : List ℕ → ℕ → Request
lent s c = lending s c 8193 5137

-- number, place, count and the bytes written
abbrev pub answered : Answer → List ℕ
answered a = a.number ∷ a.place ∷ a.count ∷ bytes_written a
