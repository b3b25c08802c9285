-- Document 01's proved cases M1 to M12, M5 as document 02 answers it, computed over the definitions: one table. Assumes nothing.
use Prim.Native.Nat.{ℕ}
use mathlib.Core.Path.{◌≡◌, refl}
use mathlib.Core.List.{List, [], ◌∷◌, ◌++◌}
use lib.ListN.{replicate, set}
use Rattle.dominance.specs.Table as table
use Rattle.lists.specs.Lists.{joined}
use Rattle.session.specs.SessionW.{session_w}
use Rattle.lists.specs.Changed.{inserted}
use Rattle.calls.specs.Entries.{timetabled, plain, deep, Answer}
use Rattle.session.specs.Record.{Record}
use Rattle.model.specs.Fork.{child_stamp}
use Rattle.model.proofs.Computing.{computing}
use Rattle.calls.proofs.Answering.{lent, answered, answering}

-- the records of session W's results: "(object, history, reply)", and those that clearance 1 is shown too: "object 1 as 5, 5, NIL and
-- history stamp 10000000 hex, 2 writes, stamps 1 and 1, 5 steps"
abbrev object0 : Record
object0 = 0x05 ∷ 0x00 ∷ 0x00 ∷ 0x01 ∷ 0x09 ∷ 0x00 ∷ 0x00 ∷ 0x00 ∷ 0x00 ∷ 0x00 ∷ 0x00 ∷ 0x00 ∷ 0x00 ∷ 0x00 ∷ 0x00 ∷ 0x00 ∷ []

abbrev history0 : Record
history0 = 0x06 ∷ 0x00 ∷ 0x00 ∷ 0x01 ∷ 0x00 ∷ 0x00 ∷ 0x00 ∷ 0x00 ∷ 0x01 ∷ 0x00 ∷ 0x02 ∷ 0x00 ∷ 0x05 ∷ 0x00 ∷ 0x00 ∷ 0x00 ∷ []

abbrev reply : Record
reply = 0x07 ∷ 0x00 ∷ 0x00 ∷ 0x01 ∷ 0x09 ∷ 0x00 ∷ 0x00 ∷ 0x00 ∷ 0x00 ∷ 0x00 ∷ 0x00 ∷ 0x00 ∷ 0x00 ∷ 0x00 ∷ 0x00 ∷ 0x00 ∷ []

abbrev object1 : Record
object1 = 0x05 ∷ 0x01 ∷ 0x01 ∷ 0x03 ∷ 0x05 ∷ 0x00 ∷ 0x00 ∷ 0x00 ∷ 0x05 ∷ 0x00 ∷ 0x00 ∷ 0x00 ∷ 0x00 ∷ 0x00 ∷ 0x00 ∷ 0x00 ∷ []

abbrev history1 : Record
history1 = 0x06 ∷ 0x01 ∷ 0x00 ∷ 0x02 ∷ 0x00 ∷ 0x00 ∷ 0x00 ∷ 0x10 ∷ 0x01 ∷ 0x00 ∷ 0x01 ∷ 0x00 ∷ 0x05 ∷ 0x00 ∷ 0x00 ∷ 0x00 ∷ []

abbrev for0 : List ℕ
for0 = 0 ∷ 0 ∷ 48 ∷ joined (object0 ∷ history0 ∷ reply ∷ [])

abbrev for1 : List ℕ
for1 = 0 ∷ 0 ∷ 80 ∷ joined (object0 ∷ object1 ∷ history0 ∷ history1 ∷ reply ∷ [])

-- a timetable of session W, for clearance 1
abbrev timetabled_w : List ℕ → Answer
timetabled_w = timetabled (lent session_w 1)

abbrev six_and_six : List ℕ
six_and_six = replicate 6 0 ++ replicate 6 1

-- session W with other masks
abbrev masked : ℕ → ℕ → List ℕ
masked first second = set (set session_w 2 first) 18 second

pub record ProvedCases : Type 0 where
  m1 : answered (plain (lent session_w 0)) ≡ for0
  m1_depth_first : answered (deep (lent session_w 0)) ≡ for0
  m2 : answered (plain (lent session_w 1)) ≡ for1
  m2_depth_first : answered (deep (lent session_w 1)) ≡ for1
  m3 : answered (timetabled_w six_and_six) ≡ for1
  m4 : answered (timetabled_w (1 ∷ six_and_six)) ≡ 13 ∷ 0 ∷ 0 ∷ []
  -- as document 02 changes it
  m5 : answered (timetabled_w (0 ∷ 0 ∷ 0 ∷ 1 ∷ [])) ≡ 15 ∷ 0 ∷ 0 ∷ []
  m5_early : answered (timetabled_w (replicate 3 0 ++ replicate 6 1 ++ replicate 3 0)) ≡ for1
  m6 : answered (timetabled_w (six_and_six ++ 0 ∷ [])) ≡ 13 ∷ 12 ∷ 0 ∷ []
  m7 : answered (timetabled_w (replicate 6 0)) ≡ 15 ∷ 0 ∷ 0 ∷ []
  m8 : answered (timetabled (lent [] 0) []) ≡ 1 ∷ 0 ∷ 0 ∷ []
  m9 : table.join_of (0x01 ∷ 0x03 ∷ 0x05 ∷ 0x0F ∷ []) 1 2 ≡ 3
  m10 : table.number_of_verdict (table.verdict_of (0x01 ∷ 0x02 ∷ [])) ≡ 5
  m10_session : answered (plain (lent (masked 0x01 0x02) 0)) ≡ 5 ∷ 0 ∷ 0 ∷ []
  m11 : table.number_of_verdict (table.verdict_of (0x03 ∷ 0x03 ∷ [])) ≡ 4
  m11_session : answered (plain (lent (masked 0x03 0x03) 0)) ≡ 4 ∷ 0 ∷ 0 ∷ []
  m12_stamp : child_stamp (child_stamp 0 0 2) 1 1 ≡ 0x21000000
  m12_order : inserted (λ x. x) 0x21000000 (0x20000000 ∷ 0x30000000 ∷ []) ≡ 0x20000000 ∷ 0x21000000 ∷ 0x30000000 ∷ []

pub proved_cases : ProvedCases
unfolding computing answering
proved_cases =
    record {
      m1 = refl;
      m1_depth_first = refl;
      m2 = refl;
      m2_depth_first = refl;
      m3 = refl;
      m4 = refl;
      m5 = refl;
      m5_early = refl;
      m6 = refl;
      m7 = refl;
      m8 = refl;
      m9 = refl;
      m10 = refl;
      m10_session = refl;
      m11 = refl;
      m11_session = refl;
      m12_stamp = refl;
      m12_order = refl;
    }
