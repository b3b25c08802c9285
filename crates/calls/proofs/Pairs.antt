-- What tells two results apart, record by record, and what does not: computed pairs that differ in one place, so that a comparison which leaves
-- out the objects, the histories of a level or the reply is refused here. And runs that are not equal to the reader. Assumes nothing.
use Prim.Native.Nat.{ℕ, zero, suc}
use mathlib.Core.Path.{◌≡◌, refl, sym, ◌∙◌, ap}
use mathlib.Core.List.{List, [], ◌∷◌, ◌++◌}
use native.Mathlib.Omega.{arith}
use borrow.Author.Tests.{eqb-false, ne_eqb}
use lib.Dec.{eqb}
use lib.ListN.{length, get_or, set, take, drop, replicate}
use Rattle.lists.specs.Lists.{joined, select}
use Rattle.session.specs.Record.{Record, byte_of}
use Rattle.session.specs.SessionW.{session_w}
use Rattle.calls.specs.Entries.{Answer, plain}
use Rattle.calls.specs.Reader.{bytes_written, SameRecords, EqualToReader}
use Rattle.model.proofs.Computing.{computing}
use Rattle.calls.proofs.Answering.{lent, answering}

-- a kind 5 record of object o at level 0, its first field x
abbrev object : ℕ → ℕ → Record
object o x = 5 ∷ o ∷ 0 ∷ 1 ∷ x ∷ replicate 11 0

-- a kind 6 record of level l: no writes, fork stamp 0 but for its highest byte, write stamps 1 and 1, so many steps
abbrev history : ℕ → ℕ → ℕ → Record
history l stamp steps = 6 ∷ l ∷ 0 ∷ 0 ∷ 0 ∷ 0 ∷ 0 ∷ stamp ∷ 1 ∷ 0 ∷ 1 ∷ 0 ∷ steps ∷ replicate 3 0

-- a kind 7 record of level 0, the number x
abbrev reply : ℕ → Record
reply x = 7 ∷ 0 ∷ 0 ∷ 1 ∷ x ∷ replicate 11 0

-- two objects, a history of level 0, two of level 1, and a reply
abbrev whole : List ℕ
whole =
    joined (object 0 3 ∷ object 1 4 ∷ history 0 0 2 ∷ history 1 0x10 5 ∷ history 1 0x20 6 ∷ reply 9 ∷ [])

-- the same but for one place
abbrev other_object : List ℕ
other_object =
    joined (object 0 3 ∷ object 1 5 ∷ history 0 0 2 ∷ history 1 0x10 5 ∷ history 1 0x20 6 ∷ reply 9 ∷ [])

abbrev objects_turned : List ℕ
objects_turned =
    joined (object 1 4 ∷ object 0 3 ∷ history 0 0 2 ∷ history 1 0x10 5 ∷ history 1 0x20 6 ∷ reply 9 ∷ [])

abbrev other_low : List ℕ
other_low =
    joined (object 0 3 ∷ object 1 4 ∷ history 0 0 1 ∷ history 1 0x10 5 ∷ history 1 0x20 6 ∷ reply 9 ∷ [])

abbrev other_high : List ℕ
other_high =
    joined (object 0 3 ∷ object 1 4 ∷ history 0 0 2 ∷ history 1 0x10 5 ∷ history 1 0x20 7 ∷ reply 9 ∷ [])

abbrev history_less : List ℕ
history_less = joined (object 0 3 ∷ object 1 4 ∷ history 0 0 2 ∷ history 1 0x10 5 ∷ reply 9 ∷ [])

abbrev histories_turned : List ℕ
histories_turned =
    joined (object 0 3 ∷ object 1 4 ∷ history 0 0 2 ∷ history 1 0x20 6 ∷ history 1 0x10 5 ∷ reply 9 ∷ [])

abbrev other_reply : List ℕ
other_reply =
    joined (object 0 3 ∷ object 1 4 ∷ history 0 0 2 ∷ history 1 0x10 5 ∷ history 1 0x20 6 ∷ reply 8 ∷ [])

abbrev no_reply : List ℕ
no_reply = joined (object 0 3 ∷ object 1 4 ∷ history 0 0 2 ∷ history 1 0x10 5 ∷ history 1 0x20 6 ∷ [])

-- the group of level 1 before that of level 0
abbrev groups_turned : List ℕ
groups_turned =
    joined (object 0 3 ∷ object 1 4 ∷ history 1 0x10 5 ∷ history 1 0x20 6 ∷ history 0 0 2 ∷ reply 9 ∷ [])

-- session W with a QUIT of a register that is NIL at object 0; and with one step more, a SET, at the end of object 1's script
abbrev quits_nil : List ℕ
quits_nil = set session_w 132 2

abbrev longer : List ℕ
longer = take 224 session_w ++ (3 ∷ 1 ∷ 0 ∷ 1 ∷ 2 ∷ replicate 11 0) ++ drop 224 session_w

-- a plain run for a reader cleared to level 1
abbrev ran : List ℕ → Answer
ran s = plain (lent s 1)

-- the records that session W's run writes
abbrev objects_w : List Record
objects_w = (5 ∷ 0 ∷ 0 ∷ 1 ∷ 9 ∷ replicate 11 0) ∷ (5 ∷ 1 ∷ 1 ∷ 3 ∷ 5 ∷ 0 ∷ 0 ∷ 0 ∷ 5 ∷ replicate 7 0) ∷ []

abbrev low_w : Record
low_w = 6 ∷ 0 ∷ 0 ∷ 1 ∷ 0 ∷ 0 ∷ 0 ∷ 0 ∷ 1 ∷ 0 ∷ 2 ∷ 0 ∷ 5 ∷ replicate 3 0

abbrev high_w : Record
high_w = 6 ∷ 1 ∷ 0 ∷ 2 ∷ 0 ∷ 0 ∷ 0 ∷ 0x10 ∷ 1 ∷ 0 ∷ 1 ∷ 0 ∷ 5 ∷ replicate 3 0

-- and the history of the longer script
abbrev longer_w : Record
longer_w = 6 ∷ 1 ∷ 0 ∷ 2 ∷ 0 ∷ 0 ∷ 0 ∷ 0x10 ∷ 1 ∷ 0 ∷ 1 ∷ 0 ∷ 6 ∷ replicate 3 0

abbrev reply_w : Record
reply_w = 7 ∷ 0 ∷ 0 ∷ 1 ∷ 9 ∷ replicate 11 0

abbrev bytes_w : List ℕ
bytes_w = joined (objects_w ++ low_w ∷ high_w ∷ reply_w ∷ [])

-- another reply, another history
abbrev bytes_nil : List ℕ
bytes_nil = joined (objects_w ++ low_w ∷ high_w ∷ (7 ∷ replicate 15 0) ∷ [])

abbrev bytes_longer : List ℕ
bytes_longer = joined (objects_w ++ low_w ∷ longer_w ∷ reply_w ∷ [])

pub record Pairs : Type 0 where
  -- "the same kind 5 records in the same order"
  object_alone : SameRecords whole other_object → ⊥
  objects_turned_lem : SameRecords whole objects_turned → ⊥
  -- "for every level the same kind 6 records of that level in the same order"
  low_history_alone : SameRecords whole other_low → ⊥
  high_history_alone : SameRecords whole other_high → ⊥
  history_less_lem : SameRecords whole history_less → ⊥
  history_more : SameRecords history_less whole → ⊥
  histories_turned_lem : SameRecords whole histories_turned → ⊥
  -- "either the same kind 7 record or none in both"
  reply_alone : SameRecords whole other_reply → ⊥
  reply_less : SameRecords whole no_reply → ⊥
  reply_more : SameRecords no_reply whole → ⊥
  -- document 01's "levels' groups in any order": it compares level by level
  groups_turned_lem : SameRecords whole groups_turned

-- The bytes of whole runs: session W, with another reply, and with another step count at level 1
record RunBytes : Type 0 where
  bytes_W : bytes_written (ran session_w) ≡ bytes_w
  bytes_nil_lem : bytes_written (ran quits_nil) ≡ bytes_nil
  bytes_longer_lem : bytes_written (ran longer) ≡ bytes_longer

-- a byte of the record at a place
abbrev byte_in : ℕ → ℕ → List Record → ℕ
byte_in i k rs = byte_of (get_or rs i []) k

-- records of two levels in two orders: for every level the same ones of that level
turned : (l : ℕ) → select (λ rec. eqb (byte_of rec 1) l) (history 0 0 2 ∷ history 1 0x10 5 ∷ history 1 0x20 6 ∷ []) ≡ select (λ rec. eqb (byte_of rec 1) l) (history 1 0x10 5 ∷ history 1 0x20 6 ∷ history 0 0 2 ∷ [])
unfolding select
turned zero = refl
turned (suc zero) = refl
turned (suc (suc l)) = rw (ne_eqb 0 (suc (suc l)) (λ e. omega (arith, e)), ne_eqb 1 (suc (suc l)) (λ e. omega (arith, e))) refl

-- some records, with which both sides of an equation are compared
itself : (rs : List Record) → rs ≡ rs
itself rs = refl

pub pairs : Pairs
unfolding computing answering
pairs =
    record {
      object_alone = λ e. eqb-false 4 5 refl (ap (byte_in 1 4) e.objects);
      objects_turned_lem = λ e. eqb-false 0 1 refl (ap (byte_in 0 1) e.objects);
      low_history_alone = λ e. eqb-false 2 1 refl (ap (byte_in 0 12) (e.histories 0));
      high_history_alone = λ e. eqb-false 6 7 refl (ap (byte_in 1 12) (e.histories 1));
      history_less_lem = λ e. eqb-false 2 1 refl (ap length (e.histories 1));
      history_more = λ e. eqb-false 1 2 refl (ap length (e.histories 1));
      histories_turned_lem = λ e. eqb-false 0x10 0x20 refl (ap (byte_in 0 7) (e.histories 1));
      reply_alone = λ e. eqb-false 9 8 refl (ap (byte_in 0 4) e.reply);
      reply_less = λ e. eqb-false 1 0 refl (ap length e.reply);
      reply_more = λ e. eqb-false 0 1 refl (ap length e.reply);
      groups_turned_lem = record { objects = itself (object 0 3 ∷ object 1 4 ∷ []); histories = turned; reply = itself (reply 9 ∷ []) };
    }

run_bytes : RunBytes
unfolding computing answering
run_bytes = record { bytes_W = refl; bytes_nil_lem = refl; bytes_longer_lem = refl }

-- they differ in the reply alone, and in one history alone: neither pair is equal to the reader
pub runs_reply_alone : EqualToReader (ran session_w) (ran quits_nil) → ⊥
unfolding joined
runs_reply_alone e =
    eqb-false 9 0 refl (ap (λ bytes. get_or bytes 68 0) (sym run_bytes.bytes_W ∙ e ∙ run_bytes.bytes_nil_lem))

pub runs_history_alone : EqualToReader (ran session_w) (ran longer) → ⊥
unfolding joined
runs_history_alone e =
    eqb-false 5 6 refl (ap (λ bytes. get_or bytes 60 0) (sym run_bytes.bytes_W ∙ e ∙ run_bytes.bytes_longer_lem))
