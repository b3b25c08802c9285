-- Objects made and withdrawn (document 02, job 7), computed over whole runs: the numbers of made objects, what CREATE and WITHDRAW count, and what a
-- reader is shown. Assumes nothing.
use Prim.Native.Nat.{ℕ, ◌-◌}
use mathlib.Core.Path.{◌≡◌, refl}
use mathlib.Core.List.{List, [], ◌∷◌, ◌++◌}
use lib.ListN.{length, replicate}
use Rattle.session.specs.Limits.{record_bytes}
use Rattle.lists.specs.Lists.{joined}
use Rattle.session.specs.Record.{Record}
use Rattle.session.specs.Emptied.{emptied}
use Rattle.session.specs.Program.{Program}
use Rattle.session.specs.Value.{Value}
use Rattle.std.specs.Prelude.{None, Some}
use Rattle.session.specs.declared.Step.{Step}
use Rattle.session.specs.declared.Step.TheVariants.{Set, Write, Send, Quit, Create, Withdraw}
use Rattle.model.specs.Rules.{latest, depth_first_order}
use Rattle.model.specs.Result.{Result}
use Rattle.calls.specs.Entries.{plain, deep}
use Rattle.model.proofs.Computing.{computing, plain_bytes, deep_bytes}
use Rattle.calls.proofs.Answering.{lent, answered, answering}
use Rattle.model.proofs.Existence.{placed, in_runs, shown_to, fields_of, managers_at, replied}

-- one level and one object, with this script
abbrev alone : List Step → Program
alone script = placed (0x01 ∷ []) (0 ∷ []) ((script ∷ []) ∷ [])

-- five CREATEs, each into register 1
abbrev five : Program
five = alone (Set 2 8 ∷ replicate 5 (Create 1) ++ Quit 1 ∷ [])

-- what the four made hold
abbrev fields_of_four : Result → List (List Value)
fields_of_four r = fields_of 32 r ∷ fields_of 33 r ∷ fields_of 34 r ∷ fields_of 35 r ∷ []

-- Level 1 over 0. The root forks two messages to object 1: each has three CREATEs, sends to 36, where name 1 withdraws it, and writes what the
-- third gave
abbrev used : Program
used =
    placed
    (0x01 ∷ 0x03 ∷ [])
    (0 ∷ 1 ∷ [])
    (((Send 3 0 1 ∷ Send 3 0 1 ∷ []) ∷ [])
    ∷ ((Create 1 ∷ Create 1 ∷ Create 1 ∷ Send 3 1 36 ∷ Write 1 0 ∷ []) ∷ (Withdraw ∷ []) ∷ [])
    ∷ [])

abbrev fields_of_used : Result → List (List Value)
fields_of_used r = fields_of 1 r ∷ fields_of 37 r ∷ fields_of 38 r ∷ fields_of 39 r ∷ []

-- One level. An object is made, withdraws itself, and another one is made
abbrev again : Program
again = placed (0x01 ∷ []) (0 ∷ []) (((Create 1 ∷ Send 3 1 32 ∷ Create 2 ∷ Quit 2 ∷ []) ∷ (Withdraw ∷ []) ∷ []) ∷ [])

-- Level 1 over 0. The root forks two messages to object 1: one has a CREATE after thirteen writes, the other after twelve
abbrev passing : Program
passing =
    placed
    (0x01 ∷ 0x03 ∷ [])
    (0 ∷ 1 ∷ [])
    (((Send 3 0 1 ∷ Send 3 1 1 ∷ []) ∷ [])
    ∷ ((replicate 13 (Write 0 0) ++ Create 1 ∷ Quit 1 ∷ []) ∷ (replicate 12 (Write 0 0) ++ Create 1 ∷ Quit 1 ∷ []) ∷ [])
    ∷ [])

-- WITHDRAW after four CREATEs, and after three and three writes
abbrev withdrawing : List Step → Program
withdrawing script = alone (script ++ Withdraw ∷ Quit 1 ∷ [])

abbrev at_sixteen : Program
at_sixteen = withdrawing (replicate 4 (Create 1))

abbrev at_fifteen : Program
at_fifteen = withdrawing (replicate 3 (Create 1) ++ replicate 3 (Write 1 0))

-- Levels 3 over 1 and 2, these over 0. Objects 0 and 3 at level 0, 1 at 1, 2 at 2. Object 0 makes 32, forks messages to 2, to 1 and to 36, and
-- sends to 3, which withdraws itself. Object 2 makes 40. Object 1 has the methods given
abbrev making : List (List Step) → Program
making methods =
    placed
    (0x01 ∷ 0x03 ∷ 0x05 ∷ 0x0F ∷ [])
    (0 ∷ 1 ∷ 2 ∷ 0 ∷ [])
    (((Set 2 300 ∷ Create 1 ∷ Send 3 0 2 ∷ Send 3 0 1 ∷ Send 3 0 3 ∷ Send 3 1 36 ∷ Quit 1 ∷ []) ∷ [])
    ∷ methods
    ∷ ((Create 1 ∷ []) ∷ [])
    ∷ ((Withdraw ∷ []) ∷ [])
    ∷ [])

-- object 1 makes 36 and 37, and name 1 withdraws 36; or it withdraws itself
abbrev makes : List (List Step)
makes = (Create 1 ∷ Create 2 ∷ []) ∷ (Withdraw ∷ []) ∷ []

abbrev withdraws : List (List Step)
withdraws = (Withdraw ∷ Create 2 ∷ []) ∷ (Withdraw ∷ []) ∷ []

-- a record by its first bytes, the rest 0
abbrev padded : List ℕ → Record
padded bytes = bytes ++ replicate (record_bytes - length bytes) 0

-- the first of these as a session. Object 0 name 0: SET r2 300; CREATE r1; SEND r3 name 0 to 2, to 1 and to 3, and name 1 to 36; QUIT r1. Object
-- 1 name 0: CREATE r1; CREATE r2. Name 1: WITHDRAW. Object 2 name 0: CREATE r1. Object 3 name 0: WITHDRAW. Root: object 0, name 0, NIL
abbrev levels_and_objects : List Record
levels_and_objects =
    padded (1 ∷ 0 ∷ 0x01 ∷ [])
    ∷ padded (1 ∷ 1 ∷ 0x03 ∷ [])
    ∷ padded (1 ∷ 2 ∷ 0x05 ∷ [])
    ∷ padded (1 ∷ 3 ∷ 0x0F ∷ [])
    ∷ padded (2 ∷ 0 ∷ 0 ∷ [])
    ∷ padded (2 ∷ 1 ∷ 1 ∷ [])
    ∷ padded (2 ∷ 2 ∷ 2 ∷ [])
    ∷ padded (2 ∷ 3 ∷ 0 ∷ [])
    ∷ []

abbrev scripts_and_root : List Record
scripts_and_root =
    padded (3 ∷ 0 ∷ 0 ∷ 1 ∷ 2 ∷ 0 ∷ 0 ∷ 0 ∷ 0x2C ∷ 0x01 ∷ [])
    ∷ padded (3 ∷ 0 ∷ 0 ∷ 8 ∷ 1 ∷ [])
    ∷ padded (3 ∷ 0 ∷ 0 ∷ 6 ∷ 3 ∷ 0 ∷ 2 ∷ [])
    ∷ padded (3 ∷ 0 ∷ 0 ∷ 6 ∷ 3 ∷ 0 ∷ 1 ∷ [])
    ∷ padded (3 ∷ 0 ∷ 0 ∷ 6 ∷ 3 ∷ 0 ∷ 3 ∷ [])
    ∷ padded (3 ∷ 0 ∷ 0 ∷ 6 ∷ 3 ∷ 1 ∷ 36 ∷ [])
    ∷ padded (3 ∷ 0 ∷ 0 ∷ 7 ∷ 1 ∷ [])
    ∷ padded (3 ∷ 1 ∷ 0 ∷ 8 ∷ 1 ∷ [])
    ∷ padded (3 ∷ 1 ∷ 0 ∷ 8 ∷ 2 ∷ [])
    ∷ padded (3 ∷ 1 ∷ 1 ∷ 9 ∷ [])
    ∷ padded (3 ∷ 2 ∷ 0 ∷ 8 ∷ 1 ∷ [])
    ∷ padded (3 ∷ 3 ∷ 0 ∷ 9 ∷ [])
    ∷ padded (4 ∷ 0 ∷ 0 ∷ [])
    ∷ []

abbrev session : List ℕ
session = joined (levels_and_objects ++ scripts_and_root)

-- the objects that are left: 3 and 36 are withdrawn
abbrev object0 : Record
object0 = padded (5 ∷ 0 ∷ 0 ∷ [])

abbrev object1 : Record
object1 = padded (5 ∷ 1 ∷ 1 ∷ [])

abbrev object2 : Record
object2 = padded (5 ∷ 2 ∷ 2 ∷ [])

abbrev object32 : Record
object32 = padded (5 ∷ 32 ∷ 0 ∷ 2 ∷ 0 ∷ 0 ∷ 0 ∷ 0 ∷ 0x2C ∷ 0x01 ∷ [])

abbrev object37 : Record
object37 = padded (5 ∷ 37 ∷ 1 ∷ 1 ∷ 36 ∷ [])

abbrev object40 : Record
object40 = padded (5 ∷ 40 ∷ 2 ∷ [])

-- the histories of each level; those of level 1 where object 1 withdraws itself; and the reply
abbrev histories0 : List Record
histories0 = padded (6 ∷ 0 ∷ 0 ∷ 5 ∷ 0 ∷ 0 ∷ 0 ∷ 0 ∷ 1 ∷ 0 ∷ 4 ∷ 0 ∷ 8 ∷ []) ∷ []

abbrev histories1 : List Record
histories1 =
    padded (6 ∷ 1 ∷ 0 ∷ 8 ∷ 0 ∷ 0 ∷ 0 ∷ 0x20 ∷ 1 ∷ 0 ∷ 1 ∷ 0 ∷ 2 ∷ [])
    ∷ padded (6 ∷ 1 ∷ 0 ∷ 1 ∷ 0 ∷ 0 ∷ 0 ∷ 0x30 ∷ 2 ∷ 0 ∷ 2 ∷ 0 ∷ 1 ∷ [])
    ∷ []

abbrev histories_withdrawn : List Record
histories_withdrawn =
    padded (6 ∷ 1 ∷ 0 ∷ 1 ∷ 0 ∷ 0 ∷ 0 ∷ 0x20 ∷ 1 ∷ 0 ∷ 1 ∷ 0 ∷ 2 ∷ [])
    ∷ padded (6 ∷ 1 ∷ 0 ∷ 0 ∷ 0 ∷ 0 ∷ 0 ∷ 0x30 ∷ 2 ∷ 0 ∷ 2 ∷ [])
    ∷ []

abbrev histories2 : List Record
histories2 = padded (6 ∷ 2 ∷ 0 ∷ 4 ∷ 0 ∷ 0 ∷ 0 ∷ 0x10 ∷ 1 ∷ 0 ∷ 1 ∷ 0 ∷ 1 ∷ []) ∷ []

abbrev reply : List Record
reply = padded (7 ∷ 0 ∷ 0 ∷ 1 ∷ 32 ∷ []) ∷ []

-- what a reader of each level is shown
abbrev for0 : List ℕ
for0 = joined (object0 ∷ object32 ∷ histories0 ++ reply)

abbrev for1 : List ℕ
for1 = joined (object0 ∷ object1 ∷ object32 ∷ object37 ∷ histories0 ++ histories1 ++ reply)

abbrev for1_withdrawn : List ℕ
for1_withdrawn = joined (object0 ∷ object32 ∷ histories0 ++ histories_withdrawn ++ reply)

abbrev for2 : List ℕ
for2 = joined (object0 ∷ object2 ∷ object32 ∷ object40 ∷ histories0 ++ histories2 ++ reply)

abbrev for3 : List ℕ
for3 =
    joined (object0 ∷ object1 ∷ object2 ∷ object32 ∷ object37 ∷ object40 ∷ histories0 ++ histories1 ++ histories2 ++ reply)

pub record Shown : Type 0 where
  -- "handed out upward; a CREATE once all four are used gives NIL", and is no ending 2
  five_shown : in_runs five (shown_to 0 five) ≡ replicate 3 (0 ∷ 32 ∷ 33 ∷ 34 ∷ 35 ∷ [])
  five_counts : in_runs five (managers_at 0) ≡ replicate 3 ((0 ∷ 16 ∷ 0 ∷ 1 ∷ 1 ∷ 7 ∷ []) ∷ [])
  five_reply : in_runs five replied ≡ replicate 3 (None ∷ [])
  -- "with registers 1, 2 and 3 as its fields .. a gets its number": also where a is register 1, the fields are what the registers held before
  five_fields : in_runs five fields_of_four ≡ replicate 3 ((None ∷ Some 8 ∷ None ∷ []) ∷ (Some 32 ∷ Some 8 ∷ None ∷ []) ∷ (Some 33 ∷ Some 8 ∷ None ∷ []) ∷ (Some 34 ∷ Some 8 ∷ None ∷ []) ∷ [])
  -- "withdrawals or not, since a number is never used twice": by one manager, and by the next one of its level
  again_shown : in_runs again (shown_to 0 again) ≡ replicate 3 (0 ∷ 33 ∷ [])
  again_reply : in_runs again replied ≡ replicate 3 (Some 33 ∷ [])
  used_shown : in_runs used (shown_to 1 used) ≡ replicate 3 (0 ∷ 1 ∷ 37 ∷ 38 ∷ 39 ∷ [])
  used_fields : in_runs used fields_of_used ≡ replicate 3 ((None ∷ None ∷ None ∷ []) ∷ (Some 36 ∷ None ∷ None ∷ []) ∷ (Some 37 ∷ None ∷ None ∷ []) ∷ (None ∷ None ∷ None ∷ []) ∷ [])
  used_counts : in_runs used (managers_at 1) ≡ replicate 3 ((0 ∷ 14 ∷ 0x10000000 ∷ 1 ∷ 1 ∷ 6 ∷ []) ∷ (0 ∷ 5 ∷ 0x20000000 ∷ 2 ∷ 2 ∷ 5 ∷ []) ∷ [])
  -- "Passing 16 is ending 2, and nothing is made, removed or added to the count": the number is not used, and the next manager's CREATE gets it
  passing_counts : in_runs passing (managers_at 1) ≡ replicate 3 ((2 ∷ 13 ∷ 0x10000000 ∷ 1 ∷ 1 ∷ 14 ∷ []) ∷ (0 ∷ 16 ∷ 0x20000000 ∷ 2 ∷ 2 ∷ 14 ∷ []) ∷ [])
  passing_shown : in_runs passing (shown_to 1 passing) ≡ replicate 3 (0 ∷ 1 ∷ 36 ∷ [])
  sixteen_counts : in_runs at_sixteen (managers_at 0) ≡ replicate 3 ((2 ∷ 16 ∷ 0 ∷ 1 ∷ 1 ∷ 5 ∷ []) ∷ [])
  sixteen_shown : in_runs at_sixteen (shown_to 0 at_sixteen) ≡ replicate 3 (0 ∷ 32 ∷ 33 ∷ 34 ∷ 35 ∷ [])
  sixteen_reply : in_runs at_sixteen replied ≡ replicate 3 (None ∷ [])
  fifteen_counts : in_runs at_fifteen (managers_at 0) ≡ replicate 3 ((0 ∷ 16 ∷ 0 ∷ 1 ∷ 1 ∷ 8 ∷ []) ∷ [])
  fifteen_shown : in_runs at_fifteen (shown_to 0 at_fifteen) ≡ replicate 3 (32 ∷ 33 ∷ 34 ∷ [])
  fifteen_reply : in_runs at_fifteen replied ≡ replicate 3 (Some 34 ∷ [])
  -- "[An object] withdrawn by the end is not shown. Existing made [ones] are shown after the others by number". "Level n owns numbers 32 + 4n to 35 + 4n":
  -- each level counts its own
  shown_to_3 : plain_bytes (making makes) 0 3 ≡ for3
  shown_to_3_depth_first : deep_bytes (making makes) 0 3 ≡ for3
  shown_to_2 : plain_bytes (making makes) 0 2 ≡ for2
  shown_to_2_depth_first : deep_bytes (making makes) 0 2 ≡ for2
  shown_to_1 : plain_bytes (making makes) 0 1 ≡ for1
  shown_to_0 : plain_bytes (making makes) 0 0 ≡ for0
  session_shown : answered (plain (lent session 3)) ≡ 0 ∷ 0 ∷ 176 ∷ for3
  -- demand 3 holds "whatever [objects] are made or withdrawn at levels the reader's does not dominate": where object 1 makes none, is
  -- withdrawn, or is emptied, a reader of level 2 is shown the same; one of level 1 is not
  withdrawn_above_1 : plain_bytes (making withdraws) 0 1 ≡ for1_withdrawn
  withdrawn_above_2 : plain_bytes (making withdraws) 0 2 ≡ for2
  withdrawn_above_2_depth_first : deep_bytes (making withdraws) 0 2 ≡ for2
  none_above_2 : plain_bytes (making []) 0 2 ≡ for2
  none_above_2_depth_first : deep_bytes (making []) 0 2 ≡ for2
  emptied_for_2 : answered (plain (lent (emptied 2 session) 2)) ≡ 0 ∷ 0 ∷ 112 ∷ for2
  emptied_for_2_depth_first : answered (deep (lent (emptied 2 session) 2)) ≡ 0 ∷ 0 ∷ 112 ∷ for2

pub shown : Shown
unfolding computing answering latest depth_first_order
shown =
    record {
      five_shown = refl;
      five_counts = refl;
      five_reply = refl;
      five_fields = refl;
      again_shown = refl;
      again_reply = refl;
      used_shown = refl;
      used_fields = refl;
      used_counts = refl;
      passing_counts = refl;
      passing_shown = refl;
      sixteen_counts = refl;
      sixteen_shown = refl;
      sixteen_reply = refl;
      fifteen_counts = refl;
      fifteen_shown = refl;
      fifteen_reply = refl;
      shown_to_3 = refl;
      shown_to_3_depth_first = refl;
      shown_to_2 = refl;
      shown_to_2_depth_first = refl;
      shown_to_1 = refl;
      shown_to_0 = refl;
      session_shown = refl;
      withdrawn_above_1 = refl;
      withdrawn_above_2 = refl;
      withdrawn_above_2_depth_first = refl;
      none_above_2 = refl;
      none_above_2_depth_first = refl;
      emptied_for_2 = refl;
      emptied_for_2_depth_first = refl;
    }
