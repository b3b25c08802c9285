-- The layouts of result records, computed: numbers whose four bytes differ, each ending, write stamps and step counts above 255; and how much
-- is lent to a run. Assumes nothing.
use Prim.Native.Nat.{ℕ, suc}
use mathlib.Core.Path.{◌≡◌, refl}
use mathlib.Core.List.{List, [], ◌∷◌, ◌++◌, map}
use lib.ListN.{get_or, replicate}
use Rattle.dominance.specs.Table.{dominates}
use Rattle.lists.specs.Lists.{tab}
use Rattle.session.specs.Record.{Record}
use Rattle.session.specs.Program.{Program}
use Rattle.session.specs.Value.{Value}
use Rattle.std.specs.Prelude.{None, Some}
use Rattle.session.specs.declared.Step.{Step}
use Rattle.session.specs.declared.Step.TheVariants.{End, Set, Jump, Write, Send, Quit}
use Rattle.scripts.specs.declared.Ending.{Ending}
use Rattle.scripts.specs.declared.Ending.TheVariants.{Finished, OutOfSteps, OutOfWrites}
use Rattle.model.specs.Limits.{work_numbers, result_bytes, page_bytes}
use Rattle.model.specs.History.{History}
use Rattle.lists.specs.Changed.{last_or}
use Rattle.model.specs.Step.{level_at}
use Rattle.model.specs.Schedule.{Outcome, finished, refused, run_of, plain_order}
use Rattle.model.specs.DepthFirst.{tally_at, depth_first}
use Rattle.model.specs.Result.{object_record, history_record, reply_record}
use Rattle.model.proofs.Computing.{computing, each_level, message, plain_bytes, deep_bytes}

-- fields by a list
abbrev fields : List Value → ℕ → Value
fields vs k = get_or vs k None

-- one level and one object, its first field 7, with this script
abbrev alone : List Step → Program
alone script =
    record {
      levels = 1;
      dom = dominates (0x01 ∷ []);
      objects = 1;
      level = λ o. 0;
      field = λ o k. get_or (Some 7 ∷ []) k None;
      step = λ o name j. get_or script j End;
    }

-- a loop: the third step jumps to itself, so the 256th leaves a frame. Its register holds a number, which is no reply
abbrev looping : Program
looping = alone (Set 0 0x01020304 ∷ Write 0 2 ∷ Jump 1 2 ∷ Quit 0 ∷ [])

-- writes without end: the seventeenth is the 34th step
abbrev writing : Program
writing = alone (Set 0 0x01020304 ∷ Write 0 2 ∷ Jump 1 1 ∷ Quit 0 ∷ [])

-- the seventeenth write is the 256th step. A program, unlike a session, may have a script of any length
abbrev both : Program
both = alone (replicate 16 (Write 0 0) ++ replicate 239 (Set 0 1) ++ replicate 3 (Write 0 0))

-- an object, a history and a reply of NIL
abbrev looping_bytes : List ℕ
looping_bytes =
    (5 ∷ 0 ∷ 0 ∷ 5 ∷ 7 ∷ 0 ∷ 0 ∷ 0 ∷ 0 ∷ 0 ∷ 0 ∷ 0 ∷ 0x04 ∷ 0x03 ∷ 0x02 ∷ 0x01 ∷ [])
    ++ (6 ∷ 0 ∷ 1 ∷ 1 ∷ 0 ∷ 0 ∷ 0 ∷ 0 ∷ 1 ∷ 0 ∷ 1 ∷ 0 ∷ 0x00 ∷ 0x01 ∷ 0 ∷ 0 ∷ [])
    ++ (7 ∷ replicate 15 0)

abbrev writing_bytes : List ℕ
writing_bytes =
    (5 ∷ 0 ∷ 0 ∷ 5 ∷ 7 ∷ 0 ∷ 0 ∷ 0 ∷ 0 ∷ 0 ∷ 0 ∷ 0 ∷ 0x04 ∷ 0x03 ∷ 0x02 ∷ 0x01 ∷ [])
    ++ (6 ∷ 0 ∷ 2 ∷ 16 ∷ 0 ∷ 0 ∷ 0 ∷ 0 ∷ 1 ∷ 0 ∷ 1 ∷ 0 ∷ 34 ∷ 0 ∷ 0 ∷ 0 ∷ [])
    ++ (7 ∷ replicate 15 0)

-- the object's first field is NIL, as the sixteen writes left it
abbrev both_bytes : List ℕ
both_bytes =
    (5 ∷ replicate 15 0)
    ++ (6 ∷ 0 ∷ 2 ∷ 16 ∷ 0 ∷ 0 ∷ 0 ∷ 0 ∷ 1 ∷ 0 ∷ 1 ∷ 0 ∷ 0x00 ∷ 0x01 ∷ 0 ∷ 0 ∷ [])
    ++ (7 ∷ replicate 15 0)

-- Eight levels in a chain, an object at each. The object at level i sends i messages upward that find an empty method, then one that goes on:
-- at level 7 the fork stamp has the digits 1 to 7
abbrev tower : Program
tower =
    each_level (0x01 ∷ 0x03 ∷ 0x07 ∷ 0x0F ∷ 0x1F ∷ 0x3F ∷ 0x7F ∷ 0xFF ∷ []) (tab 7 (λ o. (replicate o (Send 1 1 (suc o)) ++ Send 1 0 (suc o) ∷ []) ∷ []))

-- the seventh manager there: no script step, write stamps 7 and 7
abbrev tower_top : Record
tower_top = 6 ∷ 7 ∷ 0 ∷ 0 ∷ 0x70 ∷ 0x56 ∷ 0x34 ∷ 0x12 ∷ 7 ∷ 0 ∷ 7 ∷ 0 ∷ 0 ∷ 0 ∷ 0 ∷ 0 ∷ []

-- Levels in a chain. There are 17 managers at level 2, 15 of them forked at level 1, and each forks 15 times: its write stamp grows by 16
-- with each
abbrev grower : Program
grower =
    each_level
    (0x01 ∷ 0x03 ∷ 0x07 ∷ 0x0F ∷ [])
    (((Send 1 0 1 ∷ Send 1 0 2 ∷ Send 1 0 2 ∷ []) ∷ [])
    ∷ (replicate 15 (Send 1 0 2) ∷ [])
    ∷ (replicate 15 (Send 1 0 3) ∷ [])
    ∷ [])

-- the root's third child, the last at level 2: write stamps 257 and 272
abbrev grown_last : Record
grown_last = 6 ∷ 2 ∷ 0 ∷ 0 ∷ 0 ∷ 0 ∷ 0 ∷ 0x30 ∷ 0x01 ∷ 0x01 ∷ 0x10 ∷ 0x01 ∷ 15 ∷ 0 ∷ 0 ∷ 0 ∷ []

-- the last history of a level after a list of scheduler steps
abbrev last_after : ℕ → Outcome → Record
last_after l (finished st) = last_or [] (map (history_record l) (level_at st l).ended)
last_after l (refused number place) = []

abbrev last_deep : ℕ → Program → Record
last_deep l p = last_or [] (map (history_record l) (tally_at (depth_first p (message 0)) l).ended)

-- a history
abbrev ended : Ending → History
ended e =
    record { ending = e; writes = 16; stamp = 0x12345678; first = 0x0102; last = 0x0304; steps = 0x0100; reply = None }

pub record Layouts : Type 0 where
  -- questions 10, 11 and 16: "at least 8,192 numbers", "question 11 wants 5,136 bytes", "Question 16 now wants 7,420 bytes"
  work_lent : work_numbers ≡ 8192
  result_lent : result_bytes ≡ 5136
  page_lent : page_bytes ≡ 7420
  -- "byte 1 number, byte 2 level, byte 3 mask of fields holding a number (bit k for field k), bytes 4 to 15 three 32-bit fields"
  object_whole : object_record 31 6 (fields (Some 0x01020304 ∷ Some 0x05060708 ∷ Some 0xFFFEFDFC ∷ [])) ≡ 5 ∷ 31 ∷ 6 ∷ 7 ∷ 0x04 ∷ 0x03 ∷ 0x02 ∷ 0x01 ∷ 0x08 ∷ 0x07 ∷ 0x06 ∷ 0x05 ∷ 0xFC ∷ 0xFD ∷ 0xFE ∷ 0xFF ∷ []
  object_second : object_record 2 1 (fields (None ∷ Some 0x00010000 ∷ [])) ≡ 5 ∷ 2 ∷ 1 ∷ 2 ∷ 0 ∷ 0 ∷ 0 ∷ 0 ∷ 0 ∷ 0 ∷ 1 ∷ 0 ∷ 0 ∷ 0 ∷ 0 ∷ 0 ∷ []
  object_third : object_record 2 1 (fields (None ∷ None ∷ Some 0x0100 ∷ [])) ≡ 5 ∷ 2 ∷ 1 ∷ 4 ∷ 0 ∷ 0 ∷ 0 ∷ 0 ∷ 0 ∷ 0 ∷ 0 ∷ 0 ∷ 0 ∷ 1 ∷ 0 ∷ 0 ∷ []
  object_zero : object_record 2 1 (fields (Some 0 ∷ [])) ≡ 5 ∷ 2 ∷ 1 ∷ 1 ∷ replicate 12 0
  -- "byte 1 level, 2 ending, 3 writes, 4 to 7 fork stamp, 8 and 9 first write stamp .., 10 and 11 last .., 12 and 13 script steps"
  history_0 : history_record 5 (ended Finished) ≡ 6 ∷ 5 ∷ 0 ∷ 16 ∷ 0x78 ∷ 0x56 ∷ 0x34 ∷ 0x12 ∷ 0x02 ∷ 0x01 ∷ 0x04 ∷ 0x03 ∷ 0x00 ∷ 0x01 ∷ 0 ∷ 0 ∷ []
  history_1 : history_record 5 (ended OutOfSteps) ≡ 6 ∷ 5 ∷ 1 ∷ 16 ∷ 0x78 ∷ 0x56 ∷ 0x34 ∷ 0x12 ∷ 0x02 ∷ 0x01 ∷ 0x04 ∷ 0x03 ∷ 0x00 ∷ 0x01 ∷ 0 ∷ 0 ∷ []
  history_2 : history_record 5 (ended OutOfWrites) ≡ 6 ∷ 5 ∷ 2 ∷ 16 ∷ 0x78 ∷ 0x56 ∷ 0x34 ∷ 0x12 ∷ 0x02 ∷ 0x01 ∷ 0x04 ∷ 0x03 ∷ 0x00 ∷ 0x01 ∷ 0 ∷ 0 ∷ []
  -- "byte 1 that level, byte 3 tag, 4 to 7 reply"
  reply_number : reply_record 3 (Some 0x01020304) ≡ 7 ∷ 3 ∷ 0 ∷ 1 ∷ 0x04 ∷ 0x03 ∷ 0x02 ∷ 0x01 ∷ replicate 8 0
  reply_nil : reply_record 3 None ≡ 7 ∷ 3 ∷ replicate 14 0
  -- "1 the 256th step left frames", and the reply is NIL
  loops : plain_bytes looping 0 0 ≡ looping_bytes
  loops_depth_first : deep_bytes looping 0 0 ≡ looping_bytes
  -- "2 a seventeenth write, counted as a step and not made", and the reply is NIL
  writes : plain_bytes writing 0 0 ≡ writing_bytes
  writes_depth_first : deep_bytes writing 0 0 ≡ writing_bytes
  -- "2 wins over 1"
  both_end : plain_bytes both 0 0 ≡ both_bytes
  both_end_depth_first : deep_bytes both 0 0 ≡ both_bytes
  -- fork stamps, and write stamps above 255
  tower_top_lem : last_after 7 (run_of tower (message 0) (plain_order tower (message 0))) ≡ tower_top
  tower_top_depth_first : last_deep 7 tower ≡ tower_top
  grows : last_after 2 (run_of grower (message 0) (replicate 4 0 ++ replicate 16 1 ++ replicate 272 2 ++ replicate 32 3)) ≡ grown_last
  grows_depth_first : last_deep 2 grower ≡ grown_last

pub layouts : Layouts
unfolding computing
layouts =
    record {
      work_lent = refl;
      result_lent = refl;
      page_lent = refl;
      object_whole = refl;
      object_second = refl;
      object_third = refl;
      object_zero = refl;
      history_0 = refl;
      history_1 = refl;
      history_2 = refl;
      reply_number = refl;
      reply_nil = refl;
      loops = refl;
      loops_depth_first = refl;
      writes = refl;
      writes_depth_first = refl;
      both_end = refl;
      both_end_depth_first = refl;
      tower_top_lem = refl;
      tower_top_depth_first = refl;
      grows = refl;
      grows_depth_first = refl;
    }
