-- Objects made and withdrawn (document 02, job 7), computed over whole runs: what a READ sees of existence, whose methods a frame finds, and what
-- CREATE and WITHDRAW do where they do not work. Each program is run plainly, by the list of steps that has the order of the depth-first run, and
-- depth-first. Assumes nothing.
use Prim.Native.Nat.{ℕ}
use mathlib.Core.Path.{◌≡◌, refl}
use mathlib.Core.Bool.{cond}
use mathlib.Core.List.{List, [], ◌∷◌, map}
use lib.Dec.{ltb}
use lib.ListN.{length, get_or, replicate}
use Rattle.dominance.specs.Table.{dominates}
use Rattle.session.specs.Record.{byte_of}
use Rattle.session.specs.Meaning.{owner_of}
use Rattle.session.specs.Program.{Program}
use Rattle.session.specs.Value.{Value}
use Rattle.std.specs.Prelude.{None, Some}
use Rattle.session.specs.declared.Step.{Step}
use Rattle.session.specs.declared.Step.TheVariants.{End, Set, Jump, Read, Write, Send, Quit, Create, Withdraw}
use Rattle.scripts.specs.Ending.{number_of_ending}
use Rattle.model.specs.Schedule.{Outcome, finished, refused, run_of, plain_order}
use Rattle.model.specs.Rules.{latest, depth_first_order}
use Rattle.model.specs.DepthFirst.{depth_first}
use Rattle.model.specs.Result.{Result, result_of, result_of_depth_first, objects_shown, reply_of}
use Rattle.model.proofs.Computing.{computing, message}

-- a program by its masks and the levels of its objects, with these methods. Fields are NIL. A made object is of the level that owns its number
abbrev pub placed : List ℕ → List ℕ → List (List (List Step)) → Program
placed masks levels methods =
    record {
      levels = length masks;
      dom = dominates masks;
      objects = length levels;
      level = λ o. cond (ltb o (length levels)) (get_or levels o 0) (owner_of (length masks) o);
      field = λ o k. None;
      step = λ o name j. get_or (get_or (get_or methods o []) name []) j End;
    }

-- what is looked at in the result of a list of scheduler steps that finishes
abbrev pub left_by : {A : Type 0} → Program → (Result → List A) → Outcome → List A
left_by p look (finished st) = look (result_of p st)
left_by p look (refused number place) = []

-- of the message of name 0 to object 0: in the plain run, in the order of the depth-first run, and in the depth-first run
abbrev pub in_runs : {A : Type 0} → Program → (Result → List A) → List (List A)
in_runs p look =
    left_by p look (run_of p (message 0) (plain_order p (message 0)))
    ∷ left_by p look (run_of p (message 0) (depth_first_order p (message 0)))
    ∷ look (result_of_depth_first p (depth_first p (message 0)))
    ∷ []

-- the numbers of the objects that a clearance is shown
abbrev pub shown_to : ℕ → Program → Result → List ℕ
shown_to c p r = map (λ rec. byte_of rec 1) (objects_shown p r c)

-- the fields of an object
abbrev pub fields_of : ℕ → Result → List Value
fields_of o r = r.field o 0 ∷ r.field o 1 ∷ r.field o 2 ∷ []

-- of each manager of a level: ending, writes, fork stamp, write stamps at its start and its end, script steps
abbrev pub managers_at : ℕ → Result → List (List ℕ)
managers_at l r =
    map (λ h. number_of_ending h.ending ∷ h.writes ∷ h.stamp ∷ h.first ∷ h.last ∷ h.steps ∷ []) (r.ended l)

-- their script steps alone
abbrev pub steps_at : ℕ → Result → List ℕ
steps_at l r = map (λ h. h.steps) (r.ended l)

-- the reply to the root message, sent at level 0
abbrev pub replied : Result → List Value
replied r = reply_of (r.ended 0) ∷ []

-- Level 1 over 0. Object 0, at 0, makes 32; makes 33, has it withdrawn and withdraws itself; has 32 withdrawn. Before, between and after these it
-- forks a message to each of objects 1 to 4, at level 1. Each of them makes three steps of its own: it sends to 0, where name 1 has two steps, to
-- 32, where name 3 has four, or three if it reads NIL, and to 33, where name 4 has eight
abbrev asking : List (List Step)
asking = (Send 1 1 0 ∷ Send 1 3 32 ∷ Send 1 4 33 ∷ []) ∷ []

abbrev versions : Program
versions =
    placed
    (0x01 ∷ 0x03 ∷ [])
    (0 ∷ 1 ∷ 1 ∷ 1 ∷ 1 ∷ [])
    (((Set 2 8
    ∷ Send 3 0 1
    ∷ Create 1
    ∷ Send 3 0 2
    ∷ Create 1
    ∷ Send 3 2 33
    ∷ Withdraw
    ∷ Send 3 0 3
    ∷ Send 3 2 32
    ∷ Send 3 0 4
    ∷ [])
    ∷ (Set 0 9 ∷ Quit 0 ∷ [])
    ∷ (Withdraw ∷ [])
    ∷ (Read 0 1 ∷ Jump 0 3 ∷ Set 1 1 ∷ Quit 0 ∷ [])
    ∷ replicate 8 (Set 0 9)
    ∷ [])
    ∷ asking
    ∷ asking
    ∷ asking
    ∷ asking
    ∷ [])

-- Levels in a chain. Object 1, at 1, makes 36 by name 0, and by name 1 makes 37 and has 36 withdrawn. The root forks the first, a message to
-- object 2, the second, and one to object 3. Objects 2 and 3, at level 2, send to 36, where name 3 has two steps, and to 37, where name 4 has
-- three
abbrev asking_below : List (List Step)
asking_below = (Send 1 3 36 ∷ Send 1 4 37 ∷ []) ∷ []

abbrev between : Program
between =
    placed
    (0x01 ∷ 0x03 ∷ 0x07 ∷ [])
    (0 ∷ 1 ∷ 2 ∷ 2 ∷ [])
    (((Send 3 0 1 ∷ Send 3 0 2 ∷ Send 3 1 1 ∷ Send 3 0 3 ∷ []) ∷ [])
    ∷ ((Create 1 ∷ []) ∷ (Create 1 ∷ Send 3 2 36 ∷ []) ∷ (Withdraw ∷ []) ∷ replicate 2 (Set 0 9) ∷ replicate 3 (Set 0 9) ∷ [])
    ∷ asking_below
    ∷ asking_below
    ∷ [])

-- Level 1 over 0. The root forks a message to 36, one to object 1, which makes it, and another one to 36, whose name 1 writes a field
abbrev later : Program
later =
    placed
    (0x01 ∷ 0x03 ∷ [])
    (0 ∷ 1 ∷ [])
    (((Send 3 1 36 ∷ Send 3 0 1 ∷ Send 3 1 36 ∷ []) ∷ []) ∷ ((Create 1 ∷ []) ∷ (Set 0 7 ∷ Write 0 2 ∷ []) ∷ []) ∷ [])

-- Levels 3 over 1 and 2, these over 0. The root forks a message to object 2, one to object 1, which makes 36, and another one to object 2. Object
-- 2 sends to object 0, which sends to 36: from a manager at 2 that is forked at 3
abbrev beside : Program
beside =
    placed
    (0x01 ∷ 0x03 ∷ 0x05 ∷ 0x0F ∷ [])
    (0 ∷ 1 ∷ 2 ∷ [])
    (((Send 3 0 2 ∷ Send 3 0 1 ∷ Send 3 0 2 ∷ []) ∷ (Send 3 1 36 ∷ []) ∷ [])
    ∷ ((Create 1 ∷ []) ∷ (Set 0 7 ∷ Write 0 2 ∷ Quit 0 ∷ []) ∷ [])
    ∷ ((Send 3 1 0 ∷ []) ∷ [])
    ∷ [])

-- Level 1 over 0. The root sends to 39, which is never made, twice to object 1, which withdraws itself, and to 33 at its own level
abbrev absent : Program
absent =
    placed
    (0x01 ∷ 0x03 ∷ [])
    (0 ∷ 1 ∷ [])
    (((Send 1 0 39 ∷ Send 1 0 1 ∷ Send 1 0 1 ∷ Set 2 5 ∷ Send 2 0 33 ∷ Quit 2 ∷ []) ∷ []) ∷ ((Withdraw ∷ []) ∷ []) ∷ [])

-- One level. Object 1 makes 32, withdraws itself and sends to 32, which makes 33, withdraws itself and replies 33; name 2 replies 8
abbrev makers : Program
makers =
    placed
    (0x01 ∷ [])
    (0 ∷ 0 ∷ [])
    (((Send 1 0 1 ∷ Send 2 2 33 ∷ Quit 2 ∷ []) ∷ [])
    ∷ ((Create 1 ∷ Withdraw ∷ Send 1 1 32 ∷ Quit 1 ∷ [])
    ∷ (Set 3 6 ∷ Create 1 ∷ Withdraw ∷ Quit 1 ∷ [])
    ∷ (Set 0 8 ∷ Quit 0 ∷ [])
    ∷ [])
    ∷ [])

-- Level 1 over 0. Object 0 makes 32 and forks a message to object 1, which sends to 0 and to 32: name 1 has CREATE and WITHDRAW
abbrev below : Program
below =
    placed
    (0x01 ∷ 0x03 ∷ [])
    (0 ∷ 1 ∷ [])
    (((Create 1 ∷ Send 3 0 1 ∷ []) ∷ (Set 1 5 ∷ Create 1 ∷ Withdraw ∷ Quit 1 ∷ []) ∷ [])
    ∷ ((Set 1 7 ∷ Write 1 0 ∷ Write 1 1 ∷ Send 1 1 0 ∷ Write 1 0 ∷ Send 1 1 32 ∷ Write 1 1 ∷ []) ∷ [])
    ∷ [])

-- Level 1 over 0. The root forks a message to object 1, which makes 36 and sends to object 0 below it. This one sends to 36, whose name 2 writes a
-- field, makes an object and replies 6, and to 39, which is not there
abbrev discarded : Program
discarded =
    placed
    (0x01 ∷ 0x03 ∷ [])
    (0 ∷ 1 ∷ [])
    (((Send 3 0 1 ∷ []) ∷ (Set 2 5 ∷ Send 2 2 36 ∷ Send 3 2 39 ∷ Quit 2 ∷ []) ∷ [])
    ∷ ((Create 1 ∷ Send 3 1 0 ∷ Write 3 0 ∷ []) ∷ [] ∷ (Set 1 6 ∷ Write 1 1 ∷ Create 2 ∷ Quit 1 ∷ []) ∷ [])
    ∷ [])

-- One level. Object 0 writes 7 to its fields and sends to object 1. This one writes 5 to its field and sends to itself, where name 1 withdraws it.
-- Then it reads the field and sends what it gets to object 0, whose name 1 writes that to field 1 and replies 4; writes, and withdraws again; has a
-- CREATE and sends what it gives to object 0, whose name 2 writes that to field 2; and replies the 4, which object 0 writes to field 0
abbrev own_withdrawn : Program
own_withdrawn =
    placed
    (0x01 ∷ [])
    (0 ∷ 0 ∷ [])
    (((Set 1 7 ∷ Write 1 0 ∷ Write 1 1 ∷ Write 1 2 ∷ Send 1 0 1 ∷ Write 1 0 ∷ Quit 1 ∷ [])
    ∷ (Write 0 1 ∷ Set 0 4 ∷ Quit 0 ∷ [])
    ∷ (Write 0 2 ∷ [])
    ∷ [])
    ∷ ((Set 1 5
    ∷ Write 1 0
    ∷ Send 3 1 1
    ∷ Read 1 0
    ∷ Send 1 1 0
    ∷ Write 1 1
    ∷ Withdraw
    ∷ Set 2 6
    ∷ Create 2
    ∷ Send 2 2 0
    ∷ Quit 1
    ∷ [])
    ∷ (Withdraw ∷ [])
    ∷ [])
    ∷ [])

pub record Existences : Type 0 where
  -- "Existence is versioned like a field": an object made after the reader's stamp is not seen from above, one withdrawn after it still
  -- is, and of one made and withdrawn under one stamp the later counts
  versioned : in_runs versions (steps_at 1) ≡ replicate 3 (5 ∷ 9 ∷ 7 ∷ 3 ∷ [])
  -- the same by the end stamp of the largest smaller fork stamp, at a level where no ancestor is
  between_seen : in_runs between (steps_at 2) ≡ replicate 3 (4 ∷ 5 ∷ [])
  between_makers : in_runs between (managers_at 1) ≡ replicate 3 ((0 ∷ 4 ∷ 0x10000000 ∷ 1 ∷ 1 ∷ 1 ∷ []) ∷ (0 ∷ 5 ∷ 0x30000000 ∷ 2 ∷ 2 ∷ 3 ∷ []) ∷ [])
  -- "as a READ would see it when the frame is made": a fork to an object that a later fork makes finds an empty method, one after that its maker's
  later_found : in_runs later (managers_at 1) ≡ replicate 3 ((0 ∷ 0 ∷ 0x10000000 ∷ 1 ∷ 1 ∷ 0 ∷ []) ∷ (0 ∷ 4 ∷ 0x20000000 ∷ 2 ∷ 2 ∷ 1 ∷ []) ∷ (0 ∷ 1 ∷ 0x30000000 ∷ 3 ∷ 3 ∷ 2 ∷ []) ∷ [])
  later_written : in_runs later (fields_of 36) ≡ replicate 3 (None ∷ None ∷ Some 7 ∷ [])
  beside_found : in_runs beside (managers_at 3) ≡ replicate 3 ((0 ∷ 0 ∷ 0x11000000 ∷ 1 ∷ 1 ∷ 0 ∷ []) ∷ (0 ∷ 0 ∷ 0x31000000 ∷ 2 ∷ 2 ∷ 3 ∷ []) ∷ [])
  -- "A message to an object that isn't there .. finds an empty method; the filter goes by the number's level": it is forked, uses a stamp, and its
  -- manager makes no step. At the sender's level it replies NIL
  absent_forked : in_runs absent (managers_at 1) ≡ replicate 3 ((0 ∷ 0 ∷ 0x10000000 ∷ 1 ∷ 1 ∷ 0 ∷ []) ∷ (0 ∷ 1 ∷ 0x20000000 ∷ 2 ∷ 2 ∷ 1 ∷ []) ∷ (0 ∷ 0 ∷ 0x30000000 ∷ 3 ∷ 3 ∷ 0 ∷ []) ∷ [])
  absent_sender : in_runs absent (managers_at 0) ≡ replicate 3 ((0 ∷ 0 ∷ 0 ∷ 1 ∷ 4 ∷ 6 ∷ []) ∷ [])
  absent_reply : in_runs absent replied ≡ replicate 3 (None ∷ [])
  -- "the methods of the frame's own object": those of the first maker, also when the makers are withdrawn
  makers_reply : in_runs makers replied ≡ replicate 3 (Some 8 ∷ [])
  makers_shown : in_runs makers (shown_to 0 makers) ≡ replicate 3 (0 ∷ 33 ∷ [])
  makers_fields : in_runs makers (fields_of 33) ≡ replicate 3 (None ∷ None ∷ Some 6 ∷ [])
  makers_root : in_runs makers (managers_at 0) ≡ replicate 3 ((0 ∷ 10 ∷ 0 ∷ 1 ∷ 1 ∷ 13 ∷ []) ∷ [])
  -- "Both work only if that object's level is the manager's; otherwise CREATE gives NIL and WITHDRAW does nothing"
  below_reply : in_runs below (fields_of 1) ≡ replicate 3 (None ∷ None ∷ None ∷ [])
  below_shown : in_runs below (shown_to 1 below) ≡ replicate 3 (0 ∷ 1 ∷ 32 ∷ [])
  below_counts : in_runs below (managers_at 1) ≡ replicate 3 ((0 ∷ 4 ∷ 0x10000000 ∷ 1 ∷ 1 ∷ 15 ∷ []) ∷ [])
  -- in a frame of the manager's level above such a frame both work: a message to 36 runs there, with the methods of its maker, and its reply is
  -- thrown away
  discarded_made : in_runs discarded (fields_of 36) ≡ replicate 3 (None ∷ Some 6 ∷ None ∷ [])
  discarded_shown : in_runs discarded (shown_to 1 discarded) ≡ replicate 3 (0 ∷ 1 ∷ 36 ∷ 37 ∷ [])
  discarded_counts : in_runs discarded (managers_at 1) ≡ replicate 3 ((0 ∷ 10 ∷ 0x10000000 ∷ 1 ∷ 1 ∷ 11 ∷ []) ∷ [])
  -- "In a frame whose reads see its object withdrawn, READ gives NIL, WRITE and a second WITHDRAW do nothing. CREATE there gives NIL": none counts,
  -- and SEND and QUIT work on
  withdrawn_replies : in_runs own_withdrawn (fields_of 0) ≡ replicate 3 (Some 4 ∷ None ∷ None ∷ [])
  withdrawn_shown : in_runs own_withdrawn (shown_to 0 own_withdrawn) ≡ replicate 3 (0 ∷ [])
  withdrawn_counts : in_runs own_withdrawn (managers_at 0) ≡ replicate 3 ((0 ∷ 8 ∷ 0 ∷ 1 ∷ 1 ∷ 23 ∷ []) ∷ [])

pub existences : Existences
unfolding computing latest depth_first_order
existences =
    record {
      versioned = refl;
      between_seen = refl;
      between_makers = refl;
      later_found = refl;
      later_written = refl;
      beside_found = refl;
      absent_forked = refl;
      absent_sender = refl;
      absent_reply = refl;
      makers_reply = refl;
      makers_shown = refl;
      makers_fields = refl;
      makers_root = refl;
      below_reply = refl;
      below_shown = refl;
      below_counts = refl;
      discarded_made = refl;
      discarded_shown = refl;
      discarded_counts = refl;
      withdrawn_replies = refl;
      withdrawn_shown = refl;
      withdrawn_counts = refl;
    }
