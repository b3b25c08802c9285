-- Managers over small programs, computed by the definitions. Assumes nothing.
use Prim.Native.Nat.{ℕ, zero, suc, ◌+◌, ◌*◌}
use mathlib.Core.Path.{◌≡◌, refl}
use mathlib.Core.Bool.{true, cond, ◌&&◌, false}
use mathlib.Core.List.{List, [], ◌∷◌, ◌++◌}
use lib.Dec.{eqb}
use lib.ListN.{length, get_or, replicate}
use Rattle.lists.specs.Range.{all, first}
use Rattle.dominance.specs.Join.{is_least, join}
use Rattle.dominance.specs.Table.{dominates}
use Rattle.session.specs.Program.{Program}
use Rattle.session.specs.Value.{Value}
use Rattle.std.specs.Prelude.{None, Some}
use Rattle.session.specs.declared.Step.{Step}
use Rattle.session.specs.declared.Step.TheVariants.{End, Set, Add, Jump, Read, Write, Send, Quit}
use Rattle.fates.specs.Filter.{fate_of}
use Rattle.scripts.specs.Existence.{existence, own_script, initially}
use Rattle.scripts.specs.Value.{sum, is_nil_or0}
use Rattle.scripts.specs.Frame.{with_register}
use Rattle.scripts.specs.Ending.{number_of_ending, is_running}
use Rattle.scripts.specs.Manager.{top, popped, settled, concluded, started, charged, written, called, forked, sent, operated, stepped}
use Rattle.scripts.specs.State.{Manager}
use Rattle.scripts.specs.Effect.{Effect}
use Rattle.scripts.specs.Effect as effect

-- The diamond, 3 over 1 and 2, these over 0. Objects at levels by the list, or at 0. Each object's method 0 has the given steps, and its
-- others none
abbrev pub program_with : List ℕ → List (List Step) → Program
program_with levels methods =
    record {
      levels = 4;
      dom = dominates (0x01 ∷ 0x03 ∷ 0x05 ∷ 0x0F ∷ []);
      objects = 3;
      level = λ o. get_or levels o 0;
      field = λ o k. None;
      step = λ o name j. cond (eqb name 0) (get_or (get_or methods o []) j End) End;
    }

-- what a READ sees: another number for each field of each object. Each object is there, with its own methods
abbrev shown : ℕ → ℕ → Value
shown o k = cond (eqb k existence) (Some (own_script o)) (Some (3 * o + k + 5))

-- the same, but of existence: object 1 has this one's script
abbrev seen_with : Value → ℕ → ℕ → Value
seen_with v o k = cond (eqb o 1 && eqb k existence) v (shown o k)

-- the manager of a message to object 0, at a level, after k script steps
unfoldable pub manager : Program → ℕ → ℕ → Manager
manager p level zero = started p shown level 1 (record { object = 0; name = 0; parameter = Some 4 })
manager p level (suc k) = (stepped p shown (manager p level k)).manager

-- what the script step after them does outside
abbrev effect_after : Program → ℕ → ℕ → Effect
effect_after p level k = (stepped p shown (manager p level k)).effect

-- one value is written
abbrev write1 : ℕ → ℕ → Value → Effect
write1 o k v = effect.Write (record { object = o; field = k; value = v } ∷ [])

-- one object at level 0
abbrev alone : List Step → ℕ → Manager
alone method = manager (program_with [] (method ∷ [])) 0

-- how a manager stands: frames, script steps, writes, ending
abbrev pub standing : Manager → List ℕ
standing m = length m.frames ∷ m.steps ∷ m.writes ∷ number_of_ending m.ending ∷ []

-- its forks, its write stamp at its start, and now
abbrev stamps : Manager → List ℕ
stamps m = m.forks ∷ m.first ∷ m.stamp ∷ []

-- the registers of its top
abbrev pub registers : Manager → List Value
registers m = (top m).r0 ∷ (top m).r1 ∷ (top m).r2 ∷ (top m).r3 ∷ []

-- three steps, after which the registers of a frame hold its parameter, 5, 6, 7
abbrev pub filling : List Step
filling = Set 1 5 ∷ Set 2 6 ∷ Set 3 7 ∷ []

-- counts register 1 up until it is NIL, and replies it
abbrev counting : List Step
counting = Set 1 0xFFFFFFFE ∷ Set 2 1 ∷ Jump 1 5 ∷ Add 1 2 ∷ Jump 3 2 ∷ Quit 1 ∷ []

-- object 0 fills its registers, sends to object 1, with register 2 and for a reply to it, and replies register 2. Object 1's method is given
abbrev asking : ℕ → ℕ → ℕ → List Step → Program
asking sender receiver name method =
    program_with (sender ∷ receiver ∷ []) ((filling ++ Send 2 name 1 ∷ Quit 2 ∷ []) ∷ method ∷ [])

-- a method that replies 8, and one that leaves 8 in register 0 and replies NIL at its end
abbrev eight : List Step
eight = Set 0 8 ∷ Quit 0 ∷ []

abbrev silent : List Step
silent = Set 0 8 ∷ []

-- the manager of a message to object 1, which is seen with an existence, as it starts; object 1 has a method 0 and object 2 another
abbrev found : Value → Manager
found v =
    started (program_with [] ([] ∷ eight ∷ (Set 0 7 ∷ Set 0 6 ∷ Quit 0 ∷ []) ∷ [])) (seen_with v) 0 1 (record { object = 1; name = 0; parameter = Some 4 })

-- object 0 sends to object 1, which is seen with an existence, and sets a register; after that
unfoldable sent_to : Value → ℕ → Manager
sent_to v zero =
    started (program_with [] ((Send 0 0 1 ∷ Set 1 1 ∷ []) ∷ eight ∷ (Set 0 7 ∷ Set 0 6 ∷ Quit 0 ∷ []) ∷ [])) (seen_with v) 0 1 (record { object = 0; name = 0; parameter = Some 4 })
sent_to v (suc k) =
    (stepped (program_with [] ((Send 0 0 1 ∷ Set 1 1 ∷ []) ∷ eight ∷ (Set 0 7 ∷ Set 0 6 ∷ Quit 0 ∷ []) ∷ [])) (seen_with v) (sent_to v k)).manager

-- sends to itself, then sets a register
abbrev deeper : List Step
deeper = Send 0 0 0 ∷ Set 1 1 ∷ []

-- fills its registers and sends to itself with one of them
abbrev full_deeper : List Step
full_deeper = filling ++ Send 2 0 0 ∷ Quit 2 ∷ []

-- sixteen writes, then steps up to the 255th, then a write
abbrev late_write : List Step
late_write = replicate 16 (Write 0 0) ++ replicate 239 (Set 1 0) ++ Write 0 0 ∷ []

-- object 0 sends to object 1, whose QUIT with 8 is the 256th step
abbrev late_reply : Program
late_reply = program_with [] ((replicate 253 (Set 1 0) ++ Send 0 0 1 ∷ Quit 0 ∷ []) ∷ eight ∷ [])

-- object 0 sends to object 1 and this one to object 2, each as its last step
abbrev chain : Program
chain = program_with [] ((Send 0 0 1 ∷ []) ∷ (Send 0 0 2 ∷ []) ∷ (Set 0 8 ∷ []) ∷ [])

-- object 0 fills its registers, sends fifteen times and once more to object 1, which lies above it
abbrev forking : Program
forking = program_with (0 ∷ 1 ∷ []) ((filling ++ replicate 15 (Send 0 0 1) ++ Send 2 0 1 ∷ Quit 2 ∷ []) ∷ [])

-- a manager at level 2 and write stamp 5, started for a message by a name to object 1, which has a method 0
abbrev started_by : ℕ → Manager
started_by name = started (program_with [] ([] ∷ eight ∷ [])) shown 2 5 (record { object = 1; name = name; parameter = Some 4 })

pub record Examples : Type 0 where
  -- a manager's start: its level and write stamps, and its first frame, for its message
  start_level : (started_by 0).level ≡ 2
  start_stamps : stamps (started_by 0) ≡ 0 ∷ 5 ∷ 5 ∷ []
  start_stands : standing (started_by 0) ≡ 1 ∷ 0 ∷ 0 ∷ 0 ∷ []
  start_registers : registers (started_by 0) ≡ Some 4 ∷ None ∷ None ∷ None ∷ []
  start_name : standing (started_by 1) ≡ 0 ∷ 0 ∷ 0 ∷ 0 ∷ []
  -- existence at first: the objects of the session are there with their own methods, others never were, and fields are the session's
  first_there : initially (program_with [] []) 2 existence ≡ Some 3
  first_absent : initially (program_with [] []) 3 existence ≡ None
  first_made : initially (program_with [] []) 32 existence ≡ None
  first_field : initially (program_with [] []) 2 2 ≡ None
  -- "A message to an object that isn't there .. finds an empty method": never made, or withdrawn. One that is there has its script's methods
  started_never : standing (found None) ≡ 0 ∷ 0 ∷ 0 ∷ 0 ∷ []
  started-withdrawn : standing (found (Some 0)) ≡ 0 ∷ 0 ∷ 0 ∷ 0 ∷ []
  started_own : standing (found (Some 2)) ≡ 1 ∷ 0 ∷ 0 ∷ 0 ∷ []
  started_made : standing (stepped (program_with [] ([] ∷ eight ∷ (Set 0 7 ∷ Set 0 6 ∷ Quit 0 ∷ []) ∷ [])) shown (found (Some 3))).manager ≡ 1 ∷ 1 ∷ 0 ∷ 0 ∷ []
  started_made_sets : registers (stepped (program_with [] ([] ∷ eight ∷ (Set 0 7 ∷ Set 0 6 ∷ Quit 0 ∷ []) ∷ [])) shown (found (Some 3))).manager ≡ Some 7 ∷ None ∷ None ∷ None ∷ []
  sent_never : registers (sent_to None 1) ≡ None ∷ None ∷ None ∷ None ∷ []
  sent-withdrawn : standing (sent_to (Some 0) 1) ≡ 1 ∷ 1 ∷ 0 ∷ 0 ∷ []
  sent_own : registers (sent_to (Some 2) 2) ≡ Some 8 ∷ None ∷ None ∷ None ∷ []
  sent_made : registers (sent_to (Some 3) 2) ≡ Some 7 ∷ None ∷ None ∷ None ∷ []
  sent_made_of : (top (sent_to (Some 3) 2)).object ≡ 1
  -- "SET a to n"
  set : (alone (Set 1 3 ∷ Quit 1 ∷ []) 2).reply ≡ Some 3
  fills : registers (alone (filling ++ Quit 0 ∷ []) 3) ≡ Some 4 ∷ Some 5 ∷ Some 6 ∷ Some 7 ∷ []
  -- "ADD b to a, .. NIL if either is NIL"; "ADD gives NIL when the sum passes 4,294,967,295; at that value it is still a number"
  add : sum (Some 0) (Some 0) ≡ Some 0
  add_bound : sum (Some 0xFFFFFFFE) (Some 1) ≡ Some 0xFFFFFFFF
  add_to_bound : sum (Some 0) (Some 0xFFFFFFFF) ≡ Some 0xFFFFFFFF
  add_past : sum (Some 0xFFFFFFFF) (Some 1) ≡ None
  add_twice : sum (Some 0x7FFFFFFF) (Some 0x7FFFFFFF) ≡ Some 0xFFFFFFFE
  add_twice_past : sum (Some 0x80000000) (Some 0x80000000) ≡ None
  add_most : sum (Some 0xFFFFFFFF) (Some 0xFFFFFFFF) ≡ None
  add_nil : sum (Some 0) None ≡ None
  add_to_nil : sum None (Some 0) ≡ None
  add_to : registers (alone (filling ++ Add 2 1 ∷ Quit 0 ∷ []) 4) ≡ Some 4 ∷ Some 5 ∷ Some 11 ∷ Some 7 ∷ []
  add_over : registers (alone (Set 1 0xFFFFFFFF ∷ Add 0 1 ∷ Quit 0 ∷ []) 2) ≡ None ∷ Some 0xFFFFFFFF ∷ None ∷ None ∷ []
  add_itself : registers (alone (Set 1 0x80000000 ∷ Add 1 1 ∷ Quit 0 ∷ []) 2) ≡ Some 4 ∷ None ∷ None ∷ None ∷ []
  counted_up : registers (alone counting 6) ≡ Some 4 ∷ Some 0xFFFFFFFF ∷ Some 1 ∷ None ∷ []
  counted_past : registers (alone counting 7) ≡ Some 4 ∷ None ∷ Some 1 ∷ None ∷ []
  counted_out : (alone counting 10).reply ≡ None
  counted_on : is_running (alone counting 9).ending ≡ true
  counted_end : is_running (alone counting 10).ending ≡ false
  nil_added : registers (alone (Add 0 1 ∷ Quit 0 ∷ []) 1) ≡ None ∷ None ∷ None ∷ None ∷ []
  added_to_nil : registers (alone (Add 1 0 ∷ Quit 0 ∷ []) 1) ≡ Some 4 ∷ None ∷ None ∷ None ∷ []
  -- "JUMP to step b, counted from 0, if a is NIL or 0"
  jump_nil : (alone (Jump 1 2 ∷ Quit 1 ∷ Quit 0 ∷ []) 2).reply ≡ Some 4
  jump_0 : (alone (Set 1 0 ∷ Jump 1 3 ∷ Quit 1 ∷ Quit 0 ∷ []) 3).reply ≡ Some 4
  jump_not : (alone (Jump 0 2 ∷ Quit 1 ∷ Quit 0 ∷ []) 2).reply ≡ None
  jump_not_1 : (alone (Set 1 1 ∷ Jump 1 3 ∷ Quit 1 ∷ Quit 0 ∷ []) 3).reply ≡ Some 1
  -- "READ field b into a", "WRITE a to field b", of "the frame's own object"
  read : (alone (Read 2 1 ∷ Quit 2 ∷ []) 2).reply ≡ Some 6
  read_own : registers (manager (asking 0 0 0 (Read 0 2 ∷ Quit 0 ∷ [])) 0 5) ≡ Some 10 ∷ None ∷ None ∷ None ∷ []
  write : effect_after (program_with [] ((Write 0 2 ∷ []) ∷ [])) 0 0 ≡ write1 0 2 (Some 4)
  write_own : effect_after (asking 0 0 0 (Write 0 2 ∷ [])) 0 4 ≡ write1 1 2 (Some 6)
  -- NIL is written, and counted
  write_nil : effect_after (program_with [] ((Write 1 2 ∷ Quit 0 ∷ []) ∷ [])) 0 0 ≡ write1 0 2 None
  nil_counted : standing (alone (Write 1 2 ∷ Quit 0 ∷ []) 1) ≡ 1 ∷ 1 ∷ 1 ∷ 0 ∷ []
  -- "WRITE takes effect only if the object's level is m; otherwise it does nothing"
  write_below : effect_after (program_with [] ((Write 0 2 ∷ Quit 0 ∷ []) ∷ [])) 1 0 ≡ effect.Nothing
  below_not_counted : standing (manager (program_with [] ((Write 0 2 ∷ Quit 0 ∷ []) ∷ [])) 1 1) ≡ 1 ∷ 1 ∷ 0 ∷ 0 ∷ []
  below_never_ends : standing (manager (program_with [] ((replicate 17 (Write 0 0) ++ Quit 0 ∷ []) ∷ [])) 1 17) ≡ 1 ∷ 17 ∷ 0 ∷ 0 ∷ []
  -- writes are counted for the limit, not script steps, and a write changes no stamp
  written_late : effect_after (program_with [] ((replicate 17 (Set 0 9) ++ Write 0 0 ∷ []) ∷ [])) 0 17 ≡ write1 0 0 (Some 9)
  write_stamps_lem : stamps (alone (Write 0 0 ∷ Quit 0 ∷ []) 1) ≡ 0 ∷ 1 ∷ 1 ∷ []
  -- "An empty first method ends in the start step", "replying NIL"
  empty : standing (alone [] 0) ≡ 0 ∷ 0 ∷ 0 ∷ 0 ∷ []
  empty_reply : (alone [] 0).reply ≡ None
  -- "register 0 starts as the parameter, the rest NIL"
  parameter : registers (manager (asking 0 0 0 eight) 0 4) ≡ Some 6 ∷ None ∷ None ∷ None ∷ []
  -- a reply returns to the register that was sent, from an equal level and from below
  returned : registers (manager (asking 0 0 0 eight) 0 6) ≡ Some 4 ∷ Some 5 ∷ Some 8 ∷ Some 7 ∷ []
  returned_up : registers (manager (asking 1 0 0 eight) 1 6) ≡ Some 4 ∷ Some 5 ∷ Some 8 ∷ Some 7 ∷ []
  replied : (manager (asking 0 0 0 eight) 0 7).reply ≡ Some 8
  -- a method's end replies NIL, and so does an empty method, inside the step that sends
  at_end : registers (manager (asking 0 0 0 silent) 0 5) ≡ Some 4 ∷ Some 5 ∷ None ∷ Some 7 ∷ []
  no_steps : registers (manager (asking 0 0 1 eight) 0 4) ≡ Some 4 ∷ Some 5 ∷ None ∷ Some 7 ∷ []
  no_steps_stand : standing (manager (asking 0 0 1 eight) 0 4) ≡ 1 ∷ 4 ∷ 0 ∷ 0 ∷ []
  -- "If u is m, the method runs as a frame and its reply is thrown away"
  runs_above : registers (manager (asking 0 1 0 eight) 1 4) ≡ Some 6 ∷ None ∷ None ∷ None ∷ []
  thrown_away : registers (manager (asking 0 1 0 eight) 1 6) ≡ Some 4 ∷ Some 5 ∷ None ∷ Some 7 ∷ []
  -- "Incomparable: reply NIL, nothing runs"
  blocked : registers (manager (asking 1 2 0 eight) 1 4) ≡ Some 4 ∷ Some 5 ∷ None ∷ Some 7 ∷ []
  blocked_stands : standing (manager (asking 1 2 0 eight) 1 4) ≡ 1 ∷ 4 ∷ 0 ∷ 0 ∷ []
  blocked_effect : effect_after (asking 1 2 0 eight) 1 3 ≡ effect.Nothing
  -- 8 frames and no ninth, whose reply is NIL
  eighth : standing (alone deeper 7) ≡ 8 ∷ 7 ∷ 0 ∷ 0 ∷ []
  no_ninth : standing (alone deeper 8) ≡ 8 ∷ 8 ∷ 0 ∷ 0 ∷ []
  deep_ends : standing (alone deeper 16) ≡ 0 ∷ 16 ∷ 0 ∷ 0 ∷ []
  full_eighth : registers (alone full_deeper 31) ≡ Some 6 ∷ Some 5 ∷ Some 6 ∷ Some 7 ∷ []
  ninth_nil : registers (alone full_deeper 32) ≡ Some 6 ∷ Some 5 ∷ None ∷ Some 7 ∷ []
  ninth_stands : standing (alone full_deeper 32) ≡ 8 ∷ 32 ∷ 0 ∷ 0 ∷ []
  -- a sender at its script's end waits under another frame, and pops in the step in which it becomes the top
  waits : standing (manager chain 0 2) ≡ 3 ∷ 2 ∷ 0 ∷ 0 ∷ []
  pops : standing (manager chain 0 3) ≡ 0 ∷ 3 ∷ 0 ∷ 0 ∷ []
  -- endings: "0 stack empty", at the 256th step too; "1 the 256th step left frames"; "2 a seventeenth write"; "2 wins over 1"
  goes_on : is_running (alone (Jump 1 0 ∷ []) 255).ending ≡ true
  finished_late : standing (alone (replicate 255 (Set 0 9) ++ Quit 0 ∷ []) 256) ≡ 0 ∷ 256 ∷ 0 ∷ 0 ∷ []
  out_of_steps : standing (alone (Jump 1 0 ∷ []) 256) ≡ 1 ∷ 256 ∷ 0 ∷ 1 ∷ []
  out_of_writes : standing (alone (replicate 17 (Write 0 0)) 17) ≡ 1 ∷ 17 ∷ 16 ∷ 2 ∷ []
  two_over_one : standing (alone late_write 256) ≡ 1 ∷ 256 ∷ 16 ∷ 2 ∷ []
  not_written : effect_after (program_with [] (late_write ∷ [])) 0 255 ≡ effect.Nothing
  -- "Replies of ended stacks with frames are NIL", though a frame was about to reply a number, or a frame above it did
  late_reply_lem : (alone (replicate 255 (Set 0 9) ++ Quit 0 ∷ []) 256).reply ≡ Some 9
  one_step_late : (alone (replicate 256 (Set 0 9) ++ Quit 0 ∷ []) 256).reply ≡ None
  reply_above : registers (manager late_reply 0 256) ≡ Some 8 ∷ Some 0 ∷ None ∷ None ∷ []
  reply_above_stands : standing (manager late_reply 0 256) ≡ 1 ∷ 256 ∷ 0 ∷ 1 ∷ []
  reply_above_nil : (manager late_reply 0 256).reply ≡ None
  out_of_writes_nil : (alone (replicate 17 (Write 0 0) ++ Quit 0 ∷ []) 17).reply ≡ None
  -- a fork replies NIL, and carries the register's number
  fork : effect_after (asking 0 1 0 eight) 0 3 ≡ effect.Fork 1 (record { object = 1; name = 0; parameter = Some 6 })
  fork_nil : registers (manager (asking 0 1 0 eight) 0 4) ≡ Some 4 ∷ Some 5 ∷ None ∷ Some 7 ∷ []
  fork_stands : standing (manager (asking 0 1 0 eight) 0 4) ≡ 1 ∷ 4 ∷ 0 ∷ 0 ∷ []
  -- at the bound of the manager's level and the receiver's
  fork_beside : effect_after (asking 0 2 1 []) 1 3 ≡ effect.Fork 3 (record { object = 1; name = 1; parameter = Some 6 })
  -- 15 forks and no sixteenth, which replies NIL and changes no stamp
  fifteen : stamps (manager forking 0 18) ≡ 15 ∷ 1 ∷ 16 ∷ []
  fifteenth_leaves : registers (manager forking 0 18) ≡ None ∷ Some 5 ∷ Some 6 ∷ Some 7 ∷ []
  no_sixteenth : effect_after forking 0 18 ≡ effect.Nothing
  sixteenth_stamps : stamps (manager forking 0 19) ≡ 15 ∷ 1 ∷ 16 ∷ []
  sixteenth_nil : registers (manager forking 0 19) ≡ None ∷ Some 5 ∷ None ∷ Some 7 ∷ []
  sixteenth_stands : standing (manager forking 0 19) ≡ 1 ∷ 19 ∷ 0 ∷ 0 ∷ []

pub examples : Examples
unfolding initially all first is_least join dominates fate_of sum is_nil_or0 with_register popped settled concluded started charged written called forked sent operated stepped manager sent_to
examples =
    record {
      start_level = refl;
      start_stamps = refl;
      start_stands = refl;
      start_registers = refl;
      start_name = refl;
      first_there = refl;
      first_absent = refl;
      first_made = refl;
      first_field = refl;
      started_never = refl;
      started-withdrawn = refl;
      started_own = refl;
      started_made = refl;
      started_made_sets = refl;
      sent_never = refl;
      sent-withdrawn = refl;
      sent_own = refl;
      sent_made = refl;
      sent_made_of = refl;
      set = refl;
      fills = refl;
      add = refl;
      add_bound = refl;
      add_to_bound = refl;
      add_past = refl;
      add_twice = refl;
      add_twice_past = refl;
      add_most = refl;
      add_nil = refl;
      add_to_nil = refl;
      add_to = refl;
      add_over = refl;
      add_itself = refl;
      counted_up = refl;
      counted_past = refl;
      counted_out = refl;
      counted_on = refl;
      counted_end = refl;
      nil_added = refl;
      added_to_nil = refl;
      jump_nil = refl;
      jump_0 = refl;
      jump_not = refl;
      jump_not_1 = refl;
      read = refl;
      read_own = refl;
      write = refl;
      write_own = refl;
      write_nil = refl;
      nil_counted = refl;
      write_below = refl;
      below_not_counted = refl;
      below_never_ends = refl;
      written_late = refl;
      write_stamps_lem = refl;
      empty = refl;
      empty_reply = refl;
      parameter = refl;
      returned = refl;
      returned_up = refl;
      replied = refl;
      at_end = refl;
      no_steps = refl;
      no_steps_stand = refl;
      runs_above = refl;
      thrown_away = refl;
      blocked = refl;
      blocked_stands = refl;
      blocked_effect = refl;
      eighth = refl;
      no_ninth = refl;
      deep_ends = refl;
      full_eighth = refl;
      ninth_nil = refl;
      ninth_stands = refl;
      waits = refl;
      pops = refl;
      goes_on = refl;
      finished_late = refl;
      out_of_steps = refl;
      out_of_writes = refl;
      two_over_one = refl;
      not_written = refl;
      late_reply_lem = refl;
      one_step_late = refl;
      reply_above = refl;
      reply_above_stands = refl;
      reply_above_nil = refl;
      out_of_writes_nil = refl;
      fork = refl;
      fork_nil = refl;
      fork_stands = refl;
      fork_beside = refl;
      fifteen = refl;
      fifteenth_leaves = refl;
      no_sixteenth = refl;
      sixteenth_stamps = refl;
      sixteenth_nil = refl;
      sixteenth_stands = refl;
    }
