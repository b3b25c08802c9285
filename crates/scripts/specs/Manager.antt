-- What a manager does: its start, and one script step. Assumes nothing.
-- One step function serves every run: `stepped` is handed what a READ sees, and hands back the manager and its effect. The runs differ only
-- in where a READ's value comes from and in where effects go.
-- Laws: what a step counts (`proofs/Laws/Counts`), how a manager stands after it (`Endings`), what its effect concerns (`Effects`), the
-- pops of a step one at a time (`Settle`). A step depends on the values that it reads, not on how they are found (`Reads`). Each frame is
-- of an object that the manager's level dominates, so a manager takes nothing of what its level does not see (`Within`: `stepped_within`,
-- `stepped_seen`).
use Rattle.std.specs.Prelude.{ℕ, zero, suc, ◌+◌, Bool, true, false, cond, ◌&&◌, List, [], ◌∷◌, eqb, leb, ltb, length}
use Rattle.session.specs.Limits.{made_objects}
use Rattle.session.specs.Meaning.{made_number}
use Rattle.session.specs.Program.{Program}
use Rattle.session.specs.Value.{Value}
use Rattle.std.specs.Prelude.{None, Some}
use Rattle.session.specs.declared.Message.{Message}
use Rattle.session.specs.declared.Step.{Step}
use Rattle.session.specs.declared.Step.TheVariants.{End, Set, Add, Jump, Read, Write, Send, Quit, Create, Withdraw}
use Rattle.fates.specs.Filter.{fate_of}
use Rattle.fates.specs.declared.Fate.{Fate}
use Rattle.fates.specs.declared.Fate.TheVariants as fate
use Rattle.scripts.specs.Limits.{max_frames, max_script_steps, max_writes, max_forks}
use Rattle.scripts.specs.Value.{sum, is_nil_or0}
use Rattle.scripts.specs.Existence.{existence, script_seen, is_there, field_seen, used_of, making, withdrawn}
use Rattle.scripts.specs.Ending.{is_running}
use Rattle.scripts.specs.Effect.{Written}
use Rattle.scripts.specs.Effect as effect
use Rattle.scripts.specs.State.{Frame, Manager, Stepped}
use Rattle.scripts.specs.Frame.{frame_for, no_frame, register, with_register, at_step}
use Rattle.scripts.specs.declared.Ending.{Ending}
use Rattle.scripts.specs.declared.Ending.TheVariants.{Running, Finished, OutOfSteps, OutOfWrites}

-- the manager with other frames
abbrev pub with_frames : Manager → List Frame → Manager
with_frames m fs =
    record {
      level = m.level;
      first = m.first;
      stamp = m.stamp;
      steps = m.steps;
      writes = m.writes;
      forks = m.forks;
      ending = m.ending;
      reply = m.reply;
      frames = fs;
    }

-- the manager with no frame left, whose first one replied v
abbrev pub replied : Manager → Value → Manager
replied m v =
    record {
      level = m.level;
      first = m.first;
      stamp = m.stamp;
      steps = m.steps;
      writes = m.writes;
      forks = m.forks;
      ending = m.ending;
      reply = v;
      frames = [];
    }

-- the manager with other counts of steps, writes and forks, another write stamp and another ending
abbrev pub with_counts : Manager → ℕ → ℕ → ℕ → ℕ → Ending → Manager
with_counts m steps writes forks stamp ending =
    record {
      level = m.level;
      first = m.first;
      stamp = stamp;
      steps = steps;
      writes = writes;
      forks = forks;
      ending = ending;
      reply = m.reply;
      frames = m.frames;
    }

-- the frame on top, and those below it
abbrev pub top_of : List Frame → Frame
top_of [] = no_frame
top_of (f ∷ fs) = f

abbrev pub below_of : List Frame → List Frame
below_of [] = []
below_of (f ∷ fs) = fs

abbrev pub top : Manager → Frame
top m = top_of m.frames

-- another frame in place of the top, and one frame more
abbrev pub with_top : Manager → Frame → Manager
with_top m f = with_frames m (f ∷ below_of m.frames)

abbrev pub pushed : Manager → Frame → Manager
pushed m f = with_frames m (f ∷ m.frames)

-- frame f gone with a reply from above those below it: the next one's register gets it or NIL; the last one's is the manager's own
abbrev pub popped_to : Manager → Frame → List Frame → Value → Manager
popped_to m f [] v = replied m v
popped_to m f (g ∷ gs) v = with_frames m (with_register g f.into (cond f.returns v None) ∷ gs)

-- the top frame gone with a reply
unfoldable pub popped : Manager → Value → Manager
popped m v = popped_to m (top m) (below_of m.frames) v

-- the script's end
abbrev pub is_end : Step → Bool
is_end End = true
is_end (Set a n) = false
is_end (Add a b) = false
is_end (Jump a b) = false
is_end (Read a b) = false
is_end (Write a b) = false
is_end (Send a b c) = false
is_end (Quit a) = false
is_end (Create a) = false
is_end Withdraw = false

-- a step of a script, counted from 0, or the script's end
abbrev pub script_step : Program → ℕ → ℕ → ℕ → Step
script_step p zero name j = End
script_step p (suc w) name j = p.step w name j

-- the step that a frame makes next, or its script's end
abbrev pub next_step : Program → Frame → Step
next_step p f = script_step p f.script f.name f.next

-- "A top frame at its script's end pops inside the same step, replying NIL; a sender waiting under another frame does not until, still
-- inside that step, it becomes the top": frame f on top of those below it
unfoldable pub settled : Program → Manager → Frame → List Frame → Manager
settled p m f [] = cond (is_end (next_step p f)) (replied m None) (with_frames m (f ∷ []))
settled p m f (g ∷ gs) =
    let rest = settled p m (with_register g f.into None) gs in
    cond (is_end (next_step p f)) rest (with_frames m (f ∷ g ∷ gs))

abbrev pub settled_from : Program → Manager → List Frame → Manager
settled_from p m [] = m
settled_from p m (f ∷ fs) = settled p m f fs

-- the ending of a manager after a step, by its frames and whether it has steps left: "0 stack empty; 1 the 256th step left frames"
abbrev pub ending_of : List Frame → Bool → Ending
ending_of [] few = Finished
ending_of (f ∷ fs) few = cond few Running OutOfSteps

-- the pops of a step, and its ending
unfoldable pub concluded : Program → Manager → Manager
concluded p m =
    let n = settled_from p m m.frames in
    with_counts n n.steps n.writes n.forks n.stamp (ending_of n.frames (ltb n.steps max_script_steps))

-- A manager starts: its "first frame is made then"; "An empty first method ends in the start step". What a READ sees, its level, its first
-- write stamp, its message. "A message to an object that isn't there, as a READ would see it when the frame is made, finds an empty method"
unfoldable pub started : Program → (ℕ → ℕ → Value) → ℕ → ℕ → Message → Manager
started p read level stamp message =
    concluded p (record {
      level = level;
      first = stamp;
      stamp = stamp;
      steps = 0;
      writes = 0;
      forks = 0;
      ending = Running;
      reply = None;
      frames = frame_for message.object (script_seen read message.object) message.name 0 true message.parameter ∷ [];
    })

-- "takes effect only if the object's level is m", and (document 02, job 7) the frame's object is there, as its reads see it
abbrev pub owns : Program → (ℕ → ℕ → Value) → Manager → Frame → Bool
owns p read m f = eqb (p.level f.object) m.level && is_there (read f.object existence)

-- what is written counts, each version for one: "a seventeenth write, counted as a step and not made"; "Passing 16 is ending 2, and nothing
-- is made, removed or added to the count". Frame g is on top where it is made, else f
unfoldable pub charged : Manager → Frame → Frame → List Written → Stepped
charged m f g ws =
    let writes = m.writes + length ws in
    cond (leb writes max_writes)
    (record {
      manager = with_counts (with_top m g) m.steps writes m.forks m.stamp m.ending;
      effect = effect.Write ws;
    })
    (record {
      manager = with_counts (with_top m f) m.steps m.writes m.forks m.stamp OutOfWrites;
      effect = effect.Nothing;
    })

-- "WRITE a to field b", and WITHDRAW, which writes existence: "otherwise it does nothing"
unfoldable pub written : Program → (ℕ → ℕ → Value) → Manager → Frame → ℕ → Value → Stepped
written p read m f k v =
    cond (owns p read m f)
    (charged m f f (record { object = f.object; field = k; value = v } ∷ []))
    (record { manager = with_top m f; effect = effect.Nothing })

-- "CREATE a, makes an object at the manager's level with registers 1, 2 and 3 as its fields and the methods of the frame's own object; a
-- gets its number"; "a CREATE once all four are used gives NIL"; "otherwise CREATE gives NIL"
unfoldable pub created : Program → (ℕ → ℕ → Value) → Manager → Frame → ℕ → Stepped
created p read m f a =
    let used = used_of read m.level in
    let number = made_number m.level used in
    cond (owns p read m f && ltb used made_objects)
    (charged m f (with_register f a (Some number)) (making number f.r1 f.r2 f.r3 (script_seen read f.object)))
    (record { manager = with_top m (with_register f a None); effect = effect.Nothing })

-- "o2's method runs as a new frame"; "A ninth frame isn't made; reply NIL"
unfoldable pub called : Manager → Frame → ℕ → Frame → Stepped
called m f a callee =
    record {
      manager = cond (ltb (length m.frames) max_frames) (pushed (with_top m f) callee) (with_top m (with_register f a None));
      effect = effect.Nothing;
    }

-- "a manager is forked at u"; "A sixteenth fork isn't made and changes no stamp"; "a made fork carries it too, then it grows by 1"
unfoldable pub forked : Manager → Frame → ℕ → ℕ → Message → Stepped
forked m f a u message =
    let n = with_top m (with_register f a None) in
    cond (ltb m.forks max_forks)
    (record {
      manager = with_counts n n.steps n.writes (n.forks + 1) (n.stamp + 1) n.ending;
      effect = effect.Fork u message;
    })
    (record { manager = n; effect = effect.Nothing })

-- "SEND name b to object c with parameter a; the reply goes to a", by what becomes of the message. A frame finds the methods that its
-- object has then, as a READ would see it
unfoldable pub sent : (ℕ → ℕ → Value) → Manager → Frame → ℕ → ℕ → ℕ → Fate → Stepped
sent read m f a b c fate.Call = called m f a (frame_for c (script_seen read c) b a true (register f a))
sent read m f a b c fate.Discard = called m f a (frame_for c (script_seen read c) b a false (register f a))
sent read m f a b c fate.Block = record { manager = with_top m (with_register f a None); effect = effect.Nothing }
sent read m f a b c (fate.Fork u) = forked m f a u (record { object = c; name = b; parameter = register f a })

-- one operation, by a top frame that has passed it. `read` is what a READ of a field of an object sees
unfoldable pub operated : Program → (ℕ → ℕ → Value) → Manager → Frame → Step → Stepped
operated p read m f End = record { manager = m; effect = effect.Nothing }
operated p read m f (Set a n) = record { manager = with_top m (with_register f a (Some n)); effect = effect.Nothing }
operated p read m f (Add a b) =
    record { manager = with_top m (with_register f a (sum (register f a) (register f b))); effect = effect.Nothing }
operated p read m f (Jump a b) =
    record { manager = with_top m (cond (is_nil_or0 (register f a)) (at_step f b) f); effect = effect.Nothing }
operated p read m f (Read a b) =
    record { manager = with_top m (with_register f a (field_seen read f.object b)); effect = effect.Nothing }
operated p read m f (Write a b) = written p read m f b (register f a)
operated p read m f (Send a b c) =
    sent read m f a b c (fate_of p.levels p.dom m.level (p.level f.object) (p.level c))
operated p read m f (Quit a) = record { manager = popped (with_top m f) (register f a); effect = effect.Nothing }
operated p read m f (Create a) = created p read m f a
operated p read m f Withdraw = written p read m f existence withdrawn

-- the step counted and concluded; "2 wins over 1", and after a seventeenth write nothing pops
abbrev pub counted : Program → Manager → Manager
counted p m =
    let n = with_counts m (m.steps + 1) m.writes m.forks m.stamp m.ending in
    cond (is_running m.ending) (concluded p n) n

-- "makes one script step": the manager after it, and what it does outside
unfoldable pub stepped : Program → (ℕ → ℕ → Value) → Manager → Stepped
stepped p read m =
    let f = top m in
    let done = operated p read m (at_step f (f.next + 1)) (next_step p f) in
    record { manager = counted p done.manager; effect = done.effect }
