-- The core of the code's manager, as the definitions have it. No meaning rests on these. Assumes nothing.
-- In the loop of `Manager::advance` a core stands above the frames that wait. Its effect may leave a frame to make or to pop, and pops of
-- frames at their script's end are made late. So the definitions' manager is not the one that stands there but what it comes to
-- (`comes_to`). A frame made, a pop, and a script's end that is met leave that as it was; an operation makes `stepped` of it (`managers`
-- `proofs/Laws/Turns`).
use Rattle.std.specs.Prelude.{ℕ, zero, suc, ◌+◌, ◌≤◌, ◌<◌, ◌≡◌, Bool, true, false, List, [], ◌∷◌}
use Rattle.session.specs.Limits.{fields}
use Rattle.session.specs.Parts.{level_count}
use Rattle.session.specs.Meaning.{Numbered}
use Rattle.session.specs.Program.{Program}
use Rattle.scripts.specs.Existence.{existence}
use Rattle.scripts.specs.Limits.{max_frames, max_script_steps, max_writes, max_forks, write_stamps}
use Rattle.scripts.specs.Ending.{is_running}
use Rattle.scripts.specs.Effect as effect
use Rattle.scripts.specs.State as defined
use Rattle.scripts.specs.Frame.{frame_for}
use Rattle.scripts.specs.Manager.{popped, concluded}
use Rattle.scripts.specs.declared.Ended.{Ended}
use Rattle.frames.specs.Frames.{into_of, returns_of, slot_on, answer_on, script_in, name_in, frame_of, Method, Called, Placed}
use Rattle.cores.specs.declared.Core.{Core}
use Rattle.cores.specs.declared.Effect.{Effect}
use Rattle.cores.specs.declared.Effect.TheVariants.{Nothing, End, Write, Read, Change, Fork, Call, Pop}

-- a manager with these frames
abbrev pub bare : Core → List defined.Frame → defined.Manager
bare c fs =
    record {
      level = c.level;
      first = c.first;
      stamp = c.first + c.forks;
      steps = c.steps;
      writes = c.writes;
      forks = c.forks;
      ending = c.ending;
      reply = c.reply;
      frames = fs;
    }

-- with its top, above those that wait
abbrev pub standing : Core → List defined.Frame → defined.Manager
standing c gs = bare c (frame_of c.top ∷ gs)

-- how many frames it has tells whether its top still stands
abbrev pub stack_of : ℕ → defined.Frame → List defined.Frame → List defined.Frame
stack_of zero f gs = []
stack_of (suc h) f gs = f ∷ gs

-- what its last script step did outside it. What is left to do to the frames, and a step that is not made, is nothing outside
abbrev pub effect_of : Effect → effect.Effect
effect_of Nothing = effect.Nothing
effect_of End = effect.Nothing
effect_of (Write object field value) = effect.Write (record { object = object; field = field; value = value } ∷ [])
effect_of (Read object field) = effect.Nothing
effect_of Change = effect.Nothing
effect_of (Fork level object name parameter) = effect.Fork level (record { object = object; name = name; parameter = parameter })
effect_of (Call object way parameter) = effect.Nothing
effect_of (Pop reply) = effect.Nothing

-- what a core above frames that wait comes to: what is left to do to the frames is done, then the pops of the step are made
abbrev pub settled_of : Program → Core → List defined.Frame → Effect → defined.Manager
settled_of p c gs Nothing = concluded p (standing c gs)
settled_of p c gs End = bare c (stack_of c.height (frame_of c.top) gs)
settled_of p c gs (Write object field value) = concluded p (standing c gs)
settled_of p c gs (Read object field) = standing c gs
settled_of p c gs Change = standing c gs
settled_of p c gs (Fork level object name parameter) = concluded p (standing c gs)
settled_of p c gs (Call object way parameter) =
    concluded p (bare c (frame_for object (script_in (slot_on way)) (name_in (slot_on way)) (into_of (answer_on way)) (returns_of (answer_on way)) parameter ∷ frame_of c.top ∷ gs))
settled_of p c gs (Pop reply) = concluded p (popped (standing c gs) reply)

unfoldable pub comes_to : Program → Core → List defined.Frame → defined.Stepped
comes_to p c gs = record { manager = settled_of p c gs c.effect; effect = effect_of c.effect }

-- has a step ended the manager
abbrev pub is_over : Effect → Bool
is_over Nothing = false
is_over End = true
is_over (Write object field value) = false
is_over (Read object field) = false
is_over Change = false
is_over (Fork level object name parameter) = false
is_over (Call object way parameter) = false
is_over (Pop reply) = false

-- is the step not made: something is asked for, or it is a CREATE or WITHDRAW
abbrev pub is_asking : Effect → Bool
is_asking Nothing = false
is_asking End = false
is_asking (Write object field value) = false
is_asking (Read object field) = true
is_asking Change = true
is_asking (Fork level object name parameter) = false
is_asking (Call object way parameter) = false
is_asking (Pop reply) = false

-- is nothing left to do
abbrev pub is_nothing : Effect → Bool
is_nothing Nothing = true
is_nothing End = false
is_nothing (Write object field value) = false
is_nothing (Read object field) = false
is_nothing Change = false
is_nothing (Fork level object name parameter) = false
is_nothing (Call object way parameter) = false
is_nothing (Pop reply) = false

-- is nothing left to do to the frames
abbrev pub is_done : Effect → Bool
is_done Nothing = true
is_done End = true
is_done (Write object field value) = true
is_done (Read object field) = true
is_done Change = true
is_done (Fork level object name parameter) = true
is_done (Call object way parameter) = false
is_done (Pop reply) = false

-- there is a frame to pop to, and room for one to make
abbrev pub Tall : Effect → ℕ → Type 0
Tall Nothing h = Unit
Tall End h = Unit
Tall (Write object field value) h = Unit
Tall (Read object field) h = Unit
Tall Change h = Unit
Tall (Fork level object name parameter) h = Unit
Tall (Call object way parameter) h = h < max_frames
Tall (Pop reply) h = 1 < h

-- what a step concerns is there
abbrev pub Present : List ℕ → Effect → Type 0
Present s Nothing = Unit
Present s End = Unit
Present s (Write object field value) = Numbered s object × (field < fields)
Present s (Read object field) = Numbered s object × (field ≤ existence)
Present s Change = Unit
Present s (Fork level object name parameter) = (level < level_count s) × Method object name s
Present s (Call object way parameter) = Called object (slot_on way) s
Present s (Pop reply) = Unit

-- a core within its limits. One that no step has ended runs and has a frame
pub record Sits (s : List ℕ) (c : Core) : Type 0 where
  pub level : c.level < level_count s
  pub low : c.height ≤ max_frames
  pub made : c.steps ≤ max_script_steps
  pub wrote : c.writes ≤ max_writes
  pub forked : c.forks ≤ max_forks
  -- "a made fork carries it too, then it grows by 1": the write stamp, and the next manager's one above it, fit 16 bits
  pub fits : c.first + max_forks + 1 < write_stamps
  pub top : Placed s c.top
  pub over : is_over c.effect ≡ true → is_running c.ending ≡ false
  pub runs : is_over c.effect ≡ false → is_running c.ending ≡ true
  pub some : is_over c.effect ≡ false → 0 < c.height
  pub tall : Tall c.effect c.height

-- what is kept of a manager that has ended, with the stamp of its fork
abbrev pub kept_of : Core → ℕ → Ended
kept_of c stamp =
    record {
      ending = c.ending;
      writes = c.writes;
      stamp = stamp;
      first = c.first;
      last = c.first + c.forks;
      steps = c.steps;
      reply = c.reply;
    }
