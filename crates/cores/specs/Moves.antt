-- What a move of the code does to a core. No meaning rests on these. Assumes nothing.
-- Laws: each move of a core is an operation of the definitions, counted, with the pops of its step (`proofs/Laws/Makes`).
use Rattle.std.specs.Prelude.{ℕ, suc, ◌+◌, ◌-◌, ◌≤◌, ◌<◌, ◌≡◌, true, false, cond, List, [], ◌∷◌, eqb, ltb, leb, length}
use Rattle.session.specs.Program.{Program}
use Rattle.session.specs.Value.{Value}
use Rattle.std.specs.Prelude.{None}
use Rattle.scripts.specs.Limits.{max_script_steps}
use Rattle.scripts.specs.Effect.{Written}
use Rattle.scripts.specs.Ending.{is_running}
use Rattle.scripts.specs.State as defined
use Rattle.scripts.specs.Frame.{with_register, at_step}
use Rattle.scripts.specs.Manager.{top, counted}
use Rattle.scripts.specs.declared.Ending.{Ending}
use Rattle.scripts.specs.declared.Ending.TheVariants.{Finished, OutOfSteps}
use Rattle.frames.specs.Frames.{into_of, returns_of, slot_on, answer_on, frame_of, aside_of, top_for, Becomes, Placed}
use Rattle.frames.specs.declared.Frame.{Frame}
use Rattle.frames.specs.declared.Waiting.{Waiting}
use Rattle.cores.specs.Core.{standing, comes_to, is_over, is_asking, Present, Sits}
use Rattle.cores.specs.declared.Core.{Core}
use Rattle.cores.specs.declared.Effect.{Effect}
use Rattle.cores.specs.declared.Effect.TheVariants.{Nothing, End, Pop}

-- a core that makes a script step of its top
pub record Able (c : Core) : Type 0 where
  pub few : c.steps < max_script_steps
  pub unfinished : c.top.next < c.top.count
  pub internal : c.effect ≡ Nothing
  pub runs : is_running c.ending ≡ true

-- the top past its step
abbrev pub passed : defined.Manager → defined.Frame
passed m = at_step (top m) ((top m).next + 1)

-- one value of the top's own object
abbrev pub own_field : defined.Frame → ℕ → Value → List Written
own_field f k v = record { object = f.object; field = k; value = v } ∷ []

-- an operation counted, with the pops of its step
abbrev pub counting : Program → defined.Stepped → defined.Stepped
counting p d = record { manager = counted p d.manager; effect = d.effect }

-- the core with another top, one script step on
abbrev pub next_top : Core → Frame → Core
next_top c f =
    record {
      level = c.level;
      first = c.first;
      steps = c.steps + 1;
      writes = c.writes;
      forks = c.forks;
      height = c.height;
      ending = c.ending;
      reply = c.reply;
      top = f;
      effect = c.effect;
    }

-- the top of a core past its step
abbrev pub past_of : Core → defined.Frame
past_of c = at_step (frame_of c.top) (c.top.next + 1)

-- a script step that leaves another top of the same method, and nothing else
pub record Moves (c r : Core) (f : defined.Frame) : Type 0 where
  pub core_is : r ≡ next_top c r.top
  pub top_is : Becomes c.top r.top f
  pub near : r.top.next ≤ r.top.count

-- the code made an operation, as one script step. Of a session of which P holds, what the step concerns is there
pub record Makes (P : List ℕ → Type 0) (c r : Core) (d : defined.Manager → defined.Stepped) : Type 0 where
  pub is : (p : Program) (gs : List defined.Frame) → suc (length gs) ≡ c.height → comes_to p r gs ≡ counting p (d (standing c gs))
  pub level_is : r.level ≡ c.level
  pub first_is : r.first ≡ c.first
  pub steps_are : r.steps ≡ c.steps + 1
  pub tall : is_over r.effect ≡ false → r.height ≡ c.height
  pub lower : r.height ≤ c.height
  pub flat : (r.height ≡ 0 → ⊥) → r.height ≡ c.height
  pub asks : is_asking r.effect ≡ false
  pub sits : (s : List ℕ) → Sits s c → Sits s r
  pub present : (s : List ℕ) → P s → Present s r.effect

-- the core with another effect
abbrev pub causing : Core → Effect → Core
causing c e =
    record {
      level = c.level;
      first = c.first;
      steps = c.steps;
      writes = c.writes;
      forks = c.forks;
      height = c.height;
      ending = c.ending;
      reply = c.reply;
      top = c.top;
      effect = e;
    }

-- the core with another number of frames, ending and reply
abbrev pub stood_as : Core → ℕ → Ending → Value → Core
stood_as c h e v =
    record {
      level = c.level;
      first = c.first;
      steps = c.steps;
      writes = c.writes;
      forks = c.forks;
      height = h;
      ending = e;
      reply = v;
      top = c.top;
      effect = c.effect;
    }

-- a step has ended it
abbrev pub ended_as : Core → ℕ → Ending → Value → Core
ended_as c h e v = causing (stood_as c h e v) End

-- the first frame has popped with a reply
abbrev pub finished_as : Core → Value → Core
finished_as c v = ended_as c 0 Finished v

-- the top, at its script's end, is to pop
abbrev pub ending_as : Core → Core
ending_as c = cond (eqb c.height 1) (finished_as c None) (causing c (Pop None))

-- the core with so many frames and another top, and nothing left to do
abbrev pub restacked : Core → ℕ → Frame → Core
restacked c h f =
    record {
      level = c.level;
      first = c.first;
      steps = c.steps;
      writes = c.writes;
      forks = c.forks;
      height = h;
      ending = c.ending;
      reply = c.reply;
      top = f;
      effect = Nothing;
    }

-- a frame was made above the top
pub record Pushed (s : List ℕ) (c : Core) (object way : ℕ) (parameter : Value) (r : Core) : Type 0 where
  pub core_is : r ≡ restacked c (c.height + 1) r.top
  pub top_is : r.top ≡ top_for object (slot_on way) (answer_on way) parameter r.top.start r.top.count
  pub top_placed : Placed s r.top

-- the top has popped with a reply to the frame that waited below it
pub record Popped (s : List ℕ) (c : Core) (below : Waiting) (v : Value) (r : Core) : Type 0 where
  pub core_is : r ≡ restacked c (c.height - 1) r.top
  pub top_is : frame_of r.top ≡ with_register (aside_of below) (into_of c.top.answer) (cond (returns_of c.top.answer) v None)
  pub answer_is : r.top.answer ≡ below.answer
  pub top_placed : Placed s r.top

-- how it stands once no frame above the first is at its script's end: a first frame at its end pops, replying NIL; "the 256th step left frames"
abbrev pub closed_as : Core → Core
closed_as c =
    cond (is_running c.ending)
    (cond (leb c.top.count c.top.next)
    (stood_as c 0 Finished None)
    (cond (ltb c.steps max_script_steps) c (stood_as c c.height OutOfSteps c.reply)))
    c
