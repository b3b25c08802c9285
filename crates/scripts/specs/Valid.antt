-- Which managers the code is called with: what its own contracts require. No meaning rests on these. Assumes nothing.
-- Laws: what start and step leave is valid (`proofs/Laws/Valid`: `started_valid`, `stepped_valid`); what a step names, writes and forks
-- concerns objects that have numbers, fields 0 to 2 or existence, and names 0 to 15 (`next_fits` and `next_present` of `Accepted`, `stepped_present` of `Valid`).
use Rattle.std.specs.Prelude.{ℕ, zero, suc, ◌+◌, ◌≤◌, ◌<◌, ◌≡◌, true, List, [], ◌∷◌, length}
use Rattle.session.specs.Limits.{max_method, names}
use Rattle.session.specs.Parts.{level_count, object_count, masks_of}
use Rattle.session.specs.Questions.{verdict_of, Accepted}
use Rattle.session.specs.Meaning.{Numbered, method_of}
use Rattle.session.specs.declared.Message.{Message}
use Rattle.session.specs.declared.Step.{Step}
use Rattle.session.specs.declared.Step.TheVariants.{End, Set, Add, Jump, Read, Write, Send, Quit, Create, Withdraw}
use Rattle.scripts.specs.Limits.{max_frames, max_script_steps, max_writes, max_forks, write_stamps}
use Rattle.scripts.specs.Ending.{is_running}
use Rattle.scripts.specs.State.{Frame, Manager}

-- an accepted session with its level table
pub record Leveled (s masks : List ℕ) : Type 0 where
  pub accepted : verdict_of s ≡ Accepted
  pub masks_are : masks ≡ masks_of s

-- a step sends only to an object that has a number
abbrev pub Aimed : List ℕ → Step → Type 0
Aimed s End = Unit
Aimed s (Set a n) = Unit
Aimed s (Add a b) = Unit
Aimed s (Jump a b) = Unit
Aimed s (Read a b) = Unit
Aimed s (Write a b) = Unit
Aimed s (Send a b c) = Numbered s c
Aimed s (Quit a) = Unit
Aimed s (Create a) = Unit
Aimed s Withdraw = Unit

-- the steps of a script's method
abbrev pub script_method : List ℕ → ℕ → ℕ → List Step
script_method s zero name = []
script_method s (suc w) name = method_of s w name

-- a frame of an object that has a number, that runs a method of a present one by a name, or none
pub record Known (s : List ℕ) (f : Frame) : Type 0 where
  pub present : Numbered s f.object
  pub scripted : f.script ≤ object_count s
  pub named : f.name < names
  pub near : f.next ≤ max_method

-- each element has a property
abbrev pub Each : {A : Type 0} → (A → Type 0) → List A → Type 0
Each P [] = Unit
Each P (f ∷ fs) = P f × Each P fs

-- a stack of frames, each with a property
pub record Stack (P : Frame → Type 0) (fs : List Frame) : Type 0 where
  pub low : length fs ≤ max_frames
  pub each : Each P fs

-- a manager as start and step leave it
pub record Valid (s : List ℕ) (m : Manager) : Type 0 where
  pub placed : m.level < level_count s
  pub stack : Stack (Known s) m.frames
  -- one that has not ended has a frame, and steps left
  pub live : is_running m.ending ≡ true → 0 < length m.frames
  pub few : is_running m.ending ≡ true → m.steps < max_script_steps
  pub made : m.steps ≤ max_script_steps
  pub wrote : m.writes ≤ max_writes
  pub forked : m.forks ≤ max_forks
  -- "a made fork carries it too, then it grows by 1": the write stamp, and the next manager's one above it, fit 16 bits
  pub stamped : m.stamp ≡ m.first + m.forks
  pub fits : m.first + max_forks + 1 < write_stamps

-- a message to an object that has a number, for a manager at a present level, whose write stamps will fit 16 bits
pub record Startable (s : List ℕ) (level stamp : ℕ) (message : Message) : Type 0 where
  pub placed : level < level_count s
  pub present : Numbered s message.object
  pub named : message.name < names
  pub fits : stamp + max_forks + 1 < write_stamps
