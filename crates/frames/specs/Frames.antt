-- The frames of the code's manager, as the definitions have them. No meaning rests on these. Assumes nothing.
-- Laws (`proofs/Laws/Frames`): where a script's end is, by the count that a top keeps.
use Rattle.std.specs.Prelude.{ℕ, zero, suc, ◌+◌, ◌*◌, ◌/◌, ◌%◌, ◌≤◌, ◌<◌, ◌≡◌, Bool, cond, List, [], ◌∷◌, leb, length, get_or}
use Rattle.session.specs.Limits.{names, registers}
use Rattle.session.specs.Parts.{object_count}
use Rattle.session.specs.Meaning.{Numbered}
use Rattle.contents.specs.Reading.{MethodAt}
use Rattle.session.specs.Value.{Value}
use Rattle.std.specs.Prelude.{None}
use Rattle.scripts.specs.Existence.{own_script}
use Rattle.scripts.specs.State as defined
use Rattle.scripts.specs.Valid.{script_method}
use Rattle.frames.specs.declared.Frame.{Frame}
use Rattle.frames.specs.declared.Waiting.{Waiting}

-- which register gets a frame's reply, and whether it gets the reply itself, by the byte that says both
abbrev pub into_of : ℕ → ℕ
into_of answer = answer % registers

abbrev pub returns_of : ℕ → Bool
returns_of answer = leb registers answer

-- that byte
abbrev pub answer_of : ℕ → Bool → ℕ
answer_of into returns = cond returns (into + registers) into

-- a method and that byte as one number, and both by the number
abbrev pub answers : ℕ
answers = 2 * registers

abbrev pub way_of : ℕ → ℕ → ℕ
way_of slot answer = answers * slot + answer

abbrev pub slot_on : ℕ → ℕ
slot_on way = way / answers

abbrev pub answer_on : ℕ → ℕ
answer_on way = way % answers

-- the number of a method by its script and its name, and both by the number
abbrev pub slot_of : ℕ → ℕ → ℕ
slot_of script name = names * script + name

abbrev pub script_in : ℕ → ℕ
script_in slot = slot / names

abbrev pub name_in : ℕ → ℕ
name_in slot = slot % names

-- the number of a step by its method's number and its own, which is below 32, and both by the number
abbrev pub step_numbers : ℕ
step_numbers = 32

abbrev pub place_of : ℕ → ℕ → ℕ
place_of slot next = step_numbers * slot + next

abbrev pub slot_in : ℕ → ℕ
slot_in at = at / step_numbers

abbrev pub next_in : ℕ → ℕ
next_in at = at % step_numbers

-- a frame that waits
abbrev pub aside_of : Waiting → defined.Frame
aside_of f =
    record {
      object = f.object;
      script = script_in (slot_in f.at);
      name = name_in (slot_in f.at);
      next = next_in f.at;
      into = into_of f.answer;
      returns = returns_of f.answer;
      r0 = f.r0;
      r1 = f.r1;
      r2 = f.r2;
      r3 = f.r3;
    }

-- what stands where none waits
abbrev pub no_waiting : Waiting
no_waiting = record { object = 0; answer = 0; at = 0; r0 = None; r1 = None; r2 = None; r3 = None }

-- a frame for a message, with the place of its method
abbrev pub top_for : ℕ → ℕ → ℕ → Value → ℕ → ℕ → Frame
top_for object slot answer parameter start count =
    record {
      object = object;
      slot = slot;
      next = 0;
      start = start;
      count = count;
      answer = answer;
      r0 = parameter;
      r1 = None;
      r2 = None;
      r3 = None;
    }

-- a frame that waited as the one on top, with the place of its method, and the one on top as one that waits
abbrev pub top_from : Waiting → ℕ → ℕ → Frame
top_from w start count =
    record {
      object = w.object;
      slot = slot_in w.at;
      next = next_in w.at;
      start = start;
      count = count;
      answer = w.answer;
      r0 = w.r0;
      r1 = w.r1;
      r2 = w.r2;
      r3 = w.r3;
    }

abbrev pub aside_from : Frame → Waiting
aside_from f =
    record { object = f.object; answer = f.answer; at = place_of f.slot f.next; r0 = f.r0; r1 = f.r1; r2 = f.r2; r3 = f.r3 }

-- the frame on top, without the place of its method
abbrev pub frame_of : Frame → defined.Frame
frame_of f =
    record {
      object = f.object;
      script = script_in f.slot;
      name = name_in f.slot;
      next = f.next;
      into = into_of f.answer;
      returns = returns_of f.answer;
      r0 = f.r0;
      r1 = f.r1;
      r2 = f.r2;
      r3 = f.r3;
    }

-- the first n frames that wait, the last one first
unfoldable pub below : List Waiting → ℕ → List defined.Frame
below ws zero = []
below ws (suc n) = aside_of (get_or ws n no_waiting) ∷ below ws n

-- two frames of the same method, that answer the same sender
pub record Same (f r : Frame) : Type 0 where
  pub object : r.object ≡ f.object
  pub slot : r.slot ≡ f.slot
  pub start : r.start ≡ f.start
  pub count : r.count ≡ f.count
  pub answer : r.answer ≡ f.answer

-- a frame became another of the same method
pub record Becomes (f r : Frame) (g : defined.Frame) : Type 0 where
  pub frame : frame_of r ≡ g
  pub same : Same f r

-- a message to an object that has a number, by a name
abbrev pub Method : ℕ → ℕ → List ℕ → Type 0
Method o b s = Numbered s o × (b < names)

-- a message to an object that has a number, that finds a method, or none
abbrev pub Called : ℕ → ℕ → List ℕ → Type 0
Called o slot s = Numbered s o × (script_in slot ≤ object_count s)

-- where the steps of a script's method stand: the record of the first, if there is one, and how many there are
pub record ScriptAt (s : List ℕ) (script name start count : ℕ) : Type 0 where
  pub own : (w : ℕ) → script ≡ own_script w → MethodAt s w name start count
  pub count_is : count ≡ length (script_method s script name)

-- the frame on top is of an object that has a number and runs a method of one, or none, knows where that stands, and is within it
pub record Placed (s : List ℕ) (f : Frame) : Type 0 where
  pub called : Called f.object f.slot s
  pub at : ScriptAt s (script_in f.slot) (name_in f.slot) f.start f.count
  pub near : f.next ≤ f.count

-- so does a frame that waits
pub record Waits (s : List ℕ) (f : defined.Frame) : Type 0 where
  pub present : Numbered s f.object
  pub scripted : f.script ≤ object_count s
  pub near : f.next ≤ length (script_method s f.script f.name)
