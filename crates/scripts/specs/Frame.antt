-- Frames and their registers. Assumes nothing.
use Rattle.std.specs.Prelude.{ℕ, zero, suc, Bool, false, [], ◌∷◌, get_or}
use Rattle.session.specs.Value.{Value}
use Rattle.std.specs.Prelude.{None}
use Rattle.scripts.specs.State.{Frame}

-- "A frame has registers 0 to 3 ..; register 0 starts as the parameter, the rest NIL": a frame for a message to an object, with a script,
-- whose reply goes to the sender's register `into`, or is thrown away
abbrev pub frame_for : ℕ → ℕ → ℕ → ℕ → Bool → Value → Frame
frame_for object script name into returns parameter =
    record {
      object = object;
      script = script;
      name = name;
      next = 0;
      into = into;
      returns = returns;
      r0 = parameter;
      r1 = None;
      r2 = None;
      r3 = None;
    }

-- where no frame is
abbrev pub no_frame : Frame
no_frame = frame_for 0 0 0 0 false None

-- what a register holds. Question 7 lets no step name one above 3
abbrev pub register : Frame → ℕ → Value
register f k = get_or (f.r0 ∷ f.r1 ∷ f.r2 ∷ []) k f.r3

-- the frame with its registers replaced
abbrev registers : Frame → Value → Value → Value → Value → Frame
registers f w0 w1 w2 w3 =
    record {
      object = f.object;
      script = f.script;
      name = f.name;
      next = f.next;
      into = f.into;
      returns = f.returns;
      r0 = w0;
      r1 = w1;
      r2 = w2;
      r3 = w3;
    }

-- the frame with one register set
unfoldable pub with_register : Frame → ℕ → Value → Frame
with_register f zero v = registers f v f.r1 f.r2 f.r3
with_register f (suc zero) v = registers f f.r0 v f.r2 f.r3
with_register f (suc (suc zero)) v = registers f f.r0 f.r1 v f.r3
with_register f (suc (suc (suc k))) v = registers f f.r0 f.r1 f.r2 v

-- the frame at another step
abbrev pub at_step : Frame → ℕ → Frame
at_step f j =
    record {
      object = f.object;
      script = f.script;
      name = f.name;
      next = j;
      into = f.into;
      returns = f.returns;
      r0 = f.r0;
      r1 = f.r1;
      r2 = f.r2;
      r3 = f.r3;
    }
