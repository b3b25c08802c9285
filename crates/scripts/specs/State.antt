-- Frames, managers, and what a script step hands back. Assumes nothing.
use Rattle.std.specs.Prelude.{ℕ, Bool, List}
use Rattle.session.specs.Value.{Value}
use Rattle.scripts.specs.Effect.{Effect}
use Rattle.scripts.specs.declared.Ending.{Ending}

-- a method that is running, or waits for the reply of the frame above it
pub record Frame : Type 0 where
  pub object : ℕ
  -- whose methods it runs: 0 where it runs none, w + 1 where they are those of object w
  pub script : ℕ
  pub name : ℕ
  -- the step that is made next, counted from 0
  pub next : ℕ
  -- the register of the sender's frame, below, that gets the reply, and whether it gets the reply itself, and not NIL in its place
  pub into : ℕ
  pub returns : Bool
  -- "registers 0 to 3, each NIL or a number"
  pub r0 : Value
  pub r1 : Value
  pub r2 : Value
  pub r3 : Value

-- "A message manager has a level m and a stack of at most 8 frames"
pub record Manager : Type 0 where
  pub level : ℕ
  -- the write stamp at its start, and now
  pub first : ℕ
  pub stamp : ℕ
  pub steps : ℕ
  pub writes : ℕ
  pub forks : ℕ
  pub ending : Ending
  -- what its first frame replied
  pub reply : Value
  -- the one on top first
  pub frames : List Frame

-- what a script step hands back: the manager after it, and what it does outside
pub record Stepped : Type 0 where
  pub manager : Manager
  pub effect : Effect
