-- What a script step does outside its manager. Assumes nothing.
use Rattle.std.specs.Prelude.{ℕ, List}
use Rattle.session.specs.Value.{Value}
use Rattle.session.specs.declared.Message.{Message}

-- a value that a field of an object gets, or its existence
pub record Written : Type 0 where
  pub object : ℕ
  pub field : ℕ
  pub value : Value

pub data Effect : Type 0 where
  Nothing : Effect
  -- fields of objects of the manager's level get values
  Write : List Written → Effect
  -- a manager is forked at a level, to run a message
  Fork : ℕ → Message → Effect
