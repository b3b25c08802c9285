-- How many records of each kind a session has, as numbers that a function is given. Assumes nothing.
use Rattle.std.specs.Prelude.{ℕ, ◌≡◌, List}
use Rattle.session.specs.Parts.{level_count, object_count, step_count}

-- these numbers are a session's
pub record Counted (s : List ℕ) (levels objects steps : ℕ) : Type 0 where
  pub levels_are : levels ≡ level_count s
  pub objects_are : objects ≡ object_count s
  pub steps_are : steps ≡ step_count s
