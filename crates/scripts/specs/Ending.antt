-- How a manager stands. Assumes nothing.
use Rattle.std.specs.Prelude.{ℕ, Bool, true, false}
use Rattle.scripts.specs.declared.Ending.{Ending}
use Rattle.scripts.specs.declared.Ending.TheVariants.{Running, Finished, OutOfSteps, OutOfWrites}

-- "Endings: 0 stack empty; 1 the 256th step left frames; 2 a seventeenth write"
abbrev pub number_of_ending : Ending → ℕ
number_of_ending Running = 0
number_of_ending Finished = 0
number_of_ending OutOfSteps = 1
number_of_ending OutOfWrites = 2

-- has the manager not ended
abbrev pub is_running : Ending → Bool
is_running Running = true
is_running Finished = false
is_running OutOfSteps = false
is_running OutOfWrites = false
