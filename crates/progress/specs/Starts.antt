-- The start of a manager in a depth-first run. No meaning rests on it. Assumes nothing.
-- Laws (`proofs/Laws/Starts`): what it needs is there.
use Rattle.std.specs.Prelude.{ℕ, ◌≤◌, List, length, get_or}
use Rattle.scripts.specs.Valid.{Startable}
use Rattle.contents.specs.Reading.{Indexed}
use Rattle.fields.specs.Limits.{field_words}
use Rattle.fields.specs.Fields.{script_in}
use Rattle.fields.specs.Reads.{Scripted}
use Rattle.managers.specs.Steps.{Starts, WellFormed}
use Rattle.managers.specs.declared.Manager as code
use Rattle.tallies.specs.Places.{next_place, tally_numbers}
use Rattle.progress.specs.declared.Fork.{Fork}

-- the manager of a fork can start: its level's next write stamp fits, and the words say the script of its object
pub record StartReady (s index current tallies : List ℕ) (f : Fork) : Type 0 where
  pub indexed : Indexed s index
  pub startable : Startable s f.level (get_or tallies (next_place f.level) 0) f.message
  pub fields_there : field_words ≤ length current
  pub tallies_there : tally_numbers ≤ length tallies
  pub scripted : Scripted s current

-- it has started, with that script
abbrev pub StartDone : List ℕ → List ℕ → List ℕ → Fork → code.Manager → Type 0
StartDone s current tallies f r =
    Starts s f.level (get_or tallies (next_place f.level) 0) f.message (script_in current f.message.object) r × WellFormed s r
