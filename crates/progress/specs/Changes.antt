-- What a CREATE or WITHDRAW writes to the words of a depth-first run. No meaning rests on these. Assumes nothing.
-- Laws (`proofs/Laws/Changes`): what it concerns is there (`change_there`); it is done to the words as the definition does it (`change_done`).
use Rattle.std.specs.Prelude.{ℕ, ◌≤◌, ◌<◌, ◌≡◌, Option, Some, None, List, [], ◌∷◌, length}
use Rattle.session.specs.Limits.{max_levels, max_numbers}
use Rattle.session.specs.Program.{program_of}
use Rattle.scripts.specs.Existence.{existence, making, withdrawn}
use Rattle.scripts.specs.Effect as effect
use Rattle.scripts.specs.Manager.{stepped}
use Rattle.fields.specs.Limits.{field_words}
use Rattle.fields.specs.Fields.{FieldSet}
use Rattle.frames.specs.declared.Frame.{Frame}
use Rattle.changes.specs.declared.Change.{Change}
use Rattle.changes.specs.declared.Change.TheVariants.{Create, Withdraw}
use Rattle.managers.specs.Manager.{manager_of}
use Rattle.managers.specs.Steps.{WellFormed}
use Rattle.managers.specs.declared.Manager.{Manager}
use Rattle.model.specs.Fork as model
use Rattle.model.specs.DepthFirst.{Progress, field_now, RunFork, effected}
use Rattle.tallies.specs.Places.{tally_numbers, changed}
use Rattle.progress.specs.Representation.{RepresentedBy, Spared}

-- what a change writes has words
abbrev pub Numbers : Option Change → Type 0
Numbers None = Unit
Numbers (Some (Create o w)) = o < max_numbers
Numbers (Some (Withdraw o)) = o < max_numbers

pub record Writable (current tallies : List ℕ) (level : ℕ) (change : Option Change) : Type 0 where
  pub fields_there : field_words ≤ length current
  pub tallies_there : tally_numbers ≤ length tallies
  pub level_small : level < max_levels
  pub numbers : Numbers change

-- values are written one after the other, the first one last
abbrev pub AllSet : List effect.Written → List ℕ → List ℕ → Type 0
AllSet [] ws ws' = ws' ≡ ws
AllSet (x ∷ xs) ws ws' = (vs : List ℕ) × (AllSet xs ws vs × FieldSet vs ws' x.object x.field x.value)

-- what a change of a manager of level l writes, whose top frame was f before, and that existence was written
abbrev pub Written : ℕ → Frame → Option Change → List ℕ → List ℕ → List ℕ → List ℕ → Type 0
Written l f None current tallies current' tallies' = (current' ≡ current) × (tallies' ≡ tallies)
Written l f (Some (Create o w)) current tallies current' tallies' =
    AllSet (making o f.r1 f.r2 f.r3 w) current current' × (tallies' ≡ changed l tallies)
Written l f (Some (Withdraw o)) current tallies current' tallies' =
    AllSet (record { object = o; field = existence; value = withdrawn } ∷ []) current current' × (tallies' ≡ changed l tallies)

-- a script step of manager m, a CREATE or WITHDRAW, is made, and done to the words as the definition does it: whatever the histories
pub record ChangeDone (s : List ℕ) (m r : Manager) (current tallies current' tallies' : List ℕ) : Type 0 where
  pub is : (ended : List ℕ) (g : Progress) → RepresentedBy s g current ended tallies → manager_of r ≡ (stepped (program_of s) (field_now (program_of s) g) (manager_of m)).manager
  pub does : (ended : List ℕ) (g : Progress) (run : RunFork) (x : model.Fork) → RepresentedBy s g current ended tallies → RepresentedBy s (effected run m.core.level x (manager_of m) (stepped (program_of s) (field_now (program_of s) g) (manager_of m)).effect g) current' ended tallies'
  pub spared : (ended : List ℕ) → Spared s (record { current = current; ended = ended; tallies = tallies }) (record { current = current'; ended = ended; tallies = tallies' })
  pub held : WellFormed s r
  pub level_is : r.core.level ≡ m.core.level
  pub first_is : r.core.first ≡ m.core.first
