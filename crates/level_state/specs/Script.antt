-- A script step of the manager that runs at a level, and what it waits for. No meaning rests on these. Assumes nothing.
-- Laws: what the manager sees is what the definition reads (`proofs/Laws/Seen`); a step that asks for nothing is the definition's
-- (`Script`); one that asks for existence asks for a field of the same object at most, and then for nothing (`Pauses`, `Told`).
use Rattle.std.specs.Prelude.{ℕ, ◌≤◌, ◌≡◌, Bool, false, List, length}
use Rattle.session.specs.Program.{program_of}
use Rattle.scripts.specs.Existence.{existence}
use Rattle.scripts.specs.State.{Manager}
use Rattle.scripts.specs.Manager.{stepped}
use Rattle.fields.specs.Limits.{field_words}
use Rattle.fields.specs.Fields.{known_at}
use Rattle.cores.specs.Core.{Present}
use Rattle.operations.specs.Operations.{on, pause_of}
use Rattle.managers.specs.Manager.{manager_of, stepped_of}
use Rattle.managers.specs.Steps.{WellFormed}
use Rattle.managers.specs.declared.Manager as code
use Rattle.model.specs.Fork.{Fork}
use Rattle.model.specs.Step.{State, read_at}
use Rattle.level_state.specs.Representation.{Words}
use Rattle.level_state.specs.Steps.{Busy, Named}

-- nothing is kept of what managers have read
abbrev pub Blank : List ℕ → Type 0
Blank cache = (o k : ℕ) → k ≤ existence → known_at cache o k ≡ false

-- it runs at level l
pub record RunsAt (s : List ℕ) (w : Words) (l : ℕ) (m : code.Manager) : Type 0 where
  pub running : ℕ → Manager
  pub state : State
  pub fork : Fork
  pub busy : Busy s w l running state fork (manager_of m)

-- it has become r by a script step that reads what the definition reads, whatever state the words represent
abbrev pub StepIs : List ℕ → Words → ℕ → code.Manager → code.Manager → Type 0
StepIs s w l m r =
    (ms : ℕ → Manager) (st : State) (x : Fork) → Busy s w l ms st x (manager_of m) → stepped (program_of s) (read_at (program_of s) st l x) (manager_of m) ≡ stepped_of r

pub record ScriptStep (s : List ℕ) (w : Words) (l : ℕ) (cache' : List ℕ) (m r : code.Manager) : Type 0 where
  pub is : StepIs s w l m r
  pub held : WellFormed s r
  pub present : Present s r.core.effect
  pub blank : Blank cache'

-- it stands before a step that waits for a value of an object: a field or existence, which is not at hand
pub record Waits (s : List ℕ) (w : Words) (l : ℕ) (cache : List ℕ) (u : Bool) (m : code.Manager) (object k : ℕ) : Type 0 where
  pub runs : RunsAt s w l m
  pub held : WellFormed s m
  pub named : Named s object k
  pub pause : pause_of s w.current cache false u m.core ≡ on object k

-- it waits for existence, and nothing is kept of what managers have read
pub record Unseen (s : List ℕ) (w : Words) (l : ℕ) (cache : List ℕ) (m : code.Manager) (object : ℕ) : Type 0 where
  pub unchanged : Bool
  pub waits : Waits s w l cache unchanged m object existence
  pub blank : Blank cache
  pub there : field_words ≤ length cache
