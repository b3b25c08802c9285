-- A level that is run until it has no manager. No meaning rests on these. Assumes nothing.
-- Laws: steps of one manager in a row, while its end may not be noted (`proofs/Laws/Unsettled`); what their effects leave as it was
-- (`Outside`); a manager that has advanced (`Running`), and what is left of its steps and questions (`Left`), from its start to its end
-- (`Next`); a level until it has no manager (`Level`).
use Rattle.std.specs.Prelude.{ℕ, ◌+◌, ◌≤◌, ◌<◌, ◌≡◌, true, List, get_or}
use Rattle.session.specs.Limits.{max_numbers}
use Rattle.session.specs.Parts.{level_count}
use Rattle.session.specs.Meaning.{level_of}
use Rattle.session.specs.Program.{program_of}
use Rattle.scripts.specs.Existence.{existence}
use Rattle.scripts.specs.State.{Manager}
use Rattle.fields.specs.Fields.{field_at, known_at}
use Rattle.model.specs.Level.{idle}
use Rattle.model.specs.Step.{State, level_at}
use Rattle.model.specs.Schedule.{Leads}
use Rattle.model.specs.Rules.{conservative}
use Rattle.tallies.specs.Places.{waiting_place, busy_place}
use Rattle.level_state.specs.Representation.{Words, RunInvariant, placed}
use Rattle.level_state.specs.Steps.{found_in}
use Rattle.level_state.specs.Ends.{SameRest}

-- the level is being run, from state from: m is the only manager that may run
pub record Draining (s : List ℕ) (from : State) (w : Words) (l : ℕ) (m : Manager) : Type 0 where
  pub state : State
  pub list : List ℕ
  pub leads : Leads (program_of s) from list state
  pub invariant : (ms : ℕ → Manager) → RunInvariant s w (placed l m ms) state
  pub others : (k : ℕ) → k < level_count s → (k ≡ l → ⊥) → (level_at state k).activity ≡ idle
  pub quiet : conservative (program_of s) state l ≡ true

-- what is kept of what the manager of level l has read is of objects of other levels, and is what it reads there
abbrev pub KnownIsRead : List ℕ → Words → ℕ → List ℕ → Type 0
KnownIsRead s w l cache =
    (o k : ℕ) → o < max_numbers → k ≤ existence → known_at cache o k ≡ true → (level_of s o ≡ l → ⊥) × (field_at cache o k ≡ found_in s w l o k)

-- a manager waits at level l, and none runs there
pub record NextReady (s : List ℕ) (w : Words) (l : ℕ) : Type 0 where
  pub from : State
  pub held : Manager
  pub drains : Draining s from w l held
  pub placed_there : l < level_count s
  pub waits : 0 < get_or w.tallies (waiting_place l) 0
  pub quiescent : get_or w.tallies (busy_place l) 0 ≡ 0

-- it has run to its end
pub record NextDone (s : List ℕ) (w w' : Words) (l : ℕ) : Type 0 where
  pub last : Manager
  pub drains : (from : State) (held : Manager) → Draining s from w l held → Draining s from w' l last
  pub quiescent : get_or w'.tallies (busy_place l) 0 ≡ 0
  pub count : get_or w'.tallies l 0 ≡ get_or w.tallies l 0 + 1
  pub rest : SameRest w.work w'.work
