-- The words of a run between managers, and once its steps have ended. No meaning rests on these. Assumes nothing.
use Rattle.std.specs.Prelude.{ℕ, ◌<◌, ◌≡◌, List, Result, Ok, Err, drop}
use Rattle.session.specs.Parts.{level_count}
use Rattle.session.specs.Meaning.{root_of}
use Rattle.session.specs.Program.{program_of}
use Rattle.scripts.specs.State.{Manager}
use Rattle.model.specs.Limits.{work_numbers}
use Rattle.model.specs.Level.{idle}
use Rattle.model.specs.Step.{State, level_at}
use Rattle.model.specs.Schedule.{finished, refused, run_of}
use Rattle.level_state.specs.Representation.{Words, Represents, RunInvariant}
use Rattle.calls.specs.Refusals.{number_of_refusal, place_of_refusal}
use Rattle.calls.specs.declared.Refusal.{Refusal}

-- the words represent the state st, and no manager runs in it: so they represent it whatever managers are held
pub record Quiescent (s : List ℕ) (w : Words) (st : State) : Type 0 where
  pub invariant : (ms : ℕ → Manager) → RunInvariant s w ms st
  pub idle_all : (k : ℕ) → k < level_count s → (level_at st k).activity ≡ idle

-- the work slice is as it was beyond the versions
abbrev pub SameRest : List ℕ → List ℕ → Type 0
SameRest work work' = drop work_numbers work' ≡ drop work_numbers work

-- a list of scheduler steps of session s has ended: in a state that the words represent, or refused by a question, 12 to 15, at its place
abbrev pub Ends : List ℕ → List ℕ → Words → Result Unit Refusal → Type 0
Ends s ls w (Ok u) =
    (ms : ℕ → Manager) × ((st : State) × ((run_of (program_of s) (root_of s) ls ≡ finished st) × Represents s w ms st))
Ends s ls w (Err r) = run_of (program_of s) (root_of s) ls ≡ refused (number_of_refusal r) (place_of_refusal r)
