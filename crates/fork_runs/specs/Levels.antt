-- The plain run, level after level. No meaning rests on these. Assumes nothing.
-- Laws, in `plain` (`Laws/Plain`): `Ran`.
use Rattle.std.specs.Prelude.{ℕ, ◌≡◌, false, List, Ok}
use Rattle.session.specs.Program.{program_of}
use Rattle.model.specs.Level.{has_manager}
use Rattle.model.specs.Step.{State, level_at}
use Rattle.model.specs.Schedule.{refusal_under, Leads}
use Rattle.model.specs.Rules.{conservative}
use Rattle.level_state.specs.Representation.{Words}
use Rattle.level_state.specs.Ends.{Quiescent, SameRest, Ends}

-- a level may step by the conservative rule, and no manager runs
abbrev pub LevelReady : List ℕ → Words → ℕ → Type 0
LevelReady s w level = (st : State) × (Quiescent s w st × (refusal_under conservative (program_of s) st level ≡ 0))

-- allowed steps led from state st to one in which the level has no manager
pub record LevelRun (s : List ℕ) (w : Words) (level : ℕ) (st : State) : Type 0 where
  pub state : State
  pub list : List ℕ
  pub leads : Leads (program_of s) st list state
  pub quiescent : Quiescent s w state
  pub no_manager_lem : has_manager (level_at state level) ≡ false

pub record LevelDone (s : List ℕ) (w w' : Words) (level : ℕ) : Type 0 where
  pub ran : (st : State) → Quiescent s w st → refusal_under conservative (program_of s) st level ≡ 0 → LevelRun s w' level st
  pub rest : SameRest w.work w'.work

-- the words represent the state in which some list of scheduler steps of session s finishes
abbrev pub Done : List ℕ → Words → Type 0
Done s w = (ls : List ℕ) × Ends s ls w (Ok tt)
