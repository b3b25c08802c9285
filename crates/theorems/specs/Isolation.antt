-- Isolation: a list of scheduler steps, and beside it what is left of it in the session emptied for a level c. Assumes nothing.
-- Laws (`proofs/Laws/Reader/Isolation`): every list that finishes is isolated so (`isolated`, `struck_ends`); the struck list goes on to
-- one that finishes, and nothing that c dominates changes (`finished_above`, `same_under_emptied`).
use Rattle.std.specs.Prelude.{ℕ, ◌<◌, ◌≡◌, true, false, List, [], ◌∷◌}
use Rattle.lists.specs.Lists.{select}
use Rattle.session.specs.Program.{Program}
use Rattle.model.specs.Level.{has_manager}
use Rattle.model.specs.Step.{State, level_at, move_at, step_at}
use Rattle.model.specs.Schedule.{step_refusal}

-- two states are the same at every level that c dominates
abbrev pub SameUnder : Program → ℕ → State → State → Type 0
SameUnder p c st st' = (j : ℕ) → j < p.levels → p.dom c j ≡ true → level_at st j ≡ level_at st' j

-- all managers have ended at every level that c dominates
abbrev pub EndedUnder : Program → ℕ → State → Type 0
EndedUnder p c st = (j : ℕ) → j < p.levels → p.dom c j ≡ true → has_manager (level_at st j) ≡ false

-- a list without the steps at levels that c does not dominate
abbrev pub struck : Program → ℕ → List ℕ → List ℕ
struck p c ls = select (p.dom c) ls

-- a step at level l is made in both: it is allowed in the second too, and starts the same manager or makes the same script step
pub record Echoes (p p' : Program) (l : ℕ) (st st' : State) : Type 0 where
  pub allowed : step_refusal p' st' l ≡ 0
  pub move : move_at p' l st' ≡ move_at p l st

-- a list of steps of program p from state st, and beside it the struck list, of program p', from state st'
unfoldable pub Isolated : Program → Program → ℕ → List ℕ → State → State → Type 0
Isolated p p' c [] st st' = SameUnder p c st st' × EndedUnder p c st'
Isolated p p' c (l ∷ ls) st st' =
    SameUnder p c st st'
    × ((p.dom c l ≡ true → Echoes p p' l st st' × Isolated p p' c ls (step_at p l st) (step_at p' l st'))
    × (p.dom c l ≡ false → Isolated p p' c ls (step_at p l st) st'))
