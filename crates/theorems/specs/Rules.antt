-- What holds of the conservative rule of document 001 and of the order of the depth-first run under question 14 as it stands. The proofs are in
-- proofs/Rules.antt. Assumes nothing.
use Rattle.std.specs.Prelude.{ℕ, ◌≡◌, List}
use Rattle.session.specs.Meaning.{root_of}
use Rattle.session.specs.Program.{program_of}
use Rattle.model.specs.Step.{State}
use Rattle.model.specs.Schedule.{read_in, refusal_under, step_refusal, finished, run_under, Leads}
use Rattle.model.specs.Rules.{conservative, depth_first_order}
use Rattle.theorems.specs.Demands.{IsAccepted, EndsIn}

-- Every step that the conservative rule allowed is still allowed, in every state that steps lead to
abbrev pub StillAllowed : Type 0
StillAllowed =
    (s : List ℕ) → IsAccepted s
    → (ls : List ℕ) (st : State) → Leads (program_of s) (read_in (program_of s) (root_of s)) ls st
    → (l : ℕ) → refusal_under conservative (program_of s) st l ≡ 0 → step_refusal (program_of s) st l ≡ 0

-- "Every timetable accepted before is still accepted": a list that finished under it still finishes, in the same state
abbrev pub StillFinishes : Type 0
StillFinishes =
    (s : List ℕ) → IsAccepted s
    → (ls : List ℕ) (t : State)
    → run_under conservative 0 (program_of s) ls (read_in (program_of s) (root_of s)) ≡ finished t
    → EndsIn s ls t

-- The order of the depth-first run is an allowed list of steps, and finishes
abbrev pub DepthFirstOrderFinishes : Type 0
DepthFirstOrderFinishes =
    (s : List ℕ) → IsAccepted s → (t : State) × EndsIn s (depth_first_order (program_of s) (root_of s)) t
