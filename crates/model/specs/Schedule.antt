-- Lists of scheduler steps: questions 12 to 15, the timetabled run (document 01: timetable) and the plain order. Assumes nothing.
-- Laws, in `theorems`: questions 12 to 14 say yes exactly where `MayStep` holds (`Laws/Steps/May`: `may_step`, `step_may`), and such a step is safe
-- (`Laws/Safe/Asked`: `may_safe`). All lists that finish end in the same state (`Laws/Order/Accepted`: `any_order`); the plain
-- order finishes (`Plain`: `plain_finishes`). A run of a list, step by step, and what the code relies on: `Laws/Code/Progress`.
use Rattle.std.specs.Prelude.{ℕ, zero, suc, ◌≡◌, Bool, true, not, cond, ◌&&◌, List, [], ◌∷◌, eqb, ltb, replicate}
use Rattle.lists.specs.Range.{all, first, implies}
use Rattle.lists.specs.Lists.{every}
use Rattle.session.specs.Meaning.{root_of}
use Rattle.session.specs.Program.{Program, program_of}
use Rattle.session.specs.declared.Message.{Message}
use Rattle.model.specs.Limits.{max_schedule}
use Rattle.lists.specs.Changed.{modify}
use Rattle.model.specs.Fork.{Fork, root_fork, is_ancestor}
use Rattle.model.specs.Level.{new_level, has_manager, forks_of, arrived}
use Rattle.model.specs.Step.{State, level_at, step_at}

-- "The first starts from the session as read in, the root's manager waiting and no other there"; "The root manager runs at its object's
-- level"
unfoldable pub read_in : Program → Message → State
read_in p root =
    modify (p.level root.object) (arrived (root_fork p.levels root)) (replicate p.levels new_level)

-- of a session
abbrev pub initial_state : List ℕ → State
initial_state s = read_in (program_of s) (root_of s)

-- 12. is it a present level?
abbrev pub question12 : Program → ℕ → Bool
question12 p l = ltb l p.levels

-- 13. Has that level a manager that hasn't ended?
abbrev pub question13 : State → ℕ → Bool
question13 st l = has_manager (level_at st l)

-- y's manager holds back the one about to step, of this fork stamp: it has "a smaller fork stamp" and is not one of "its ancestors"
abbrev pub holds_back : Fork → ℕ → Bool
holds_back y stamp = ltb y.stamp stamp && not (is_ancestor y stamp)

-- no manager holds it back that has not ended and sits "at the named level or one it dominates"
unfoldable pub is_free : Program → State → ℕ → ℕ → Bool
is_free p st l stamp =
    all p.levels (λ j. implies (p.dom l j) (every (λ y. not (holds_back y stamp)) (forks_of (level_at st j))))

-- of the forks of a level the first is that of the manager about to step
abbrev pub first_free : Program → State → ℕ → List Fork → Bool
first_free p st l [] = true
first_free p st l (x ∷ xs) = is_free p st l x.stamp

-- 14. "have all managers ended that sit at the named level or one it dominates, have a smaller fork stamp than the manager about to step, and
-- are not its ancestors?" (document 02, job 1)
unfoldable pub question14 : Program → State → ℕ → Bool
question14 p st l = first_free p st l (forks_of (level_at st l))

-- 15. have all managers ended?
unfoldable pub question15 : Program → State → Bool
question15 p st = all p.levels (λ j. not (has_manager (level_at st j)))

-- a rule for the order of steps, in the place of question 14
abbrev pub Rule : Type 0
Rule = Program → State → ℕ → Bool

-- the lowest of questions 12 to 14 that says no of a step at level l, or 0; under a rule
unfoldable pub refusal_under : Rule → Program → State → ℕ → ℕ
refusal_under rule p st l = cond (question12 p l) (cond (question13 st l) (cond (rule p st l) 0 14) 13) 12

abbrev pub step_refusal : Program → State → ℕ → ℕ
step_refusal = refusal_under question14

-- how a list of scheduler steps ends: in a state with all managers ended, or with a number and a place
pub data Outcome : Type 0 where
  finished : State → Outcome
  refused : ℕ → ℕ → Outcome

-- "12 to 14 are put of one timetable byte, its step is made, then the next byte follows"; "for 12 to 14 the timetable position from 0,
-- otherwise 0"; "At the timetable's end: have all managers ended?" From position i on
unfoldable pub run_under : Rule → ℕ → Program → List ℕ → State → Outcome
run_under rule i p [] st = cond (question15 p st) (finished st) (refused 15 0)
run_under rule i p (l ∷ ls) st =
    let number = refusal_under rule p st l in
    let rest = run_under rule (suc i) p ls (step_at p l st) in
    cond (eqb number 0) rest (refused number i)

abbrev pub run_from : ℕ → Program → List ℕ → State → Outcome
run_from = run_under question14

-- a whole list of scheduler steps from the session as read in
unfoldable pub run_of : Program → Message → List ℕ → Outcome
run_of p root ls = run_from 0 p ls (read_in p root)

-- "the lowest-numbered level that may step", or the number of levels where none may
unfoldable pub lowest : Program → State → ℕ
lowest p st = first p.levels (λ l. eqb (step_refusal p st l) 0)

-- a list of at most so many steps, each at the level that a choice gives, as long as it gives a present one
unfoldable pub chosen_from : (Program → State → ℕ) → ℕ → Program → State → List ℕ
chosen_from choice zero p st = []
chosen_from choice (suc k) p st =
    let l = choice p st in
    let rest = chosen_from choice k p (step_at p l st) in
    cond (ltb l p.levels) (l ∷ rest) []

-- "run it plainly (each scheduler step by the lowest-numbered level that may step)": the order
abbrev pub plain_from : ℕ → Program → State → List ℕ
plain_from = chosen_from lowest

unfoldable pub plain_order : Program → Message → List ℕ
plain_order p root = plain_from max_schedule p (read_in p root)

-- the steps of a list are allowed one after the other from state a, and lead to b
unfoldable pub Leads : Program → State → List ℕ → State → Type 0
Leads p a [] b = a ≡ b
Leads p a (l ∷ ls) b = (step_refusal p a l ≡ 0) × Leads p (step_at p l a) ls b
