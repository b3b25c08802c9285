-- Questions 12 to 15, as the code puts them of what is counted. No meaning rests on these. Assumes nothing.
use Rattle.std.specs.Prelude.{ℕ, ◌+◌, ◌≤◌, ◌<◌, ◌≡◌, Bool, true, not, cond, ◌&&◌, ◌||◌, List, ltb, length, get_or}
use Rattle.lists.specs.Range.{all, implies}
use Rattle.dominance.specs.Order.{strictly}
use Rattle.dominance.specs.Table.{dominates}
use Rattle.session.specs.Limits.{max_levels}
use Rattle.model.specs.Limits.{max_managers, stamp_digits}
use Rattle.model.specs.Fork.{Fork}
use Rattle.model.specs.Schedule.{holds_back}
use Rattle.queues.specs.Queue.{queue_words, fork_at}
use Rattle.tallies.specs.Places.{tally_numbers, busy_in, managed}
use Rattle.permits.specs.declared.Permit.{Permit}
use Rattle.permits.specs.declared.Permit.TheVariants.{Given, Absent, Idle, Blocked}

-- document 01's number of what questions 12 to 14 say of a step
abbrev pub number_of_permit : Permit → ℕ
number_of_permit Given = 0
number_of_permit Absent = 12
number_of_permit Idle = 13
number_of_permit Blocked = 14

-- level l has a manager, and none is left at a level that it strictly dominates: the conservative rule
abbrev pub lowest_of : List ℕ → List ℕ → ℕ → Bool
lowest_of masks tallies l =
    managed tallies l && all (length masks) (λ j. implies (strictly (dominates masks) l j) (not (managed tallies j)))

-- the fork of the first manager of level j that has not ended
abbrev pub first_at : List ℕ → List ℕ → List ℕ → ℕ → Fork
first_at masks tallies queue j = fork_at (length masks) queue j (get_or tallies j 0)

-- 14, asked of the first manager of each level that has one; level l has one
abbrev pub free_of : List ℕ → List ℕ → List ℕ → ℕ → Bool
free_of masks tallies queue l =
    all (length masks) (λ j.
    implies (dominates masks l j && managed tallies j) (not (holds_back (first_at masks tallies queue j) (first_at masks tallies queue l).stamp)))

-- 15
abbrev pub ended_of : List ℕ → List ℕ → Bool
ended_of masks tallies = all (length masks) (λ j. not (managed tallies j))

-- what questions 12 to 14 say. Where a manager runs 14 says yes
abbrev pub permit_of : List ℕ → List ℕ → List ℕ → ℕ → Permit
permit_of masks tallies queue l =
    cond (ltb l (length masks)) (cond (managed tallies l) (cond (busy_in tallies l || free_of masks tallies queue l) Given Blocked) Idle) Absent

-- there are numbers for each level of a table
pub record Countable (masks tallies : List ℕ) : Type 0 where
  pub few : length masks ≤ max_levels
  pub room : tally_numbers ≤ length tallies

-- and words for the first manager of each level that has not ended
pub record Askable (masks tallies queue : List ℕ) : Type 0 where
  pub countable : Countable masks tallies
  pub room : queue_words ≤ length queue
  pub placed : (j : ℕ) → j < length masks → managed tallies j ≡ true → get_or tallies j 0 < max_managers
  pub shallow : (j : ℕ) → j < length masks → managed tallies j ≡ true → (first_at masks tallies queue j).depth ≤ stamp_digits + 1
