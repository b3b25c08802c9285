-- The conservative rule of document 001, by which question 14 was put before request 1, and the order of the depth-first run. Assumes nothing.
-- Laws, in `theorems`: what holds of the two under question 14 as it stands (`Rules`).
use Rattle.std.specs.Prelude.{ℕ, Bool, false, not, List, [], ◌∷◌, leb}
use Rattle.lists.specs.Range.{all, first, implies}
use Rattle.dominance.specs.Order.{strictly}
use Rattle.lists.specs.Lists.{every}
use Rattle.session.specs.Program.{Program}
use Rattle.session.specs.declared.Message.{Message}
use Rattle.model.specs.Limits.{max_schedule}
use Rattle.model.specs.Fork.{Fork}
use Rattle.model.specs.Level.{has_manager, forks_of}
use Rattle.model.specs.Step.{State, level_at}
use Rattle.model.specs.Schedule.{read_in, Rule, chosen_from}

-- "Have all managers ended at levels it strictly dominates?" (document 01, question 14)
unfoldable pub conservative : Rule
conservative p st l = all p.levels (λ j. implies (strictly p.dom l j) (not (has_manager (level_at st j))))

-- the first of these forks has the largest stamp of all that have not ended
abbrev pub is_largest : Program → State → List Fork → Bool
is_largest p st [] = false
is_largest p st (x ∷ xs) = all p.levels (λ j. every (λ y. leb y.stamp x.stamp) (forks_of (level_at st j)))

-- the level of the manager about to step that has it, or the number of levels where none is left
unfoldable pub latest : Program → State → ℕ
latest p st = first p.levels (λ l. is_largest p st (forks_of (level_at st l)))

-- the order of the depth-first run: "a fork that is made and kept runs whole, forks included, before its sender continues", so each scheduler
-- step is made by the manager of largest stamp that has not ended
unfoldable pub depth_first_order : Program → Message → List ℕ
depth_first_order p root = chosen_from latest max_schedule p (read_in p root)
