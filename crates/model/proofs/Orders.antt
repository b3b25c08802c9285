-- Question 14, computed: which orders of steps it allows, told from wrong readings of it; and the order of the depth-first run. Assumes nothing.
use Prim.Native.Nat.{ℕ}
use mathlib.Core.Path.{◌≡◌, refl}
use mathlib.Core.Bool.{Bool, true, false}
use mathlib.Core.List.{List, [], ◌∷◌, ◌++◌}
use lib.ListN.{replicate}
use Rattle.session.specs.Meaning.{root_of}
use Rattle.session.specs.Program.{Program, program_of}
use Rattle.session.specs.SessionW.{session_w}
use Rattle.session.specs.declared.Step.TheVariants.{Set, Send}
use Rattle.model.specs.Schedule.{Outcome, finished, refused, run_under, run_of, read_in}
use Rattle.model.specs.Rules.{conservative, latest, depth_first_order}
use Rattle.model.proofs.Computing.{computing, each_level, message}

-- Levels in a chain, an object at each. The root, at 0, sends to 2, to 1 and to 2 again; those at 1 and 2 make one step each
abbrev between : Program
between =
    each_level (0x01 ∷ 0x03 ∷ 0x07 ∷ []) (((Send 1 0 2 ∷ Send 1 0 1 ∷ Send 1 0 2 ∷ []) ∷ []) ∷ ((Set 0 1 ∷ []) ∷ []) ∷ ((Set 0 1 ∷ []) ∷ []) ∷ [])

-- The same levels. The root sends to 1, which sends to 2 and makes a step more
abbrev nested : Program
nested =
    each_level (0x01 ∷ 0x03 ∷ 0x07 ∷ []) (((Send 1 0 1 ∷ Set 0 1 ∷ []) ∷ []) ∷ ((Send 1 0 2 ∷ Set 0 1 ∷ []) ∷ []) ∷ ((Set 0 1 ∷ []) ∷ []) ∷ [])

-- Levels 3 over 1 and 2, these over 0. The root sends to 1, to 2 and to 3; each of these makes one step
abbrev fork : Program
fork =
    each_level
    (0x01 ∷ 0x03 ∷ 0x05 ∷ 0x0F ∷ [])
    (((Send 1 0 1 ∷ Send 1 0 2 ∷ Send 1 0 3 ∷ []) ∷ []) ∷ ((Set 0 1 ∷ []) ∷ []) ∷ ((Set 0 1 ∷ []) ∷ []) ∷ ((Set 0 1 ∷ []) ∷ []) ∷ [])

abbrev ran : Program → List ℕ → Outcome
ran p = run_of p (message 0)

-- it finishes
abbrev ends : Outcome → Bool
ends (finished st) = true
ends (refused number place) = false

-- the list of steps under the conservative rule
abbrev ran_before : Program → List ℕ → Outcome
ran_before p ls = run_under conservative 0 p ls (read_in p (message 0))

pub record Orders : Type 0 where
  -- an ancestor that runs does not hold back, nor one two forks below: level 2 runs whole while 1 and 0 run
  lineage_runs : ends (ran nested (0 ∷ 0 ∷ 1 ∷ 1 ∷ 2 ∷ 2 ∷ 1 ∷ 0 ∷ [])) ≡ true
  lineage_before : ran_before nested (0 ∷ 0 ∷ 1 ∷ 1 ∷ 2 ∷ 2 ∷ 1 ∷ 0 ∷ []) ≡ refused 14 2
  -- the manager about to step is the waiting one of smallest stamp: child 1 is free, child 3 must wait for child 2
  first_waits : ran between (0 ∷ 0 ∷ 0 ∷ 0 ∷ 2 ∷ []) ≡ refused 15 0
  second_held : ran between (0 ∷ 0 ∷ 0 ∷ 0 ∷ 2 ∷ 2 ∷ 2 ∷ []) ≡ refused 14 6
  -- child 2 waits still, has started, has ended
  held_started : ran between (0 ∷ 0 ∷ 0 ∷ 0 ∷ 2 ∷ 2 ∷ 1 ∷ 2 ∷ []) ≡ refused 14 7
  freed : ends (ran between (0 ∷ 0 ∷ 0 ∷ 0 ∷ 2 ∷ 2 ∷ 1 ∷ 1 ∷ 2 ∷ 2 ∷ [])) ≡ true
  -- a smaller stamp at a level that is not dominated does not hold back: 2 before 1, but 3 after both
  beside_first : ends (ran fork (0 ∷ 0 ∷ 0 ∷ 2 ∷ 2 ∷ 0 ∷ 1 ∷ 1 ∷ 3 ∷ 3 ∷ [])) ≡ true
  above_held : ran fork (0 ∷ 0 ∷ 0 ∷ 0 ∷ 2 ∷ 2 ∷ 3 ∷ []) ≡ refused 14 6
  -- the order of the depth-first run
  depth_first_W : depth_first_order (program_of session_w) (root_of session_w) ≡ replicate 3 0 ++ replicate 6 1 ++ replicate 3 0
  depth_first_between : depth_first_order between (message 0) ≡ 0 ∷ 0 ∷ 2 ∷ 2 ∷ 0 ∷ 1 ∷ 1 ∷ 0 ∷ 2 ∷ 2 ∷ []
  depth_first_nested : depth_first_order nested (message 0) ≡ 0 ∷ 0 ∷ 1 ∷ 1 ∷ 2 ∷ 2 ∷ 1 ∷ 0 ∷ []

pub orders : Orders
unfolding computing conservative latest depth_first_order
orders =
    record {
      lineage_runs = refl;
      lineage_before = refl;
      first_waits = refl;
      second_held = refl;
      held_started = refl;
      freed = refl;
      beside_first = refl;
      above_held = refl;
      depth_first_W = refl;
      depth_first_between = refl;
      depth_first_nested = refl;
    }
