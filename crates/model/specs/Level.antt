-- A level and its manager: what waits, runs and has ended there, and the versions written. Assumes nothing.
-- Laws, in `theorems`: two forks with different stamps leave the same level, whichever arrives first (`Laws/Steps/Arrivals`); write stamps of a
-- level rise (`Laws/Invariant/WriteStamps`, `State`), and its versions, newest first, never rise in theirs (`Versions`).
use Rattle.std.specs.Prelude.{ℕ, ◌+◌, ◌-◌, Bool, true, false, not, cond, ◌&&◌, ◌||◌, List, [], ◌∷◌, eqb, leb, length, take}
use Rattle.session.specs.Value.{Value}
use Rattle.scripts.specs.Ending.{is_running}
use Rattle.scripts.specs.Effect.{Written}
use Rattle.scripts.specs.State.{Manager}
use Rattle.model.specs.Limits.{max_managers}
use Rattle.lists.specs.Changed.{inserted}
use Rattle.model.specs.Fork.{Fork}
use Rattle.model.specs.History.{History, history_of}

-- "Versions written carry it": a value of a field, or of existence, under a write stamp
pub record Version : Type 0 where
  pub stamp : ℕ
  pub object : ℕ
  pub field : ℕ
  pub value : Value

-- what is written under a write stamp
abbrev pub version_of : ℕ → Written → Version
version_of stamp w = record { stamp = stamp; object = w.object; field = w.field; value = w.value }

-- the manager that runs at a level, with its fork, if one does
pub data Activity : Type 0 where
  idle : Activity
  busy : Fork → Manager → Activity

-- a level
pub record Level : Type 0 where
  -- the forks that wait, by rising stamp
  pub waiting : List Fork
  pub activity : Activity
  -- the histories of ended managers, by rising stamp
  pub ended : List History
  -- the write stamp of the next manager
  pub next : ℕ
  -- the versions written, newest first
  pub versions : List Version

-- "A level's write stamp starts at 1"
abbrev pub new_level : Level
new_level = record { waiting = []; activity = idle; ended = []; next = 1; versions = [] }

abbrev pub is_busy : Activity → Bool
is_busy idle = false
is_busy (busy x m) = true

abbrev pub is_empty : List Fork → Bool
is_empty [] = true
is_empty (x ∷ xs) = false

-- "a manager that hasn't ended": it runs or waits
abbrev pub has_manager : Level → Bool
has_manager v = is_busy v.activity || not (is_empty v.waiting)

-- the forks of the managers that have not ended, that of the running one first: the first is that of the manager about to step
abbrev pub forks_by : Activity → List Fork → List Fork
forks_by idle ws = ws
forks_by (busy x m) ws = x ∷ ws

abbrev pub forks_of : Level → List Fork
forks_of v = forks_by v.activity v.waiting

-- the managers that started at a level
abbrev pub started_count : Level → ℕ
started_count v = length v.ended + cond (is_busy v.activity) 1 0

-- "A level keeps the 32 forks of smallest stamp; others are dropped": a fork arrives. Those that started count
unfoldable pub arrived : Fork → Level → Level
arrived x v =
    record {
      waiting = take (max_managers - started_count v) (inserted (λ y. y.stamp) x v.waiting);
      activity = v.activity;
      ended = v.ended;
      next = v.next;
      versions = v.versions;
    }

-- the level after a step of the manager of fork x: it runs on, or has ended. "A level's next manager starts one above the last one's end
-- stamp"
unfoldable pub after : Level → List Fork → List Version → Fork → Manager → Level
after v waiting versions x m =
    cond (is_running m.ending)
    (record { waiting = waiting; activity = busy x m; ended = v.ended; next = v.next; versions = versions })
    (record {
      waiting = waiting;
      activity = idle;
      ended = inserted (λ h. h.stamp) (history_of x m) v.ended;
      next = m.stamp + 1;
      versions = versions;
    })

-- is it a version of this field of this object
abbrev pub is_of : ℕ → ℕ → Version → Bool
is_of object k w = eqb w.object object && eqb w.field k

-- "the newest version"; "Initial fields are version 0"
unfoldable pub newest : Value → ℕ → ℕ → List Version → Value
newest initial object k [] = initial
newest initial object k (w ∷ ws) = cond (is_of object k w) w.value (newest initial object k ws)

-- "the newest version not above v"
unfoldable pub newest_to : ℕ → Value → ℕ → ℕ → List Version → Value
newest_to v initial object k [] = initial
newest_to v initial object k (w ∷ ws) =
    cond (is_of object k w && leb w.stamp v) w.value (newest_to v initial object k ws)
