-- A scheduler step at a level: what the level sees, and what it does. Assumes nothing.
-- Laws, in `theorems`: what a step does depends on what its level sees alone, and a level that does not dominate its level does not see it
-- (`Laws/Steps/Locality`). Every step keeps the invariant (`Laws/Invariant/Preserved`: `step_preserves`). What it comes to, made from
-- the whole program and the whole state: `Laws/Code/Direct`.
use Rattle.std.specs.Prelude.{ℕ, cond, List, [], ◌∷◌, ◌++◌, map, eqb, get_or}
use Rattle.lists.specs.Lists.{tab}
use Rattle.session.specs.Program.{Program, seen_by}
use Rattle.session.specs.Value.{Value}
use Rattle.scripts.specs.Existence.{initially}
use Rattle.scripts.specs.Manager.{started, stepped}
use Rattle.scripts.specs.State.{Manager}
use Rattle.scripts.specs.Effect.{Effect, Nothing, Write, Fork}
use Rattle.lists.specs.Changed.{modify}
use Rattle.model.specs.Fork as fork
use Rattle.model.specs.History.{end_before}
use Rattle.model.specs.Level.{Version, version_of, Activity, idle, busy, Level, new_level, arrived, after, newest, newest_to}

-- all levels, each at its number
abbrev pub State : Type 0
State = List Level

abbrev pub level_at : State → ℕ → Level
level_at st l = get_or st l new_level

-- what level l sees of a state: the levels that it dominates, the others as if nothing had happened there
unfoldable pub view_of : Program → ℕ → State → State
view_of p l st = tab p.levels (λ j. cond (p.dom l j) (level_at st j) new_level)

-- "A read below m takes the newest version not above v: for an ancestor's level, the stamp at that ancestor's fork; otherwise the end
-- stamp of the largest smaller fork stamp there, or 0": v for the manager of fork x
abbrev pub read_bound : fork.Fork → State → ℕ → ℕ
read_bound x st j =
    let carried = get_or x.carried j 0 in
    cond (eqb carried 0) (end_before x.stamp (level_at st j).ended) carried

-- "A read at m takes the newest version." What a manager at level l, of fork x, reads
unfoldable pub read_at : Program → State → ℕ → fork.Fork → ℕ → ℕ → Value
read_at p st l x object k =
    let j = p.level object in
    let written = (level_at st j).versions in
    let below = newest_to (read_bound x st j) (initially p object k) object k written in
    cond (eqb j l) (newest (initially p object k) object k written) below

-- a fork on its way, at most one
pub data Arrival : Type 0 where
  none : Arrival
  at : ℕ → fork.Fork → Arrival

-- what a step does: its own level, and a fork that it makes
pub record Moved : Type 0 where
  pub own : Level
  pub arrival : Arrival

-- what a manager's effect adds to the versions of its level: "Versions written carry it", the write stamp; "a later write of a field under
-- one stamp replacing the earlier", since it is found first
abbrev pub versions_after : Manager → Effect → List Version → List Version
versions_after m Nothing ws = ws
versions_after m (Write written) ws = map (version_of m.stamp) written ++ ws
versions_after m (Fork u message) ws = ws

-- the fork that it makes
abbrev pub arrival_of : ℕ → fork.Fork → Manager → Effect → Arrival
arrival_of l x m Nothing = none
arrival_of l x m (Write written) = none
arrival_of l x m (Fork u message) = at u (fork.child_of l x m message)

-- "makes one script step of the running one"
unfoldable pub advanced : Program → State → ℕ → Level → fork.Fork → Manager → Moved
advanced p st l v x m =
    let s = stepped p (read_at p st l x) m in
    record {
      own = after v v.waiting (versions_after m s.effect v.versions) x s.manager;
      arrival = arrival_of l x m s.effect;
    }

-- "starts the waiting one of smallest fork stamp"
unfoldable pub begun : Program → State → ℕ → Level → List fork.Fork → Moved
begun p st l v [] = record { own = v; arrival = none }
begun p st l v (x ∷ xs) =
    record { own = after v xs v.versions x (started p (read_at p st l x) l v.next x.message); arrival = none }

-- "A scheduler step, with no manager running at the level, starts ..; otherwise it makes one script step"
unfoldable pub moved : Program → State → ℕ → Level → Activity → Moved
moved p st l v idle = begun p st l v v.waiting
moved p st l v (busy x m) = advanced p st l v x m

-- a fork comes to its level
unfoldable pub delivered : Arrival → State → State
delivered none st = st
delivered (at u x) st = modify u (arrived x) st

-- what a scheduler step at level l does, made from what l sees alone
unfoldable pub move_at : Program → ℕ → State → Moved
move_at p l st =
    let view = view_of p l st in
    let v = level_at view l in
    moved (seen_by l p) view l v v.activity

-- it is done: the step's own level changes, and one strictly above may get a fork
abbrev pub applied : ℕ → Moved → State → State
applied l done st = delivered done.arrival (modify l (λ _. done.own) st)

-- a scheduler step at level l
unfoldable pub step_at : Program → ℕ → State → State
step_at p l st = applied l (move_at p l st) st
