-- The depth-first run. Assumes nothing.
-- Laws, in `theorems`: the depth-first run is a list of safe scheduler steps (`Laws/Deep/DeepRun`: `runs_forks`), so every list that finishes has
-- its fields, histories and reply (`Root`: `same_result`). The run step by step: `Laws/Code/DepthFirst`.
use Rattle.std.specs.Prelude.{ℕ, zero, suc, ◌+◌, cond, ◌&&◌, List, [], ◌∷◌, ◌++◌, eqb, ltb, length, get_or, replicate}
use Rattle.session.specs.Program.{Program}
use Rattle.session.specs.Value.{Value}
use Rattle.session.specs.declared.Message.{Message}
use Rattle.scripts.specs.Existence.{initially}
use Rattle.scripts.specs.Limits.{max_script_steps}
use Rattle.scripts.specs.Ending.{is_running}
use Rattle.scripts.specs.Manager.{started, stepped}
use Rattle.scripts.specs.State.{Manager}
use Rattle.scripts.specs.Effect.{Written, Effect, Nothing, Write, Fork}
use Rattle.model.specs.Limits.{max_managers}
use Rattle.lists.specs.Changed.{inserted, modify}
use Rattle.model.specs.Fork as fork
use Rattle.model.specs.History.{History, history_of}

-- what is counted at a level: the histories, by rising stamp, and the write stamp of the next manager
pub record Tally : Type 0 where
  pub ended : List History
  pub next : ℕ

-- what is written, newest first, and each level's counts
pub record Progress : Type 0 where
  pub written : List Written
  pub levels : List Tally

abbrev pub new_tally : Tally
new_tally = record { ended = []; next = 1 }

abbrev pub tally_at : Progress → ℕ → Tally
tally_at g l = get_or g.levels l new_tally

-- "Fields are simply current"
unfoldable pub current : Value → ℕ → ℕ → List Written → Value
current initial object k [] = initial
current initial object k (w ∷ ws) =
    cond (eqb w.object object && eqb w.field k) w.value (current initial object k ws)

abbrev pub field_now : Program → Progress → ℕ → ℕ → Value
field_now p g object k = current (initially p object k) object k g.written

-- a manager of fork x has ended at level l
unfoldable pub close : ℕ → fork.Fork → Manager → Progress → Progress
close l x m g =
    record {
      written = g.written;
      levels = modify l (λ t. record { ended = inserted (λ h. h.stamp) (history_of x m) t.ended; next = m.stamp + 1 }) g.levels;
    }

-- how a fork is run at a level
abbrev pub RunFork : Type 0
RunFork = ℕ → fork.Fork → Progress → Progress

-- what a script step of manager m, of fork x at level l, does outside it. "a fork that is made and kept runs whole, forks included, before
-- its sender continues"; "A level keeps the 32 forks of smallest stamp": here, the first ones
unfoldable pub effected : RunFork → ℕ → fork.Fork → Manager → Effect → Progress → Progress
effected run l x m Nothing g = g
effected run l x m (Write written) g = record { written = written ++ g.written; levels = g.levels }
effected run l x m (Fork u message) g =
    let ran = run u (fork.child_of l x m message) g in
    cond (ltb (length (tally_at g u).ended) max_managers) ran g

-- a manager's script steps to its end, at most so many
unfoldable pub finish : RunFork → ℕ → Program → ℕ → fork.Fork → Manager → Progress → Progress
finish run zero p l x m g = close l x m g
finish run (suc k) p l x m g =
    let s = stepped p (field_now p g) m in
    let rest = finish run k p l x s.manager (effected run l x m s.effect g) in
    cond (is_running m.ending) rest (close l x m g)

-- "A send upward runs the new manager, which sends upward in turn": a fork at level l, with so many levels left from l upward
unfoldable pub run_fork : ℕ → Program → RunFork
run_fork zero p l x g = g
run_fork (suc left) p l x g =
    finish (run_fork left p) max_script_steps p l x (started p (field_now p g) l (tally_at g l).next x.message) g

-- the run of the root message
unfoldable pub depth_first : Program → Message → Progress
depth_first p root =
    run_fork p.levels p (p.level root.object) (fork.root_fork p.levels root) (record {
      written = [];
      levels = replicate p.levels new_tally;
    })
