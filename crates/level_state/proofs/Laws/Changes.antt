-- A CREATE or WITHDRAW of the manager that runs at a level: it can be made, and the words then represent the state after the step. Assumes nothing.
use Prim.Native.Nat.{ℕ}
use mathlib.Core.Path.{◌≡◌, refl, sym, ◌∙◌}
use mathlib.Core.Bool.{Bool, false}
use mathlib.Core.List.{List}
use native.Mathlib.Omega.{arith}
use Rattle.session.specs.Program.{program_of}
use Rattle.session.proofs.Laws.Contents.{level_limit, object_limit}
use Rattle.session.proofs.Laws.Numbers.{number_few}
use Rattle.scripts.specs.Existence.{existence}
use Rattle.scripts.specs.Manager.{next_step, stepped}
use Rattle.scripts.specs.State.{Manager}
use Rattle.frames.specs.Frames.{frame_of}
use Rattle.operations.specs.Operations.{change, pause_of}
use Rattle.changes.specs.Changes.{OwnExistence}
use Rattle.managers.specs.Manager.{manager_of}
use Rattle.managers.specs.Steps.{WellFormed}
use Rattle.managers.specs.declared.Manager as code
use Rattle.model.specs.Fork.{Fork}
use Rattle.model.specs.Step.{State, read_at}
use Rattle.level_state.specs.Representation.{Words}
use Rattle.level_state.specs.Steps.{Tables, Busy, Parts, parts_of, EffectDone, SettleReady, CoreSettled, Changing, ChangedBy}
use Rattle.level_state.specs.Script.{Blank, RunsAt}
use Rattle.level_state.proofs.Laws.Ready.{effect_ready, settle_after}
use Rattle.level_state.proofs.Laws.Step.{invariant_live, invariant_advance, rest_effect}
use Rattle.level_state.proofs.Laws.Reads.{read_here}
use Rattle.level_state.proofs.Laws.Seen.{current_scripted}
use Rattle.level_state.proofs.Laws.Pauses.{pause_change}
use Rattle.level_state.proofs.Laws.Script.{level_is, running}
use Rattle.level_state.proofs.Laws.Made.{Advancing, StepRepresented, busy_here, runs_here, done_room, settled_of_lem}

-- n runs at level l
module _ {s masks index : List ℕ} {w : Words} {l : ℕ} {n : code.Manager} (a : Tables s masks index) (b : RunsAt s w l n) where
  -- what it reads of the existence of its level's objects is current
  own_existence : {ms : ℕ → Manager} {st : State} {x : Fork} → Busy s w l ms st x (manager_of n) → OwnExistence s w.current n.core.level (read_at (program_of s) st l x)
  own_existence {x = x} q o number lies =
      read_here q.invariant x o existence (number_few s a.indexed.accepted o number) (omega arith) (lies ∙ level_is a b)

  -- and stands before a CREATE or WITHDRAW: so that can be made
  pub change_ready : (cache : List ℕ) (u : Bool) → WellFormed s n → pause_of s w.current cache false u n.core ≡ change → Changing s masks index w.current w.tallies w.work l n
  change_ready cache u held pause =
      let yes = a.indexed.accepted in
      let read = read_at (program_of s) b.state l b.fork in
      record {
        changeable = record {
          indexed = a.indexed;
          leveled = a.leveled;
          fields_there = b.busy.invariant.represents.roomy.current;
          scripted = current_scripted a.leveled b.busy.invariant b.fork;
          held = held;
          running = running a b;
          next = pause_change s w.current cache u n.core.level n.core.top.object (next_step (program_of s) (frame_of n.core.top)) pause;
        };
        read = read;
        own = own_existence b.busy;
        queue = w.queue;
        forks = (manager_of n).forks;
        ready = effect_ready s yes (level_limit s yes) (object_limit s yes) w b.running b.state b.busy.invariant.represents (invariant_live s yes w b.running b.state b.busy.invariant) l b.busy.present b.fork (manager_of n) b.busy.runs read (stepped (program_of s) read (manager_of n)).effect refl;
      }

  -- what it writes is the effect of its step
  module _ {current' tallies' work' : List ℕ} {r : code.Manager} (made : ChangedBy s w.current current' w.tallies tallies' w.work work' l n r) where
    abbrev pub parts_changed : Parts
    parts_changed = record { current = current'; tallies = tallies'; queue = w.queue; work = work' }

    pub changed_done : EffectDone (parts_of w) parts_changed l (manager_of n).stamp (manager_of n).forks made.effect
    unfolding manager_of
    changed_done = made.done w.queue n.core.forks

    pub changed_is : (ms : ℕ → Manager) (st : State) (x : Fork) → Busy s w l ms st x (manager_of n) → stepped (program_of s) (read_at (program_of s) st l x) (manager_of n) ≡ record { manager = manager_of r; effect = made.effect }
    changed_is ms st x q = sym (made.is (read_at (program_of s) st l x) (own_existence q))

    -- and there is room for its history
    pub changed_settles : SettleReady w.ended w.tallies w.queue l → SettleReady w.ended tallies' w.queue l
    changed_settles room = settle_after (parts_of w) parts_changed w.ended l (manager_of n).stamp (manager_of n).forks made.effect changed_done room

-- a scheduler step that is a CREATE or WITHDRAW: n stands where m does
module _ {s masks index : List ℕ} {w : Words} {l : ℕ} {m n : code.Manager} (v : Advancing s masks index w l m) (stands : manager_of n ≡ manager_of m) where
  pub change_runs : RunsAt s w l n
  change_runs =
      let b = busy_here v in
      record { running = b.running; state = b.state; fork = b.fork; busy = rw stands b.busy }

  module _ {current' tallies' work' : List ℕ} {r : code.Manager} (made : ChangedBy s w.current current' w.tallies tallies' w.work work' l n r) where
    pub change_room : SettleReady w.ended tallies' w.queue l
    change_room = changed_settles v.read change_runs made (done_room v)

    pub change_represented : {ended'' tallies'' cache' : List ℕ} → CoreSettled w.ended ended'' tallies' tallies'' w.queue l r.core → Blank cache' → StepRepresented s l m w (record { current = current'; ended = ended''; tallies = tallies''; queue = w.queue; work = work' }) cache' r
    change_represented {ended''} {tallies''} settled blank =
        let yes = v.read.indexed.accepted in
        record {
          invariant = λ ms st q. let (x, b) = runs_here v ms st q in invariant_advance s yes (level_limit s yes) w ms st q.invariant l b.present q.allowed x (manager_of m) b.runs (record { manager = manager_of r; effect = made.effect }) (is ms st x b) (parts_changed v.read change_runs made) ended'' tallies'' done (settled_of_lem r settled);
          held = made.held;
          blank = blank;
          rest = rest_effect (parts_of w) (parts_changed v.read change_runs made) l (manager_of m).stamp (manager_of m).forks made.effect done;
        }
      where
        is : (ms : ℕ → Manager) (st : State) (x : Fork) → Busy s w l ms st x (manager_of m) → stepped (program_of s) (read_at (program_of s) st l x) (manager_of m) ≡ record { manager = manager_of r; effect = made.effect }
        is ms st x b = rw (sym stands) (changed_is v.read change_runs made ms st x (rw stands b))

        done : EffectDone (parts_of w) (parts_changed v.read change_runs made) l (manager_of m).stamp (manager_of m).forks made.effect
        done = rw (sym stands) (changed_done v.read change_runs made)
