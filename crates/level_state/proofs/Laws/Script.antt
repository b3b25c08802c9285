-- A script step of the manager that runs at a level is the definition's, and what it asks for can be told. Assumes nothing.
use Prim.Native.Nat.{ℕ, ◌≤◌}
use mathlib.Core.Path.{◌≡◌, sym}
use mathlib.Core.Bool.{Bool, true, false}
use mathlib.Core.List.{List}
use native.Mathlib.Omega.{arith}
use lib.ListN.{length}
use Rattle.session.specs.Parts.{level_count}
use Rattle.session.specs.Program.{program_of}
use Rattle.session.specs.Questions.{verdict_of, Accepted}
use Rattle.session.proofs.Laws.Contents.{level_limit, object_limit}
use Rattle.session.proofs.Laws.Numbers.{number_few}
use Rattle.scripts.specs.Ending.{is_running}
use Rattle.scripts.specs.State.{Manager}
use Rattle.scripts.specs.Valid.{Valid}
use Rattle.fields.specs.Limits.{field_words}
use Rattle.fields.specs.Fields.{FieldThere}
use Rattle.fields.specs.Reads.{Small, Agrees}
use Rattle.fields.proofs.Laws.Reads.{scripted_small}
use Rattle.cores.specs.Core.{is_asking}
use Rattle.cores.specs.declared.Effect.{Effect}
use Rattle.cores.specs.declared.Effect.TheVariants as act
use Rattle.managers.specs.Manager.{manager_of}
use Rattle.managers.specs.Steps.{WellFormed, Advanceable}
use Rattle.managers.specs.Steps as managers
use Rattle.managers.specs.declared.Manager as code
use Rattle.model.specs.Fork.{Fork}
use Rattle.model.specs.Step.{State, level_at, read_at}
use Rattle.theorems.proofs.Laws.Code.Needs.{live-runs}
use Rattle.level_state.specs.Representation.{Words}
use Rattle.level_state.specs.Steps.{Tables, Busy, running_fork, Readable, ReadReady}
use Rattle.level_state.specs.Script.{Blank, RunsAt, StepIs}
use Rattle.level_state.proofs.Laws.Ready.{represents_fork, busy_settles}
use Rattle.level_state.proofs.Laws.Step.{invariant_live}
use Rattle.level_state.proofs.Laws.Seen.{Seeing, current_scripted, cache_scripted, agrees}
use Rattle.level_state.proofs.Laws.Asks.{asks, changes, not_asks, Asking, asked}

-- a manager of the code's, if it runs, is as start and its steps leave it; and nothing is kept of what managers have read
pub record Fresh (s cache : List ℕ) (m : code.Manager) : Type 0 where
  pub held : is_running m.core.ending ≡ true → WellFormed s m
  pub blank : Blank cache
  pub there : field_words ≤ length cache

-- there are words for a value that is told
pub field_there : {s cache : List ℕ} {o k : ℕ} → verdict_of s ≡ Accepted → ReadReady s cache o k → FieldThere cache o k
field_there {s} {o = o} a r =
    record { room = r.there; object = number_few s a o r.named.number; field = omega (arith, r.named.field) }

-- an effect that is neither question nor change asks for nothing
pub asks_none : (e : Effect) → ((o k : ℕ) → e ≡ act.Read o k → ⊥) → (e ≡ act.Change → ⊥) → is_asking e ≡ false
asks_none e reads changed = by (asked e)
  where
    by : Asking e → is_asking e ≡ false
    by (asks o k is) = absurd (reads o k is)
    by (changes is) = absurd (changed is)
    by (not_asks q) = q

-- the fork of a manager that runs is the one behind those that have ended
pub busy_fork : {s : List ℕ} {w : Words} {l : ℕ} {ms : ℕ → Manager} {st : State} {x : Fork} {m : Manager} → Busy s w l ms st x m → running_fork (level_count s) w.tallies w.queue l ≡ x
busy_fork {s} {w} {l} {ms} {st} {x} {m} q =
    represents_fork (level_count s) w l (ms l) (level_at st l) (q.invariant.represents.level l q.present) x m q.runs

-- m runs at level l
module _ {s masks index : List ℕ} {w : Words} {l : ℕ} {m : code.Manager} (a : Tables s masks index) (b : RunsAt s w l m) where
  abbrev yes : verdict_of s ≡ Accepted
  yes = a.indexed.accepted

  live : Valid s (manager_of m) × (((manager_of m).level ≡ l) × (is_running (manager_of m).ending ≡ true))
  live =
      live-runs s yes b.state (invariant_live s yes w b.running b.state b.busy.invariant) l b.busy.present b.fork (manager_of m) b.busy.runs

  pub level_is : m.core.level ≡ l
  unfolding manager_of
  level_is = live.1.0

  pub running : is_running m.core.ending ≡ true
  unfolding manager_of
  running = live.1.1

  pub readable : Readable s w l
  readable =
      record {
        managers = b.running;
        state = b.state;
        invariant = b.busy.invariant;
        present = b.busy.present;
        there = (busy_settles s yes (level_limit s yes) (object_limit s yes) w b.running b.state b.busy.invariant.represents (invariant_live s yes w b.running b.state b.busy.invariant) l b.busy.present b.fork (manager_of m) b.busy.runs).there;
      }

  module _ {cache : List ℕ} {u : Bool} (see : Seeing s w l cache u) where
    -- what it can be stepped with
    pub able : WellFormed s m → Advanceable s masks index w.current cache m
    able held =
        record {
          indexed = a.indexed;
          leveled = a.leveled;
          fields_there = b.busy.invariant.represents.roomy.current;
          cache_there = see.there;
          current_scripted = current_scripted a.leveled b.busy.invariant b.fork;
          cache_scripted = cache_scripted a.leveled b.busy.invariant see;
          held = held;
          running = running;
        }

    pub small_current : Small w.current
    small_current = scripted_small s w.current (object_limit s yes) (current_scripted a.leveled b.busy.invariant b.fork)

    pub small_cache : Small cache
    small_cache = scripted_small s cache (object_limit s yes) (cache_scripted a.leveled b.busy.invariant see)

    -- what it sees is what the definition reads
    pub sees : {ms : ℕ → Manager} {st : State} {x : Fork} → Busy s w l ms st x (manager_of m) → Agrees s w.current cache false u m.core.level (read_at (program_of s) st l x)
    sees {st = st} q =
        rw (level_is, sym (busy_fork q)) (agrees a.leveled q.invariant see)

    -- a step that asks for nothing is the definition's
    pub step_is : {n : code.Manager} → managers.Stepped s w.current cache false u m n → is_asking n.core.effect ≡ false → StepIs s w l m n
    step_is d internal ms st x q = sym (d.is internal (read_at (program_of s) st l x) (sees q))
