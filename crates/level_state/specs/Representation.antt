-- What the words of a run represent. No meaning rests on these. Assumes nothing.
-- Laws (`proofs/Laws/Representation`): a change of the words of one level alone (`represents_change`).
use Rattle.std.specs.Prelude.{ℕ, ◌≤◌, ◌<◌, ◌≡◌, cond, List, eqb, length, get_or}
use Rattle.session.specs.Limits.{max_levels, max_numbers, fields}
use Rattle.session.specs.Parts.{level_count}
use Rattle.session.specs.Meaning.{root_of}
use Rattle.session.specs.Program.{program_of}
use Rattle.scripts.specs.Existence.{existence, initially}
use Rattle.scripts.specs.State.{Manager}
use Rattle.scripts.specs.Valid.{Each}
use Rattle.fields.specs.Limits.{field_words}
use Rattle.fields.specs.Fields.{field_at}
use Rattle.model.specs.Limits.{max_managers, work_numbers}
use Rattle.model.specs.Level.{Version, Activity, idle, busy, Level, started_count, newest}
use Rattle.model.specs.Step.{State, level_at}
use Rattle.model.specs.Schedule.{read_in, Leads}
use Rattle.histories.specs.Limits.{history_words}
use Rattle.histories.specs.Histories.{histories_at, InOrder}
use Rattle.tallies.specs.Places.{next_place, waiting_place, versions_place, busy_place, changes_place, all_changes_place, tally_numbers}
use Rattle.queues.specs.Queue.{queue_words, fork_at, forks_at, ForksRise}
use Rattle.versions.specs.Log.{log_start, log_of}
use Rattle.level_state.specs.declared.RunState.{RunState}

-- a run's words: the newest fields and existence of objects, the histories, what is counted of each level, the forks, and the versions
pub record Words : Type 0 where
  pub current : List ℕ
  pub ended : List ℕ
  pub tallies : List ℕ
  pub queue : List ℕ
  pub work : List ℕ

-- those of a run's state, and of the work slice that it is lent
abbrev pub words_of : RunState → List ℕ → Words
words_of x work = record { current = x.current; ended = x.ended; tallies = x.tallies; queue = x.queue; work = work }

-- whether a manager runs at level l: m, and its fork is the one behind those that have ended
abbrev pub Runs : ℕ → Words → ℕ → Manager → ℕ → Activity → Type 0
Runs n w l m i idle = get_or w.tallies (busy_place l) 0 ≡ 0
Runs n w l m i (busy x m') = (get_or w.tallies (busy_place l) 0 ≡ 1) × ((m ≡ m') × (fork_at n w.queue l i ≡ x))

-- a version of a field, and not of existence
abbrev pub OfField : Version → Type 0
OfField w = w.field < fields

-- the words of level l, one of n, represent v, with m for the manager that runs there
pub record LevelRepresents (n : ℕ) (w : Words) (l : ℕ) (m : Manager) (v : Level) : Type 0 where
  pub ended_count : get_or w.tallies l 0 ≡ length v.ended
  pub ended : histories_at w.ended l (length v.ended) ≡ v.ended
  pub ended_rises : InOrder v.ended
  pub next : get_or w.tallies (next_place l) 0 ≡ v.next
  pub waiting_count : get_or w.tallies (waiting_place l) 0 ≡ length v.waiting
  pub waiting : forks_at n w.queue l (started_count v) (length v.waiting) ≡ v.waiting
  pub waiting_rises : ForksRise w.queue l (started_count v) (length v.waiting)
  pub version_count : get_or w.tallies (versions_place l) 0 ≡ length v.versions
  pub versions : log_of w.work (log_start l) (length v.versions) ≡ v.versions
  pub activity : Runs n w l m (length v.ended) v.activity
  -- as long as no existence was written at the level, or at any, its versions are of fields
  pub unchanged_own : get_or w.tallies (changes_place l) 0 ≡ 0 → Each OfField v.versions
  pub unchanged_any : get_or w.tallies all_changes_place 0 ≡ 0 → Each OfField v.versions

-- the words have room for every run
pub record Roomy (w : Words) : Type 0 where
  pub current : field_words ≤ length w.current
  pub ended : history_words ≤ length w.ended
  pub tallies : tally_numbers ≤ length w.tallies
  pub queue : queue_words ≤ length w.queue
  pub work : work_numbers ≤ length w.work

-- the words of a run of session s represent the state st, with ms for the managers that run
pub record Represents (s : List ℕ) (w : Words) (ms : ℕ → Manager) (st : State) : Type 0 where
  pub roomy : Roomy w
  pub counts_few : (l : ℕ) → l < max_levels → get_or w.tallies l 0 ≤ max_managers
  pub levels : length st ≡ level_count s
  pub field : (o k : ℕ) → o < max_numbers → k ≤ existence → field_at w.current o k ≡ newest (initially (program_of s) o k) o k (level_at st ((program_of s).level o)).versions
  pub level : (l : ℕ) → l < level_count s → LevelRepresents (level_count s) w l (ms l) (level_at st l)

-- some list of allowed steps leads to the state st from the session as read in
abbrev pub Reached : List ℕ → State → Type 0
Reached s st = (ls : List ℕ) × Leads (program_of s) (read_in (program_of s) (root_of s)) ls st

-- the words represent a state that a run reaches
pub record RunInvariant (s : List ℕ) (w : Words) (ms : ℕ → Manager) (st : State) : Type 0 where
  pub represents : Represents s w ms st
  pub reached : Reached s st

-- managers of which the one of level l became r
abbrev pub placed : ℕ → Manager → (ℕ → Manager) → ℕ → Manager
placed l r ms k = cond (eqb k l) r (ms k)
