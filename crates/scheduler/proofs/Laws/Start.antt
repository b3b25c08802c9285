-- The words of a run once its session is read in: nothing has started, ended or been written, and the root's fork waits. Assumes nothing.
use Prim.Native.Nat.{ℕ, ◌+◌, ◌≤◌, ◌<◌}
use mathlib.Core.Path.{◌≡◌, refl, sym, ◌∙◌, ap, ap₂}
use mathlib.Core.List.{List, []}
use native.Mathlib.Decide.{dec_lt}
use native.Mathlib.Omega.{arith}
use lib.ListN.{get_or, set, replicate, length-replicate, get_or-replicate}
use Rattle.session.specs.Limits.{max_levels, max_numbers}
use Rattle.lists.specs.Lists.{rising_from}
use Rattle.session.specs.Parts.{level_count, object_count}
use Rattle.session.specs.Meaning.{Numbered, level_of, root_object, root_of}
use Rattle.session.specs.Questions.{verdict_of, Accepted}
use Rattle.session.specs.Program.{program_of}
use Rattle.session.specs.declared.Message.{Message}
use Rattle.session.proofs.Laws.Accepted.{level_present, root_present}
use Rattle.session.proofs.Laws.Numbers.{number_own}
use Rattle.scripts.specs.Existence.{existence, initially}
use Rattle.scripts.proofs.Laws.Existence.{first_none}
use Rattle.session.proofs.Laws.Contents.{level_limit}
use Rattle.scripts.specs.State.{Manager}
use Rattle.lists.specs.Changed.{modify}
use Rattle.model.specs.Level.{idle, new_level, arrived, newest}
use Rattle.model.specs.Step.{State, level_at}
use Rattle.model.specs.Schedule.{initial_state, read_in}
use Rattle.theorems.proofs.Laws.Order.Accepted.{sound}
use Rattle.theorems.proofs.Laws.Deep.Root.{each_level}
use Rattle.theorems.proofs.Laws.Code.Progress.{leads_none}
use Rattle.fields.specs.Limits.{object_values, field_words}
use Rattle.fields.specs.Fields.{value_of, field_place, field_at, Filled}
use Rattle.histories.specs.Histories.{InOrder}
use Rattle.histories.proofs.Laws.Histories.{histories_none}
use Rattle.queues.specs.Queue.{fork_of_row, RootRow, Room, Arrived}
use Rattle.queues.proofs.Laws.Queue.{forks_none, rises_none}
use Rattle.versions.specs.Log.{log_start}
use Rattle.versions.proofs.Laws.Log.{log_none}
use Rattle.tallies.specs.Places.{next_place, waiting_place, versions_place, busy_place, start_tallies}
use Rattle.level_state.specs.Representation.{Words, LevelRepresents, Roomy, Represents}
use Rattle.level_state.specs.Ends.{Quiescent}
use Rattle.scheduler.specs.Runs.{Fresh, InitialWords}
use Rattle.tallies.proofs.Laws.First.{first_ended, first_next, first_waiting, first_versions, first_busy}
use Rattle.level_state.proofs.Laws.Representation.{Limited}
use Rattle.level_state.proofs.Laws.Arrive.{represents_arrive}
use Rattle.level_state.proofs.Laws.Advance.{represents_state}

none_rises : InOrder []
unfolding rising_from
none_rises = refl

-- no manager and no version is within all limits
new_limited : Limited new_level
new_limited = record { managers = omega arith; versions = omega arith }

module _ (s : List ℕ) (a : verdict_of s ≡ Accepted) where
  -- the root's object is present, and so is its level
  pub root_there : (m : Message) → m ≡ root_of s → Numbered s m.object
  root_there m e = rw e (number_own s (root_object s) (root_present s a))

  root_level : (m : Message) (level : ℕ) → m ≡ root_of s → level ≡ level_of s m.object → level ≡ level_of s (root_object s)
  root_level m level e i = i ∙ ap (λ m. level_of s m.object) e

  level_there : (level : ℕ) → level ≡ level_of s (root_object s) → level < level_count s
  level_there level e = rw e (level_present s a (root_object s))

  pub level_small : (m : Message) (level : ℕ) → m ≡ root_of s → level ≡ level_of s m.object → level < max_levels
  level_small m level e i = omega (arith, level_there level (root_level m level e i), level_limit s a)

  -- no level has a manager
  abbrev none : State
  none = replicate (level_count s) new_level

  none_at : (l : ℕ) → l < level_count s → level_at none l ≡ new_level
  none_at l h = get_or-replicate (level_count s) l new_level new_level h

  -- then the root's fork arrives
  start_is : (level : ℕ) (row : List ℕ) → level ≡ level_of s (root_object s) → RootRow (root_of s) row → modify level (arrived (fork_of_row (level_count s) row)) none ≡ initial_state s
  unfolding read_in program_of
  start_is level row e r = ap₂ (λ l x. modify l (arrived x) none) e (r (level_count s) (level_limit s a))

  start_idle : (k : ℕ) → (level_at (initial_state s) k).activity ≡ idle
  start_idle =
      each_level (program_of s) (sound s a) (unfold program_of in level_limit s a) (root_of s) (λ v. v.activity ≡ idle) refl refl

  -- words that no run has used, but for the fields
  module _ (w : Words) (roomy : Roomy w) (counts : w.tallies ≡ start_tallies) (fresh : List ℕ) (zeros : (i : ℕ) → i < field_words → get_or fresh i 0 ≡ 0) (filled : Filled s fresh w.current) where
    -- what is counted is what is counted first
    at_first : {n : ℕ} (place : ℕ) → get_or start_tallies place 0 ≡ n → get_or w.tallies place 0 ≡ n
    at_first place e = ap (λ t. get_or t place 0) counts ∙ e

    ended_first : (l : ℕ) → l < max_levels → get_or w.tallies l 0 ≡ 0
    ended_first l h = at_first l (first_ended l h)

    waiting_first : (l : ℕ) → l < max_levels → get_or w.tallies (waiting_place l) 0 ≡ 0
    waiting_first l h = at_first (waiting_place l) (first_waiting l h)

    busy_first : (l : ℕ) → l < max_levels → get_or w.tallies (busy_place l) 0 ≡ 0
    busy_first l h = at_first (busy_place l) (first_busy l h)

    level_none : (l : ℕ) (m : Manager) → l < max_levels → LevelRepresents (level_count s) w l m new_level
    level_none l m h =
        record {
          ended_count = ended_first l h;
          ended = histories_none w.ended l;
          ended_rises = none_rises;
          next = at_first (next_place l) (first_next l h);
          waiting_count = waiting_first l h;
          waiting = forks_none (level_count s) w.queue l 0;
          waiting_rises = rises_none w.queue l 0;
          version_count = at_first (versions_place l) (first_versions l h);
          versions = log_none w.work (log_start l);
          activity = busy_first l h;
          unchanged_own = λ _. tt;
          unchanged_any = λ _. tt;
        }

    -- the words behind the session's objects, which were 0, say NIL, as no other object has a value at first
    first_value : (o k : ℕ) → o < max_numbers → k < object_values → field_at w.current o k ≡ initially (program_of s) o k
    unfolding field_at
    first_value o k h j = elim (dec_lt o (object_count s)) [
      | yes own ↦ unfold field_at in filled.fields_are o k own j
      | no other ↦
          let zero : (i : ℕ) → field_place (object_count s) 0 ≤ i → i < field_words → get_or w.current i 0 ≡ 0 = λ i b l. filled.outside.above i b ∙ zeros i l in
          ap₂ value_of (zero (field_place o k) (omega (arith, other)) (omega (arith, h, j))) (zero (field_place o k + 1) (omega (arith, other)) (omega (arith, h, j)))
          ∙ sym (first_none s o k (omega (arith, other)))
    ]

    field_none : (o k : ℕ) → o < max_numbers → k ≤ existence → field_at w.current o k ≡ newest (initially (program_of s) o k) o k (level_at none ((program_of s).level o)).versions
    unfolding newest program_of
    field_none o k h j =
        first_value o k h (omega (arith, j))
        ∙ sym (ap (λ v. newest (initially (program_of s) o k) o k v.versions) (none_at (level_of s o) (level_present s a o)))

    -- they say that nothing has happened
    represents_none : (ms : ℕ → Manager) → Represents s w ms none
    represents_none ms =
        record {
          roomy = roomy;
          counts_few = λ l h. rw (ended_first l h) (omega arith);
          levels = length-replicate (level_count s) new_level;
          field = field_none;
          level = λ l h. rw (none_at l h) (level_none l (ms l) (omega (arith, h, level_limit s a)));
        }

    -- and once the root's fork has arrived, that the session is read in
    module _ (level : ℕ) (placed : level ≡ level_of s (root_object s)) (row queue : List ℕ) (root : RootRow (root_of s) row) (count : ℕ) (came : Arrived w.queue queue level 0 0 row count) where
      abbrev tallies : List ℕ
      tallies = set w.tallies (waiting_place level) count

      abbrev words : Words
      words = record { current = w.current; ended = w.ended; tallies = tallies; queue = queue; work = w.work }

      small : level < max_levels
      small = omega (arith, level_there level placed, level_limit s a)

      came_first : (i j : ℕ) → i ≡ 0 → j ≡ 0 → Arrived w.queue queue level i j row count
      came_first i j e q = rw (e, q) came

      represents_start : (ms : ℕ → Manager) → Represents s words ms (initial_state s)
      represents_start ms =
          represents_state (start_is level row placed root)
          (represents_arrive s w ms none (represents_none ms) (λ k h. rw (none_at k h) new_limited) (level_limit s a) level (level_there level placed) tallies queue row count
          (came_first _ _ (omega (arith, ended_first level small, busy_first level small)) (waiting_first level small))
          refl)

      quiescent_start : Quiescent s words (initial_state s)
      quiescent_start =
          record {
            invariant = λ ms. record {
              represents = represents_start ms;
              reached = ([], leads_none (program_of s) (initial_state s));
            };
            idle_all = λ k h. start_idle k;
          }

  module _ (current tallies queue : List ℕ) (f : Fresh current tallies queue) (m : Message) (level : ℕ) (e : m ≡ root_of s) (i : level ≡ level_of s m.object) where
    -- there is room for the root's fork, and a number for how many wait
    pub root_room : Room queue level 0 0
    root_room =
        record { room = f.forks_room; level = level_small m level e i; kept = omega arith; rises = rises_none queue level 0 }

    -- the words of a session as read in
    pub read_in_lem : (current' queue' row : List ℕ) (count : ℕ) → Filled s current current' → RootRow m row → Arrived queue queue' level 0 0 row count
        → InitialWords s current' (set tallies (waiting_place level) count) queue' level
    read_in_lem current' queue' row count filled root came =
        record {
          level_is = root_level m level e i;
          quiescent = λ ended work he hw. quiescent_start
              (record { current = current'; ended = ended; tallies = tallies; queue = queue; work = work })
              (record {
                current = rw filled.outside.length_same f.fields_room;
                ended = he;
                tallies = rw f.counts (omega arith);
                queue = f.forks_room;
                work = hw;
              })
              f.counts current f.fields_none filled level (root_level m level e i) row queue' (rw (sym e) root) count came;
        }
