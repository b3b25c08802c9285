-- What the words of a run say, level by level; and a change of one level. Assumes nothing.
use Prim.Native.Nat.{ℕ, ◌+◌, ◌≤◌, ◌<◌}
use mathlib.Core.Path.{◌≡◌, refl, sym, ◌∙◌, ap}
use mathlib.Core.Bool.{cond}
use mathlib.Core.List.{List}
use native.Mathlib.Decide.{ℕ_discrete}
use native.Mathlib.Omega.{arith}
use lib.ListN.{length, get_or}
use Rattle.lists.proofs.Laws.Range.{not_both}
use Rattle.session.specs.Limits.{max_numbers, max_levels}
use Rattle.session.specs.Parts.{level_count}
use Rattle.session.specs.Program.{program_of}
use Rattle.scripts.specs.Existence.{existence, initially}
use Rattle.scripts.specs.State.{Manager}
use Rattle.fields.specs.Fields.{field_at}
use Rattle.model.specs.Limits.{max_managers}
use Rattle.lists.specs.Changed.{modify}
use Rattle.model.specs.Fork.{Fork}
use Rattle.model.specs.Level.{Activity, idle, busy, Level, new_level, is_busy, started_count, newest}
use Rattle.model.specs.Step.{State, level_at}
use Rattle.lists.proofs.Laws.Changed.{modify-length, modify_at, modify_other}
use Rattle.histories.specs.Histories.{histories_at}
use Rattle.rows.specs.Rows.{rows_at}
use Rattle.queues.specs.Queue.{fork_words, fork_place, fork_at, ForksRise}
use Rattle.queues.proofs.Laws.Queue.{forks_same}
use Rattle.versions.specs.Log.{max_versions, log_start, log_of}
use Rattle.tallies.specs.Places.{next_place, waiting_place, versions_place, busy_place, changes_place, all_changes_place}
use Rattle.level_state.specs.Representation.{Words, Runs, LevelRepresents, Roomy, Represents}
use Rattle.level_state.specs.Steps.{started_of}

-- a level within its limits
pub record Limited (v : Level) : Type 0 where
  pub managers : started_count v + length v.waiting ≤ max_managers
  pub versions : length v.versions ≤ max_versions

-- the words of level k are the same
pub record SameAt (w w' : Words) (k : ℕ) : Type 0 where
  pub ended_count : get_or w'.tallies k 0 ≡ get_or w.tallies k 0
  pub next : get_or w'.tallies (next_place k) 0 ≡ get_or w.tallies (next_place k) 0
  pub waiting_count : get_or w'.tallies (waiting_place k) 0 ≡ get_or w.tallies (waiting_place k) 0
  pub version_count : get_or w'.tallies (versions_place k) 0 ≡ get_or w.tallies (versions_place k) 0
  pub busy : get_or w'.tallies (busy_place k) 0 ≡ get_or w.tallies (busy_place k) 0
  pub histories : (n : ℕ) → n ≤ max_managers → histories_at w'.ended k n ≡ histories_at w.ended k n
  pub rows : (first c : ℕ) → first + c ≤ max_managers → rows_at w'.queue (fork_place k first) fork_words c ≡ rows_at w.queue (fork_place k first) fork_words c
  pub fork : (n i : ℕ) → i < max_managers → fork_at n w'.queue k i ≡ fork_at n w.queue k i
  pub log : (c : ℕ) → c ≤ max_versions → log_of w'.work (log_start k) c ≡ log_of w.work (log_start k) c
  -- what is noted of existence stays noted
  pub changes : get_or w'.tallies (changes_place k) 0 ≡ 0 → get_or w.tallies (changes_place k) 0 ≡ 0
  pub all_changes : get_or w'.tallies all_changes_place 0 ≡ 0 → get_or w.tallies all_changes_place 0 ≡ 0

rises_same : (ws ws' : List ℕ) (l first c : ℕ) → rows_at ws' (fork_place l first) fork_words c ≡ rows_at ws (fork_place l first) fork_words c → ForksRise ws l first c → ForksRise ws' l first c
rises_same ws ws' l first c e r = rw e r

-- those that have ended at a level where a manager runs are fewer than all
pub busy_fewer : (v : Level) (x : Fork) (m : Manager) → v.activity ≡ busy x m → Limited v → length v.ended < max_managers
busy_fewer v x m e b =
    let one : cond {A = ℕ} (is_busy v.activity) 1 0 ≡ 1 = ap (λ a. cond {A = ℕ} (is_busy a) 1 0) e in
    omega (arith, one, b.managers)

module _ (n : ℕ) (w w' : Words) (k : ℕ) (m : Manager) (v : Level) (b : Limited v) (e : SameAt w w' k) where
  runs_same : (a : Activity) → v.activity ≡ a → Runs n w k m (length v.ended) a → Runs n w' k m (length v.ended) a
  runs_same idle q r = e.busy ∙ r
  runs_same (busy x y) q r = (e.busy ∙ r.0, (r.1.0, e.fork n (length v.ended) (busy_fewer v x y q b) ∙ r.1.1))

  -- so they say the same of it
  pub represents_same : LevelRepresents n w k m v → LevelRepresents n w' k m v
  represents_same t =
      record {
        ended_count = e.ended_count ∙ t.ended_count;
        ended = e.histories (length v.ended) (omega (arith, b.managers)) ∙ t.ended;
        ended_rises = t.ended_rises;
        next = e.next ∙ t.next;
        waiting_count = e.waiting_count ∙ t.waiting_count;
        waiting = forks_same n w.queue w'.queue k (started_count v) (length v.waiting) (e.rows (started_count v) (length v.waiting) b.managers) ∙ t.waiting;
        waiting_rises = rises_same w.queue w'.queue k (started_count v) (length v.waiting) (e.rows (started_count v) (length v.waiting) b.managers) t.waiting_rises;
        version_count = e.version_count ∙ t.version_count;
        versions = e.log (length v.versions) b.versions ∙ t.versions;
        activity = runs_same v.activity refl t.activity;
        unchanged_own = λ z. t.unchanged_own (e.changes z);
        unchanged_any = λ z. t.unchanged_any (e.all_changes z);
      }

-- as many have started as are counted
pub started_is : (n : ℕ) (w : Words) (k : ℕ) (m : Manager) (v : Level) → LevelRepresents n w k m v → started_of w.tallies k ≡ started_count v
started_is n w k m v t = by v.activity refl t.activity
  where
    by : (a : Activity) → v.activity ≡ a → Runs n w k m (length v.ended) a → started_of w.tallies k ≡ started_count v
    by idle q r = rw q (omega (arith, t.ended_count, r))
    by (busy x y) q r = rw q (omega (arith, t.ended_count, r.0))

-- what is told of another manager where none runs
pub represents_idle : (n : ℕ) (w : Words) (k : ℕ) (m m' : Manager) (v : Level) → v.activity ≡ idle → LevelRepresents n w k m v → LevelRepresents n w k m' v
represents_idle n w k m m' v q t =
    record {
      ended_count = t.ended_count;
      ended = t.ended;
      ended_rises = t.ended_rises;
      next = t.next;
      waiting_count = t.waiting_count;
      waiting = t.waiting;
      waiting_rises = t.waiting_rises;
      version_count = t.version_count;
      versions = t.versions;
      activity = by v.activity q t.activity;
      unchanged_own = t.unchanged_own;
      unchanged_any = t.unchanged_any;
    }
  where
    by : (a : Activity) → a ≡ idle → Runs n w k m (length v.ended) a → Runs n w k m' (length v.ended) a
    by idle q r = r
    by (busy x y) q r = absurd (not_both (is_busy (busy x y)) refl (ap is_busy q))

-- a change of level l alone, whose words then say it, where the words of the others are the same
module _ (s : List ℕ) (w w' : Words) (ms ms' : ℕ → Manager) (st : State) (t : Represents s w ms st) (b : (k : ℕ) → k < level_count s → Limited (level_at st k)) (l : ℕ) (h : l < level_count s) (f : Level → Level) where
  pub at_own : level_at (modify l f st) l ≡ f (level_at st l)
  at_own = modify_at new_level l f st (rw t.levels h)

  pub at_other : (k : ℕ) → (k ≡ l → ⊥) → level_at (modify l f st) k ≡ level_at st k
  at_other k d = modify_other new_level l k f st (λ e. d (sym e))

  -- a change that makes no version leaves the fields
  pub field_kept : ((v : Level) → (f v).versions ≡ v.versions) → (o k : ℕ) → o < max_numbers → k ≤ existence → field_at w.current o k ≡ newest (initially (program_of s) o k) o k (level_at (modify l f st) ((program_of s).level o)).versions
  field_kept kept o k ho hk =
      t.field o k ho hk ∙ ap (newest (initially (program_of s) o k) o k) (sym (by (ℕ_discrete ((program_of s).level o) l)))
    where
      by : Dec ((program_of s).level o ≡ l) → (level_at (modify l f st) ((program_of s).level o)).versions ≡ (level_at st ((program_of s).level o)).versions
      by (yes e) = rw e (ap (λ v. v.versions) at_own ∙ kept (level_at st l))
      by (no e) = ap (λ v. v.versions) (at_other ((program_of s).level o) e)

  pub represents_change : Roomy w'
      → ((k : ℕ) → k < max_levels → get_or w'.tallies k 0 ≤ max_managers)
      → ((o k : ℕ) → o < max_numbers → k ≤ existence → field_at w'.current o k ≡ newest (initially (program_of s) o k) o k (level_at (modify l f st) ((program_of s).level o)).versions)
      → LevelRepresents (level_count s) w' l (ms' l) (f (level_at st l))
      → ((k : ℕ) → k < level_count s → (k ≡ l → ⊥) → SameAt w w' k)
      → ((k : ℕ) → (k ≡ l → ⊥) → ms' k ≡ ms k)
      → Represents s w' ms' (modify l f st)
  represents_change roomy few field own same held =
      record {
        roomy = roomy;
        counts_few = few;
        levels = modify-length l f st ∙ t.levels;
        field = field;
        level = λ k hk. elim (ℕ_discrete k l) [
          | yes e ↦ rw (e, at_own) own
          | no d ↦ rw (at_other k d, held k d) (represents_same (level_count s) w w' k (ms k) (level_at st k) (b k hk) (same k hk d) (t.level k hk))
        ];
      }
