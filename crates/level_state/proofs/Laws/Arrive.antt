-- What a fork that arrives does to the words of a run. Assumes nothing.
use Prim.Native.Nat.{ℕ, ◌-◌, ◌≤◌, ◌<◌}
use mathlib.Core.Path.{◌≡◌, refl, sym, ◌∙◌, ap, ap₂}
use mathlib.Core.List.{List}
use native.Mathlib.Omega.{arith}
use lib.ListN.{length, get_or, set, take, length-set}
use lib.Seq.{get_or-set_same, get_or-set_other}
use Rattle.session.specs.Limits.{max_levels}
use Rattle.session.specs.Parts.{level_count}
use Rattle.scripts.specs.State.{Manager}
use Rattle.model.specs.Limits.{max_managers}
use Rattle.lists.specs.Changed.{inserted, modify}
use Rattle.model.specs.Fork.{Fork}
use Rattle.model.specs.Level.{Activity, idle, busy, Level, started_count, arrived}
use Rattle.model.specs.Step.{State, level_at}
use Rattle.queues.specs.Queue.{fork_of_row, forks_at, ForksRise, Arrived}
use Rattle.queues.proofs.Laws.Queue.{forks_length, fork_apart}
use Rattle.tallies.specs.Places.{next_place, waiting_place, versions_place, busy_place, changes_place, all_changes_place}
use Rattle.level_state.specs.Representation.{Words, Runs, LevelRepresents, Represents}
use Rattle.level_state.specs.Steps.{started_of}
use Rattle.level_state.proofs.Laws.Representation.{Limited, SameAt, started_is, field_kept, represents_change}

-- what an arrival leaves of a level
waiting_arrived : (x : Fork) (v : Level) → (arrived x v).waiting ≡ take (max_managers - started_count v) (inserted (λ y. y.stamp) x v.waiting)
unfolding arrived
waiting_arrived x v = refl

activity_arrived : (x : Fork) (v : Level) → (arrived x v).activity ≡ v.activity
unfolding arrived
activity_arrived x v = refl

ended_arrived : (x : Fork) (v : Level) → (arrived x v).ended ≡ v.ended
unfolding arrived
ended_arrived x v = refl

next_arrived : (x : Fork) (v : Level) → (arrived x v).next ≡ v.next
unfolding arrived
next_arrived x v = refl

versions_arrived : (x : Fork) (v : Level) → (arrived x v).versions ≡ v.versions
unfolding arrived
versions_arrived x v = refl

started-arrived : (x : Fork) (v : Level) → started_count (arrived x v) ≡ started_count v
unfolding arrived
started-arrived x v = refl

module _ (s : List ℕ) (w : Words) (ms : ℕ → Manager) (st : State) (t : Represents s w ms st) (b : (k : ℕ) → k < level_count s → Limited (level_at st k)) (few : level_count s ≤ max_levels) (u : ℕ) (h : u < level_count s) (tallies' queue' row : List ℕ) (count : ℕ) (came : Arrived w.queue queue' u (started_of w.tallies u) (get_or w.tallies (waiting_place u) 0) row count) (represents : tallies' ≡ set w.tallies (waiting_place u) count) where
  abbrev pub words_arrived : Words
  words_arrived =
      record { current = w.current; ended = w.ended; tallies = tallies'; queue = queue'; work = w.work }

  abbrev n : ℕ
  n = level_count s

  abbrev x : Fork
  x = fork_of_row n row

  abbrev v : Level
  v = level_at st u

  tally_other : (j : ℕ) → (j ≡ waiting_place u → ⊥) → get_or tallies' j 0 ≡ get_or w.tallies j 0
  tally_other j d = ap (λ t. get_or t j 0) represents ∙ get_or-set_other w.tallies (waiting_place u) j count 0 d

  tally_own : get_or tallies' (waiting_place u) 0 ≡ count
  tally_own =
      ap (λ t. get_or t (waiting_place u) 0) represents
      ∙ get_or-set_same w.tallies (waiting_place u) count 0 (omega (arith, t.roomy.tallies, h, few))

  same : (j : ℕ) → j < level_count s → (j ≡ u → ⊥) → SameAt w words_arrived j
  same j hj d =
      record {
        ended_count = tally_other j (λ e. omega (arith, e, hj, h, few));
        next = tally_other (next_place j) (λ e. omega (arith, e, hj, h, few));
        waiting_count = tally_other (waiting_place j) (λ e. d (omega (arith, e)));
        version_count = tally_other (versions_place j) (λ e. omega (arith, e, hj, h, few));
        busy = tally_other (busy_place j) (λ e. omega (arith, e, hj, h, few));
        histories = λ n e. refl;
        rows = λ first c e. came.others j first c d e;
        fork = λ n i e. fork_apart w.queue queue' u (started_of w.tallies u) (get_or w.tallies (waiting_place u) 0) row count came n j i d e;
        log = λ c e. refl;
        changes = λ z. sym (tally_other (changes_place j) (λ e. omega (arith, e, hj, h, few))) ∙ z;
        all_changes = λ z. sym (tally_other all_changes_place (λ e. omega (arith, e, h, few))) ∙ z;
      }

  started : started_of w.tallies u ≡ started_count v
  started = started_is n w u (ms u) v (t.level u h)

  -- the forks that wait then
  waits : forks_at n queue' u (started_count v) count ≡ (arrived x v).waiting
  waits =
      ap (λ k. forks_at n queue' u k count) (sym started)
      ∙ came.forks n
      ∙ ap (λ k. take (max_managers - k) (inserted (λ y. y.stamp) x (forks_at n w.queue u k (get_or w.tallies (waiting_place u) 0)))) started
      ∙ ap (λ c. take (max_managers - started_count v) (inserted (λ y. y.stamp) x (forks_at n w.queue u (started_count v) c))) (t.level u h).waiting_count
      ∙ ap (λ xs. take (max_managers - started_count v) (inserted (λ y. y.stamp) x xs)) (t.level u h).waiting
      ∙ sym (waiting_arrived x v)

  counted : count ≡ length (arrived x v).waiting
  counted = sym (forks_length n queue' u (started_count v) count) ∙ ap length waits

  rises_at : (k c : ℕ) → k ≡ started_of w.tallies u → c ≡ count → ForksRise queue' u k c
  rises_at k c e q = rw (e, q) came.rises

  runs : (i : ℕ) (a : Activity) → v.activity ≡ a → i ≡ length v.ended → Runs n w u (ms u) i a → Runs n words_arrived u (ms u) i a
  runs i idle q z r = tally_other (busy_place u) (λ e. omega (arith, e, h, few)) ∙ r
  runs i (busy y m) q z r = (
    tally_other (busy_place u) (λ e. omega (arith, e, h, few)) ∙ r.0,
    (r.1.0, came.before n i (omega (arith, z, (t.level u h).ended_count, r.0)) ∙ r.1.1),
  )

  at_level : {a a' : Activity} {i i' : ℕ} → a' ≡ a → i' ≡ i → Runs n words_arrived u (ms u) i a → Runs n words_arrived u (ms u) i' a'
  at_level e q r = rw (e, q) r

  own : LevelRepresents n words_arrived u (ms u) (arrived x v)
  own =
      let q = t.level u h in
      let ended = ended_arrived x v in
      record {
        ended_count = tally_other u (λ e. omega (arith, e, h, few)) ∙ q.ended_count ∙ ap length (sym ended);
        ended = rw ended q.ended;
        ended_rises = rw ended q.ended_rises;
        next = tally_other (next_place u) (λ e. omega (arith, e, h, few)) ∙ q.next ∙ sym (next_arrived x v);
        waiting_count = tally_own ∙ counted;
        waiting = ap₂ (forks_at n queue' u) (started-arrived x v) (sym counted) ∙ waits;
        waiting_rises = rises_at (started_count (arrived x v)) (length (arrived x v).waiting) (started-arrived x v ∙ sym started) (sym counted);
        version_count = tally_other (versions_place u) (λ e. omega (arith, e, h, few)) ∙ q.version_count ∙ ap length (sym (versions_arrived x v));
        versions = rw (versions_arrived x v) q.versions;
        activity = at_level (activity_arrived x v) (ap length ended) (runs (length v.ended) v.activity refl refl q.activity);
        unchanged_own = λ z. rw (versions_arrived x v) (q.unchanged_own (sym (tally_other (changes_place u) (λ e. omega (arith, e, h, few))) ∙ z));
        unchanged_any = λ z. rw (versions_arrived x v) (q.unchanged_any (sym (tally_other all_changes_place (λ e. omega (arith, e, h, few))) ∙ z));
      }

  -- the words then say that the fork has arrived
  pub represents_arrive : Represents s words_arrived ms (modify u (arrived (fork_of_row (level_count s) row)) st)
  represents_arrive =
      represents_change s w words_arrived ms ms st t b u h (arrived x)
      (record {
        current = t.roomy.current;
        ended = t.roomy.ended;
        tallies = rw (represents, length-set w.tallies (waiting_place u) count) t.roomy.tallies;
        queue = rw came.outside.length_same t.roomy.queue;
        work = t.roomy.work;
      })
      (λ j hj. rw (tally_other j (λ e. omega (arith, e, hj, h, few))) (t.counts_few j hj))
      (field_kept s w words_arrived ms ms st t b u h (arrived x) (versions_arrived x))
      own
      same
      (λ j d. refl)
