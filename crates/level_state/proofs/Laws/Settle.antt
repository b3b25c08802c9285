-- What the end of a step does to the words of a run: the manager runs on, or has ended. Assumes nothing.
use Prim.Native.Nat.{ℕ, ◌+◌, ◌≤◌, ◌<◌}
use mathlib.Core.Path.{◌≡◌, refl, sym, ◌∙◌, ap, ap₂}
use mathlib.Core.Bool.{true, false, cond}
use mathlib.Core.List.{List}
use native.Mathlib.Decide.{ℕ_discrete}
use native.Mathlib.Omega.{arith}
use borrow.Author.Tests.{eq-eqb, ne_eqb}
use lib.ListN.{length, get_or, length-set}
use lib.Seq.{get_or-set_same, get_or-set_other}
use Rattle.session.specs.Limits.{max_levels}
use Rattle.session.specs.Parts.{level_count}
use Rattle.lists.proofs.Laws.Lists.{holds, fails, truth}
use Rattle.scripts.specs.Ending.{is_running}
use Rattle.scripts.specs.State.{Manager}
use Rattle.model.specs.Limits.{max_managers}
use Rattle.lists.specs.Changed.{inserted, modify}
use Rattle.model.specs.Fork.{Fork}
use Rattle.model.specs.History as history
use Rattle.model.specs.Level.{Activity, idle, busy, Level, is_busy, started_count, after}
use Rattle.model.specs.Step.{State, level_at}
use Rattle.theorems.proofs.Laws.Invariant.Measure.{inserted-length}
use Rattle.histories.specs.Histories.{histories_at, InOrder, history_of}
use Rattle.queues.specs.Queue.{fork_at, forks_at}
use Rattle.queues.proofs.Laws.Queue.{stamp_any}
use Rattle.tallies.specs.Places.{next_place, waiting_place, versions_place, busy_place, tally_numbers, tallied, changes_place, all_changes_place}
use Rattle.tallies.proofs.Laws.Closed.{tallied-length, tallied_other, tallied_count, tallied_next}
use Rattle.level_state.specs.Representation.{Words, Runs, LevelRepresents, Represents, placed}
use Rattle.level_state.specs.Steps.{Closed, Settled}
use Rattle.level_state.proofs.Laws.Representation.{Limited, SameAt, busy_fewer, field_kept, represents_change}

-- a level after a step, by whether its manager runs on
abbrev pub running_on : Level → Fork → Manager → Level
running_on v x m =
    record { waiting = v.waiting; activity = busy x m; ended = v.ended; next = v.next; versions = v.versions }

abbrev pub closed : Level → Fork → Manager → Level
closed v x m =
    record {
      waiting = v.waiting;
      activity = idle;
      ended = inserted (λ h. h.stamp) (history.history_of x m) v.ended;
      next = m.stamp + 1;
      versions = v.versions;
    }

after_runs : (v : Level) (x : Fork) (m : Manager) → is_running m.ending ≡ true → after v v.waiting v.versions x m ≡ running_on v x m
unfolding after
after_runs v x m e = rw e refl

after_ends : (v : Level) (x : Fork) (m : Manager) → is_running m.ending ≡ false → after v v.waiting v.versions x m ≡ closed v x m
unfolding after
after_ends v x m e = rw e refl

after_versions : (v : Level) (x : Fork) (m : Manager) → (after v v.waiting v.versions x m).versions ≡ v.versions
after_versions v x m = elim (truth (is_running m.ending)) [
  | holds e ↦ ap (λ v. v.versions) (after_runs v x m e)
  | fails e ↦ ap (λ v. v.versions) (after_ends v x m e)
]

pub placed_own : (l : ℕ) (m : Manager) (ms : ℕ → Manager) → placed l m ms l ≡ m
placed_own l m ms = rw (eq-eqb l l refl) refl

pub placed_other : (l : ℕ) (m : Manager) (ms : ℕ → Manager) (k : ℕ) → (k ≡ l → ⊥) → placed l m ms k ≡ ms k
placed_other l m ms k d = rw (ne_eqb k l d) refl

module _ (s : List ℕ) (w : Words) (ms : ℕ → Manager) (st : State) (t : Represents s w ms st) (b : (k : ℕ) → k < level_count s → Limited (level_at st k)) (few : level_count s ≤ max_levels) (l : ℕ) (h : l < level_count s) (x : Fork) (y : Manager) (runs : (level_at st l).activity ≡ busy x y) (ended' tallies' : List ℕ) (m : Manager) where
  abbrev pub words_settled : Words
  words_settled =
      record { current = w.current; ended = ended'; tallies = tallies'; queue = w.queue; work = w.work }

  abbrev n : ℕ
  n = level_count s

  abbrev v : Level
  v = level_at st l

  abbrev pub settled_level : Level → Level
  settled_level v = after v v.waiting v.versions x m

  -- what the words say of the manager that has made the step, and of its fork
  was_busy : (get_or w.tallies (busy_place l) 0 ≡ 1) × (fork_at n w.queue l (length v.ended) ≡ x)
  was_busy = by v.activity runs (t.level l h).activity
    where
      by : (a : Activity) → a ≡ busy x y → Runs n w l (ms l) (length v.ended) a → (get_or w.tallies (busy_place l) 0 ≡ 1) × (fork_at n w.queue l (length v.ended) ≡ x)
      by a e r = let q : Runs n w l (ms l) (length v.ended) (busy x y) = rw e at r in (q.0, q.1.1)

  started : started_count v ≡ length v.ended + 1
  started = ap (λ a. length v.ended + cond {A = ℕ} (is_busy a) 1 0) runs

  -- the manager runs on
  module _ (e : is_running m.ending ≡ true) (same_ended : ended' ≡ w.ended) (same-tallies : tallies' ≡ w.tallies) where
    tally : (j : ℕ) → get_or tallies' j 0 ≡ get_or w.tallies j 0
    tally j = ap (λ t. get_or t j 0) same-tallies

    same_running : (j : ℕ) → SameAt w words_settled j
    same_running j =
        record {
          ended_count = tally j;
          next = tally (next_place j);
          waiting_count = tally (waiting_place j);
          version_count = tally (versions_place j);
          busy = tally (busy_place j);
          histories = λ n q. ap (λ ws. histories_at ws j n) same_ended;
          rows = λ first c q. refl;
          fork = λ n i q. refl;
          log = λ c q. refl;
          changes = λ z. sym (tally (changes_place j)) ∙ z;
          all_changes = λ z. sym (tally all_changes_place) ∙ z;
        }

    waiting_at : forks_at n w.queue l (length v.ended + 1) (length v.waiting) ≡ v.waiting
    waiting_at = ap (λ k. forks_at n w.queue l k (length v.waiting)) (sym started) ∙ (t.level l h).waiting

    own_running : LevelRepresents n words_settled l m (running_on v x m)
    own_running =
        let q = t.level l h in
        record {
          ended_count = tally l ∙ q.ended_count;
          ended = ap (λ ws. histories_at ws l (length v.ended)) same_ended ∙ q.ended;
          ended_rises = q.ended_rises;
          next = tally (next_place l) ∙ q.next;
          waiting_count = tally (waiting_place l) ∙ q.waiting_count;
          waiting = waiting_at;
          waiting_rises = rw (sym started) q.waiting_rises;
          version_count = tally (versions_place l) ∙ q.version_count;
          versions = q.versions;
          activity = (tally (busy_place l) ∙ was_busy.0, (refl, was_busy.1));
          unchanged_own = λ z. q.unchanged_own (sym (tally (changes_place l)) ∙ z);
          unchanged_any = λ z. q.unchanged_any (sym (tally all_changes_place) ∙ z);
        }

    represents_running : Represents s words_settled (placed l m ms) (modify l settled_level st)
    represents_running =
        represents_change s w words_settled ms (placed l m ms) st t b l h settled_level
        (record {
          current = t.roomy.current;
          ended = rw same_ended t.roomy.ended;
          tallies = rw same-tallies t.roomy.tallies;
          queue = t.roomy.queue;
          work = t.roomy.work;
        })
        (λ j hj. rw (tally j) (t.counts_few j hj))
        (field_kept s w words_settled ms ms st t b l h settled_level (λ v. after_versions v x m))
        (rw (placed_own l m ms, after_runs v x m e) own_running)
        (λ j hj d. same_running j)
        (λ j d. placed_other l m ms j d)

  -- it has ended
  module _ (e : is_running m.ending ≡ false) (c : Closed w.ended ended' w.tallies tallies' w.queue l m) where
    abbrev one : ℕ
    one = get_or w.tallies l 0 + 1

    abbrev t2 : List ℕ
    t2 = tallied l one (m.stamp + 1) w.tallies

    small : l < max_levels
    small = omega (arith, h, few)

    tally_other : (j : ℕ) → (j ≡ l → ⊥) → (j ≡ next_place l → ⊥) → (j ≡ busy_place l → ⊥) → get_or tallies' j 0 ≡ get_or w.tallies j 0
    tally_other j d1 d2 d3 =
        ap (λ t. get_or t j 0) c.tallies_are
        ∙ get_or-set_other t2 (busy_place l) j 0 0 d3
        ∙ tallied_other l one (m.stamp + 1) w.tallies j d1 d2

    long : tally_numbers ≤ length t2
    long = rw (tallied-length l one (m.stamp + 1) w.tallies) t.roomy.tallies

    tally_ended : get_or tallies' l 0 ≡ length v.ended + 1
    tally_ended =
        ap (λ t. get_or t l 0) c.tallies_are
        ∙ get_or-set_other t2 (busy_place l) l 0 0 (λ q. omega (arith, q, h, few))
        ∙ tallied_count l one (m.stamp + 1) w.tallies small t.roomy.tallies
        ∙ ap (λ k. k + 1) (t.level l h).ended_count

    tally_next : get_or tallies' (next_place l) 0 ≡ m.stamp + 1
    tally_next =
        ap (λ t. get_or t (next_place l) 0) c.tallies_are
        ∙ get_or-set_other t2 (busy_place l) (next_place l) 0 0 (λ q. omega (arith, q, h, few))
        ∙ tallied_next l one (m.stamp + 1) w.tallies small t.roomy.tallies

    tally_busy : get_or tallies' (busy_place l) 0 ≡ 0
    tally_busy =
        ap (λ t. get_or t (busy_place l) 0) c.tallies_are
        ∙ get_or-set_same t2 (busy_place l) 0 0 (omega (arith, long, h, few))

    same_closed : (j : ℕ) → j < level_count s → (j ≡ l → ⊥) → SameAt w words_settled j
    same_closed j hj d =
        record {
          ended_count = tally_other j d (λ q. omega (arith, q, hj, h, few)) (λ q. omega (arith, q, hj, h, few));
          next = tally_other (next_place j) (λ q. omega (arith, q, hj, h, few)) (λ q. d (omega (arith, q))) (λ q. omega (arith, q, hj, h, few));
          waiting_count = tally_other (waiting_place j) (λ q. omega (arith, q, hj, h, few)) (λ q. omega (arith, q, hj, h, few)) (λ q. omega (arith, q, hj, h, few));
          version_count = tally_other (versions_place j) (λ q. omega (arith, q, hj, h, few)) (λ q. omega (arith, q, hj, h, few)) (λ q. omega (arith, q, hj, h, few));
          busy = tally_other (busy_place j) (λ q. omega (arith, q, hj, h, few)) (λ q. omega (arith, q, hj, h, few)) (λ q. d (omega (arith, q)));
          histories = λ n q. c.added.others j n d q;
          rows = λ first k q. refl;
          fork = λ n i q. refl;
          log = λ k q. refl;
          changes = λ z. sym (tally_other (changes_place j) (λ q. omega (arith, q, hj, h, few)) (λ q. omega (arith, q, hj, h, few)) (λ q. omega (arith, q, hj, h, few))) ∙ z;
          all_changes = λ z. sym (tally_other all_changes_place (λ q. omega (arith, q, h, few)) (λ q. omega (arith, q, h, few)) (λ q. omega (arith, q, h, few))) ∙ z;
        }

    -- the history that is kept
    history_is : history_of c.history ≡ history.history_of x m
    history_is =
        c.history_is x (sym (ap (λ y. y.stamp) was_busy.1) ∙ stamp_any n 0 w.queue l (length v.ended) ∙ ap (λ i. (fork_at 0 w.queue l i).stamp) (sym (t.level l h).ended_count))

    ended_own : histories_at ended' l (length v.ended + 1) ≡ inserted (λ h. h.stamp) (history.history_of x m) v.ended
    ended_own =
        ap (λ k. histories_at ended' l (k + 1)) (sym (t.level l h).ended_count)
        ∙ c.added.histories
        ∙ ap₂ (λ z k. inserted (λ h. h.stamp) z (histories_at w.ended l k)) history_is (t.level l h).ended_count
        ∙ ap (inserted (λ h. h.stamp) (history.history_of x m)) (t.level l h).ended

    more : length (inserted (λ h. h.stamp) (history.history_of x m) v.ended) ≡ length v.ended + 1
    more = inserted-length (λ h. h.stamp) (history.history_of x m) v.ended

    rises_own : InOrder (inserted (λ h. h.stamp) (history.history_of x m) v.ended)
    rises_own = rw (sym ended_own, sym (t.level l h).ended_count) c.added.rises

    started_closed : started_count (closed v x m) ≡ started_count v
    started_closed = omega (arith, more, started)

    own_closed : LevelRepresents n words_settled l m (closed v x m)
    own_closed =
        let q = t.level l h in
        record {
          ended_count = tally_ended ∙ sym more;
          ended = ap (histories_at ended' l) more ∙ ended_own;
          ended_rises = rises_own;
          next = tally_next;
          waiting_count = tally_other (waiting_place l) (λ q. omega (arith, q, h, few)) (λ q. omega (arith, q, h, few)) (λ q. omega (arith, q, h, few)) ∙ q.waiting_count;
          waiting = ap (λ k. forks_at n w.queue l k (length v.waiting)) started_closed ∙ q.waiting;
          waiting_rises = rw started_closed q.waiting_rises;
          version_count = tally_other (versions_place l) (λ q. omega (arith, q, h, few)) (λ q. omega (arith, q, h, few)) (λ q. omega (arith, q, h, few)) ∙ q.version_count;
          versions = q.versions;
          activity = tally_busy;
          unchanged_own = λ z. q.unchanged_own (sym (tally_other (changes_place l) (λ q. omega (arith, q, h, few)) (λ q. omega (arith, q, h, few)) (λ q. omega (arith, q, h, few))) ∙ z);
          unchanged_any = λ z. q.unchanged_any (sym (tally_other all_changes_place (λ q. omega (arith, q, h, few)) (λ q. omega (arith, q, h, few)) (λ q. omega (arith, q, h, few))) ∙ z);
        }

    counts_own : (j : ℕ) → j < max_levels → get_or tallies' j 0 ≤ max_managers
    counts_own j hj = elim (ℕ_discrete j l) [
      | yes z ↦ rw (z, tally_ended) (omega (arith, busy_fewer v x y runs (b l h)))
      | no z ↦ rw (tally_other j z (λ q. omega (arith, q, hj)) (λ q. omega (arith, q, hj))) (t.counts_few j hj)
    ]

    represents_closed : Represents s words_settled (placed l m ms) (modify l settled_level st)
    represents_closed =
        represents_change s w words_settled ms (placed l m ms) st t b l h settled_level
        (record {
          current = t.roomy.current;
          ended = rw c.added.outside.length_same t.roomy.ended;
          tallies = rw (c.tallies_are, length-set t2 (busy_place l) 0) long;
          queue = t.roomy.queue;
          work = t.roomy.work;
        })
        counts_own
        (field_kept s w words_settled ms ms st t b l h settled_level (λ v. after_versions v x m))
        (rw (placed_own l m ms, after_ends v x m e) own_closed)
        same_closed
        (λ j d. placed_other l m ms j d)

  -- the words then say the level after the step
  pub represents_settle : Settled w.ended ended' w.tallies tallies' w.queue l m → Represents s words_settled (placed l m ms) (modify l settled_level st)
  represents_settle q = elim (truth (is_running m.ending)) [
    | holds e ↦ represents_running e (q.0 e).0 (q.0 e).1
    | fails e ↦ represents_closed e (q.1 e)
  ]
