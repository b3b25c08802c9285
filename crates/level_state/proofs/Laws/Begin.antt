-- What the start of a manager does to the words of a run. Assumes nothing.
use Prim.Native.Nat.{ℕ, suc, ◌+◌, ◌-◌, ◌≤◌, ◌<◌}
use mathlib.Core.Path.{◌≡◌, refl, sym, ◌∙◌, ap, ap₂}
use mathlib.Core.Bool.{cond}
use mathlib.Core.List.{List, ◌∷◌}
use native.Mathlib.Omega.{arith}
use lib.ListN.{length, get_or, set, length-set}
use lib.Seq.{get_or-set_same, get_or-set_other}
use Rattle.session.specs.Limits.{max_levels}
use Rattle.session.specs.Parts.{level_count}
use Rattle.scripts.specs.State.{Manager}
use Rattle.lists.specs.Changed.{modify}
use Rattle.model.specs.Fork.{Fork}
use Rattle.model.specs.Level.{idle, busy, Level, is_busy, started_count}
use Rattle.model.specs.Step.{State, level_at}
use Rattle.queues.specs.Queue.{fork_at, forks_at, ForksRise}
use Rattle.queues.proofs.Laws.Queue.{forks_first, rises_behind}
use Rattle.tallies.specs.Places.{begun_tallies, next_place, waiting_place, versions_place, busy_place, tally_numbers, changes_place, all_changes_place}
use Rattle.level_state.specs.Representation.{Words, LevelRepresents, Represents, placed}
use Rattle.level_state.proofs.Laws.Representation.{Limited, SameAt, field_kept, represents_change}
use Rattle.level_state.proofs.Laws.Settle.{placed_own, placed_other}

-- a level at which manager m of fork x runs, and those behind it wait
abbrev pub begun_level : Fork → List Fork → Manager → Level → Level
begun_level x xs m v =
    record { waiting = xs; activity = busy x m; ended = v.ended; next = v.next; versions = v.versions }

head_is : (x y : Fork) (xs ys : List Fork) → x ∷ xs ≡ y ∷ ys → x ≡ y
head_is x y xs ys e = cc

tail_is : (x y : Fork) (xs ys : List Fork) → x ∷ xs ≡ y ∷ ys → xs ≡ ys
tail_is x y xs ys e = cc

module _ (s : List ℕ) (w : Words) (ms : ℕ → Manager) (st : State) (t : Represents s w ms st) (b : (k : ℕ) → k < level_count s → Limited (level_at st k)) (few : level_count s ≤ max_levels) (l : ℕ) (h : l < level_count s) (x : Fork) (xs : List Fork) (quiescent : (level_at st l).activity ≡ idle) (waits : (level_at st l).waiting ≡ x ∷ xs) (m : Manager) where
  abbrev pub words_begun : Words
  words_begun =
      record { current = w.current; ended = w.ended; tallies = begun_tallies w.tallies l; queue = w.queue; work = w.work }

  abbrev n : ℕ
  n = level_count s

  abbrev v : Level
  v = level_at st l

  abbrev f : Level → Level
  f = begun_level x xs m

  abbrev t1 : List ℕ
  t1 = set w.tallies (waiting_place l) (get_or w.tallies (waiting_place l) 0 - 1)

  tally_other : (j : ℕ) → (j ≡ waiting_place l → ⊥) → (j ≡ busy_place l → ⊥) → get_or (begun_tallies w.tallies l) j 0 ≡ get_or w.tallies j 0
  tally_other j d1 d2 =
      get_or-set_other t1 (busy_place l) j 1 0 d2
      ∙ get_or-set_other w.tallies (waiting_place l) j (get_or w.tallies (waiting_place l) 0 - 1) 0 d1

  long : tally_numbers ≤ length t1
  long = rw (length-set w.tallies (waiting_place l) (get_or w.tallies (waiting_place l) 0 - 1)) t.roomy.tallies

  waited : get_or w.tallies (waiting_place l) 0 ≡ length xs + 1
  waited = (t.level l h).waiting_count ∙ ap length waits ∙ omega arith

  tally_waiting : get_or (begun_tallies w.tallies l) (waiting_place l) 0 ≡ length xs
  tally_waiting =
      get_or-set_other t1 (busy_place l) (waiting_place l) 1 0 (λ e. omega (arith, e))
      ∙ get_or-set_same w.tallies (waiting_place l) (get_or w.tallies (waiting_place l) 0 - 1) 0 (omega (arith, t.roomy.tallies, h, few))
      ∙ omega (arith, waited)

  tally_busy : get_or (begun_tallies w.tallies l) (busy_place l) 0 ≡ 1
  tally_busy = get_or-set_same t1 (busy_place l) 1 0 (omega (arith, long, h, few))

  same : (j : ℕ) → j < level_count s → (j ≡ l → ⊥) → SameAt w words_begun j
  same j hj d =
      record {
        ended_count = tally_other j (λ q. omega (arith, q, hj, h, few)) (λ q. omega (arith, q, hj, h, few));
        next = tally_other (next_place j) (λ q. omega (arith, q, hj, h, few)) (λ q. omega (arith, q, hj, h, few));
        waiting_count = tally_other (waiting_place j) (λ q. d (omega (arith, q))) (λ q. omega (arith, q, hj, h, few));
        version_count = tally_other (versions_place j) (λ q. omega (arith, q, hj, h, few)) (λ q. omega (arith, q, hj, h, few));
        busy = tally_other (busy_place j) (λ q. omega (arith, q, hj, h, few)) (λ q. d (omega (arith, q)));
        histories = λ n q. refl;
        rows = λ first c q. refl;
        fork = λ n i q. refl;
        log = λ c q. refl;
        changes = λ z. sym (tally_other (changes_place j) (λ q. omega (arith, q, hj, h, few)) (λ q. omega (arith, q, hj, h, few))) ∙ z;
        all_changes = λ z. sym (tally_other all_changes_place (λ q. omega (arith, q, h, few)) (λ q. omega (arith, q, h, few))) ∙ z;
      }

  started : started_count v ≡ length v.ended
  started =
      ap (λ a. length v.ended + cond {A = ℕ} (is_busy a) 1 0) quiescent ∙ omega arith

  -- the first fork that waits, and those behind it
  split : fork_at n w.queue l (length v.ended) ∷ forks_at n w.queue l (length v.ended + 1) (length xs) ≡ x ∷ xs
  split =
      sym (forks_first n w.queue l (length v.ended) (length xs))
      ∙ ap₂ (forks_at n w.queue l) (sym started) (sym (ap length waits))
      ∙ (t.level l h).waiting
      ∙ waits

  pub first_fork : fork_at n w.queue l (length v.ended) ≡ x
  first_fork = head_is _ x _ xs split

  rises_at : (k c : ℕ) → k ≡ started_count v → c ≡ length v.waiting → ForksRise w.queue l k c
  rises_at k c e q = rw (e, q) (t.level l h).waiting_rises

  own : LevelRepresents n words_begun l m (f v)
  own =
      let q = t.level l h in
      record {
        ended_count = tally_other l (λ q. omega (arith, q, h, few)) (λ q. omega (arith, q, h, few)) ∙ q.ended_count;
        ended = q.ended;
        ended_rises = q.ended_rises;
        next = tally_other (next_place l) (λ q. omega (arith, q, h, few)) (λ q. omega (arith, q, h, few)) ∙ q.next;
        waiting_count = tally_waiting;
        waiting = tail_is _ x _ xs split;
        waiting_rises = rises_behind w.queue l (length v.ended) (length xs) (rises_at (length v.ended) (suc (length xs)) (sym started) (sym (ap length waits)));
        version_count = tally_other (versions_place l) (λ q. omega (arith, q, h, few)) (λ q. omega (arith, q, h, few)) ∙ q.version_count;
        versions = q.versions;
        activity = (tally_busy, (refl, first_fork));
        unchanged_own = λ z. q.unchanged_own (sym (tally_other (changes_place l) (λ q. omega (arith, q, h, few)) (λ q. omega (arith, q, h, few))) ∙ z);
        unchanged_any = λ z. q.unchanged_any (sym (tally_other all_changes_place (λ q. omega (arith, q, h, few)) (λ q. omega (arith, q, h, few))) ∙ z);
      }

  -- the words then say that the manager runs
  pub represents_begin : Represents s words_begun (placed l m ms) (modify l (begun_level x xs m) st)
  represents_begin =
      represents_change s w words_begun ms (placed l m ms) st t b l h f
      (record {
        current = t.roomy.current;
        ended = t.roomy.ended;
        tallies = rw (length-set t1 (busy_place l) 1) long;
        queue = t.roomy.queue;
        work = t.roomy.work;
      })
      (λ j hj. rw (tally_other j (λ q. omega (arith, q, hj)) (λ q. omega (arith, q, hj))) (t.counts_few j hj))
      (field_kept s w words_begun ms (placed l m ms) st t b l h f (λ v. refl))
      (rw (placed_own l m ms) own)
      same
      (λ j d. placed_other l m ms j d)
