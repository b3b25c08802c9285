-- What a write does to the words of a run. Assumes nothing.
use Prim.Native.Nat.{ℕ, ◌+◌, ◌≤◌, ◌<◌}
use mathlib.Core.Path.{◌≡◌, refl, sym, ◌∙◌, ap}
use mathlib.Core.List.{List, ◌∷◌}
use mathlib.Core.Logic.{◌⊎◌, inl, inr}
use native.Mathlib.Decide.{ℕ_discrete}
use native.Mathlib.Omega.{arith}
use borrow.Author.Tests.{eq-eqb, ne_eqb}
use lib.ListN.{length, get_or, length-set}
use lib.Seq.{get_or-set_same, get_or-set_other}
use Rattle.session.specs.Limits.{max_numbers, max_levels, fields}
use Rattle.session.specs.Parts.{level_count}
use Rattle.session.specs.Program.{program_of}
use Rattle.session.specs.Value.{Value}
use Rattle.scripts.specs.Existence.{existence, initially}
use Rattle.scripts.specs.State.{Manager}
use Rattle.fields.specs.Fields.{field_at}
use Rattle.lists.specs.Changed.{modify}
use Rattle.model.specs.Level.{Version, Activity, idle, busy, Level, newest}
use Rattle.model.specs.Step.{State, level_at}
use Rattle.versions.specs.Log.{log_start, log_of}
use Rattle.tallies.specs.Places.{next_place, waiting_place, versions_place, busy_place, changes_place, all_changes_place}
use Rattle.level_state.specs.Representation.{Words, Runs, LevelRepresents, Represents}
use Rattle.level_state.specs.Steps.{Wrote}
use Rattle.level_state.proofs.Laws.Representation.{Limited, SameAt, at_own, at_other, represents_change}

-- a level with other versions
abbrev pub with_versions : List Version → Level → Level
with_versions vs v =
    record { waiting = v.waiting; activity = v.activity; ended = v.ended; next = v.next; versions = vs }

-- a version on top is the newest of its field, and of no other
pub newest_own : (i : Value) (o k stamp : ℕ) (v : Value) (vs : List Version) → newest i o k (record { stamp = stamp; object = o; field = k; value = v } ∷ vs) ≡ v
unfolding newest
newest_own i o k stamp v vs = rw (eq-eqb o o refl, eq-eqb k k refl) refl

pub newest_other : (i : Value) (o k o' k' stamp : ℕ) (v : Value) (vs : List Version) → (o' ≡ o → k' ≡ k → ⊥) → newest i o' k' (record { stamp = stamp; object = o; field = k; value = v } ∷ vs) ≡ newest i o' k' vs
unfolding newest
newest_other i o k o' k' stamp v vs n = elim (ℕ_discrete o o') [
  | no a ↦ rw (ne_eqb o o' a) refl
  | yes a ↦ rw (eq-eqb o o' a, ne_eqb k k' (λ b. n (sym a) (sym b))) refl
]

module _ (s : List ℕ) (w : Words) (ms : ℕ → Manager) (st : State) (t : Represents s w ms st) (b : (k : ℕ) → k < level_count s → Limited (level_at st k)) (few : level_count s ≤ max_levels) (l : ℕ) (h : l < level_count s) (current' tallies' work' : List ℕ) (stamp o k : ℕ) (v : Value) (wrote : Wrote w.current current' w.tallies tallies' w.work work' l stamp o k v) (of_field : (get_or w.tallies (changes_place l) 0 ≡ 0) ⊎ (get_or w.tallies all_changes_place 0 ≡ 0) → k < fields) where
  abbrev pub words_written : Words
  words_written =
      record { current = current'; ended = w.ended; tallies = tallies'; queue = w.queue; work = work' }

  abbrev ver : Version
  ver = record { stamp = stamp; object = o; field = k; value = v }

  -- the level with the version
  abbrev pub written : Level → Level
  written v = with_versions (ver ∷ v.versions) v

  tally_other : (j : ℕ) → (j ≡ versions_place l → ⊥) → get_or tallies' j 0 ≡ get_or w.tallies j 0
  tally_other j d =
      ap (λ t. get_or t j 0) wrote.count
      ∙ get_or-set_other w.tallies (versions_place l) j (get_or w.tallies (versions_place l) 0 + 1) 0 d

  tally_own : get_or tallies' (versions_place l) 0 ≡ get_or w.tallies (versions_place l) 0 + 1
  tally_own =
      ap (λ t. get_or t (versions_place l) 0) wrote.count
      ∙ get_or-set_same w.tallies (versions_place l) (get_or w.tallies (versions_place l) 0 + 1) 0 (omega (arith, t.roomy.tallies, h, few))

  same : (j : ℕ) → j < level_count s → (j ≡ l → ⊥) → SameAt w words_written j
  same j hj d =
      record {
        ended_count = tally_other j (λ e. omega (arith, e, hj, h, few));
        next = tally_other (next_place j) (λ e. omega (arith, e, hj, h, few));
        waiting_count = tally_other (waiting_place j) (λ e. omega (arith, e, hj, h, few));
        version_count = tally_other (versions_place j) (λ e. d (omega (arith, e)));
        busy = tally_other (busy_place j) (λ e. omega (arith, e, hj, h, few));
        histories = λ n e. refl;
        rows = λ first c e. refl;
        fork = λ n i e. refl;
        log = λ c e. wrote.version.others j c d e;
        changes = λ z. sym (tally_other (changes_place j) (λ e. omega (arith, e, hj, h, few))) ∙ z;
        all_changes = λ z. sym (tally_other all_changes_place (λ e. omega (arith, e, h, few))) ∙ z;
      }

  abbrev own_level : Level
  own_level = level_at st l

  own_runs : (i : ℕ) (a : Activity) → Runs (level_count s) w l (ms l) i a → Runs (level_count s) words_written l (ms l) i a
  own_runs i idle r = tally_other (busy_place l) (λ e. omega (arith, e, h, few)) ∙ r
  own_runs i (busy x y) r = (tally_other (busy_place l) (λ e. omega (arith, e, h, few)) ∙ r.0, r.1)

  own : LevelRepresents (level_count s) words_written l (ms l) (written own_level)
  own =
      let q = t.level l h in
      record {
        ended_count = tally_other l (λ e. omega (arith, e, h, few)) ∙ q.ended_count;
        ended = q.ended;
        ended_rises = q.ended_rises;
        next = tally_other (next_place l) (λ e. omega (arith, e, h, few)) ∙ q.next;
        waiting_count = tally_other (waiting_place l) (λ e. omega (arith, e, h, few)) ∙ q.waiting_count;
        waiting = q.waiting;
        waiting_rises = q.waiting_rises;
        version_count = tally_own ∙ ap (λ n. n + 1) q.version_count ∙ omega arith;
        versions = versions_own;
        activity = own_runs (length own_level.ended) own_level.activity q.activity;
        unchanged_own = λ z. let y = sym (tally_other (changes_place l) (λ e. omega (arith, e, h, few))) ∙ z in (of_field (inl y), q.unchanged_own y);
        unchanged_any = λ z. let y = sym (tally_other all_changes_place (λ e. omega (arith, e, h, few))) ∙ z in (of_field (inr y), q.unchanged_any y);
      }
    where
      versions_own : log_of work' (log_start l) (length (ver ∷ own_level.versions)) ≡ ver ∷ own_level.versions
      versions_own =
          let q = t.level l h in
          ap (log_of work' (log_start l)) (more q.version_count)
          ∙ wrote.version.log
          ∙ ap (λ n. ver ∷ log_of w.work (log_start l) n) q.version_count
          ∙ ap (λ vs. ver ∷ vs) q.versions
        where
          more : {c : ℕ} → c ≡ length own_level.versions → length (ver ∷ own_level.versions) ≡ c + 1
          more e = omega (arith, e)

  field_is : (program_of s).level o ≡ l → (o' k' : ℕ) → o' < max_numbers → k' ≤ existence → field_at current' o' k' ≡ newest (initially (program_of s) o' k') o' k' (level_at (modify l written st) ((program_of s).level o')).versions
  field_is lies o' k' ho hk = by (ℕ_discrete o' o) (ℕ_discrete k' k)
    where
      here : (o' : ℕ) → (program_of s).level o' ≡ l → (level_at (modify l written st) ((program_of s).level o')).versions ≡ ver ∷ (level_at st ((program_of s).level o')).versions
      here o' e = rw e (ap (λ v. v.versions) (at_own s w words_written ms ms st t b l h written))

      other : (o' k' : ℕ) → o' < max_numbers → k' ≤ existence → (o' ≡ o → k' ≡ k → ⊥) → field_at current' o' k' ≡ newest (initially (program_of s) o' k') o' k' (level_at (modify l written st) ((program_of s).level o')).versions
      other o' k' ho hk d =
          wrote.field.others o' k' (omega (arith, hk)) d
          ∙ t.field o' k' ho hk
          ∙ elim (ℕ_discrete ((program_of s).level o') l) [
            | yes e ↦
                sym (ap (newest (initially (program_of s) o' k') o' k') (here o' e) ∙ newest_other (initially (program_of s) o' k') o k o' k' stamp v (level_at st ((program_of s).level o')).versions d)
            | no e ↦
                sym (ap (λ v. newest (initially (program_of s) o' k') o' k' v.versions) (at_other s w words_written ms ms st t b l h written ((program_of s).level o') e))
          ]

      by : Dec (o' ≡ o) → Dec (k' ≡ k) → field_at current' o' k' ≡ newest (initially (program_of s) o' k') o' k' (level_at (modify l written st) ((program_of s).level o')).versions
      by (yes x) (yes y) =
          rw (x, y) (wrote.field.set ∙ sym (ap (newest (initially (program_of s) o k) o k) (here o lies) ∙ newest_own (initially (program_of s) o k) o k stamp v (level_at st ((program_of s).level o)).versions))
      by (no x) d = other o' k' ho hk (λ z _. x z)
      by (yes x) (no y) = other o' k' ho hk (λ _ z. y z)

  -- the words then say that the level has one more version
  pub represents_write : (program_of s).level o ≡ l → Represents s words_written ms (modify l written st)
  represents_write lies =
      represents_change s w words_written ms ms st t b l h written
      (record {
        current = rw wrote.field.outside.length_same t.roomy.current;
        ended = t.roomy.ended;
        tallies = rw (wrote.count, length-set w.tallies (versions_place l) (get_or w.tallies (versions_place l) 0 + 1)) t.roomy.tallies;
        queue = t.roomy.queue;
        work = rw wrote.version.outside.length_same t.roomy.work;
      })
      (λ j hj. rw (tally_other j (λ e. omega (arith, e, hj, h, few))) (t.counts_few j hj))
      (field_is lies)
      own
      same
      (λ j d. refl)
