-- What a write and the end of a manager do to the words of a run. Assumes nothing.
use Prim.Native.Nat.{ℕ, ◌+◌, ◌≤◌, ◌<◌}
use mathlib.Core.Path.{◌≡◌, refl, sym, ◌∙◌, ap}
use mathlib.Core.Bool.{true}
use mathlib.Core.List.{List, ◌∷◌}
use native.Mathlib.Decide.{ℕ_discrete}
use native.Mathlib.Omega.{arith}
use borrow.Author.Tests.{eq-eqb, ne_eqb}
use lib.Dec.{eqb}
use lib.ListN.{length, get_or}
use Rattle.lists.proofs.Laws.Range.{not_both}
use Rattle.session.specs.Limits.{max_levels, max_numbers, fields}
use Rattle.session.specs.Parts.{level_count, object_count}
use Rattle.session.specs.Program.{Program, program_of}
use Rattle.session.specs.Value.{Value}
use Rattle.scripts.specs.Effect.{Written}
use Rattle.scripts.specs.Existence.{existence, initially}
use Rattle.scripts.specs.Limits.{max_forks}
use Rattle.scripts.specs.Value.{number_in}
use Rattle.scripts.specs.State.{Manager}
use Rattle.scripts.specs.declared.Ended.{Ended}
use Rattle.fields.specs.Limits.{object_values}
use Rattle.fields.specs.Fields.{field_at, script_in, FieldSet}
use Rattle.model.specs.Limits.{max_managers}
use Rattle.lists.specs.Changed.{inserted}
use Rattle.model.specs.Fork as model
use Rattle.model.specs.History as history
use Rattle.model.specs.DepthFirst.{Tally, Progress, new_tally, tally_at, current, field_now, close}
use Rattle.lists.proofs.Laws.Changed.{modify-length, modify_at, modify_other}
use Rattle.theorems.proofs.Laws.Invariant.Measure.{inserted-length}
use Rattle.histories.specs.Histories.{histories_at, history_of, Added}
use Rattle.tallies.specs.Places.{next_place, waiting_place, all_changes_place, tally_numbers, tallied, changed, unchanged}
use Rattle.tallies.proofs.Laws.Changed.{changed-length, changed_other, changed-all}
use Rattle.tallies.proofs.Laws.Closed.{tallied-length, tallied_other, tallied_count, tallied_next}
use Rattle.progress.specs.Representation.{Counted, RepresentedBy}

-- the fields after a write
abbrev pub wrote : ℕ → ℕ → Value → Progress → Progress
wrote o k v g =
    record { written = record { object = o; field = k; value = v } ∷ g.written; levels = g.levels }

current_own : (i : Value) (o k : ℕ) (v : Value) (ws : List Written) → current i o k (record { object = o; field = k; value = v } ∷ ws) ≡ v
unfolding current
current_own i o k v ws = rw (eq-eqb o o refl, eq-eqb k k refl) refl

current_other : (i : Value) (o k o' k' : ℕ) (v : Value) (ws : List Written) → (o' ≡ o → k' ≡ k → ⊥) → current i o' k' (record { object = o; field = k; value = v } ∷ ws) ≡ current i o' k' ws
unfolding current
current_other i o k o' k' v ws n = elim (ℕ_discrete o o') [
  | no a ↦ rw (ne_eqb o o' a) refl
  | yes a ↦ rw (eq-eqb o o' a, ne_eqb k k' (λ b. n (sym a) (sym b))) refl
]

module _ (s : List ℕ) (g : Progress) (c c' e t : List ℕ) (o k : ℕ) (v : Value) (q : RepresentedBy s g c e t) (f : FieldSet c c' o k v) where
  other : (o' k' : ℕ) → o' < max_numbers → k' < object_values → (o' ≡ o → k' ≡ k → ⊥) → field_at c' o' k' ≡ field_now (program_of s) (wrote o k v g) o' k'
  other o' k' a b n =
      f.others o' k' b n
      ∙ q.field o' k' a b
      ∙ sym (current_other (initially (program_of s) o' k') o k o' k' v g.written n)

  here : (o' k' : ℕ) → o' < max_numbers → k' < object_values → Dec (o' ≡ o) → Dec (k' ≡ k) → field_at c' o' k' ≡ field_now (program_of s) (wrote o k v g) o' k'
  here o' k' a b (yes x) (yes y) = rw (x, y) (f.set ∙ sym (current_own (initially (program_of s) o k) o k v g.written))
  here o' k' a b (no x) d = other o' k' a b (λ z _. x z)
  here o' k' a b (yes x) (no y) = other o' k' a b (λ _ z. y z)

  -- the script of an object, if its existence is written or not
  script_after : (existence ≡ k → number_in v ≤ object_count s) → (o' : ℕ) → o' < max_numbers → Dec (o' ≡ o) → Dec (existence ≡ k) → script_in c' o' ≤ object_count s
  script_after low o' a (yes x) (yes y) = rw (x, y, f.set) (low y)
  script_after low o' a (no x) d = rw (f.others o' existence (omega arith) (λ z _. x z)) (q.scripted o' a)
  script_after low o' a (yes x) (no y) = rw (f.others o' existence (omega arith) (λ _ z. y z)) (q.scripted o' a)

  -- with counts that say the same of ended managers and write stamps. Existence that is written has a script of the session, and is counted
  kept_value : (t' : List ℕ) → tally_numbers ≤ length t' → ((j : ℕ) → j < waiting_place 0 → get_or t' j 0 ≡ get_or t j 0) → (existence ≡ k → number_in v ≤ object_count s) → (unchanged t' ≡ true → (unchanged t ≡ true) × (k < fields)) → level_count s ≤ max_levels → RepresentedBy s (wrote o k v g) c' e t'
  kept_value t' room same low written few =
      record {
        fields_there = rw f.outside.length_same q.fields_there;
        histories_there = q.histories_there;
        tallies_there = room;
        counts_few = λ l h. rw (same l (omega (arith, h))) (q.counts_few l h);
        levels = q.levels;
        field = λ o' k' a b. here o' k' a b (ℕ_discrete o' o) (ℕ_discrete k' k);
        scripted = λ o' a. script_after low o' a (ℕ_discrete o' o) (ℕ_discrete existence k);
        existing = λ u o'. current_other (initially (program_of s) o' existence) o k o' existence v g.written (λ _ z. omega (arith, z, (written u).1)) ∙ q.existing (written u).0 o';
        counted = λ l h. recount l h (q.counted l h);
      }
    where
      recount : (l : ℕ) → l < level_count s → Counted g e t l → Counted (wrote o k v g) e t' l
      recount l h z =
          record {
            few = z.few;
            count = same l (omega (arith, h, few)) ∙ z.count;
            histories = z.histories;
            rises = z.rises;
            next = same (next_place l) (omega (arith, h, few)) ∙ z.next;
            pace = z.pace;
          }

  -- a field gets a value
  pub kept_write : k < fields → level_count s ≤ max_levels → RepresentedBy s (wrote o k v g) c' e t
  kept_write h few = kept_value t q.tallies_there (λ j _. refl) (λ z. absurd (omega (arith, z, h))) (λ u. (u, h)) few

  -- existence is written, and that it was
  pub kept_change : (l : ℕ) → l < max_levels → k ≡ existence → number_in v ≤ object_count s → level_count s ≤ max_levels → RepresentedBy s (wrote o k v g) c' e (changed l t)
  kept_change l small is low few =
      kept_value (changed l t) (rw (changed-length l t) q.tallies_there)
      (λ j h. changed_other l t j (λ z. omega (arith, z, h)) (λ z. omega (arith, z, h)))
      (λ _. low)
      (λ u. absurd (not_both (unchanged (changed l t)) u (changed-all l t small q.tallies_there)))
      few

-- the counts of a level whose manager has ended
abbrev closed_tally : model.Fork → Manager → Tally → Tally
closed_tally x m t =
    record { ended = inserted (λ h. h.stamp) (history.history_of x m) t.ended; next = m.stamp + 1 }

close_own : (l : ℕ) (x : model.Fork) (m : Manager) (g : Progress) → l < length g.levels → tally_at (close l x m g) l ≡ closed_tally x m (tally_at g l)
unfolding close
close_own l x m g h = modify_at new_tally l (closed_tally x m) g.levels h

close_other : (l : ℕ) (x : model.Fork) (m : Manager) (g : Progress) (j : ℕ) → (l ≡ j → ⊥) → tally_at (close l x m g) j ≡ tally_at g j
unfolding close
close_other l x m g j n = modify_other new_tally l j (closed_tally x m) g.levels n

close_levels : (l : ℕ) (x : model.Fork) (m : Manager) (g : Progress) → length (close l x m g).levels ≡ length g.levels
unfolding close
close_levels l x m g = modify-length l (closed_tally x m) g.levels

close-fields : (p : Program) (l : ℕ) (x : model.Fork) (m : Manager) (g : Progress) (o k : ℕ) → field_now p (close l x m g) o k ≡ field_now p g o k
unfolding close
close-fields p l x m g o k = refl

module _ (s : List ℕ) (g : Progress) (c e e' t : List ℕ) (q : RepresentedBy s g c e t) (few_levels : level_count s ≤ max_levels) (l : ℕ) (hl : l < level_count s) (x : model.Fork) (m : Manager) (r : Ended) (is : history_of r ≡ history.history_of x m) (more : length (tally_at g l).ended < max_managers) (a : Added e e' l (get_or t l 0) r) (pace : m.stamp ≤ (tally_at g l).next + max_forks) where
  abbrev n : ℕ
  n = length (tally_at g l).ended

  same_count : get_or t l 0 ≡ n
  same_count = (q.counted l hl).count

  abbrev t' : List ℕ
  t' = tallied l (get_or t l 0 + 1) (m.stamp + 1) t

  small : l < max_levels
  small = omega (arith, hl, few_levels)

  -- what is counted of it then, and of another
  count_own : get_or t' l 0 ≡ get_or t l 0 + 1
  count_own = tallied_count l (get_or t l 0 + 1) (m.stamp + 1) t small q.tallies_there

  count_other : (j : ℕ) → j < max_levels → (j ≡ l → ⊥) → get_or t' j 0 ≡ get_or t j 0
  count_other j hj d = tallied_other l (get_or t l 0 + 1) (m.stamp + 1) t j d (λ z. omega (arith, z, hj))

  -- whether existence was written is counted as it was
  unchanged_same : unchanged t' ≡ unchanged t
  unchanged_same =
      ap (λ n. eqb n 0) (tallied_other l (get_or t l 0 + 1) (m.stamp + 1) t all_changes_place (λ z. omega (arith, z, small)) (λ z. omega (arith, z, small)))

  -- what the level's histories are then
  pub ended_own : (tally_at (close l x m g) l).ended ≡ inserted (λ h. h.stamp) (history_of r) (tally_at g l).ended
  ended_own =
      ap (λ t. t.ended) (close_own l x m g (rw q.levels hl))
      ∙ ap (λ h. inserted (λ h. h.stamp) h (tally_at g l).ended) (sym is)

  grown : length (tally_at (close l x m g) l).ended ≡ n + 1
  grown = ap length ended_own ∙ inserted-length (λ h. h.stamp) (history_of r) (tally_at g l).ended

  histories_own : histories_at e' l (n + 1) ≡ (tally_at (close l x m g) l).ended
  histories_own =
      ap (λ k. histories_at e' l (k + 1)) (sym same_count)
      ∙ a.histories
      ∙ ap (λ k. inserted (λ h. h.stamp) (history_of r) (histories_at e l k)) same_count
      ∙ ap (inserted (λ h. h.stamp) (history_of r)) (q.counted l hl).histories
      ∙ sym ended_own

  next_own : (tally_at (close l x m g) l).next ≡ m.stamp + 1
  next_own = ap (λ t. t.next) (close_own l x m g (rw q.levels hl))

  counted_own : Counted (close l x m g) e' t' l
  counted_own =
      record {
        few = omega (arith, grown, more);
        count = count_own ∙ ap (λ k. k + 1) same_count ∙ sym grown;
        histories = ap (histories_at e' l) grown ∙ histories_own;
        rises = rw (sym histories_own, sym same_count) a.rises;
        next = tallied_next l (get_or t l 0 + 1) (m.stamp + 1) t small q.tallies_there ∙ sym next_own;
        pace = omega (arith, next_own, grown, pace, (q.counted l hl).pace);
      }

  counted_other : (j : ℕ) → j < level_count s → (j ≡ l → ⊥) → Counted (close l x m g) e' t' j
  counted_other j hj d =
      let o = q.counted j hj in
      let same = close_other l x m g j (λ z. d (sym z)) in
      record {
        few = rw same o.few;
        count = count_other j (omega (arith, hj, few_levels)) d ∙ o.count ∙ sym (ap (λ t. length t.ended) same);
        histories = rw same (a.others j (length (tally_at g j).ended) d o.few ∙ o.histories);
        rises = rw same o.rises;
        next = tallied_other l (get_or t l 0 + 1) (m.stamp + 1) t (next_place j) (λ z. omega (arith, z, small)) (λ z. d (omega (arith, z))) ∙ o.next ∙ sym (ap (λ t. t.next) same);
        pace = rw same o.pace;
      }

  pub kept-close : RepresentedBy s (close l x m g) c e' t'
  kept-close =
      record {
        fields_there = q.fields_there;
        histories_there = rw a.outside.length_same q.histories_there;
        tallies_there = rw (tallied-length l (get_or t l 0 + 1) (m.stamp + 1) t) q.tallies_there;
        counts_few = λ j hj. elim (ℕ_discrete j l) [
          | yes z ↦ rw (z, count_own) (omega (arith, same_count, more))
          | no z ↦ rw (count_other j hj z) (q.counts_few j hj)
        ];
        levels = close_levels l x m g ∙ q.levels;
        field = λ o k a b. q.field o k a b ∙ sym (close-fields (program_of s) l x m g o k);
        scripted = q.scripted;
        existing = λ u o. close-fields (program_of s) l x m g o existence ∙ q.existing (sym unchanged_same ∙ u) o;
        counted = λ j hj. elim (ℕ_discrete j l) [
          | yes z ↦ rw z counted_own
          | no z ↦ counted_other j hj z
        ];
      }
