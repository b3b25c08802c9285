-- What several writes do to the words of a run, and the note that existence is written. Assumes nothing.
use Prim.Native.Nat.{ℕ, zero, suc, ◌+◌, ◌≤◌, ◌<◌}
use mathlib.Core.Path.{◌≡◌, refl, sym, ◌∙◌, ap, subst}
use mathlib.Core.Bool.{Bool, true, false, cond}
use mathlib.Core.List.{List, [], ◌∷◌, ◌++◌, map}
use mathlib.Core.Logic.{◌⊎◌, inl, inr}
use native.Mathlib.Decide.{ℕ_discrete}
use native.Mathlib.Omega.{arith}
use borrow.Author.Tests.{ltb-true}
use lib.Dec.{eqb, ltb}
use lib.ListN.{length, get_or, length-map, length-append}
use lib.Seq.{get_or-set_other}
use Rattle.lists.proofs.Laws.Range.{not_both}
use Rattle.session.specs.Limits.{max_levels, fields}
use Rattle.session.specs.Parts.{level_count}
use Rattle.session.specs.Program.{program_of}
use Rattle.lists.proofs.Laws.Lists.{holds, fails, truth}
use Rattle.scripts.specs.Effect.{Written}
use Rattle.scripts.specs.State.{Manager}
use Rattle.scripts.specs.Valid.{Each}
use Rattle.lists.specs.Changed.{modify}
use Rattle.model.specs.Level.{version_of, Level}
use Rattle.model.specs.Step.{State, level_at}
use Rattle.lists.proofs.Laws.Changed.{modify_twice}
use Rattle.versions.specs.Log.{max_versions}
use Rattle.tallies.specs.Places.{next_place, waiting_place, versions_place, busy_place, changes_place, all_changes_place, tally_numbers, changed, unchanged_at, unchanged}
use Rattle.tallies.proofs.Laws.Changed.{changed-length, changed_other, changed_here, changed-all}
use Rattle.level_state.specs.Representation.{Words, Represents}
use Rattle.level_state.specs.Steps.{touches, Parts, WroteAll, noted}
use Rattle.level_state.proofs.Laws.Representation.{Limited, SameAt, at_own, at_other, represents_same}
use Rattle.level_state.proofs.Laws.Write.{with_versions, represents_write}

-- the level with all versions
abbrev pub written_all : ℕ → List Written → Level → Level
written_all stamp [] v = v
written_all stamp (w ∷ ws) v = with_versions (version_of stamp w ∷ (written_all stamp ws v).versions) (written_all stamp ws v)

pub all_versions : (stamp : ℕ) (ws : List Written) (v : Level) → (written_all stamp ws v).versions ≡ map (version_of stamp) ws ++ v.versions
all_versions stamp [] v = refl
all_versions stamp (w ∷ ws) v = ap (λ vs. version_of stamp w ∷ vs) (all_versions stamp ws v)

-- the rest of it is as it was
pub record SameBut (u v : Level) : Type 0 where
  pub waiting : u.waiting ≡ v.waiting
  pub activity : u.activity ≡ v.activity
  pub ended : u.ended ≡ v.ended
  pub next : u.next ≡ v.next

pub all_but : (stamp : ℕ) (ws : List Written) (v : Level) → SameBut (written_all stamp ws v) v
all_but stamp [] v = record { waiting = refl; activity = refl; ended = refl; next = refl }
all_but stamp (w ∷ ws) v =
    let q = all_but stamp ws v in
    record { waiting = q.waiting; activity = q.activity; ended = q.ended; next = q.next }

pub modify_same : {A : Type 0} (i : ℕ) (xs : List A) → modify i (λ x. x) xs ≡ xs
unfolding modify
modify_same i [] = refl
modify_same zero (x ∷ xs) = refl
modify_same (suc i) (x ∷ xs) = ap (λ ys. x ∷ ys) (modify_same i xs)

-- a run's words with the parts that an effect may change
abbrev pub words_with : List ℕ → Parts → Words
words_with ended q = record { current = q.current; ended = ended; tallies = q.tallies; queue = q.queue; work = q.work }

-- what is written is of a field, or it was noted that existence is written
abbrev pub Noted : List ℕ → ℕ → Written → Type 0
Noted tallies l w = (get_or tallies (changes_place l) 0 ≡ 0) ⊎ (get_or tallies all_changes_place 0 ≡ 0) → w.field < fields

module _ (s : List ℕ) (few : level_count s ≤ max_levels) (ms : ℕ → Manager) (ended : List ℕ) (st : State) (l : ℕ) (h : l < level_count s) (stamp : ℕ) where
  -- the note
  pub represents_noted : (a : Parts) (ws : List Written) → Represents s (words_with ended a) ms st → ((k : ℕ) → k < level_count s → Limited (level_at st k)) → Represents s (words_with ended (noted a l ws)) ms st
  represents_noted a ws t b = by (touches ws)
    where
      small : l < max_levels
      small = omega (arith, h, few)

      marked : Words
      marked = record { current = a.current; ended = ended; tallies = changed l a.tallies; queue = a.queue; work = a.work }

      other : (j : ℕ) → (j ≡ changes_place l → ⊥) → (j ≡ all_changes_place → ⊥) → get_or (changed l a.tallies) j 0 ≡ get_or a.tallies j 0
      other = changed_other l a.tallies

      same : (j : ℕ) → j < level_count s → SameAt (words_with ended a) marked j
      same j hj =
          record {
            ended_count = other j (λ e. omega (arith, e, hj, h, few)) (λ e. omega (arith, e, hj, few));
            next = other (next_place j) (λ e. omega (arith, e, hj, h, few)) (λ e. omega (arith, e, hj, few));
            waiting_count = other (waiting_place j) (λ e. omega (arith, e, hj, h, few)) (λ e. omega (arith, e, hj, few));
            version_count = other (versions_place j) (λ e. omega (arith, e, hj, h, few)) (λ e. omega (arith, e, hj, few));
            busy = other (busy_place j) (λ e. omega (arith, e, hj, h, few)) (λ e. omega (arith, e, hj, few));
            histories = λ n q. refl;
            rows = λ first c q. refl;
            fork = λ n i q. refl;
            log = λ c q. refl;
            changes = λ z. elim (ℕ_discrete j l) [
              | yes e ↦ absurd (not_both (unchanged_at (changed l a.tallies) l) (ap (λ n. eqb n 0) (rw e at z)) (changed_here l a.tallies small t.roomy.tallies))
              | no d ↦ sym (other (changes_place j) (λ e. d (omega (arith, e))) (λ e. omega (arith, e, hj, few))) ∙ z
            ];
            all_changes = λ z. absurd (not_both (unchanged (changed l a.tallies)) (ap (λ n. eqb n 0) z) (changed-all l a.tallies small t.roomy.tallies));
          }

      with_note : Represents s marked ms st
      with_note =
          record {
            roomy = record { current = t.roomy.current; ended = t.roomy.ended; tallies = rw (changed-length l a.tallies) t.roomy.tallies; queue = t.roomy.queue; work = t.roomy.work };
            counts_few = λ j hj. rw (other j (λ e. omega (arith, e, hj)) (λ e. omega (arith, e, hj))) (t.counts_few j hj);
            levels = t.levels;
            field = t.field;
            level = λ k hk. represents_same (level_count s) (words_with ended a) marked k (ms k) (level_at st k) (b k hk) (same k hk) (t.level k hk);
          }

      by : (x : Bool) → Represents s (words_with ended (record { current = a.current; tallies = cond x (changed l a.tallies) a.tallies; queue = a.queue; work = a.work })) ms st
      by true = with_note
      by false = t

  -- what is noted is not touched by writes
  pub writes_leave : (a b : Parts) (ws : List Written) → WroteAll a b l stamp ws → (j : ℕ) → (j ≡ versions_place l → ⊥) → get_or b.tallies j 0 ≡ get_or a.tallies j 0
  writes_leave a b [] e j d = rw e refl
  writes_leave a b (w ∷ ws) (m, (e, (x, q))) j d =
      ap (λ t. get_or t j 0) x.count
      ∙ get_or-set_other m.tallies (versions_place l) j (get_or m.tallies (versions_place l) 0 + 1) 0 d
      ∙ writes_leave a m ws e j d

  -- the levels are within their limits after some writes
  pub writes_limited : (ws : List Written) → ((f : Level → Level) → level_at (modify l f st) l ≡ f (level_at st l)) → ((f : Level → Level) (k : ℕ) → (k ≡ l → ⊥) → level_at (modify l f st) k ≡ level_at st k) → ((k : ℕ) → k < level_count s → Limited (level_at st k)) → length (level_at st l).versions + length ws ≤ max_versions → (k : ℕ) → k < level_count s → Limited (level_at (modify l (written_all stamp ws) st) k)
  writes_limited ws own other lim fits k hk = elim (ℕ_discrete k l) [
    | no d ↦ rw (other (written_all stamp ws) k d) (lim k hk)
    | yes e ↦
        let q = all_but stamp ws (level_at st l) in
        let n : length (written_all stamp ws (level_at st l)).versions ≤ max_versions =
        rw (all_versions stamp ws (level_at st l), length-append (map (version_of stamp) ws) (level_at st l).versions, length-map ws (version_of stamp)) (omega (arith, fits)) in
        rw (e, own (written_all stamp ws)) (record { managers = rw (q.activity, q.ended, q.waiting) (lim l h).managers; versions = n })
  ]

  -- all writes, one after the other
  pub represents_writes : (a b : Parts) (ws : List Written) → Represents s (words_with ended a) ms st → ((k : ℕ) → k < level_count s → Limited (level_at st k)) → length (level_at st l).versions + length ws ≤ max_versions → Each (λ w. (program_of s).level w.object ≡ l) ws → Each (Noted a.tallies l) ws → WroteAll a b l stamp ws → Represents s (words_with ended b) ms (modify l (written_all stamp ws) st)
  represents_writes a b [] t lim fits lies note e =
      subst (Represents s (words_with ended b) ms) (sym (modify_same l st)) (rw e t)
  represents_writes a b (w ∷ ws) t lim fits lies note (m, (e, (x, q))) =
      let low : length (level_at st l).versions + length ws ≤ max_versions = omega (arith, fits) in
      let before = represents_writes a m ws t lim low lies.1 note.1 e in
      let limits = writes_limited ws (at_own s (words_with ended a) (words_with ended a) ms ms st t lim l h) (at_other s (words_with ended a) (words_with ended a) ms ms st t lim l h) lim low in
      let of_field : (get_or m.tallies (changes_place l) 0 ≡ 0) ⊎ (get_or m.tallies all_changes_place 0 ≡ 0) → w.field < fields = λ z. note.0 (sooner m e z) in
      rw (q, sym (modify_twice l (λ v. with_versions (version_of stamp w ∷ v.versions) v) (written_all stamp ws) st))
      (represents_write s (words_with ended m) ms (modify l (written_all stamp ws) st) before limits few l h b.current b.tallies b.work stamp w.object w.field w.value x of_field lies.0)
    where
      sooner : (m : Parts) → WroteAll a m l stamp ws → (get_or m.tallies (changes_place l) 0 ≡ 0) ⊎ (get_or m.tallies all_changes_place 0 ≡ 0) → (get_or a.tallies (changes_place l) 0 ≡ 0) ⊎ (get_or a.tallies all_changes_place 0 ≡ 0)
      sooner m e (inl z) = inl (sym (writes_leave a m ws e (changes_place l) (λ y. omega (arith, y, h, few))) ∙ z)
      sooner m e (inr z) = inr (sym (writes_leave a m ws e all_changes_place (λ y. omega (arith, y, h, few))) ∙ z)

-- where existence is not touched every write is of a field; where it is, that was noted
pub noted_each : (a : Parts) (l : ℕ) (ws : List Written) → l < max_levels → (tally_numbers ≤ length a.tallies) → Each (Noted (noted a l ws).tallies l) ws
noted_each a l ws h room = by (touches ws) refl
  where
    fielded : (ws : List Written) → touches ws ≡ false → (t : List ℕ) → Each (Noted t l) ws
    fielded [] e t = tt
    fielded (w ∷ ws) e t = elim (truth (ltb w.field fields)) [
      | holds k ↦ ((λ _. ltb-true w.field fields k), fielded ws (rw k at e) t)
      | fails k ↦ absurd (not_both true refl (rw k at e))
    ]

    marked : (ws : List Written) → Each (Noted (changed l a.tallies) l) ws
    marked [] = tt
    marked (w ∷ ws) = ((λ z. absurd (never z)), marked ws)
      where
        never : (get_or (changed l a.tallies) (changes_place l) 0 ≡ 0) ⊎ (get_or (changed l a.tallies) all_changes_place 0 ≡ 0) → ⊥
        never (inl z) = not_both (unchanged_at (changed l a.tallies) l) (ap (λ n. eqb n 0) z) (changed_here l a.tallies h room)
        never (inr z) = not_both (unchanged (changed l a.tallies)) (ap (λ n. eqb n 0) z) (changed-all l a.tallies h room)

    by : (x : Bool) → touches ws ≡ x → Each (Noted (cond x (changed l a.tallies) a.tallies) l) ws
    by true e = marked ws
    by false e = fielded ws e a.tallies
