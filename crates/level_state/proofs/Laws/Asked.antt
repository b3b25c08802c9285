-- Questions 12 to 15 of what is counted are those of the state that the words say; so is the conservative rule. Assumes nothing.
use Prim.Native.Nat.{ℕ, ◌+◌, ◌≤◌, ◌<◌}
use mathlib.Core.Path.{◌≡◌, refl, sym, ◌∙◌, ap, ap₂}
use mathlib.Core.Bool.{Bool, true, false, not, cond, ◌&&◌, ◌||◌}
use mathlib.Core.List.{List, [], ◌∷◌}
use native.Mathlib.Omega.{arith}
use borrow.Author.Tests.{lt-ltb, ltb-true}
use lib.Dec.{ltb}
use lib.ListN.{length, get_or}
use Rattle.lists.specs.Range.{all, implies}
use Rattle.dominance.specs.Order.{strictly}
use Rattle.dominance.specs.Table.{dominates}
use Rattle.lists.proofs.Laws.Range.{and_left, and_right, and_both, not_both}
use Rattle.session.specs.Limits.{max_levels}
use Rattle.session.specs.Parts.{level_count, masks_of}
use Rattle.session.specs.Program.{program_of}
use Rattle.session.specs.Questions.{verdict_of, Accepted}
use Rattle.lists.proofs.Laws.Lists.{holds, fails, truth}
use Rattle.lists.proofs.Laws.Numbered.{all_ext}
use Rattle.scripts.specs.State.{Manager}
use Rattle.model.specs.Limits.{max_managers, stamp_digits}
use Rattle.model.specs.Fork.{Fork}
use Rattle.model.specs.Level.{Activity, idle, busy, Level, is_busy, is_empty, has_manager, started_count, forks_by, forks_of}
use Rattle.model.specs.Step.{State, level_at}
use Rattle.model.specs.Schedule.{question12, question14, question15, refusal_under, step_refusal, holds_back}
use Rattle.model.specs.Rules.{conservative}
use Rattle.theorems.proofs.Laws.Code.Reached.{ReachedState}
use Rattle.theorems.proofs.Laws.Code.Needs.{live-shallow}
use Rattle.theorems.proofs.Laws.Code.Progress.{refusal_absent, refusal_idle, refusal_blocked, refusal_none, allowed, busy_free, first_holds, firsts_asked}
use Rattle.queues.specs.Queue.{fork_at, forks_at}
use Rattle.queues.proofs.Laws.Queue.{forks_first}
use Rattle.tallies.specs.Places.{busy_place, busy_in, managed}
use Rattle.permits.specs.Permits.{number_of_permit, lowest_of, first_at, free_of, ended_of, permit_of, Askable}
use Rattle.level_state.specs.Representation.{Words, Runs, LevelRepresents, Represents, RunInvariant}
use Rattle.level_state.proofs.Laws.Representation.{Limited, busy_fewer}
use Rattle.level_state.proofs.Laws.Advance.{live_limited}
use Rattle.level_state.proofs.Laws.Step.{invariant_live}
use Rattle.level_state.proofs.Laws.Ready.{waits_some}

some_empty : (ws : List Fork) → ltb 0 (length ws) ≡ not (is_empty ws)
some_empty [] = refl
some_empty (x ∷ xs) = lt-ltb 0 (length (x ∷ xs)) (omega arith)

-- a level without a manager has no forks
unmanaged_forks : (v : Level) → has_manager v ≡ false → forks_of v ≡ []
unmanaged_forks v h = by v.activity v.waiting h
  where
    by : (a : Activity) (ws : List Fork) → (is_busy a || not (is_empty ws)) ≡ false → forks_by a ws ≡ []
    by idle [] e = refl
    by idle (x ∷ xs) e = absurd (not_both true refl e)
    by (busy x m) ws e = absurd (not_both true refl e)

-- where a level has a manager, fewer than all have ended
managed_fewer : (v : Level) → has_manager v ≡ true → Limited v → length v.ended < max_managers
managed_fewer v h b = by v.activity refl
  where
    by : (a : Activity) → v.activity ≡ a → length v.ended < max_managers
    by idle e = let (x, (xs, q)) = waits_some v h e in omega (arith, ap length q, b.managers)
    by (busy x m) e = busy_fewer v x m e b

module _ (n : ℕ) (w : Words) (l : ℕ) (m : Manager) (v : Level) (t : LevelRepresents n w l m v) where
  represents_busy : busy_in w.tallies l ≡ is_busy v.activity
  represents_busy = by v.activity t.activity
    where
      by : (a : Activity) → Runs n w l m (length v.ended) a → ltb 0 (get_or w.tallies (busy_place l) 0) ≡ is_busy a
      by idle r = ap (ltb 0) r
      by (busy x y) r = ap (ltb 0) r.0

  -- a level has a manager exactly where one is counted
  pub represents_managed : managed w.tallies l ≡ has_manager v
  represents_managed = ap₂ ◌||◌ represents_busy (ap (ltb 0) t.waiting_count ∙ some_empty v.waiting)

  -- its first one's fork is the one behind those that have ended
  represents_first : has_manager v ≡ true → (xs : List Fork) × (forks_of v ≡ fork_at n w.queue l (get_or w.tallies l 0) ∷ xs)
  represents_first h = by v.activity refl t.activity
    where
      by : (a : Activity) → v.activity ≡ a → Runs n w l m (length v.ended) a → (xs : List Fork) × (forks_of v ≡ fork_at n w.queue l (get_or w.tallies l 0) ∷ xs)
      by idle e r =
          let (x, (xs, q)) = waits_some v h e in
          let started : started_count v ≡ get_or w.tallies l 0 =
          ap (λ a. length v.ended + cond {A = ℕ} (is_busy a) 1 0) e ∙ omega (arith, t.ended_count) in (
            forks_at n w.queue l (get_or w.tallies l 0 + 1) (length xs),
            ap (λ a. forks_by a v.waiting) e ∙ sym t.waiting ∙ ap₂ (forks_at n w.queue l) started (ap length q) ∙ forks_first n w.queue l (get_or w.tallies l 0) (length xs),
          )
      by (busy x y) e r = (
        v.waiting,
        ap (λ a. forks_by a v.waiting) e ∙ ap (λ z. z ∷ v.waiting) (sym (ap (fork_at n w.queue l) t.ended_count ∙ r.1.1)),
      )

module _ (s masks : List ℕ) (table : masks ≡ masks_of s) (long : length masks ≡ level_count s) (w : Words) (ms : ℕ → Manager) (st : State) (t : Represents s w ms st) where
  level_at_lem : (j : ℕ) → j < length masks → LevelRepresents (level_count s) w j (ms j) (level_at st j)
  level_at_lem j h = t.level j (rw (sym long) h)

  each_managed : (j : ℕ) → j < length masks → managed w.tallies j ≡ has_manager (level_at st j)
  each_managed j h = represents_managed (level_count s) w j (ms j) (level_at st j) (level_at_lem j h)

  -- the first fork of a level that has a manager
  first_is : (j : ℕ) → j < length masks → managed w.tallies j ≡ true → (xs : List Fork) × (forks_of (level_at st j) ≡ first_at masks w.tallies w.queue j ∷ xs)
  first_is j h e =
      let (xs, q) = represents_first (level_count s) w j (ms j) (level_at st j) (level_at_lem j h) (sym (each_managed j h) ∙ e) in
      (xs, q ∙ ap (λ n. fork_at n w.queue j (get_or w.tallies j 0) ∷ xs) (sym long))

  -- the conservative rule
  quiet_is : (l : ℕ) → all (length masks) (λ j. implies (strictly (dominates masks) l j) (not (managed w.tallies j))) ≡ conservative (program_of s) st l
  unfolding conservative program_of
  quiet_is l =
      all_ext (length masks) _ (λ j. implies (strictly (dominates masks) l j) (not (has_manager (level_at st j)))) (λ j h. ap (λ b. implies (strictly (dominates masks) l j) (not b)) (each_managed j h))
      ∙ ap₂ (λ n d. all n (λ j. implies (strictly (dominates d) l j) (not (has_manager (level_at st j))))) long table

  -- 15
  pub ended_is : ended_of masks w.tallies ≡ question15 (program_of s) st
  unfolding question15 program_of
  ended_is =
      all_ext (length masks) _ (λ j. not (has_manager (level_at st j))) (λ j h. ap not (each_managed j h))
      ∙ ap (λ n. all n (λ j. not (has_manager (level_at st j)))) long

  present_is : (l : ℕ) → ltb l (length masks) ≡ question12 (program_of s) l
  unfolding program_of
  present_is l = ap (ltb l) long

  -- what the conservative rule says of a step
  module _ (l : ℕ) (h : l < length masks) where
    pub lowest_allowed : lowest_of masks w.tallies l ≡ true → refusal_under conservative (program_of s) st l ≡ 0
    lowest_allowed e =
        refusal_none conservative (program_of s) st l (sym (present_is l) ∙ lt-ltb l (length masks) h) (sym (each_managed l h) ∙ and_left (managed w.tallies l) _ e) (sym (quiet_is l) ∙ and_right (managed w.tallies l) _ e)

    pub lowest_refused : lowest_of masks w.tallies l ≡ false → refusal_under conservative (program_of s) st l ≡ 0 → ⊥
    lowest_refused e o =
        let (_, (has, quiet)) = allowed conservative (program_of s) st l o in
        not_both (lowest_of masks w.tallies l) (and_both (managed w.tallies l) _ (each_managed l h ∙ has) (quiet_is l ∙ quiet)) e

-- a test of a level's first manager, where it has one
same_test : (d b f g : Bool) → (b ≡ true → f ≡ g) → (b ≡ false → g ≡ false) → implies (d && b) (not f) ≡ implies d (not g)
same_test false b f g h n = refl
same_test true true f g h n = ap not (h refl)
same_test true false f g h n = rw (n refl) refl

module _ (s masks : List ℕ) (a : verdict_of s ≡ Accepted) (few : level_count s ≤ max_levels) (table : masks ≡ masks_of s) (long : length masks ≡ level_count s) (w : Words) (ms : ℕ → Manager) (st : State) (y : RunInvariant s w ms st) where
  abbrev t : Represents s w ms st
  t = y.represents

  live : ReachedState s st
  live = invariant_live s a w ms st y

  -- there are words for the questions
  pub askable : Askable masks w.tallies w.queue
  askable =
      record { countable = record { few = omega (arith, long, few); room = t.roomy.tallies }; room = t.roomy.queue; placed = placed; shallow = shallow }
    where
      placed : (j : ℕ) → j < length masks → managed w.tallies j ≡ true → get_or w.tallies j 0 < max_managers
      placed j h e =
          let hj : j < level_count s = rw (sym long) h in
          rw (t.level j hj).ended_count (managed_fewer (level_at st j) (sym (each_managed s masks table long w ms st t j h) ∙ e) (live_limited s a st live j hj))

      shallow : (j : ℕ) → j < length masks → managed w.tallies j ≡ true → (first_at masks w.tallies w.queue j).depth ≤ stamp_digits + 1
      shallow j h e =
          let (xs, q) = first_is s masks table long w ms st t j h e in
          live-shallow s a st live j (rw (sym long) h) (first_at masks w.tallies w.queue j) xs q

  module _ (l : ℕ) where
    -- 14, of the first manager of each level
    free_is : l < length masks → managed w.tallies l ≡ true → free_of masks w.tallies w.queue l ≡ question14 (program_of s) st l
    unfolding program_of
    free_is h e =
        let (xs, q) = first_is s masks table long w ms st t l h e in
        let x = first_at masks w.tallies w.queue l in
        all_ext (length masks) _ (λ j. implies (dominates masks l j) (not (first_holds (forks_of (level_at st j)) x.stamp))) (λ j hj. each j hj x.stamp)
        ∙ ap₂ (λ n d. all n (λ j. implies (dominates d l j) (not (first_holds (forks_of (level_at st j)) x.stamp)))) long table
        ∙ sym (firsts_asked s a st live l (rw (sym long) h) x xs q)
      where
        each : (j : ℕ) → j < length masks → (stamp : ℕ) → implies (dominates masks l j && managed w.tallies j) (not (holds_back (first_at masks w.tallies w.queue j) stamp)) ≡ implies (dominates masks l j) (not (first_holds (forks_of (level_at st j)) stamp))
        each j hj stamp =
            same_test (dominates masks l j) (managed w.tallies j) (holds_back (first_at masks w.tallies w.queue j) stamp) (first_holds (forks_of (level_at st j)) stamp)
            (λ e. sym (ap (λ ys. first_holds ys stamp) (first_is s masks table long w ms st t j hj e).1))
            (λ e. ap (λ ys. first_holds ys stamp) (unmanaged_forks (level_at st j) (sym (each_managed s masks table long w ms st t j hj) ∙ e)))

    -- 14, which is not put where a manager runs
    fourteen_is : l < length masks → managed w.tallies l ≡ true → (busy_in w.tallies l || free_of masks w.tallies w.queue l) ≡ question14 (program_of s) st l
    fourteen_is h e = elim (truth (busy_in w.tallies l)) [
      | holds b ↦
          let hl : l < level_count s = rw (sym long) h in
          rw b (sym (busy_free s a st live l hl (sym (represents_busy (level_count s) w l (ms l) (level_at st l) (t.level l hl)) ∙ b)))
      | fails b ↦ rw b (free_is h e)
    ]

    -- the number of the permit is that of the refusal
    pub asked_is : number_of_permit (permit_of masks w.tallies w.queue l) ≡ step_refusal (program_of s) st l
    asked_is = elim (truth (ltb l (length masks))) [
      | fails e ↦ rw e (sym (refusal_absent question14 (program_of s) st l (sym (present_is s masks table long w ms st t l) ∙ e)))
      | holds e ↦ present e (ltb-true l (length masks) e)
    ]
      where
        present : ltb l (length masks) ≡ true → l < length masks → number_of_permit (permit_of masks w.tallies w.queue l) ≡ step_refusal (program_of s) st l
        present e h =
            let p = program_of s in
            let twelve = sym (present_is s masks table long w ms st t l) ∙ e in
            let thirteen = sym (each_managed s masks table long w ms st t l h) in
            elim (truth (managed w.tallies l)) [
              | fails f ↦ rw (e, f) (sym (refusal_idle question14 p st l twelve (thirteen ∙ f)))
              | holds f ↦ elim (truth (busy_in w.tallies l || free_of masks w.tallies w.queue l)) [
                | fails g ↦ rw (e, f, g) (sym (refusal_blocked question14 p st l twelve (thirteen ∙ f) (sym (fourteen_is h f) ∙ g)))
                | holds g ↦ rw (e, f, g) (sym (refusal_none question14 p st l twelve (thirteen ∙ f) (sym (fourteen_is h f) ∙ g)))
              ]
            ]
