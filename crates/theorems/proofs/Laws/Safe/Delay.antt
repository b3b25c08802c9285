-- A safe step at level l, made before or after a step at a level k strictly below: it does the same, to the fork that k may have sent to l
-- beside it. Assumes nothing.
use Prim.Native.Nat.{ℕ, suc, ◌+◌, ◌-◌, ◌<◌}
use mathlib.Core.Path.{◌≡◌, refl, sym, ◌∙◌, ap, ap₂}
use mathlib.Core.Bool.{true, false, cond}
use mathlib.Core.List.{List, ◌∷◌}
use native.Mathlib.Omega.{arith}
use lib.ListN.{length, get_or, take}
use Rattle.dominance.specs.Order.{strictly}
use Rattle.session.specs.Program.{Program, seen_by}
use Rattle.lists.proofs.Laws.Lists.{holds, fails, truth, get_d_tab}
use Rattle.scripts.specs.Ending.{is_running}
use Rattle.scripts.specs.Manager.{started, stepped}
use Rattle.scripts.specs.State.{Manager}
use Rattle.scripts.proofs.Laws.Effects.{Sound}
use Rattle.model.specs.Limits.{max_managers}
use Rattle.lists.specs.Changed.{inserted}
use Rattle.model.specs.Fork.{Fork}
use Rattle.model.specs.History.{history_of}
use Rattle.model.specs.Level.{Version, Activity, idle, busy, Level, new_level, is_busy, arrived, after, forks_by, forks_of}
use Rattle.model.specs.Step.{State, level_at, view_of, read_at, none, Moved, versions_after, arrival_of, begun, advanced, moved, move_at, step_at}
use Rattle.lists.specs.Each.{Each}
use Rattle.theorems.proofs.Laws.Steps.Diamond.{seen_level}
use Rattle.theorems.proofs.Laws.Steps.Reads.{bound_at}
use Rattle.theorems.proofs.Laws.Steps.Moves.{move_is}
use Rattle.theorems.proofs.Laws.Invariant.Preserved.{other_level}
use Rattle.theorems.proofs.Laws.Invariant.Measure.{Bounded, inserted-length}
use Rattle.theorems.proofs.Laws.Invariant.WriteStamps.{write_stamp}
use Rattle.theorems.proofs.Laws.Invariant.Became.{Became, own, got, stayed, became, step_marks}
use Rattle.theorems.proofs.Laws.Invariant.State.{StateInvariant}
use Rattle.theorems.proofs.Laws.Safe.Safe.{Safe, head_same, taken_past}
use Rattle.theorems.proofs.Laws.Safe.Reads.{LooksSame, looks_same, read_same, bound_below, marks_look}

-- a fork that arrives after a step of the level's manager, or before it
after-arrived : (c : Fork) (v : Level) (ws : List Fork) (vs : List Version) (x : Fork) (m : Manager) → arrived c (after v ws vs x m) ≡ after v (take (max_managers - (length v.ended + 1)) (inserted (λ y. y.stamp) c ws)) vs x m
unfolding arrived after
after-arrived c v ws vs x m = elim (truth (is_running m.ending)) [
  | holds e ↦ rw e refl
  | fails e ↦
      let more : length (inserted (λ h. h.stamp) (history_of x m) v.ended) + 0 ≡ length v.ended + 1 =
      omega (arith, inserted-length (λ h. h.stamp) (history_of x m) v.ended) in
      rw e (ap (λ n. record {
        waiting = take (max_managers - n) (inserted (λ y. y.stamp) c ws);
        activity = idle;
        ended = inserted (λ h. h.stamp) (history_of x m) v.ended;
        next = m.stamp + 1;
        versions = vs;
      }) more)
]

-- what a step does, with a fork that has arrived beside it
abbrev pub beside : Fork → Moved → Moved
beside c done = record { own = arrived c done.own; arrival = done.arrival }

-- a fork that arrives where a manager runs; and what a step takes of its level beside that
busy_waits : (c : Fork) (v : Level) (x : Fork) (m : Manager) → v.activity ≡ busy x m → (arrived c v).waiting ≡ take (max_managers - (length v.ended + 1)) (inserted (λ y. y.stamp) c v.waiting)
unfolding arrived
busy_waits c v x m q =
    ap (λ a. take (max_managers - (length v.ended + cond (is_busy a) 1 0)) (inserted (λ y. y.stamp) c v.waiting)) q

after_same : (c : Fork) (v : Level) (ws : List Fork) (vs : List Version) (x : Fork) (m : Manager) → after (arrived c v) ws vs x m ≡ after v ws vs x m
unfolding arrived after
after_same c v ws vs x m = refl

versions_same : {A : Type 0} (c : Fork) (v : Level) (f : List Version → A) → f (arrived c v).versions ≡ f v.versions
unfolding arrived
versions_same c v f = refl

starts_at : (p : Program) (st : State) (l : ℕ) (c : Fork) (v : Level) (x : Fork) (xs ys : List Fork) → arrived c (after v xs v.versions x (started p (read_at p st l x) l v.next x.message)) ≡ after v ys v.versions x (started p (read_at p st l x) l v.next x.message) → begun p st l (arrived c v) (x ∷ ys) ≡ beside c (begun p st l v (x ∷ xs))
unfolding begun arrived after
starts_at p st l c v x xs ys e = ap (λ w. record { own = w; arrival = none }) (sym e)

module _ (p : Program) (l : ℕ) (c : Fork) (v : Level) (x : Fork) (xs : List Fork) where
  begun_beside : (st : State) → v.activity ≡ idle → v.waiting ≡ x ∷ xs → Bounded v → x.stamp < c.stamp → begun p st l (arrived c v) (arrived c v).waiting ≡ beside c (begun p st l v v.waiting)
  begun_beside st q e t h =
      ap (begun p st l (arrived c v)) front ∙ starts ∙ sym (ap (λ ws. beside c (begun p st l v ws)) e)
    where
      room : ℕ
      room = max_managers - (length v.ended + 0)

      ys : List Fork
      ys = take (max_managers - (length v.ended + 1)) (inserted (λ y. y.stamp) c xs)

      idle_count : length v.ended + cond (is_busy v.activity) 1 0 ≡ length v.ended + 0
      idle_count = ap (λ a. length v.ended + cond (is_busy a) 1 0) q

      front : (arrived c v).waiting ≡ x ∷ ys
      front =
          let some : length v.waiting ≡ suc (length xs) = ap length e in
          let less : room - 1 ≡ max_managers - (length v.ended + 1) = omega arith in
          let now : (arrived c v).waiting ≡ take room (inserted (λ y. y.stamp) c (x ∷ xs)) =
          unfold arrived in ap₂ (λ n ws. take (max_managers - n) (inserted (λ y. y.stamp) c ws)) idle_count e in
          now
          ∙ taken_past room x c xs (omega (arith, t.room, some, idle_count)) h
          ∙ ap (λ n. x ∷ take n (inserted (λ y. y.stamp) c xs)) less

      starts : begun p st l (arrived c v) (x ∷ ys) ≡ beside c (begun p st l v (x ∷ xs))
      starts = starts_at p st l c v x xs ys (after-arrived c v xs v.versions x (started p (read_at p st l x) l v.next x.message))

  own_beside : (vs : List Version) (m m' : Manager) → v.activity ≡ busy x m → after (arrived c v) (arrived c v).waiting vs x m' ≡ arrived c (after v v.waiting vs x m')
  own_beside vs m m' q =
      ap (λ ws. after (arrived c v) ws vs x m') (busy_waits c v x m q)
      ∙ after_same c v _ vs x m'
      ∙ sym (after-arrived c v v.waiting vs x m')

  advanced_beside : (st : State) (m : Manager) → v.activity ≡ busy x m → advanced p st l (arrived c v) x m ≡ beside c (advanced p st l v x m)
  advanced_beside st m q =
      let s = stepped p (read_at p st l x) m in
      let done = own_beside (versions_after m s.effect v.versions) m s.manager q in
      unfold advanced in
      ap (λ w. record { own = w; arrival = arrival_of l x m s.effect })
      (versions_same c v (λ vs. after (arrived c v) (arrived c v).waiting (versions_after m s.effect vs) x s.manager) ∙ done)

-- a step reads nothing but what it sees of fields
advanced_reads : (p : Program) (st st' : State) (l : ℕ) (v : Level) (x : Fork) (m : Manager) → read_at p st l x ≡ read_at p st' l x → advanced p st' l v x m ≡ advanced p st l v x m
unfolding advanced
advanced_reads p st st' l v x m r =
    ap (λ read. record {
      own = after v v.waiting (versions_after m (stepped p read m).effect v.versions) x (stepped p read m).manager;
      arrival = arrival_of l x m (stepped p read m).effect;
    }) (sym r)

-- nor does a start
begun_reads : (p : Program) (st st' : State) (l : ℕ) (v : Level) (x : Fork) (xs ws : List Fork) → ws ≡ x ∷ xs → read_at p st l x ≡ read_at p st' l x → begun p st' l v ws ≡ begun p st l v ws
unfolding begun
begun_reads p st st' l v x xs ws q r =
    ap (begun p st' l v) q
    ∙ ap (λ read. record { own = after v xs v.versions x (started p read l v.next x.message); arrival = none }) (sym r)
    ∙ sym (ap (begun p st l v) q)

-- a step of a level in two states that read the same to its first manager x, and where a fork has arrived at the level
module _ (p : Program) (l : ℕ) (st st' : State) (x : Fork) (xs : List Fork) (r : read_at p st l x ≡ read_at p st' l x) where
  moved_reads : (v : Level) (a : Activity) → forks_by a v.waiting ≡ x ∷ xs → moved p st' l v a ≡ moved p st l v a
  unfolding moved
  moved_reads v idle q = begun_reads p st st' l v x xs v.waiting q r
  moved_reads v (busy y m) q = advanced_reads p st st' l v y m (rw (head_same y x v.waiting xs q) r)

  moved_beside : (c : Fork) (v : Level) → Bounded v → x.stamp < c.stamp → (a : Activity) → v.activity ≡ a → forks_by a v.waiting ≡ x ∷ xs → moved p st' l (arrived c v) a ≡ beside c (moved p st l v a)
  unfolding moved
  moved_beside c v t h idle q e = begun_beside p l c v x xs st' q e t h ∙ ap (beside c) (begun_reads p st st' l v x xs v.waiting e r)
  moved_beside c v t h (busy y m) q e =
      let same = head_same y x v.waiting xs e in
      advanced_reads p st st' l (arrived c v) y m (rw same r) ∙ advanced_beside p l c v y xs st m q

-- what a level does not see
unseen_level : (p : Program) (l j : ℕ) (st : State) → j < p.levels → p.dom l j ≡ false → level_at (view_of p l st) j ≡ new_level
unfolding view_of
unseen_level p l j st h e =
    get_d_tab new_level p.levels (λ j. cond (p.dom l j) (level_at st j) new_level) j h ∙ rw e refl

arrived_looks : (l j : ℕ) (x c : Fork) (v : Level) → LooksSame l j x v (arrived c v)
unfolding arrived
arrived_looks l j x c v = looks_same l j x v (arrived c v) refl refl

-- a safe step at level l, after a step at level k strictly below
module _ (p : Program) (so : Sound p) (st : State) (i : StateInvariant p st) (l k : ℕ) (s : Safe p st l) (hk : k < p.levels) (b : strictly p.dom l k ≡ true) where
  abbrev x : Fork
  x = s.fork

  abbrev next : State
  next = step_at p k st

  first_of : (P : Fork → Type 0) (ys : List Fork) → ys ≡ x ∷ s.others → Each P ys → P x
  first_of P ys q e = unfold Each in (rw q at e).0

  -- each level that l sees looks the same to x
  changed : (j : ℕ) → j < p.levels → LooksSame l j x (level_at st j) (level_at next j)
  changed j hj = by (level_at next j) (became p so st i.fork_invariant k hk j)
    where
      low : bound_at x k (level_at st k) < write_stamp (level_at st k)
      low =
          bound_below (write_stamp (level_at st k)) x k (level_at st k) (i.stamped.ended k hk)
          (first_of (λ y. get_or y.carried k 0 < write_stamp (level_at st k)) (forks_of (level_at st l)) s.first (i.stamped.carried l k s.present hk))

      by : (v : Level) → Became p k st j v → LooksSame l j x (level_at st j) v
      by v (own e q) =
          rw (q, e) (marks_look l k x (level_at st k) (move_at p k st).own (move_at p k st).arrival (step_marks p so st i.fork_invariant k hk) low (s.below k hk b) (λ t. other_level p l k b t))
      by v (got c e g q) = rw q (arrived_looks l j x c (level_at st j))
      by v (stayed n q) = rw q (looks_same l j x (level_at st j) (level_at st j) refl refl)

  looks : (j : ℕ) → j < p.levels → LooksSame l j x (level_at (view_of p l st) j) (level_at (view_of p l next) j)
  looks j hj = elim (truth (p.dom l j)) [
    | holds e ↦ by (level_at (view_of p l st) j) (level_at (view_of p l next) j) (seen_level p l j st hj e) (seen_level p l j next hj e)
    | fails e ↦
        looks_same l j x (level_at (view_of p l st) j) (level_at (view_of p l next) j)
        (ap (λ v. v.versions) (unseen_level p l j st hj e) ∙ sym (ap (λ v. v.versions) (unseen_level p l j next hj e)))
        (ap (λ v. v.ended) (unseen_level p l j st hj e) ∙ sym (ap (λ v. v.ended) (unseen_level p l j next hj e)))
  ]
    where
      by : (v w : Level) → v ≡ level_at st j → w ≡ level_at next j → LooksSame l j x v w
      by v w q e = rw (q, e) (changed j hj)

  reads : read_at (seen_by l p) (view_of p l st) l x ≡ read_at (seen_by l p) (view_of p l next) l x
  reads = read_same (seen_by l p) (view_of p l st) (view_of p l next) l x (unfold seen_by in λ o. looks (p.level o) (so.placed o))

  move_next : (v : Level) → level_at next l ≡ v → move_at p l next ≡ moved (seen_by l p) (view_of p l next) l v v.activity
  move_next v q =
      move_is p l next so s.present ∙ ap (λ v. moved (seen_by l p) (view_of p l next) l v v.activity) q

  -- it does the same where k sent nothing to l
  pub delayed : level_at next l ≡ level_at st l → move_at p l next ≡ move_at p l st
  delayed q =
      move_next (level_at st l) q
      ∙ moved_reads (seen_by l p) l (view_of p l st) (view_of p l next) x s.others reads (level_at st l) (level_at st l).activity s.first
      ∙ sym (move_is p l st so s.present)

  -- and the same beside a fork that k sent to l
  pub delayed_beside : (c : Fork) → level_at next l ≡ arrived c (level_at st l) → x.stamp < c.stamp → move_at p l next ≡ beside c (move_at p l st)
  delayed_beside c q h =
      move_next (arrived c (level_at st l)) q
      ∙ ap (moved (seen_by l p) (view_of p l next) l (arrived c (level_at st l))) (same_activity c (level_at st l))
      ∙ moved_beside (seen_by l p) l (view_of p l st) (view_of p l next) x s.others reads c (level_at st l) (i.bounded l) h (level_at st l).activity refl s.first
      ∙ sym (ap (beside c) (move_is p l st so s.present))
    where
      same_activity : (c : Fork) (v : Level) → (arrived c v).activity ≡ v.activity
      same_activity c v = unfold arrived in refl
