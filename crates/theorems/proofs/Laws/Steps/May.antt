-- When a step is allowed: what questions 12 to 14 say, as a record. It depends on what the level sees alone. Assumes nothing.
use Prim.Native.Nat.{ℕ, ◌+◌, ◌<◌}
use mathlib.Core.Path.{◌≡◌, refl, sym, ◌∙◌, ap}
use mathlib.Core.Bool.{Bool, true, false, not, cond, ◌||◌}
use mathlib.Core.List.{List, [], ◌∷◌, map}
use native.Mathlib.Omega.{arith}
use borrow.Author.Tests.{ltb-true, lt-ltb}
use Rattle.dominance.specs.Order.{PartialOrder}
use Rattle.lists.proofs.Laws.Range.{not_both, implies_then, implies_when, all_each, all-every}
use Rattle.session.specs.Program.{Program}
use Rattle.model.specs.Fork.{Fork, span}
use Rattle.model.specs.Level.{Activity, idle, busy, Level, is_busy, is_empty, has_manager, forks_by, forks_of}
use Rattle.model.specs.Step.{State, level_at, view_of}
use Rattle.model.specs.Schedule.{question12, question13, holds_back, is_free, first_free, question14, refusal_under, step_refusal}
use Rattle.lists.specs.Each.{Each}
use Rattle.lists.proofs.Laws.Each.{every_is, is_every}
use Rattle.model.proofs.Laws.Stamps.{within_free, free_within}
use Rattle.theorems.proofs.Laws.Invariant.Tree.{up_to}
use Rattle.theorems.proofs.Laws.Invariant.Entries.{waiting_entry, entries_by, entries_of}
use Rattle.theorems.proofs.Laws.Steps.Diamond.{seen_level}

-- a step at level l is allowed: questions 12 to 14 say yes. The stamp of the manager about to step lies before the end of the interval of each
-- manager at a level that l dominates
pub record MayStep (p : Program) (st : State) (l : ℕ) : Type 0 where
  pub present : l < p.levels
  pub fork : Fork
  pub others : List Fork
  pub first : forks_of (level_at st l) ≡ fork ∷ others
  pub free : (j : ℕ) → j < p.levels → p.dom l j ≡ true → Each (λ e. fork.stamp < up_to e) (entries_of j (level_at st j))

-- a level with a first fork has a manager, and one with a manager has a first fork
pub first-managed : (v : Level) (x : Fork) (xs : List Fork) → forks_of v ≡ x ∷ xs → has_manager v ≡ true
first-managed v x xs q = by v.activity q
  where
    by : (a : Activity) → forks_by a v.waiting ≡ x ∷ xs → (is_busy a || not (is_empty v.waiting)) ≡ true
    by idle q = rw q refl
    by (busy y m) q = refl

pub managed-first : (v : Level) → has_manager v ≡ true → (x : Fork) × ((xs : List Fork) × (forks_of v ≡ x ∷ xs))
managed-first v h = by v.activity v.waiting h
  where
    by : (a : Activity) (ws : List Fork) → (is_busy a || not (is_empty ws)) ≡ true → (x : Fork) × ((xs : List Fork) × (forks_by a ws ≡ x ∷ xs))
    by idle [] h = absurd (not_both false h refl)
    by idle (x ∷ xs) h = (x, (xs, refl))
    by (busy x m) ws h = (x, (ws, refl))

pub may_managed : {p : Program} {st : State} {l : ℕ} → MayStep p st l → has_manager (level_at st l) ≡ true
may_managed {st = st} {l = l} m = first-managed (level_at st l) m.fork m.others m.first

-- what holds of the stamps and depths of a level's forks holds of its entries, and the other way round
pub forks_entries : (P : ℕ → ℕ → Type 0) (j : ℕ) (v : Level) → Each (λ y. P y.stamp y.depth) (forks_of v) → Each (λ e. P e.stamp e.depth) (entries_of j v)
unfolding Each
forks_entries P j v f = by v.activity v.waiting f
  where
    waits : (ws : List Fork) → Each (λ y. P y.stamp y.depth) ws → Each (λ e. P e.stamp e.depth) (map (waiting_entry j) ws)
    waits [] f = tt
    waits (w ∷ ws) f = (f.0, waits ws f.1)

    by : (a : Activity) (ws : List Fork) → Each (λ y. P y.stamp y.depth) (forks_by a ws) → Each (λ e. P e.stamp e.depth) (entries_by j a ws)
    by idle ws f = waits ws f
    by (busy x m) ws f = (f.0, waits ws f.1)

pub entries_forks : (P : ℕ → ℕ → Type 0) (j : ℕ) (v : Level) → Each (λ e. P e.stamp e.depth) (entries_of j v) → Each (λ y. P y.stamp y.depth) (forks_of v)
unfolding Each
entries_forks P j v f = by v.activity v.waiting f
  where
    waits : (ws : List Fork) → Each (λ e. P e.stamp e.depth) (map (waiting_entry j) ws) → Each (λ y. P y.stamp y.depth) ws
    waits [] f = tt
    waits (w ∷ ws) f = (f.0, waits ws f.1)

    by : (a : Activity) (ws : List Fork) → Each (λ e. P e.stamp e.depth) (entries_by j a ws) → Each (λ y. P y.stamp y.depth) (forks_by a ws)
    by idle ws f = waits ws f
    by (busy x m) ws f = (f.0, waits ws f.1)

-- a stamp lies before the end of the interval of a manager with this stamp and depth
abbrev pub Before : ℕ → ℕ → ℕ → Type 0
Before s stamp depth = s < stamp + span depth

-- question 14, level by level
module _ (p : Program) (st : State) (l : ℕ) (x : Fork) (xs : List Fork) (q : forks_of (level_at st l) ≡ x ∷ xs) where
  pub asks-first : question14 p st l ≡ is_free p st l x.stamp
  unfolding question14
  asks-first = ap (first_free p st l) q

  pub free_each : question14 p st l ≡ true → (j : ℕ) → j < p.levels → p.dom l j ≡ true → Each (λ e. x.stamp < up_to e) (entries_of j (level_at st j))
  unfolding is_free
  free_each e j h d =
      forks_entries (Before x.stamp) j (level_at st j)
      (every_is (λ y. not (holds_back y x.stamp)) (λ y. x.stamp < y.stamp + span y.depth) (λ y. free_within y x.stamp) (forks_of (level_at st j))
      (implies_then (p.dom l j) _ (all_each p.levels _ (sym asks-first ∙ e) j h) d))

  pub each_free : ((j : ℕ) → j < p.levels → p.dom l j ≡ true → Each (λ e. x.stamp < up_to e) (entries_of j (level_at st j))) → question14 p st l ≡ true
  unfolding is_free
  each_free f =
      asks-first
      ∙ all-every p.levels _ λ j h. implies_when (p.dom l j) _ λ d.
      is_every (λ y. not (holds_back y x.stamp)) (λ y. x.stamp < y.stamp + span y.depth) (λ y. within_free y x.stamp) (forks_of (level_at st j))
      (entries_forks (Before x.stamp) j (level_at st j) (f j h d))

-- questions 12 to 14, taken apart and put together
pub all_yes : (a b c : Bool) → cond {A = ℕ} a (cond b (cond c 0 14) 13) 12 ≡ 0 → (a ≡ true) × ((b ≡ true) × (c ≡ true))
all_yes true true true e = (refl, (refl, refl))
all_yes true true false e = absurd (omega (arith, e))
all_yes true false c e = absurd (omega (arith, e))
all_yes false b c e = absurd (omega (arith, e))

pub may_step : (p : Program) (st : State) (l : ℕ) → step_refusal p st l ≡ 0 → MayStep p st l
unfolding refusal_under
may_step p st l e =
    let (a, (b, c)) = all_yes (question12 p l) (question13 st l) (question14 p st l) e in
    let (x, (xs, q)) = managed-first (level_at st l) b in
    record {
      present = ltb-true l p.levels a;
      fork = x;
      others = xs;
      first = q;
      free = free_each p st l x xs q c;
    }

pub step_may : (p : Program) (st : State) (l : ℕ) → MayStep p st l → step_refusal p st l ≡ 0
unfolding refusal_under
step_may p st l m =
    rw (lt-ltb l p.levels m.present, may_managed m, each_free p st l m.fork m.others m.first m.free) refl

-- whether a level may step depends on what it sees alone
pub may_local : (p : Program) → PartialOrder p.levels p.dom → (l : ℕ) (st st' : State) → view_of p l st ≡ view_of p l st' → MayStep p st l → MayStep p st' l
may_local p po l st st' e m =
    record {
      present = m.present;
      fork = m.fork;
      others = m.others;
      first = rw (same l m.present (po.itself l m.present)) m.first;
      free = λ j h d. rw (same j h d) (m.free j h d);
    }
  where
    same : (j : ℕ) → j < p.levels → p.dom l j ≡ true → level_at st' j ≡ level_at st j
    same j h d = sym (seen_level p l j st' h d) ∙ ap (λ v. level_at v j) (sym e) ∙ seen_level p l j st h d
