-- Write stamps: what a scheduler step does to the write stamp, the versions, the histories and the forks of its own level. Assumes nothing.
use Prim.Native.Nat.{ℕ, ◌+◌, ◌≤◌, ◌<◌}
use mathlib.Core.Path.{◌≡◌, refl, sym, ◌∙◌, ap, ap₂}
use mathlib.Core.Bool.{true, false}
use mathlib.Core.List.{List, [], ◌∷◌, ◌++◌, map}
use native.Mathlib.Omega.{arith}
use lib.ListN.{set}
use Rattle.session.specs.Program.{Program}
use Rattle.lists.proofs.Laws.Range.{not_both}
use Rattle.lists.proofs.Laws.Lists.{holds, fails, truth}
use Rattle.scripts.specs.Ending.{is_running}
use Rattle.scripts.specs.Manager.{started, stepped}
use Rattle.scripts.specs.State.{Manager}
use Rattle.scripts.specs.Effect.{Effect}
use Rattle.scripts.specs.Effect as effect
use Rattle.scripts.proofs.Laws.Counts.{counts, grown, one_more, started_counts, stepped_counts}
use Rattle.lists.specs.Changed.{inserted}
use Rattle.model.specs.Fork.{Fork, child_of}
use Rattle.model.specs.History.{History, history_of}
use Rattle.model.specs.Level.{Version, version_of, Activity, idle, busy, Level, is_busy, forks_by, forks_of, after}
use Rattle.model.specs.Step.{State, read_at, Arrival, none, at, versions_after, arrival_of, begun, advanced, moved}
use Rattle.lists.specs.Each.{Each}
use Rattle.lists.proofs.Laws.Each.{each_any, each_made}
use Rattle.theorems.proofs.Laws.Invariant.Forest.{Rest, whole, tail}

-- the write stamp of a level: of the manager that runs, or of the next one
abbrev pub stamp_by : Activity → ℕ → ℕ
stamp_by idle next = next
stamp_by (busy x m) next = m.stamp

abbrev pub write_stamp : Level → ℕ
write_stamp v = stamp_by v.activity v.next

-- the histories before and after a step: the same, or with that of the first manager
pub data Closes (v w : Level) : Type 0 where
  kept : w.ended ≡ v.ended → Closes v w
  closed : (x : Fork) (xs : List Fork) (h : History) → forks_of v ≡ x ∷ xs → h.stamp ≡ x.stamp → h.last < write_stamp w → w.ended ≡ inserted (λ h. h.stamp) h v.ended → Closes v w

-- the fork c that the first manager makes at level l carries a write stamp of that level that is past
pub record Child (l : ℕ) (v w : Level) (c : Fork) : Type 0 where
  pub sender : Fork
  pub others : List Fork
  pub past : ℕ
  pub first : forks_of v ≡ sender ∷ others
  pub carried : c.carried ≡ set sender.carried l past
  pub below : past < write_stamp w

abbrev pub Sends : ℕ → Level → Level → Arrival → Type 0
Sends l v w none = Unit
Sends l v w (at u c) = Child l v w c

-- what a step does to its own level
pub record Marks (l : ℕ) (v w : Level) (b : Arrival) : Type 0 where
  pub grows : write_stamp v ≤ write_stamp w
  pub forks : Rest (forks_of v) (forks_of w)
  pub queue : Rest v.waiting w.waiting
  pub going : is_busy w.activity ≡ true → forks_of w ≡ forks_of v
  pub closes : Closes v w
  pub fresh : List Version
  pub versions : w.versions ≡ fresh ++ v.versions
  pub current : Each (λ r. r.stamp ≡ write_stamp v) fresh
  pub child : Sends l v w b

-- the level after a step of the manager of fork x, which is m then
module _ (v : Level) (ws : List Fork) (vs : List Version) (x : Fork) (m : Manager) where
  after_stamp : m.stamp ≤ write_stamp (after v ws vs x m)
  unfolding after
  after_stamp = elim (truth (is_running m.ending)) [
    | holds e ↦ rw e (omega arith)
    | fails e ↦ rw e (omega arith)
  ]

  after_forks : Rest (x ∷ ws) (forks_of (after v ws vs x m))
  unfolding after
  after_forks = elim (truth (is_running m.ending)) [
    | holds e ↦ rw e (whole refl)
    | fails e ↦ rw e (tail x refl)
  ]

  after_closes : forks_of v ≡ x ∷ ws → Closes v (after v ws vs x m)
  unfolding after
  after_closes q = elim (truth (is_running m.ending)) [
    | holds e ↦ rw e (kept refl)
    | fails e ↦ rw e (closed x ws (history_of x m) q refl (omega arith) refl)
  ]

  after_waiting : (after v ws vs x m).waiting ≡ ws
  unfolding after
  after_waiting = elim (truth (is_running m.ending)) [
    | holds e ↦ rw e refl
    | fails e ↦ rw e refl
  ]

  after_going : is_busy (after v ws vs x m).activity ≡ true → forks_of (after v ws vs x m) ≡ x ∷ ws
  unfolding after
  after_going b = elim (truth (is_running m.ending)) [
    | holds e ↦ rw e refl
    | fails e ↦ absurd (not_both false (rw e at b) refl)
  ]

  pub after_versions : (after v ws vs x m).versions ≡ vs
  unfolding after
  after_versions = elim (truth (is_running m.ending)) [
    | holds e ↦ rw e refl
    | fails e ↦ rw e refl
  ]

  -- so what a step marks, by what it writes and forks
  marks_after : (l : ℕ) (b : Arrival) (fresh : List Version) → forks_of v ≡ x ∷ ws → Rest v.waiting ws → write_stamp v ≤ m.stamp → vs ≡ fresh ++ v.versions → Each (λ r. r.stamp ≡ write_stamp v) fresh → Sends l v (after v ws vs x m) b → Marks l v (after v ws vs x m) b
  marks_after l b fresh q t g e a s =
      record {
        grows = omega (arith, g, after_stamp);
        forks = rw q after_forks;
        queue = rw after_waiting t;
        going = λ b. after_going b ∙ sym q;
        closes = after_closes q;
        fresh = fresh;
        versions = after_versions ∙ e;
        current = a;
        child = s;
      }

begun_marks : (p : Program) (st : State) (l : ℕ) (v : Level) → v.activity ≡ idle → (ws : List Fork) → v.waiting ≡ ws → Marks l v (begun p st l v ws).own (begun p st l v ws).arrival
unfolding begun Each
begun_marks p st l v q [] e =
    record {
      grows = omega arith;
      forks = whole refl;
      queue = whole refl;
      going = λ b. refl;
      closes = kept refl;
      fresh = [];
      versions = refl;
      current = tt;
      child = tt;
    }
begun_marks p st l v q (x ∷ xs) e =
    let m = started p (read_at p st l x) l v.next x.message in
    let begins : m.stamp ≡ v.next = ap (λ c. c.stamp) (started_counts p (read_at p st l x) l v.next x.message) in
    let now : write_stamp v ≡ v.next = ap (λ a. stamp_by a v.next) q in
    marks_after v xs v.versions x m l none [] (ap₂ forks_by q e) (tail x e) (omega (arith, begins, now)) refl tt tt

-- the running manager x makes a step with an effect
effect_marks : (l : ℕ) (v : Level) (x : Fork) (m m' : Manager) (e : Effect) → v.activity ≡ busy x m → counts m' ≡ one_more (grown (counts m) e) → Marks l v (after v v.waiting (versions_after m e v.versions) x m') (arrival_of l x m e)
unfolding Each
effect_marks l v x m m' effect.Nothing q c =
    let same : m'.stamp ≡ m.stamp = ap (λ c. c.stamp) c in
    let now : write_stamp v ≡ m.stamp = ap (λ a. stamp_by a v.next) q in
    marks_after v v.waiting v.versions x m' l none [] (ap (λ a. forks_by a v.waiting) q) (whole refl) (omega (arith, same, now)) refl tt tt
effect_marks l v x m m' (effect.Write ws) q c =
    let same : m'.stamp ≡ m.stamp = ap (λ c. c.stamp) c in
    let now : write_stamp v ≡ m.stamp = ap (λ a. stamp_by a v.next) q in
    let fresh = map (version_of m.stamp) ws in
    marks_after v v.waiting (fresh ++ v.versions) x m' l none fresh (ap (λ a. forks_by a v.waiting) q) (whole refl) (omega (arith, same, now)) refl
    (each_made (version_of m.stamp) (λ r. r.stamp ≡ write_stamp v) ws (each_any _ (λ w. sym now) ws)) tt
effect_marks l v x m m' (effect.Fork u message) q c =
    let more : m'.stamp ≡ m.stamp + 1 = ap (λ c. c.stamp) c in
    let now : write_stamp v ≡ m.stamp = ap (λ a. stamp_by a v.next) q in
    marks_after v v.waiting v.versions x m' l _ [] (ap (λ a. forks_by a v.waiting) q) (whole refl) (omega (arith, more, now)) refl tt
    (record {
      sender = x;
      others = v.waiting;
      past = m.stamp;
      first = ap (λ a. forks_by a v.waiting) q;
      carried = unfold child_of in refl;
      below = omega (arith, more, after_stamp v v.waiting v.versions x m');
    })

pub moved_marks : (p : Program) (st : State) (l : ℕ) (v : Level) (a : Activity) → v.activity ≡ a → Marks l v (moved p st l v a).own (moved p st l v a).arrival
unfolding moved advanced
moved_marks p st l v idle q = begun_marks p st l v q v.waiting refl
moved_marks p st l v (busy x m) q =
    let s = stepped p (read_at p st l x) m in
    effect_marks l v x m s.manager s.effect q (stepped_counts p (read_at p st l x) m)
