-- How many scheduler steps a level can still make; each step takes one or more of them. Assumes nothing.
use Prim.Native.Nat.{ℕ, suc, ◌+◌, ◌*◌, ◌-◌, ◌≤◌, ◌<◌}
use mathlib.Core.Path.{◌≡◌, refl, ◌∙◌, ap, ap₂}
use mathlib.Core.Bool.{true, not, cond, ◌||◌}
use mathlib.Core.List.{List, [], ◌∷◌}
use native.Mathlib.Nat.{min-le_left}
use native.Mathlib.Omega.{arith}
use lib.Dec.{ltb}
use lib.ListN.{length, take, length-take}
use Rattle.lists.proofs.Laws.Range.{not_both}
use Rattle.session.specs.Program.{Program}
use Rattle.lists.proofs.Laws.Lists.{holds, fails, truth}
use Rattle.scripts.specs.Limits.{max_script_steps}
use Rattle.scripts.specs.Ending.{is_running}
use Rattle.scripts.specs.Manager.{started, stepped}
use Rattle.scripts.specs.State.{Manager}
use Rattle.scripts.specs.Effect.{Effect}
use Rattle.scripts.specs.Effect as effect
use Rattle.scripts.proofs.Laws.Counts.{Counts, counts, grown, one_more, started_counts, stepped_counts}
use Rattle.scripts.proofs.Laws.Endings.{running_few}
use Rattle.model.specs.Limits.{max_managers}
use Rattle.lists.specs.Changed.{inserted}
use Rattle.model.specs.Fork.{Fork}
use Rattle.model.specs.History.{history_of}
use Rattle.model.specs.Level.{Version, Activity, idle, busy, Level, is_busy, is_empty, has_manager, started_count, arrived, after}
use Rattle.model.specs.Step.{State, read_at, versions_after, begun, advanced, moved}

-- the script steps that the running manager can still make
abbrev pub left : Activity → ℕ
left idle = 0
left (busy x m) = max_script_steps - m.steps

-- the scheduler steps that a level can still make
abbrev pub cost : Level → ℕ
cost v = (1 + max_script_steps) * (max_managers - started_count v) + left v.activity

abbrev pub StepsLeft : Activity → Type 0
StepsLeft idle = Unit
StepsLeft (busy x m) = m.steps < max_script_steps

-- a level keeps its limits
pub record Bounded (v : Level) : Type 0 where
  pub room : started_count v + length v.waiting ≤ max_managers
  pub live : StepsLeft v.activity

pub inserted-length : {A : Type 0} (key : A → ℕ) (x : A) (ys : List A) → length (inserted key x ys) ≡ length ys + 1
unfolding inserted
inserted-length key x [] = refl
inserted-length key x (y ∷ ys) = elim (truth (ltb (key x) (key y))) [
  | holds e ↦ rw e (omega arith)
  | fails e ↦ rw e (omega (arith, inserted-length key x ys))
]

-- a level after a step of manager m
after_bounded : (v : Level) (ws : List Fork) (versions : List Version) (x : Fork) (m : Manager) → (is_running m.ending ≡ true → m.steps < max_script_steps) → length v.ended + 1 + length ws ≤ max_managers → Bounded (after v ws versions x m)
unfolding after
after_bounded v ws versions x m f h = elim (truth (is_running m.ending)) [
  | holds e ↦ rw e (record { room = h; live = f e })
  | fails e ↦ rw e (record { room = omega (arith, h, inserted-length (λ h. h.stamp) (history_of x m) v.ended); live = tt })
]

after_cost : (v : Level) (ws : List Fork) (versions : List Version) (x : Fork) (m : Manager) → cost (after v ws versions x m) ≤ (1 + max_script_steps) * (max_managers - (length v.ended + 1)) + (max_script_steps - m.steps)
unfolding after
after_cost v ws versions x m = elim (truth (is_running m.ending)) [
  | holds e ↦ rw e (omega arith)
  | fails e ↦ rw (e, inserted-length (λ h. h.stamp) (history_of x m) v.ended) (omega arith)
]

-- a level's step with a manager: the limits hold, and fewer steps are left
pub record Falls (v w : Level) : Type 0 where
  pub bounded : Bounded w
  pub less : cost w < cost v

begun_falls : (p : Program) (st : State) (l : ℕ) (v : Level) → Bounded v → v.activity ≡ idle → (ws : List Fork) → v.waiting ≡ ws → has_manager v ≡ true → Falls v (begun p st l v ws).own
unfolding begun
begun_falls p st l v t q [] e h = absurd (not_both (has_manager v) h (ap₂ (λ a ws. is_busy a || not (is_empty ws)) q e))
begun_falls p st l v t q (x ∷ xs) e h =
    let m = started p (read_at p st l x) l v.next x.message in
    let none_yet : m.steps ≡ 0 = ap (λ c. c.steps) (started_counts p (read_at p st l x) l v.next x.message) in
    let count : started_count v ≡ length v.ended + 0 = ap (λ a. length v.ended + cond (is_busy a) 1 0) q in
    let waits : length v.waiting ≡ suc (length xs) = ap length e in
    let room : length v.ended + 1 + length xs ≤ max_managers = omega (arith, t.room, count, waits) in
    record {
      bounded = after_bounded v xs v.versions x m (λ _. omega (arith, none_yet)) room;
      less = omega (arith, after_cost v xs v.versions x m, room, count, none_yet, ap left q);
    }

-- a script step counts itself
pub grown_steps : (c : Counts) (e : Effect) → (one_more (grown c e)).steps ≡ c.steps + 1
grown_steps c effect.Nothing = refl
grown_steps c (effect.Write ws) = refl
grown_steps c (effect.Fork u message) = refl

advanced_falls : (p : Program) (st : State) (l : ℕ) (v : Level) (x : Fork) (m : Manager) → Bounded v → v.activity ≡ busy x m → Falls v (advanced p st l v x m).own
unfolding advanced
advanced_falls p st l v x m t q =
    let s = stepped p (read_at p st l x) m in
    let one_more_step : s.manager.steps ≡ m.steps + 1 =
    ap (λ c. c.steps) (stepped_counts p (read_at p st l x) m) ∙ grown_steps (counts m) s.effect in
    let count : started_count v ≡ length v.ended + 1 = ap (λ a. length v.ended + cond (is_busy a) 1 0) q in
    let live : m.steps < max_script_steps = live_at v.activity q t.live in
    record {
      bounded = after_bounded v v.waiting _ x s.manager (running_few p (read_at p st l x) m) (omega (arith, t.room, count));
      less = omega (arith, after_cost v v.waiting (versions_after m s.effect v.versions) x s.manager, count, one_more_step, live, ap left q);
    }
  where
    live_at : (a : Activity) → a ≡ busy x m → StepsLeft a → m.steps < max_script_steps
    live_at a q f = rw q at f

pub moved_falls : (p : Program) (st : State) (l : ℕ) (v : Level) (a : Activity) → Bounded v → v.activity ≡ a → has_manager v ≡ true → Falls v (moved p st l v a).own
unfolding moved
moved_falls p st l v idle t q h = begun_falls p st l v t q v.waiting refl h
moved_falls p st l v (busy x m) t q h = advanced_falls p st l v x m t q

-- an arrival takes none
pub arrived_bounded : (x : Fork) (v : Level) → Bounded v → Bounded (arrived x v)
unfolding arrived
arrived_bounded x v t =
    let ys = inserted (λ y. y.stamp) x v.waiting in
    let few : length (take (max_managers - started_count v) ys) ≤ max_managers - started_count v =
    rw (length-take (max_managers - started_count v) ys) (min-le_left (max_managers - started_count v) (length ys)) in
    record { room = omega (arith, t.room, few); live = t.live }

pub arrived_cost : (x : Fork) (v : Level) → cost (arrived x v) ≡ cost v
unfolding arrived
arrived_cost x v = refl
