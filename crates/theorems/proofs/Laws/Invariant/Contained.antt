-- Messages, frames and scripts stay under their levels: every step keeps this. So a manager never looks at what its level does not see, and a
-- scheduler step may be made from the whole program and the whole state. Assumes nothing.
use Prim.Native.Nat.{ℕ, ◌-◌, ◌<◌}
use mathlib.Core.Path.{◌≡◌, refl, sym, ◌∙◌, ap}
use mathlib.Core.Bool.{true, ◌&&◌}
use mathlib.Core.List.{List, [], ◌∷◌, map}
use native.Mathlib.Decide.{ℕ_discrete}
use borrow.Author.Tests.{eqb-true, ltb-true}
use lib.Dec.{eqb, leb, ltb}
use Rattle.lists.proofs.Laws.Range.{and_left, and_right}
use Rattle.session.specs.Program.{Program, seen_by}
use Rattle.session.specs.Value.{Value}
use Rattle.lists.proofs.Laws.Lists.{holds, fails, truth}
use Rattle.scripts.specs.Existence.{existence, initially}
use Rattle.scripts.specs.Value.{number_in}
use Rattle.scripts.specs.Ending.{is_running}
use Rattle.scripts.specs.Manager.{stepped}
use Rattle.scripts.specs.State.{Manager}
use Rattle.scripts.specs.Effect.{Effect}
use Rattle.scripts.specs.Effect as effect
use Rattle.scripts.proofs.Laws.Effects.{Readable, Legible, Sound}
use Rattle.scripts.proofs.Laws.Within.{Within, started_within, started_seen, stepped_within, stepped_seen, Reaches, stepped_reaches, Lawful, Lawfully, stepped_lawful}
use Rattle.model.specs.Limits.{max_managers}
use Rattle.lists.specs.Changed.{inserted}
use Rattle.model.specs.Fork.{Fork, child_of}
use Rattle.model.specs.Level.{Version, version_of, Activity, idle, busy, Level, started_count, arrived, after, is_of, newest, newest_to}
use Rattle.model.specs.Step.{State, level_at, view_of, read_at, Arrival, none, at, versions_after, arrival_of, begun, advanced, moved, move_at, step_at}
use Rattle.lists.specs.Each.{Each}
use Rattle.lists.proofs.Laws.Each.{each_append, each_made, each_take, each_inserted}
use Rattle.theorems.proofs.Laws.Seen.{each_seen}
use Rattle.theorems.proofs.Laws.Steps.Reads.{read_own, read_below, reads_direct}
use Rattle.theorems.proofs.Laws.Steps.Moves.{AtLevel, move_is}
use Rattle.theorems.proofs.Laws.Invariant.Forks.{ForkInvariant}
use Rattle.theorems.proofs.Laws.Invariant.Became.{Became, own, got, stayed, became}

-- the object of each message that waits at level l lies under l, and so do the objects of the frames of the manager that runs there
abbrev pub Reached : Program → ℕ → Fork → Type 0
Reached p l x = p.dom l (p.level x.message.object) ≡ true

abbrev pub Framed : Program → ℕ → Activity → Type 0
Framed p l idle = Unit
Framed p l (busy x m) = (is_running m.ending ≡ true) × Within p l m

-- a version of an object's existence, at level l, names a script that l may read
abbrev pub Kept : Program → ℕ → Version → Type 0
Kept p l w = Lawful p l w.field w.value

pub record Contained (p : Program) (l : ℕ) (v : Level) : Type 0 where
  pub waiting : Each (Reached p l) v.waiting
  pub activity : Framed p l v.activity
  pub versions : Each (Kept p l) v.versions

abbrev pub AllContained : Program → State → Type 0
AllContained p st = (l : ℕ) → l < p.levels → Contained p l (level_at st l)

-- so what is found of an object's existence does
is_of_lem : (o k : ℕ) (w : Version) → is_of o k w ≡ true → w.field ≡ k
is_of_lem o k w e = eqb-true w.field k (and_right (eqb w.object o) (eqb w.field k) e)

pub newest-kept : (p : Program) (l : ℕ) (i : Value) (o : ℕ) (ws : List Version) → Readable p l (number_in i) → Each (Kept p l) ws → Readable p l (number_in (newest i o existence ws))
unfolding newest Each
newest-kept p l i o [] r e = r
newest-kept p l i o (w ∷ ws) r e = elim (truth (is_of o existence w)) [
  | holds q ↦ rw q (e.0 (is_of_lem o existence w q))
  | fails q ↦ rw q (newest-kept p l i o ws r e.1)
]

newest_to_kept : (p : Program) (l b : ℕ) (i : Value) (o : ℕ) (ws : List Version) → Readable p l (number_in i) → Each (Kept p l) ws → Readable p l (number_in (newest_to b i o existence ws))
unfolding newest_to Each
newest_to_kept p l b i o [] r e = r
newest_to_kept p l b i o (w ∷ ws) r e = elim (truth (is_of o existence w && leb w.stamp b)) [
  | holds q ↦ rw q (e.0 (is_of_lem o existence w (and_left (is_of o existence w) (leb w.stamp b) q)))
  | fails q ↦ rw q (newest_to_kept p l b i o ws r e.1)
]

-- at first too
pub first_readable : (p : Program) → Sound p → (o : ℕ) → Readable p (p.level o) (number_in (initially p o existence))
unfolding initially
first_readable p so o = elim (truth (ltb o p.objects)) [
  | holds e ↦ rw e (ltb-true o p.objects e, so.lattice.order.itself (p.level o) (so.placed o))
  | fails e ↦ rw e tt
]

-- what a manager reads of existence names scripts that the objects' levels may read
pub read_legible : (p : Program) → Sound p → (st : State) → AllContained p st → (l : ℕ) (x : Fork) → Legible p (read_at p st l x)
read_legible p so st i l x o = by (ℕ_discrete (p.level o) l)
  where
    kept : Each (Kept p (p.level o)) (level_at st (p.level o)).versions
    kept = (i (p.level o) (so.placed o)).versions

    by : Dec (p.level o ≡ l) → Readable p (p.level o) (number_in (read_at p st l x o existence))
    by (yes e) =
        rw (read_own p st l x o existence e) (newest-kept p (p.level o) (initially p o existence) o (level_at st (p.level o)).versions (first_readable p so o) kept)
    by (no n) =
        rw (read_below p st l x o existence n) (newest_to_kept p (p.level o) _ (initially p o existence) o (level_at st (p.level o)).versions (first_readable p so o) kept)

-- a step's versions do
kept-after : (p : Program) (l : ℕ) (m : Manager) (e : Effect) (vs : List Version) → Lawfully p l e → Each (Kept p l) vs → Each (Kept p l) (versions_after m e vs)
kept-after p l m effect.Nothing vs w e = e
kept-after p l m (effect.Write ws) vs w e =
    each_append (Kept p l) (map (version_of m.stamp) ws) vs (each_made (version_of m.stamp) (Kept p l) ws (each_seen _ ws w)) e
kept-after p l m (effect.Fork u message) vs w e = e

begun_direct : (p : Program) → Sound p → (st : State) → AllContained p st → (l : ℕ) → l < p.levels → (v : Level) (ws : List Fork) → Each (Reached p l) ws → begun (seen_by l p) (view_of p l st) l v ws ≡ begun p st l v ws
unfolding begun Each
begun_direct p so st i l h v [] e = refl
begun_direct p so st i l h v (x ∷ xs) e =
    ap (λ m. record { own = after v xs v.versions x m; arrival = none })
    (started_seen p (read_at (seen_by l p) (view_of p l st) l x) (read_at p st l x) l v.next x.message so (read_legible p so st i l x) h e.0 (reads_direct p so st l x x.message.object existence e.0))

advanced_direct : (p : Program) → Sound p → (st : State) → AllContained p st → (l : ℕ) → l < p.levels → (v : Level) (x : Fork) (m : Manager) → m.level ≡ l → is_running m.ending ≡ true → Within p l m → advanced (seen_by l p) (view_of p l st) l v x m ≡ advanced p st l v x m
unfolding advanced
advanced_direct p so st i l h v x m q r w =
    ap (λ s. record { own = after v v.waiting (versions_after m s.effect v.versions) x s.manager; arrival = arrival_of l x m s.effect })
    (stepped_seen p (read_at (seen_by l p) (view_of p l st) l x) (read_at p st l x) l m so (read_legible p so st i l x) h q r w (reads_direct p so st l x))

moved_direct : (p : Program) → Sound p → (st : State) → AllContained p st → (l : ℕ) → l < p.levels → (v : Level) (a : Activity) → AtLevel l a → Each (Reached p l) v.waiting → Framed p l a → moved (seen_by l p) (view_of p l st) l v a ≡ moved p st l v a
unfolding moved
moved_direct p so st i l h v idle q e f = begun_direct p so st i l h v v.waiting e
moved_direct p so st i l h v (busy x m) q e f = advanced_direct p so st i l h v x m q f.0 f.1

module _ (p : Program) (so : Sound p) (st : State) (o : ForkInvariant p st) (i : AllContained p st) where
  -- a step, made from all of the state
  pub move_direct : (l : ℕ) → l < p.levels → move_at p l st ≡ moved p st l (level_at st l) (level_at st l).activity
  move_direct l h =
      move_is p l st so h
      ∙ moved_direct p so st i l h (level_at st l) (level_at st l).activity (o.placed l h) (i l h).waiting (i l h).activity

-- the level after a step of the manager of fork x
after_contained : (p : Program) (l : ℕ) (v : Level) (ws : List Fork) (vs : List Version) (x : Fork) (m : Manager) → Each (Reached p l) ws → Within p l m → Each (Kept p l) vs → Contained p l (after v ws vs x m)
unfolding after
after_contained p l v ws vs x m e w k = elim (truth (is_running m.ending)) [
  | holds q ↦ rw q (record { waiting = e; activity = (q, w); versions = k })
  | fails q ↦ rw q (record { waiting = e; activity = tt; versions = k })
]

begun_contained : (p : Program) → Sound p → (st : State) → AllContained p st → (l : ℕ) → l < p.levels → (v : Level) (ws : List Fork) → Contained p l v → Each (Reached p l) ws → Contained p l (begun p st l v ws).own
unfolding begun Each
begun_contained p so st i l h v [] c e = c
begun_contained p so st i l h v (x ∷ xs) c e =
    after_contained p l v xs v.versions x _ e.1 (started_within p so (read_at p st l x) (read_legible p so st i l x) l v.next x.message h e.0) c.versions

moved_contained : (p : Program) → Sound p → (st : State) → AllContained p st → (l : ℕ) → l < p.levels → (v : Level) (a : Activity) → AtLevel l a → Contained p l v → Framed p l a → Contained p l (moved p st l v a).own
unfolding moved advanced
moved_contained p so st i l h v idle q c f = begun_contained p so st i l h v v.waiting c c.waiting
moved_contained p so st i l h v (busy x m) q c f =
    after_contained p l v v.waiting _ x _ c.waiting (stepped_within p so (read_at p st l x) (read_legible p so st i l x) l m h q f.0 f.1)
    (kept-after p l m (stepped p (read_at p st l x) m).effect v.versions (stepped_lawful p l (read_at p st l x) m so (read_legible p so st i l x) q) c.versions)

-- the object of a fork's message lies under the level that it goes to
unfoldable Sent : Program → Arrival → Type 0
Sent p none = Unit
Sent p (at u c) = Reached p u c

moved-sent : (p : Program) → Sound p → (st : State) (l : ℕ) → l < p.levels → (v : Level) (a : Activity) → AtLevel l a → Sent p (moved p st l v a).arrival
unfolding moved advanced Sent
moved-sent p so st l h v idle q = starts v.waiting
  where
    starts : (ws : List Fork) → Sent p (begun p st l v ws).arrival
    starts [] = unfold begun Sent in tt
    starts (x ∷ xs) = unfold begun Sent in tt
moved-sent p so st l h v (busy x m) q = by (stepped p (read_at p st l x) m).effect (stepped_reaches p (read_at p st l x) m so (rw q h))
  where
    by : (e : Effect) → Reaches p e → Sent p (arrival_of l x m e)
    by effect.Nothing r = unfold Sent in tt
    by (effect.Write ws) r = unfold Sent in tt
    by (effect.Fork u message) r = unfold Sent child_of in r

arrived_contained : (p : Program) (l : ℕ) (x : Fork) (v : Level) → Reached p l x → Contained p l v → Contained p l (arrived x v)
unfolding arrived
arrived_contained p l x v r c =
    record {
      waiting = each_take (Reached p l) (max_managers - started_count v) (inserted (λ y. y.stamp) x v.waiting) (each_inserted (λ y. y.stamp) (Reached p l) x r v.waiting c.waiting);
      activity = c.activity;
      versions = c.versions;
    }

-- every step keeps the objects of messages and frames under their levels
pub step_contained : (p : Program) → Sound p → (st : State) → ForkInvariant p st → AllContained p st → (l : ℕ) → l < p.levels → (k : ℕ) → k < p.levels → Contained p k (level_at (step_at p l st) k)
step_contained p so st o i l h k hk = by (level_at (step_at p l st) k) (became p so st o l h k)
  where
    made : move_at p l st ≡ moved p st l (level_at st l) (level_at st l).activity
    made = move_direct p so st o i l h

    sent : (b : Arrival) (c : Fork) → b ≡ at k c → Sent p b → Reached p k c
    sent b c q s = unfold Sent in rw q at s

    by : (v : Level) → Became p l st k v → Contained p k v
    by v (own e q) =
        rw (q, e, ap (λ m. m.own) made) (moved_contained p so st i l h (level_at st l) (level_at st l).activity (o.placed l h) (i l h) (i l h).activity)
    by v (got c e s q) =
        rw q (arrived_contained p k c (level_at st k) (sent (moved p st l (level_at st l) (level_at st l).activity).arrival c (sym (ap (λ m. m.arrival) made) ∙ e) (moved-sent p so st l h (level_at st l) (level_at st l).activity (o.placed l h))) (i k hk))
    by v (stayed n q) = rw q (i k hk)
