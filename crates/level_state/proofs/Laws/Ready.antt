-- What each stage of a scheduler step asks for is there. Assumes nothing.
use Prim.Native.Nat.{ℕ, ◌≤◌, ◌<◌}
use mathlib.Core.Path.{◌≡◌, refl, sym, ◌∙◌, ap}
use mathlib.Core.Bool.{Bool, true, false, not, cond, ◌||◌}
use mathlib.Core.List.{List, [], ◌∷◌}
use native.Mathlib.Omega.{arith}
use lib.ListN.{length, get_or, length-set}
use lib.Seq.{get_or-set_other}
use Rattle.lists.proofs.Laws.Range.{not_both}
use Rattle.session.specs.Limits.{max_levels, max_numbers, max_objects}
use Rattle.session.specs.Parts.{level_count, object_count}
use Rattle.session.specs.Meaning.{Numbered}
use Rattle.session.specs.Program.{program_of}
use Rattle.session.specs.Questions.{verdict_of, Accepted}
use Rattle.session.specs.Value.{Value}
use Rattle.session.proofs.Laws.Numbers.{number_few}
use Rattle.scripts.specs.Existence.{existence}
use Rattle.scripts.specs.Manager.{stepped}
use Rattle.scripts.specs.Valid.{Each}
use Rattle.scripts.specs.State.{Manager}
use Rattle.scripts.specs.Effect.{Written, Effect}
use Rattle.scripts.specs.Effect as effect
use Rattle.model.specs.Limits.{max_managers}
use Rattle.model.specs.Fork.{Fork}
use Rattle.model.specs.Level.{Activity, idle, busy, Level, is_busy, is_empty, has_manager}
use Rattle.model.specs.Step.{State, level_at}
use Rattle.theorems.proofs.Laws.Code.Reached.{ReachedState}
use Rattle.theorems.proofs.Laws.Code.Needs.{live-startable, live-write, live-fork}
use Rattle.queues.specs.Queue.{fork_at}
use Rattle.queues.proofs.Laws.Queue.{stamp_any, depth_any, message_any}
use Rattle.tallies.specs.Places.{waiting_place, versions_place, busy_place, changed}
use Rattle.tallies.proofs.Laws.Changed.{changed-length, changed_other}
use Rattle.level_state.specs.Representation.{Words, Runs, LevelRepresents, Roomy, Represents, RunInvariant}
use Rattle.level_state.specs.Steps.{Tables, Parts, running_fork, touches, WroteAll, noted, EffectReady, EffectDone, SettleReady, StartReady}
use Rattle.level_state.proofs.Laws.Representation.{Limited, started_is, busy_fewer}
use Rattle.level_state.proofs.Laws.Begin.{first_fork}
use Rattle.level_state.proofs.Laws.Advance.{live_limited}

-- whether a manager runs at a level, by what is counted
module _ (n : ℕ) (w : Words) (l : ℕ) (m : Manager) (v : Level) (t : LevelRepresents n w l m v) where
  pub represents_quiescent : get_or w.tallies (busy_place l) 0 ≡ 0 → v.activity ≡ idle
  represents_quiescent z = by v.activity refl t.activity
    where
      by : (a : Activity) → v.activity ≡ a → Runs n w l m (length v.ended) a → v.activity ≡ idle
      by idle e r = e
      by (busy x y) e r = absurd (omega (arith, z, r.0))

  pub represents_runs : (get_or w.tallies (busy_place l) 0 ≡ 0 → ⊥) → (x : Fork) × (v.activity ≡ busy x m)
  represents_runs z = by v.activity refl t.activity
    where
      by : (a : Activity) → v.activity ≡ a → Runs n w l m (length v.ended) a → (x : Fork) × (v.activity ≡ busy x m)
      by idle e r = absurd (z r)
      by (busy x y) e r = (x, e ∙ ap (busy x) (sym r.1.0))

  -- the fork of the manager that runs
  pub represents_fork : (x : Fork) (y : Manager) → v.activity ≡ busy x y → running_fork n w.tallies w.queue l ≡ x
  represents_fork x y e = ap (fork_at n w.queue l) t.ended_count ∙ by v.activity e t.activity
    where
      by : (a : Activity) → a ≡ busy x y → Runs n w l m (length v.ended) a → fork_at n w.queue l (length v.ended) ≡ x
      by a e r = let z : Runs n w l m (length v.ended) (busy x y) = rw e at r in z.1.1

  -- there is room for the history of one more manager
  pub settle_ready : Roomy w → l < max_levels → length v.ended < max_managers → SettleReady w.ended w.tallies w.queue l
  settle_ready room h more =
      record {
        histories = room.ended;
        there = record { room = room.queue; level = h; placed = rw t.ended_count more };
        rises = rw (t.ended_count, t.ended) t.ended_rises;
        counted = room.tallies;
      }

-- a level with a manager where none runs has a fork that waits
pub waits_some : (v : Level) → has_manager v ≡ true → v.activity ≡ idle → (x : Fork) × ((xs : List Fork) × (v.waiting ≡ x ∷ xs))
waits_some v h e = by v.waiting refl
  where
    none_waits : (v : Level) → has_manager v ≡ true → v.activity ≡ idle → v.waiting ≡ [] → ⊥
    none_waits v h e q =
        let z : (is_busy idle || not (is_empty [])) ≡ true = rw (e, q) at h in
        not_both (is_busy idle || not (is_empty [])) z refl

    by : (ws : List Fork) → v.waiting ≡ ws → (x : Fork) × ((xs : List Fork) × (v.waiting ≡ x ∷ xs))
    by [] q = absurd (none_waits v h e q)
    by (x ∷ xs) q = (x, (xs, q))

-- what is counted of level l, and the length of the queue, after an effect
record SameCounts (a b : Parts) (l : ℕ) : Type 0 where
  ended_count : get_or b.tallies l 0 ≡ get_or a.tallies l 0
  tallies_long : length b.tallies ≡ length a.tallies
  queue_long : length b.queue ≡ length a.queue

writes_steady : (a b : Parts) (l stamp : ℕ) (ws : List Written) → l < max_levels → WroteAll a b l stamp ws → SameCounts a b l
writes_steady a b l stamp [] h e =
    record { ended_count = ap (λ p. get_or p.tallies l 0) e; tallies_long = ap (λ p. length p.tallies) e; queue_long = ap (λ p. length p.queue) e }
writes_steady a b l stamp (w ∷ ws) h (m, (e, (x, q))) =
    let y = writes_steady a m l stamp ws h e in
    record {
      ended_count = ap (λ t. get_or t l 0) x.count ∙ get_or-set_other m.tallies (versions_place l) l _ 0 (λ z. omega (arith, z, h)) ∙ y.ended_count;
      tallies_long = ap length x.count ∙ length-set m.tallies (versions_place l) _ ∙ y.tallies_long;
      queue_long = ap length q ∙ y.queue_long;
    }

noted_steady : (a : Parts) (l : ℕ) (ws : List Written) → l < max_levels → SameCounts a (noted a l ws) l
noted_steady a l ws h = by (touches ws)
  where
    by : (x : Bool) → SameCounts a (record { current = a.current; tallies = cond x (changed l a.tallies) a.tallies; queue = a.queue; work = a.work }) l
    by true =
        record { ended_count = changed_other l a.tallies l (λ e. omega (arith, e, h)) (λ e. omega (arith, e, h)); tallies_long = changed-length l a.tallies; queue_long = refl }
    by false = record { ended_count = refl; tallies_long = refl; queue_long = refl }

effect_steady : (a b : Parts) (l stamp forks : ℕ) (e : Effect) → l < max_levels → EffectDone a b l stamp forks e → SameCounts a b l
effect_steady a b l stamp forks effect.Nothing h d =
    record { ended_count = ap (λ p. get_or p.tallies l 0) d; tallies_long = ap (λ p. length p.tallies) d; queue_long = ap (λ p. length p.queue) d }
effect_steady a b l stamp forks (effect.Write ws) h d =
    let x = writes_steady (noted a l ws) b l stamp ws h d in
    let y = noted_steady a l ws h in
    record {
      ended_count = x.ended_count ∙ y.ended_count;
      tallies_long = x.tallies_long ∙ y.tallies_long;
      queue_long = x.queue_long ∙ y.queue_long;
    }
effect_steady a b l stamp forks (effect.Fork u message) h d =
    record {
      ended_count = ap (λ t. get_or t l 0) d.0.tallies_are ∙ get_or-set_other a.tallies (waiting_place u) l _ 0 (λ e. omega (arith, e, h));
      tallies_long = ap length d.0.tallies_are ∙ length-set a.tallies (waiting_place u) _;
      queue_long = d.0.arrived.outside.length_same;
    }

-- so there is room for the history still
pub settle_after : (a b : Parts) (ended : List ℕ) (l stamp forks : ℕ) (e : Effect) → EffectDone a b l stamp forks e → SettleReady ended a.tallies a.queue l → SettleReady ended b.tallies b.queue l
settle_after a b ended l stamp forks e d r =
    let z = effect_steady a b l stamp forks e r.there.level d in
    record {
      histories = r.histories;
      there = record { room = rw z.queue_long r.there.room; level = r.there.level; placed = rw z.ended_count r.there.placed };
      rises = rw z.ended_count r.rises;
      counted = rw z.tallies_long r.counted;
    }

module _ (s : List ℕ) (a : verdict_of s ≡ Accepted) (few : level_count s ≤ max_levels) (few_objects : object_count s ≤ max_objects) (w : Words) (ms : ℕ → Manager) (st : State) (t : Represents s w ms st) (i : ReachedState s st) (l : ℕ) (h : l < level_count s) where
  abbrev v : Level
  v = level_at st l

  abbrev limits : (k : ℕ) → k < level_count s → Limited (level_at st k)
  limits = live_limited s a st i

  -- a fork that waits can start
  pub start_ready : (masks index : List ℕ) → Tables s masks index → RunInvariant s w ms st → v.activity ≡ idle → has_manager v ≡ true → StartReady s masks index w l
  start_ready masks index tables y quiescent has = by (waits_some v has quiescent)
    where
      by : (x : Fork) × ((xs : List Fork) × (v.waiting ≡ x ∷ xs)) → StartReady s masks index w l
      by (x, (xs, e)) =
          record {
            tables = tables;
            readable = record { managers = ms; state = st; invariant = y; present = h; there = (settles (ap length e)).there };
            startable = rw (message_any 0 (level_count s) w.queue l (get_or w.tallies l 0), ap (fork_at (level_count s) w.queue l) (t.level l h).ended_count, first_fork s w ms st t limits few l h x xs quiescent e m, (t.level l h).next) (live-startable s a st i l h x xs e);
            waits = omega (arith, (t.level l h).waiting_count, ap length e);
            settles = settles (ap length e);
          }
        where
          m : Manager
          m = ms l

          settles : length v.waiting ≡ length (x ∷ xs) → SettleReady w.ended w.tallies w.queue l
          settles more =
              settle_ready (level_count s) w l (ms l) v (t.level l h) t.roomy (omega (arith, h, few)) (omega (arith, (limits l h).managers, more))

  module _ (x : Fork) (m : Manager) (runs : v.activity ≡ busy x m) where
    running : (running_fork 0 w.tallies w.queue l).stamp ≡ x.stamp
    running =
        stamp_any 0 (level_count s) w.queue l (get_or w.tallies l 0)
        ∙ ap (λ y. y.stamp) (represents_fork (level_count s) w l (ms l) v (t.level l h) x m runs)

    deep : (running_fork 0 w.tallies w.queue l).depth ≡ x.depth
    deep =
        depth_any 0 (level_count s) w.queue l (get_or w.tallies l 0)
        ∙ ap (λ y. y.depth) (represents_fork (level_count s) w l (ms l) v (t.level l h) x m runs)

    pub busy_settles : SettleReady w.ended w.tallies w.queue l
    busy_settles =
        settle_ready (level_count s) w l (ms l) v (t.level l h) t.roomy (omega (arith, h, few)) (busy_fewer v x m runs (limits l h))

    -- what its script step does outside it can be done
    pub effect_ready : (read : ℕ → ℕ → Value) (e : Effect) → (stepped (program_of s) read m).effect ≡ e → EffectReady w.current w.tallies w.queue w.work l m.forks e
    effect_ready read effect.Nothing is = tt
    effect_ready read (effect.Write ws) is =
        let f = live-write s a st i l h x m runs read ws is in
        (numbers ws f.1, (t.roomy.current, (omega (arith, (t.level l h).version_count, f.0), (t.roomy.work, (omega (arith, h, few), t.roomy.tallies)))))
      where
        numbers : (ws : List Written) → Each (λ w. ((program_of s).level w.object ≡ l) × (Numbered s w.object × (w.field ≤ existence))) ws → Each (λ w. (w.object < max_numbers) × (w.field ≤ existence)) ws
        numbers [] e = tt
        numbers (w ∷ ws) e = ((number_few s a w.object e.0.1.0, e.0.1.1), numbers ws e.1)
    effect_ready read (effect.Fork u message) is =
        let f = live-fork s a st i l h x m runs read u message is in
        let q = t.level u f.0 in
        let started = started_is (level_count s) w u (ms u) (level_at st u) q in
        record {
          there = busy_settles.there;
          room = record {
            room = t.roomy.queue;
            level = omega (arith, f.0, few);
            kept = omega (arith, started, q.waiting_count, (limits u f.0).managers);
            rises = rw (started, q.waiting_count) q.waiting_rises;
          };
          counted = t.roomy.tallies;
          shallow = rw deep f.1.1.0;
          few = f.1.1.1.0;
          fits = rw (deep, running) f.1.1.1.1;
        }
