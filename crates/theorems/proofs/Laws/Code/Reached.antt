-- What holds of every state that a run of an accepted session reaches: the messages that wait are to objects that have numbers, and the
-- managers that run are valid. So the code may start and step them. Assumes nothing.
use Prim.Native.Nat.{ℕ, ◌+◌, ◌*◌, ◌-◌, ◌^◌, ◌≤◌, ◌<◌}
use mathlib.Core.Path.{◌≡◌, sym, ◌∙◌, ap}
use mathlib.Core.Bool.{true}
use mathlib.Core.List.{List, [], ◌∷◌}
use native.Mathlib.Omega.{arith}
use lib.ListN.{length}
use Rattle.session.specs.Limits.{names, max_levels}
use Rattle.session.specs.Parts.{level_count}
use Rattle.session.specs.Questions.{verdict_of, Accepted}
use Rattle.session.specs.Meaning.{Numbered, root_of}
use Rattle.session.specs.Program.{program_of}
use Rattle.lists.proofs.Laws.Lists.{holds, fails, truth}
use Rattle.session.proofs.Laws.Verdict.{accepted}
use Rattle.session.proofs.Laws.Numbering.{few_levels}
use Rattle.session.proofs.Laws.Accepted.{root_present, root_named}
use Rattle.session.proofs.Laws.Numbers.{number_own}
use Rattle.scripts.specs.Limits.{max_writes, max_script_steps}
use Rattle.scripts.specs.Ending.{is_running}
use Rattle.scripts.specs.Manager.{stepped}
use Rattle.scripts.specs.Valid.{Valid, Startable}
use Rattle.scripts.specs.State.{Manager}
use Rattle.scripts.specs.Effect.{Effect}
use Rattle.scripts.specs.Effect as effect
use Rattle.scripts.proofs.Laws.Counts.{counts, started_counts, stepped_counts}
use Rattle.scripts.proofs.Laws.Accepted.{EffectPresent}
use Rattle.scripts.proofs.Laws.Valid.{started_valid, stepped_valid, stepped_present}
use Rattle.model.specs.Limits.{max_managers}
use Rattle.lists.specs.Changed.{inserted}
use Rattle.model.specs.Fork.{Fork, child_of}
use Rattle.model.specs.History.{History, history_of}
use Rattle.model.specs.Level.{Version, Activity, idle, busy, Level, started_count, forks_by, forks_of, arrived, after}
use Rattle.model.specs.Step.{State, level_at, read_at, Arrival, none, at, arrival_of, begun, advanced, moved, move_at, step_at}
use Rattle.model.specs.Schedule.{read_in, step_refusal}
use Rattle.lists.specs.Each.{Each}
use Rattle.lists.proofs.Laws.Each.{each_map, each_take, each_inserted}
use Rattle.theorems.proofs.Laws.Invariant.Preserved.{grown_level}
use Rattle.theorems.proofs.Laws.Invariant.Measure.{Bounded}
use Rattle.theorems.proofs.Laws.Invariant.Became.{Became, own, got, stayed, became}
use Rattle.model.proofs.Laws.Stamps.{span_positive}
use Rattle.theorems.proofs.Laws.Invariant.Forks.{entries_in}
use Rattle.theorems.proofs.Laws.Steps.May.{entries_forks, may_step}
use Rattle.theorems.proofs.Laws.Order.Accepted.{sound}
use Rattle.theorems.proofs.Laws.Deep.Root.{each_level}
use Rattle.theorems.proofs.Laws.Invariant.Contained.{AllContained, read_legible, move_direct}
use Rattle.theorems.proofs.Laws.Code.Bounds.{Fits32, PacedBy, Paced}
use Rattle.theorems.proofs.Laws.Code.Reachable.{Reachable, reachable_start, reachable_step}

-- a fork's message is to an object that has a number, by a name at most 15
abbrev pub Sendable : List ℕ → Fork → Type 0
Sendable s x = Numbered s x.message.object × (x.message.name < names)

-- the manager that runs at level l is valid, is one of that level and has not ended
abbrev pub Runs : List ℕ → ℕ → Activity → Type 0
Runs s l idle = Unit
Runs s l (busy x m) = Valid s m × ((m.level ≡ l) × (is_running m.ending ≡ true))

-- what is kept of an ended manager: its numbers are within their limits, but for the level's write stamp
pub record Kept (h : History) : Type 0 where
  pub stamp : h.stamp < 2 ^ 32
  pub writes : h.writes ≤ max_writes
  pub first : h.first ≤ h.last
  pub steps : h.steps ≤ max_script_steps

-- a state that a run of session s reaches
pub record ReachedState (s : List ℕ) (st : State) : Type 0 where
  pub reachable : Reachable (program_of s) st
  pub waiting : (l : ℕ) → l < level_count s → Each (Sendable s) (level_at st l).waiting
  pub activity : (l : ℕ) → l < level_count s → Runs s l (level_at st l).activity
  pub ended : (l : ℕ) → l < level_count s → Each Kept (level_at st l).ended

-- the levels of the program are those of the session
pub present : (s : List ℕ) (l : ℕ) → l < level_count s → l < (program_of s).levels
unfolding program_of
present s l h = h

-- the same of one level
record LevelReached (s : List ℕ) (l : ℕ) (v : Level) : Type 0 where
  waiting : Each (Sendable s) v.waiting
  activity : Runs s l v.activity
  ended : Each Kept v.ended

-- the stamps of the forks of a level fit 32 bits
abbrev Stamped : Level → Type 0
Stamped v = Each (λ x. x.stamp < 2 ^ 32) (forks_of v)

-- the write stamp of a level's next manager is low, by how many have ended
pub next_paced : (a : Activity) (next ended versions : ℕ) → PacedBy a next ended versions → next ≤ 1 + 16 * ended
next_paced idle next ended versions b = b.0
next_paced (busy x m) next ended versions b = b.0

-- the first fork that waits may start
pub next_startable : (s : List ℕ) (l : ℕ) (v : Level) (x : Fork) → l < level_count s → Bounded v → Paced v → Sendable s x → Startable s l v.next x.message
next_startable s l v x h t b g =
    record {
      placed = h;
      present = g.0;
      named = g.1;
      fits = omega (arith, t.room, next_paced v.activity v.next (length v.ended) (length v.versions) b);
    }

-- the level after a step of the manager of fork x
after_held : (s : List ℕ) (l : ℕ) (v : Level) (ws : List Fork) (vs : List Version) (x : Fork) (m : Manager) → Each (Sendable s) ws → Valid s m → m.level ≡ l → x.stamp < 2 ^ 32 → Each Kept v.ended → LevelReached s l (after v ws vs x m)
unfolding after
after_held s l v ws vs x m e g t f k = elim (truth (is_running m.ending)) [
  | holds q ↦ rw q (record { waiting = e; activity = (g, (t, q)); ended = k })
  | fails q ↦
      let kept : Kept (history_of x m) = record { stamp = f; writes = g.wrote; first = omega (arith, g.stamped); steps = g.made } in
      rw q (record { waiting = e; activity = tt; ended = each_inserted (λ h. h.stamp) Kept (history_of x m) kept v.ended k })
]

arrived_held : (s : List ℕ) (l : ℕ) (x : Fork) (v : Level) → Sendable s x → LevelReached s l v → LevelReached s l (arrived x v)
unfolding arrived
arrived_held s l x v g h =
    record {
      waiting = each_take (Sendable s) (max_managers - started_count v) (inserted (λ y. y.stamp) x v.waiting) (each_inserted (λ y. y.stamp) (Sendable s) x g v.waiting h.waiting);
      activity = h.activity;
      ended = h.ended;
    }

-- a fork on its way has a message that may be sent
unfoldable Sends : List ℕ → Arrival → Type 0
Sends s none = Unit
Sends s (at u c) = Sendable s c

module _ (s : List ℕ) (a : verdict_of s ≡ Accepted) where
  begun_held : (st : State) → AllContained (program_of s) st → (l : ℕ) (v : Level) → l < level_count s → Bounded v → Paced v → LevelReached s l v → (ws : List Fork) → Each (Sendable s) ws → Each (λ x. x.stamp < 2 ^ 32) ws → LevelReached s l (begun (program_of s) st l v ws).own
  unfolding begun Each
  begun_held st c l v h t b g [] e f = g
  begun_held st c l v h t b g (x ∷ xs) e f =
      after_held s l v xs v.versions x _ e.1 (started_valid s a (read_at (program_of s) st l x) (read_legible (program_of s) (sound s a) st c l x) l v.next x.message (next_startable s l v x h t b e.0))
      (ap (λ c. c.level) (started_counts (program_of s) (read_at (program_of s) st l x) l v.next x.message)) f.0 g.ended

  -- what a step leaves at its own level
  moved_held : (st : State) → AllContained (program_of s) st → (l : ℕ) (v : Level) (i : Activity) → l < level_count s → Bounded v → Paced v → LevelReached s l v → Runs s l i → Each (λ x. x.stamp < 2 ^ 32) (forks_by i v.waiting) → LevelReached s l (moved (program_of s) st l v i).own
  unfolding moved advanced Each
  moved_held st c l v idle h t b g r f = begun_held st c l v h t b g v.waiting g.waiting f
  moved_held st c l v (busy x m) h t b g r f =
      let p = program_of s in
      let read = read_at p st l x in
      after_held s l v v.waiting _ x _ g.waiting (stepped_valid s a read (read_legible p (sound s a) st c l x) m r.0 r.1.1)
      (ap (λ c. c.level) (stepped_counts p read m) ∙ grown_level (counts m) (stepped p read m).effect ∙ r.1.0) f.0 g.ended

  -- and the fork that it makes
  moved_sends : (st : State) (l : ℕ) (v : Level) (i : Activity) → Runs s l i → Sends s (moved (program_of s) st l v i).arrival
  unfolding moved advanced Sends
  moved_sends st l v idle r = starts v.waiting
    where
      starts : (ws : List Fork) → Sends s (begun (program_of s) st l v ws).arrival
      starts [] = unfold begun Sends in tt
      starts (x ∷ xs) = unfold begun Sends in tt
  moved_sends st l v (busy x m) r =
      by (stepped (program_of s) (read_at (program_of s) st l x) m).effect (stepped_present s a (read_at (program_of s) st l x) m r.0 r.1.1)
    where
      by : (e : Effect) → EffectPresent s e → Sends s (arrival_of l x m e)
      by effect.Nothing g = unfold Sends in tt
      by (effect.Write ws) g = unfold Sends in tt
      by (effect.Fork u message) g = unfold Sends child_of in g

  few : (program_of s).levels ≤ max_levels
  unfolding program_of
  few = few_levels s (accepted s a).three

  -- the session as read in
  pub live_start : ReachedState s (read_in (program_of s) (root_of s))
  live_start =
      record {
        reachable = reachable_start (program_of s) (sound s a) few (root_of s);
        waiting = λ l h.
            each_level (program_of s) (sound s a) few (root_of s) (λ v. Each (Sendable s) v.waiting) (unfold Each in ((number_own s (root_of s).object (root_present s a), root_named s a), tt)) (unfold Each in tt) l;
        activity = λ l h. each_level (program_of s) (sound s a) few (root_of s) (λ v. Runs s l v.activity) tt tt l;
        ended = λ l h. each_level (program_of s) (sound s a) few (root_of s) (λ v. Each Kept v.ended) (unfold Each in tt) (unfold Each in tt) l;
      }

  module _ (st : State) (i : ReachedState s st) where
    held : (l : ℕ) → l < level_count s → LevelReached s l (level_at st l)
    held l h = record { waiting = i.waiting l h; activity = i.activity l h; ended = i.ended l h }

    stamped : (l : ℕ) → l < level_count s → Stamped (level_at st l)
    stamped l h =
        entries_forks (λ stamp depth. stamp < 2 ^ 32) l (level_at st l)
        (each_map Fits32 (λ e. e.stamp < 2 ^ 32) (λ e f. omega (arith, f, span_positive e.depth)) (entries_in st l) (i.reachable.fits l (present s l h)))

    step_held : (l : ℕ) → l < level_count s → (k : ℕ) → k < level_count s → LevelReached s k (level_at (step_at (program_of s) l st) k)
    step_held l h k hk =
        by (level_at (step_at (program_of s) l st) k) (became (program_of s) (sound s a) st i.reachable.steady.fork_invariant l (present s l h) k)
      where
        made : move_at (program_of s) l st ≡ moved (program_of s) st l (level_at st l) (level_at st l).activity
        made = move_direct (program_of s) (sound s a) st i.reachable.steady.fork_invariant i.reachable.steady.contained l (present s l h)

        sent : (b : Arrival) (c : Fork) → b ≡ at k c → Sends s b → Sendable s c
        sent b c q g = unfold Sends in rw q at g

        by : (v : Level) → Became (program_of s) l st k v → LevelReached s k v
        by v (own e q) =
            rw (q, e, ap (λ m. m.own) made) (moved_held st i.reachable.steady.contained l (level_at st l) (level_at st l).activity h (i.reachable.steady.bounded l) (i.reachable.paced l (present s l h)) (held l h) (i.activity l h) (stamped l h))
        by v (got c e t q) =
            rw q (arrived_held s k c (level_at st k) (sent (moved (program_of s) st l (level_at st l) (level_at st l).activity).arrival c (sym (ap (λ m. m.arrival) made) ∙ e) (moved_sends st l (level_at st l) (level_at st l).activity (i.activity l h))) (held k hk))
        by v (stayed n q) = rw q (held k hk)

    -- and the state after an allowed step
    pub live_step : (l : ℕ) → l < level_count s → step_refusal (program_of s) st l ≡ 0 → ReachedState s (step_at (program_of s) l st)
    live_step l h e =
        record {
          reachable = reachable_step (program_of s) (sound s a) st i.reachable l (may_step (program_of s) st l e);
          waiting = λ k hk. (step_held l h k hk).waiting;
          activity = λ k hk. (step_held l h k hk).activity;
          ended = λ k hk. (step_held l h k hk).ended;
        }
