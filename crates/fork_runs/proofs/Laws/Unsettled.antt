-- The manager of a level makes script steps that concern nobody else; where one ends it, its history is kept late. Assumes nothing.
use Prim.Native.Nat.{ℕ, zero, suc, ◌≤◌, ◌<◌}
use mathlib.Core.Path.{◌≡◌, refl, sym, ◌∙◌, ap, subst}
use mathlib.Core.Bool.{true}
use mathlib.Core.List.{List}
use native.Mathlib.Decide.{ℕ_discrete}
use native.Mathlib.Omega.{arith}
use lib.ListN.{length, get_or}
use Rattle.session.specs.Limits.{max_levels}
use Rattle.session.specs.Parts.{level_count}
use Rattle.session.specs.Program.{Program, program_of}
use Rattle.session.specs.Questions.{verdict_of, Accepted}
use Rattle.session.specs.Value.{Value}
use Rattle.session.proofs.Laws.Contents.{level_limit, object_limit}
use Rattle.scripts.specs.Ending.{is_running}
use Rattle.scripts.specs.Manager.{stepped}
use Rattle.scripts.specs.State.{Manager, Stepped}
use Rattle.scripts.specs.Effect.{Effect}
use Rattle.scripts.specs.Effect as effect
use Rattle.scripts.proofs.Laws.Reads.{stepped_reads}
use Rattle.model.specs.Fork.{Fork}
use Rattle.lists.specs.Changed.{modify}
use Rattle.model.specs.Level.{Activity, busy, new_level, after}
use Rattle.model.specs.Step.{State, level_at, read_at, delivered, step_at}
use Rattle.lists.proofs.Laws.Changed.{modify_at, modify_other}
use Rattle.theorems.proofs.Laws.Order.Accepted.{sound}
use Rattle.theorems.proofs.Laws.Code.Reached.{ReachedState, present}
use Rattle.theorems.proofs.Laws.Code.Direct.{step_advance}
use Rattle.managers.specs.Manager.{manager_of}
use Rattle.managers.specs.Steps.{InternalSteps, Leads, internal, last}
use Rattle.managers.specs.declared.Manager as code
use Rattle.tallies.specs.Places.{busy_place, managed}
use Rattle.level_state.specs.Representation.{Words, Runs, LevelRepresents, RunInvariant, placed}
use Rattle.level_state.specs.Steps.{Busy, Parts, parts_of, EffectReady, EffectDone, Settled}
use Rattle.level_state.specs.Script.{RunsAt}
use Rattle.fork_runs.specs.Running.{Draining}
use Rattle.level_state.proofs.Laws.Made.{settled_on}
use Rattle.level_state.proofs.Laws.Ready.{represents_runs, effect_ready}
use Rattle.level_state.proofs.Laws.Settle.{placed_own}
use Rattle.level_state.proofs.Laws.Step.{invariant_live, invariant_advance}
use Rattle.fork_runs.proofs.Laws.Level.{drain_on, drain_on_state, drain_allowed}

-- the level is being run, but that the history of m, if m has ended, is not kept yet
abbrev pub Unsettled : List ℕ → State → Words → ℕ → Manager → Type 0
Unsettled s from w l m =
    (ended' tallies' : List ℕ)
    → Settled w.ended ended' w.tallies tallies' w.queue l m
    → Draining s from (record { current = w.current; ended = ended'; tallies = tallies'; queue = w.queue; work = w.work }) l m

-- one of which a manager that runs is made ran
pub internal_runs : (p : Program) (read : ℕ → ℕ → Value) (k : ℕ) (m b : Manager) → InternalSteps p read k m b → is_running b.ending ≡ true → is_running m.ending ≡ true
unfolding InternalSteps
internal_runs p read zero m b e r = rw e r
internal_runs p read (suc k) m b (h, q) r = h

-- while m runs
module _ (s : List ℕ) (a : verdict_of s ≡ Accepted) (l : ℕ) (h : l < level_count s) (from : State) where
  abbrev p : Program
  p = program_of s

  few : level_count s ≤ max_levels
  few = level_limit s a

  -- m runs in the state that the words say, as the manager of fork x, and reads this
  pub record Running (w : Words) (m : Manager) (x : Fork) (read : ℕ → ℕ → Value) : Type 0 where
    pub drain : Draining s from w l m
    pub runs : (level_at drain.state l).activity ≡ busy x m
    pub reads : (o k : ℕ) → read_at p drain.state l x o k ≡ read o k

  module _ (w : Words) (m : Manager) (x : Fork) (read : ℕ → ℕ → Value) (g : Running w m x read) where
    abbrev st : State
    st = g.drain.state

    invariant : (ms : ℕ → Manager) → RunInvariant s w (placed l m ms) st
    invariant = g.drain.invariant

    live : ReachedState s st
    live = invariant_live s a w (placed l m (λ _. m)) st (invariant (λ _. m))

    represents : LevelRepresents (level_count s) w l m (level_at st l)
    represents = subst (λ y. LevelRepresents (level_count s) w l y (level_at st l)) (placed_own l m (λ _. m)) ((invariant (λ _. m)).represents.level l h)

    counted_busy : get_or w.tallies (busy_place l) 0 ≡ 1
    counted_busy = by (level_at st l).activity g.runs represents.activity
      where
        by : (y : Activity) → y ≡ busy x m → Runs (level_count s) w l m (length (level_at st l).ended) y → get_or w.tallies (busy_place l) 0 ≡ 1
        by y e r = (subst (Runs (level_count s) w l m (length (level_at st l).ended)) e r).0

    has : managed w.tallies l ≡ true
    has = rw counted_busy refl

    pub running_busy : (ms : ℕ → Manager) → Busy s w l (placed l m ms) st x m
    running_busy ms = record { invariant = invariant ms; present = h; runs = g.runs }

    pub running_reads : stepped p (read_at p st l x) m ≡ stepped p read m
    running_reads = stepped_reads p (read_at p st l x) read g.reads m

    pub running_effect : (e : Effect) → (stepped p read m).effect ≡ e → EffectReady w.current w.tallies w.queue w.work l m.forks e
    running_effect e is =
        effect_ready s a few (object_limit s a) w (placed l m (λ _. m)) st (invariant (λ _. m)).represents live l h x m g.runs read e is

    -- a step that it makes, whatever it does
    pub running_step : (n : Stepped) → stepped p read m ≡ n → (q : Parts) → EffectDone (parts_of w) q l m.stamp m.forks n.effect → Unsettled s from (record { current = q.current; ended = w.ended; tallies = q.tallies; queue = q.queue; work = q.work }) l n.manager
    running_step n is q d ended' tallies' z =
        drain_on s a l h from w m g.drain has (record { current = q.current; ended = ended'; tallies = tallies'; queue = q.queue; work = q.work }) n.manager
        (λ ms. invariant_advance s a few w (placed l m ms) st (invariant ms) l h (drain_allowed s a l h from w m g.drain has) x m g.runs n (running_reads ∙ is) q ended' tallies' d z)

    pub running_step_state : (n : Stepped) (is : stepped p read m ≡ n) (q : Parts) (d : EffectDone (parts_of w) q l m.stamp m.forks n.effect) (ended' tallies' : List ℕ) (z : Settled w.ended ended' q.tallies tallies' q.queue l n.manager) → (running_step n is q d ended' tallies' z).state ≡ step_at p l st
    unfolding running_step
    running_step_state n is q d ended' tallies' z = drain_on_state s a l h from w m g.drain has _ n.manager _

    -- one that concerns nobody else, after which it runs on: nothing else of the state changes
    module _ (m' : Manager) (is : stepped p read m ≡ record { manager = m'; effect = effect.Nothing }) (run : is_running m'.ending ≡ true) where
      state_is : step_at p l st ≡ modify l (λ _. after (level_at st l) (level_at st l).waiting (level_at st l).versions x m') st
      unfolding delivered
      state_is =
          step_advance p (sound s a) st live.reachable.steady.fork_invariant live.reachable.steady.contained l (present s l h) x m (record { manager = m'; effect = effect.Nothing }) g.runs (running_reads ∙ is)

      there : l < length st
      there = rw (invariant (λ _. m)).represents.levels h

      own : level_at (step_at p l st) l ≡ record { waiting = (level_at st l).waiting; activity = busy x m'; ended = (level_at st l).ended; next = (level_at st l).next; versions = (level_at st l).versions }
      unfolding after
      own =
          ap (λ z. level_at z l) state_is
          ∙ modify_at new_level l (λ _. after (level_at st l) (level_at st l).waiting (level_at st l).versions x m') st there
          ∙ rw run refl

      other : (j : ℕ) → (l ≡ j → ⊥) → level_at (step_at p l st) j ≡ level_at st j
      other j d =
          ap (λ z. level_at z j) state_is
          ∙ modify_other new_level l j (λ _. after (level_at st l) (level_at st l).waiting (level_at st l).versions x m') st d

      versions_same : (j : ℕ) → (level_at (step_at p l st) j).versions ≡ (level_at st j).versions
      versions_same j = elim (ℕ_discrete l j) [
        | yes e ↦ ap (λ i. (level_at (step_at p l st) i).versions) (sym e) ∙ ap (λ v. v.versions) own ∙ ap (λ i. (level_at st i).versions) e
        | no d ↦ ap (λ v. v.versions) (other j d)
      ]

      ended_same : (j : ℕ) → (level_at (step_at p l st) j).ended ≡ (level_at st j).ended
      ended_same j = elim (ℕ_discrete l j) [
        | yes e ↦ ap (λ i. (level_at (step_at p l st) i).ended) (sym e) ∙ ap (λ v. v.ended) own ∙ ap (λ i. (level_at st i).ended) e
        | no d ↦ ap (λ v. v.ended) (other j d)
      ]

      reads_same : (o k : ℕ) → read_at p (step_at p l st) l x o k ≡ read_at p st l x o k
      unfolding read_at
      reads_same o k = rw (versions_same (p.level o), ended_same (p.level o)) refl

      pub running_on_lem : Running w m' x read
      running_on_lem =
          let z = settled_on w.ended w.tallies w.queue l m' run in
          let n : Stepped = record { manager = m'; effect = effect.Nothing } in
          let at = running_step_state n is (parts_of w) refl w.ended w.tallies z in
          record {
            drain = running_step n is (parts_of w) refl w.ended w.tallies z;
            runs = ap (λ y. (level_at y l).activity) at ∙ ap (λ v. v.activity) own;
            reads = λ o k. ap (λ y. read_at p y l x o k) at ∙ reads_same o k ∙ g.reads o k;
          }

  -- steps that concern nobody else, up to a manager that runs
  pub running_internal : (w : Words) (x : Fork) (read : ℕ → ℕ → Value) (k : ℕ) (m b : Manager) → Running w m x read → InternalSteps p read k m b → is_running b.ending ≡ true → Running w b x read
  unfolding InternalSteps
  running_internal w x read zero m b g e r = subst (λ y. Running w y x read) e g
  running_internal w x read (suc k) m b g (run, (none, q)) r =
      running_internal w x read k (stepped p read m).manager b
      (running_on_lem w m x read g (stepped p read m).manager (ap (λ e. record { manager = (stepped p read m).manager; effect = e }) none) (internal_runs p read k (stepped p read m).manager b q r))
      q r

  -- and up to any
  pub unsettled_internal : (w : Words) (x : Fork) (read : ℕ → ℕ → Value) (k : ℕ) (m b : Manager) → Unsettled s from w l m → (is_running m.ending ≡ true → Running w m x read) → InternalSteps p read k m b → Unsettled s from w l b
  unfolding InternalSteps
  unsettled_internal w x read zero m b unsettled g e = subst (Unsettled s from w l) e unsettled
  unsettled_internal w x read (suc k) m b unsettled g (run, (none, q)) =
      let m' = (stepped p read m).manager in
      let is : stepped p read m ≡ record { manager = m'; effect = effect.Nothing } = ap (λ e. record { manager = (stepped p read m).manager; effect = e }) none in
      unsettled_internal w x read k m' b
      (running_step w m x read (g run) (record { manager = m'; effect = effect.Nothing }) is (parts_of w) refl)
      (λ r. running_on_lem w m x read (g run) m' is r)
      q

  -- the words of a manager that runs do not lag
  pub unsettled_none : (w : Words) (m : Manager) → Draining s from w l m → is_running m.ending ≡ true → Unsettled s from w l m
  unsettled_none w m g r ended' tallies' z = rw ((z.0 r).0, (z.0 r).1) g

  -- one runs where the words say so
  pub running_start : (w : Words) (m : Manager) (g : Draining s from w l m) → get_or w.tallies (busy_place l) 0 ≡ 1 → (x : Fork) × Running w m x (read_at p g.state l x)
  running_start w m g one =
      let represents : LevelRepresents (level_count s) w l m (level_at g.state l) = subst (λ y. LevelRepresents (level_count s) w l y (level_at g.state l)) (placed_own l m (λ _. m)) ((g.invariant (λ _. m)).represents.level l h) in
      let (x, e) = represents_runs (level_count s) w l m (level_at g.state l) represents (λ z. omega (arith, z, one)) in
      (x, record { drain = g; runs = e; reads = λ o k. refl })

  -- where steps have led with nothing done outside, it runs on
  pub running_leads : (w : Words) (x : Fork) (read : ℕ → ℕ → Value) (m b : Manager) → Running w m x read → Leads p read m (record { manager = b; effect = effect.Nothing }) → is_running b.ending ≡ true → Running w b x read
  running_leads w x read m b g (internal k q e) run = running_internal w x read k m b g q run
  running_leads w x read m b g (last k n q on is) run = running_on_lem w n x read (running_internal w x read k m n g q on) b is run

  -- one of the code's runs there
  abbrev pub runs_at : {w : Words} (m : code.Manager) {x : Fork} {read : ℕ → ℕ → Value} → Running w (manager_of m) x read → RunsAt s w l m
  runs_at {w} m {x} {read} g =
      record {
        running = placed l (manager_of m) (λ _. manager_of m);
        state = g.drain.state;
        fork = x;
        busy = running_busy w (manager_of m) x read g (λ _. manager_of m);
      }
