-- A whole scheduler step: the words represent the state after it. Assumes nothing.
use Prim.Native.Nat.{ℕ, ◌≤◌, ◌<◌}
use mathlib.Core.Path.{◌≡◌, refl, sym, ◌∙◌, ap, ap₂}
use mathlib.Core.List.{List, [], ◌∷◌, ◌++◌}
use native.Mathlib.Decide.{ℕ_discrete}
use native.Mathlib.Omega.{arith}
use lib.ListN.{length, get_or, drop}
use Rattle.session.specs.Limits.{max_levels}
use Rattle.session.specs.Parts.{level_count}
use Rattle.session.specs.Meaning.{root_of}
use Rattle.session.specs.Program.{program_of}
use Rattle.session.specs.Questions.{verdict_of, Accepted}
use Rattle.scripts.specs.Existence.{script_seen}
use Rattle.scripts.specs.Manager.{started, stepped}
use Rattle.scripts.specs.State.{Manager, Stepped}
use Rattle.scripts.specs.Effect.{Written, Effect}
use Rattle.scripts.specs.Effect as effect
use Rattle.model.specs.Limits.{work_numbers}
use Rattle.lists.specs.Changed.{modify}
use Rattle.model.specs.Fork.{Fork}
use Rattle.model.specs.Level.{idle, busy, Level, new_level, after}
use Rattle.model.specs.Step.{State, level_at, read_at, step_at}
use Rattle.model.specs.Schedule.{read_in, step_refusal}
use Rattle.lists.proofs.Laws.Changed.{modify_twice}
use Rattle.theorems.proofs.Laws.Order.Accepted.{sound}
use Rattle.theorems.proofs.Laws.Code.Direct.{step_start}
use Rattle.theorems.proofs.Laws.Code.Reached.{ReachedState, present}
use Rattle.theorems.proofs.Laws.Code.Progress.{leads_more, leads_live}
use Rattle.queues.specs.Queue.{fork_at}
use Rattle.queues.proofs.Laws.Queue.{message_any}
use Rattle.tallies.specs.Places.{begun_tallies}
use Rattle.level_state.specs.Representation.{Words, Represents, RunInvariant, placed}
use Rattle.level_state.specs.Steps.{Parts, WroteAll, noted, EffectDone, Settled, running_fork, first_message, Started}
use Rattle.level_state.proofs.Laws.Representation.{Limited, at_own, at_other}
use Rattle.level_state.proofs.Laws.Settle.{placed_own, placed_other, represents_settle}
use Rattle.level_state.proofs.Laws.Begin.{begun_level, first_fork, represents_begin}
use Rattle.level_state.proofs.Laws.Advance.{modify_fixed, live_limited, represents_state, after_any, represents_advance}

-- the same managers, one by one
pub represents_held : (s : List ℕ) (w : Words) (ms ms' : ℕ → Manager) (st : State) → ((k : ℕ) → ms' k ≡ ms k) → Represents s w ms st → Represents s w ms' st
represents_held s w ms ms' st e t =
    record {
      roomy = t.roomy;
      counts_few = t.counts_few;
      levels = t.levels;
      field = t.field;
      level = λ k hk. rw (e k) (t.level k hk);
    }

pub invariant_held : (s : List ℕ) (w : Words) (ms ms' : ℕ → Manager) (st : State) → ((k : ℕ) → ms' k ≡ ms k) → RunInvariant s w ms st → RunInvariant s w ms' st
invariant_held s w ms ms' st e y =
    record { represents = represents_held s w ms ms' st e y.represents; reached = y.reached }

-- a state that the words say is one that a run reaches
pub invariant_live : (s : List ℕ) → verdict_of s ≡ Accepted → (w : Words) (ms : ℕ → Manager) (st : State) → RunInvariant s w ms st → ReachedState s st
invariant_live s a w ms st y = leads_live s a y.reached.0 st y.reached.1

-- the words represent the state after an allowed step, where they say it of each level
pub invariant_step : (s : List ℕ) (w w' : Words) (ms ms' : ℕ → Manager) (st : State) (l : ℕ) → RunInvariant s w ms st → step_refusal (program_of s) st l ≡ 0 → Represents s w' ms' (step_at (program_of s) l st) → RunInvariant s w' ms' (step_at (program_of s) l st)
invariant_step s w w' ms ms' st l y ok t =
    record {
      represents = t;
      reached = (y.reached.0 ++ (l ∷ []), leads_more (program_of s) (read_in (program_of s) (root_of s)) y.reached.0 st l y.reached.1 ok);
    }

-- the work slice is as it was beyond the versions
rest_writes : (a b : Parts) (l stamp : ℕ) (ws : List Written) → WroteAll a b l stamp ws → drop work_numbers b.work ≡ drop work_numbers a.work
rest_writes a b l stamp [] e = ap (λ p. drop work_numbers p.work) e
rest_writes a b l stamp (w ∷ ws) (m, (e, (x, q))) = x.version.rest ∙ rest_writes a m l stamp ws e

pub rest_effect : (a b : Parts) (l stamp forks : ℕ) (e : Effect) → EffectDone a b l stamp forks e → drop work_numbers b.work ≡ drop work_numbers a.work
rest_effect a b l stamp forks effect.Nothing d = ap (λ p. drop work_numbers p.work) d
rest_effect a b l stamp forks (effect.Write ws) d = rest_writes (noted a l ws) b l stamp ws d
rest_effect a b l stamp forks (effect.Fork u message) d = ap (drop work_numbers) d.1.1

module _ (s : List ℕ) (a : verdict_of s ≡ Accepted) (few : level_count s ≤ max_levels) (w : Words) (ms : ℕ → Manager) (st : State) (y : RunInvariant s w ms st) (l : ℕ) (h : l < level_count s) (ok : step_refusal (program_of s) st l ≡ 0) where
  abbrev i : ReachedState s st
  i = invariant_live s a w ms st y

  abbrev limits : (k : ℕ) → k < level_count s → Limited (level_at st k)
  limits = live_limited s a st i

  abbrev v : Level
  v = level_at st l

  -- a step that starts a manager
  module _ (x : Fork) (xs : List Fork) (quiescent : v.activity ≡ idle) (waits : v.waiting ≡ x ∷ xs) (ended' tallies' : List ℕ) (m : Manager) (d : Started s w ended' tallies' l m) where
    abbrev words_started : Words
    words_started =
        record { current = w.current; ended = ended'; tallies = tallies'; queue = w.queue; work = w.work }

    abbrev middle : Words
    middle =
        record { current = w.current; ended = w.ended; tallies = begun_tallies w.tallies l; queue = w.queue; work = w.work }

    abbrev begun : Level → Level
    begun = begun_level x xs m

    abbrev settled : Level → Level
    settled v = after v v.waiting v.versions x m

    at_l : level_at (modify l begun st) l ≡ begun v
    at_l = at_own s w w ms ms st y.represents limits l h begun

    limits_begun : (k : ℕ) → k < level_count s → Limited (level_at (modify l begun st) k)
    limits_begun k hk = elim (ℕ_discrete k l) [
      | yes e ↦
          rw (e, at_l) (record { managers = omega (arith, (limits l h).managers, ap length waits); versions = (limits l h).versions })
      | no z ↦ rw (at_other s w w ms ms st y.represents limits l h begun k z) (limits k hk)
    ]

    first_is : running_fork (level_count s) w.tallies w.queue l ≡ x
    first_is =
        ap (fork_at (level_count s) w.queue l) (y.represents.level l h).ended_count
        ∙ first_fork s w ms st y.represents limits few l h x xs quiescent waits m

    seen : script_seen (read_at (program_of s) st l x) (first_message w l).object ≡ d.script
    seen = ap (λ z. script_seen (read_at (program_of s) st l z) (first_message w l).object) (sym first_is) ∙ d.seen ms st y

    manager_is : m ≡ started (program_of s) (read_at (program_of s) st l x) l v.next x.message
    manager_is =
        d.manager (read_at (program_of s) st l x) seen
        ∙ ap₂ (started (program_of s) (read_at (program_of s) st l x) l) (y.represents.level l h).next (message_any 0 (level_count s) w.queue l (get_or w.tallies l 0) ∙ ap (λ x. x.message) first_is)

    step_is : modify l settled (modify l begun st) ≡ step_at (program_of s) l st
    step_is =
        modify_twice l settled begun st
        ∙ modify_fixed new_level l (λ v. settled (begun v)) st
        ∙ ap (λ u. modify l (λ _. u) st) (after_any v (begun v) xs v.versions x m refl refl)
        ∙ ap (λ m. modify l (λ _. after v xs v.versions x m) st) manager_is
        ∙ sym (step_start (program_of s) (sound s a) st i.reachable.steady.fork_invariant i.reachable.steady.contained l (present s l h) x xs quiescent waits)

    held : (k : ℕ) → placed l m ms k ≡ placed l m (placed l m ms) k
    held k = elim (ℕ_discrete k l) [
      | yes e ↦ rw e (placed_own l m ms ∙ sym (placed_own l m (placed l m ms)))
      | no e ↦ placed_other l m ms k e ∙ sym (placed_other l m (placed l m ms) k e ∙ placed_other l m ms k e)
    ]

    pub invariant_start : RunInvariant s words_started (placed l m ms) (step_at (program_of s) l st)
    invariant_start =
        invariant_step s w words_started ms (placed l m ms) st l y ok
        (represents_state step_is (represents_held s words_started (placed l m (placed l m ms)) (placed l m ms) _ held
        (represents_settle s middle (placed l m ms) (modify l begun st) (represents_begin s w ms st y.represents limits few l h x xs quiescent waits m) limits_begun few l h x m (ap (λ v. v.activity) at_l) ended' tallies' m d.settled)))

  -- a step that makes a script step
  module _ (x : Fork) (m : Manager) (runs : v.activity ≡ busy x m) (n : Stepped) (made : stepped (program_of s) (read_at (program_of s) st l x) m ≡ n) (q : Parts) (ended' tallies' : List ℕ) where
    abbrev before : Parts
    before = record { current = w.current; tallies = w.tallies; queue = w.queue; work = w.work }

    abbrev words_advanced : Words
    words_advanced =
        record { current = q.current; ended = ended'; tallies = tallies'; queue = q.queue; work = q.work }

    pub invariant_advance : EffectDone before q l m.stamp m.forks n.effect → Settled w.ended ended' q.tallies tallies' q.queue l n.manager → RunInvariant s words_advanced (placed l n.manager ms) (step_at (program_of s) l st)
    invariant_advance d z =
        invariant_step s w words_advanced ms (placed l n.manager ms) st l y ok
        (represents_advance s a few w ms st y.represents i l h x m runs n made q ended' tallies' d z)
