-- A scheduler step that makes a script step: its stages together are what the definition's step does. Assumes nothing.
use Prim.Native.Nat.{ℕ, zero, suc, ◌+◌, ◌≤◌, ◌<◌}
use mathlib.Core.Path.{◌≡◌, refl, sym, ◌∙◌, ap, ap₂}
use mathlib.Core.List.{List, [], ◌∷◌}
use native.Mathlib.Decide.{ℕ_discrete}
use native.Mathlib.Omega.{arith}
use lib.ListN.{length, get_or, set}
use Rattle.session.specs.Limits.{max_levels}
use Rattle.session.specs.Parts.{level_count}
use Rattle.session.specs.Meaning.{Numbered}
use Rattle.session.specs.Program.{program_of}
use Rattle.session.specs.Questions.{verdict_of, Accepted}
use Rattle.session.specs.declared.Message.{Message}
use Rattle.scripts.specs.Manager.{stepped}
use Rattle.scripts.specs.Existence.{existence}
use Rattle.scripts.specs.Valid.{Each}
use Rattle.scripts.specs.State.{Manager, Stepped}
use Rattle.scripts.specs.Effect.{Written, Effect}
use Rattle.scripts.specs.Effect as effect
use Rattle.lists.specs.Changed.{modify}
use Rattle.model.specs.Fork.{Fork, child_stamp, child_of}
use Rattle.model.specs.Level.{Version, Activity, busy, Level, new_level, arrived, after}
use Rattle.model.specs.Step.{State, level_at, read_at, versions_after, none, at, arrival_of, delivered, step_at}
use Rattle.lists.proofs.Laws.Changed.{modify_comm, modify_twice}
use Rattle.theorems.proofs.Laws.Order.Accepted.{sound}
use Rattle.theorems.proofs.Laws.Invariant.Measure.{arrived_bounded}
use Rattle.theorems.proofs.Laws.Code.Direct.{step_advance}
use Rattle.theorems.proofs.Laws.Code.Reached.{ReachedState, present}
use Rattle.theorems.proofs.Laws.Code.Needs.{live-room, live-versions, live-write, live-fork}
use Rattle.queues.specs.Queue.{fork_of_row, fork_at}
use Rattle.versions.specs.Log.{max_versions}
use Rattle.level_state.specs.Representation.{Words, Runs, Represents, placed}
use Rattle.level_state.specs.Steps.{Parts, running_fork, WroteAll, noted, Forked, EffectDone, Settled}
use Rattle.level_state.proofs.Laws.Representation.{Limited, at_own, at_other}
use Rattle.level_state.proofs.Laws.Writes.{written_all, all_versions, all_but, represents_noted, represents_writes, writes_limited, noted_each}
use Rattle.level_state.proofs.Laws.Arrive.{represents_arrive}
use Rattle.level_state.proofs.Laws.Settle.{represents_settle}

-- an element changed by what it is
pub modify_fixed : {A : Type 0} (d : A) (i : ℕ) (f : A → A) (xs : List A) → modify i f xs ≡ modify i (λ _. f (get_or xs i d)) xs
unfolding modify
modify_fixed d i f [] = refl
modify_fixed d zero f (x ∷ xs) = refl
modify_fixed d (suc i) f (x ∷ xs) = ap (λ ys. x ∷ ys) (modify_fixed d i f xs)

-- every level of a state that a run reaches is within its limits
pub live_limited : (s : List ℕ) (a : verdict_of s ≡ Accepted) (st : State) → ReachedState s st → (k : ℕ) → k < level_count s → Limited (level_at st k)
live_limited s a st i k hk =
    record { managers = live-room s a st i k hk; versions = live-versions s a st i k hk }

-- the same words
pub represents_words : {s : List ℕ} {w w' : Words} {ms : ℕ → Manager} {st : State} → w ≡ w' → Represents s w ms st → Represents s w' ms st
represents_words e t = rw (sym e) t

pub represents_state : {s : List ℕ} {w : Words} {ms : ℕ → Manager} {st st' : State} → st ≡ st' → Represents s w ms st → Represents s w ms st'
represents_state e t = rw (sym e) t

pub after_any : (v u : Level) (ws : List Fork) (vs : List Version) (x : Fork) (m : Manager) → u.ended ≡ v.ended → u.next ≡ v.next → after u ws vs x m ≡ after v ws vs x m
unfolding after
after_any v u ws vs x m e q = rw (e, q) refl

delivers : (u : ℕ) (c : Fork) (st : State) → delivered (at u c) st ≡ modify u (arrived c) st
unfolding delivered
delivers u c st = refl

delivers_none : (st : State) → delivered none st ≡ st
unfolding delivered
delivers_none st = refl

child_of_lem : (l : ℕ) (x : Fork) (m : Manager) (message : Message) → record { stamp = child_stamp x.stamp x.depth (m.forks + 1); depth = x.depth + 1; carried = set x.carried l m.stamp; message = message } ≡ child_of l x m message
unfolding child_of
child_of_lem l x m message = refl

module _ (s : List ℕ) (a : verdict_of s ≡ Accepted) (few : level_count s ≤ max_levels) (w : Words) (ms : ℕ → Manager) (st : State) (t : Represents s w ms st) (i : ReachedState s st) (l : ℕ) (h : l < level_count s) (x : Fork) (m : Manager) (runs : (level_at st l).activity ≡ busy x m) (n : Stepped) (made : stepped (program_of s) (read_at (program_of s) st l x) m ≡ n) (q : Parts) (ended' tallies' : List ℕ) where
  -- the words before and after the step
  abbrev pub parts_before : Parts
  parts_before = record { current = w.current; tallies = w.tallies; queue = w.queue; work = w.work }

  abbrev pub words_after : Words
  words_after =
      record { current = q.current; ended = ended'; tallies = tallies'; queue = q.queue; work = q.work }

  abbrev limits : (k : ℕ) → k < level_count s → Limited (level_at st k)
  limits = live_limited s a st i

  abbrev v : Level
  v = level_at st l

  abbrev settled : Level → Level
  settled v = after v v.waiting v.versions x n.manager

  -- what the definition's step does, by its effect
  step_is : (e : Effect) → n.effect ≡ e → step_at (program_of s) l st ≡ delivered (arrival_of l x m e) (modify l (λ _. after v v.waiting (versions_after m e v.versions) x n.manager) st)
  step_is e is =
      step_advance (program_of s) (sound s a) st i.reachable.steady.fork_invariant i.reachable.steady.contained l (present s l h) x m n runs made
      ∙ ap (λ e. delivered (arrival_of l x m e) (modify l (λ _. after v v.waiting (versions_after m e v.versions) x n.manager) st)) is

  -- the words with which the manager settles
  abbrev middle : Words
  middle = record { current = q.current; ended = w.ended; tallies = q.tallies; queue = q.queue; work = q.work }

  settles : (st1 : State) → Represents s middle ms st1 → ((k : ℕ) → k < level_count s → Limited (level_at st1 k)) → (level_at st1 l).activity ≡ busy x m → Settled w.ended ended' q.tallies tallies' q.queue l n.manager → Represents s words_after (placed l n.manager ms) (modify l settled st1)
  settles st1 t1 b1 r1 z = represents_settle s middle ms st1 t1 b1 few l h x m r1 ended' tallies' n.manager z

  represents_nothing : n.effect ≡ effect.Nothing → q ≡ parts_before → Settled w.ended ended' q.tallies tallies' q.queue l n.manager → Represents s words_after (placed l n.manager ms) (step_at (program_of s) l st)
  represents_nothing is e z =
      represents_state (modify_fixed new_level l settled st ∙ sym (delivers_none _) ∙ sym (step_is effect.Nothing is))
      (settles st (represents_words (ap (λ q. record { current = q.current; ended = w.ended; tallies = q.tallies; queue = q.queue; work = q.work }) (sym e)) t) limits runs z)

  -- the manager's effect is what the definition says
  effect_is : (e : Effect) → n.effect ≡ e → (stepped (program_of s) (read_at (program_of s) st l x) m).effect ≡ e
  effect_is e is = ap (λ n. n.effect) made ∙ is

  module _ (ws : List Written) (is : n.effect ≡ effect.Write ws) (wrote : WroteAll (noted parts_before l ws) q l m.stamp ws) where
    live : (length v.versions + length ws ≤ max_versions) × Each (λ w. ((program_of s).level w.object ≡ l) × (Numbered s w.object × (w.field ≤ existence))) ws
    live = live-write s a st i l h x m runs (read_at (program_of s) st l x) ws (effect_is (effect.Write ws) is)

    small : l < max_levels
    small = omega (arith, h, few)

    lies : (ws : List Written) → Each (λ w. ((program_of s).level w.object ≡ l) × (Numbered s w.object × (w.field ≤ existence))) ws → Each (λ w. (program_of s).level w.object ≡ l) ws
    lies [] e = tt
    lies (w ∷ ws) e = (e.0.0, lies ws e.1)

    abbrev written : Level → Level
    written = written_all m.stamp ws

    at_l : level_at (modify l written st) l ≡ written v
    at_l = at_own s w w ms ms st t limits l h written

    represents_all : Represents s middle ms (modify l written st)
    represents_all =
        represents_writes s few ms w.ended st l h m.stamp (noted parts_before l ws) q ws (represents_noted s few ms w.ended st l h m.stamp parts_before ws t limits) limits live.0 (lies ws live.1) (noted_each parts_before l ws small t.roomy.tallies) wrote

    limits_all : (j : ℕ) → j < level_count s → Limited (level_at (modify l written st) j)
    limits_all = writes_limited s few ms w.ended st l h m.stamp ws (at_own s w w ms ms st t limits l h) (at_other s w w ms ms st t limits l h) limits live.0

    represents_written : Settled w.ended ended' q.tallies tallies' q.queue l n.manager → Represents s words_after (placed l n.manager ms) (step_at (program_of s) l st)
    represents_written z =
        let same = all_but m.stamp ws v in
        represents_state
        (modify_twice l settled written st
        ∙ modify_fixed new_level l (λ v. settled (written v)) st
        ∙ ap (λ u. modify l (λ _. u) st)
        (after_any v (written v) (written v).waiting (written v).versions x n.manager same.ended same.next
        ∙ ap₂ (λ a b. after v a b x n.manager) same.waiting (all_versions m.stamp ws v))
        ∙ sym (delivers_none _)
        ∙ sym (step_is (effect.Write ws) is))
        (settles (modify l written st) represents_all limits_all (ap (λ v. v.activity) at_l ∙ same.activity ∙ runs) z)

  module _ (u : ℕ) (message : Message) (is : n.effect ≡ effect.Fork u message) (forked : Forked w.tallies q.tallies w.queue q.queue l m.stamp m.forks u message) (same-current : q.current ≡ w.current) (same-work : q.work ≡ w.work) where
    above : u < level_count s
    above = (live-fork s a st i l h x m runs (read_at (program_of s) st l x) u message (effect_is (effect.Fork u message) is)).0

    abbrev child : Fork
    child = fork_of_row (level_count s) forked.row

    -- the fork of the manager that runs
    running : running_fork (level_count s) w.tallies w.queue l ≡ x
    running =
        ap (fork_at (level_count s) w.queue l) (t.level l h).ended_count ∙ by v.activity runs (t.level l h).activity
      where
        by : (b : Activity) → b ≡ busy x m → Runs (level_count s) w l (ms l) (length v.ended) b → fork_at (level_count s) w.queue l (length v.ended) ≡ x
        by b e r = let z : Runs (level_count s) w l (ms l) (length v.ended) (busy x m) = rw e at r in z.1.1

    child_made : child ≡ child_of l x m message
    child_made =
        forked.child (level_count s) h few
        ∙ ap (λ y. record { stamp = child_stamp y.stamp y.depth (m.forks + 1); depth = y.depth + 1; carried = set y.carried l m.stamp; message = message }) running
        ∙ child_of_lem l x m message

    apart : l ≡ u → ⊥
    apart e =
        (live-fork s a st i l h x m runs (read_at (program_of s) st l x) u message (effect_is (effect.Fork u message) is)).1.0 (sym e)

    at_u : level_at (modify u (arrived child) st) u ≡ arrived child (level_at st u)
    at_u = at_own s w w ms ms st t limits u above (arrived child)

    limits_arrived : (j : ℕ) → j < level_count s → Limited (level_at (modify u (arrived child) st) j)
    limits_arrived j hj = elim (ℕ_discrete j u) [
      | yes e ↦ rw (e, at_u) (record { managers = (arrived_bounded child (level_at st u) (i.reachable.steady.bounded u)).room; versions = versions })
      | no d ↦ rw (at_other s w w ms ms st t limits u above (arrived child) j d) (limits j hj)
    ]
      where
        versions : length (arrived child (level_at st u)).versions ≤ max_versions
        versions = unfold arrived in (limits u above).versions

    represents_forked : Settled w.ended ended' q.tallies tallies' q.queue l n.manager → Represents s words_after (placed l n.manager ms) (step_at (program_of s) l st)
    represents_forked z =
        represents_state
        (modify_comm l u settled (arrived child) st apart
        ∙ ap (modify u (arrived child)) (modify_fixed new_level l settled st)
        ∙ ap (λ c. modify u (arrived c) (modify l (λ _. settled v) st)) child_made
        ∙ sym (delivers u (child_of l x m message) _)
        ∙ sym (step_is (effect.Fork u message) is))
        (settles (modify u (arrived child) st) (represents_words (ap (λ z. record { current = z; ended = w.ended; tallies = q.tallies; queue = q.queue; work = w.work }) (sym same-current) ∙ ap (λ z. record { current = q.current; ended = w.ended; tallies = q.tallies; queue = q.queue; work = z }) (sym same-work)) (represents_arrive s w ms st t limits few u above q.tallies q.queue forked.row forked.count forked.arrived forked.tallies_are)) limits_arrived (ap (λ v. v.activity) (at_other s w w ms ms st t limits u above (arrived child) l apart) ∙ runs) z)

  -- the stages together: the words represent the state after the step
  pub represents_advance : EffectDone parts_before q l m.stamp m.forks n.effect → Settled w.ended ended' q.tallies tallies' q.queue l n.manager → Represents s words_after (placed l n.manager ms) (step_at (program_of s) l st)
  represents_advance d z = by n.effect refl d
    where
      by : (e : Effect) → n.effect ≡ e → EffectDone parts_before q l m.stamp m.forks e → Represents s words_after (placed l n.manager ms) (step_at (program_of s) l st)
      by effect.Nothing is d = represents_nothing is d z
      by (effect.Write ws) is d = represents_written ws is d z
      by (effect.Fork u message) is d = represents_forked u message is d.0 d.1.0 d.1.1 z
