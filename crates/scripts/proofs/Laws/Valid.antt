-- The managers that the code is called with are those that start and step leave. Assumes nothing.
use Prim.Native.Nat.{ℕ, ◌+◌, ◌≤◌}
use mathlib.Core.Path.{◌≡◌, refl, ◌∙◌, ap}
use mathlib.Core.Bool.{true}
use mathlib.Core.List.{List}
use native.Mathlib.Omega.{arith}
use Rattle.session.specs.Questions.{verdict_of, Accepted}
use Rattle.session.specs.Program.{Program, program_of}
use Rattle.session.specs.Value.{Value}
use Rattle.session.specs.declared.Message.{Message}
use Rattle.scripts.specs.Existence.{script_seen}
use Rattle.scripts.specs.Limits.{max_writes, max_forks}
use Rattle.scripts.specs.Frame.{frame_for, at_step}
use Rattle.scripts.specs.Ending.{is_running}
use Rattle.scripts.specs.Manager.{top, next_step, started, operated, stepped}
use Rattle.scripts.specs.Valid.{Known, Valid, Startable}
use Rattle.scripts.specs.State.{Manager}
use Rattle.scripts.specs.Effect.{Effect}
use Rattle.scripts.specs.Effect as effect
use Rattle.scripts.proofs.Laws.Counts.{Counts, counts, grown, one_more, started_counts, stepped_counts}
use Rattle.scripts.proofs.Laws.Effects.{Legible, Fits, stepped_fits}
use Rattle.scripts.proofs.Laws.Endings.{concluded_live, concluded_few, running_live, running_few}
use Rattle.scripts.proofs.Laws.Stack.{Stacked, top_each, first_stack, concluded_stack, operated_stack, stepped_stack}
use Rattle.scripts.proofs.Laws.Accepted.{EffectPresent, known_register, legible_low, program_sound, passed_known, next_preserves, next_present}

-- counts within their limits, at a level and with a first write stamp
record Limited (level first steps : ℕ) (c : Counts) : Type 0 where
  level_is : c.level ≡ level
  first_is : c.first ≡ first
  steps_are : c.steps ≡ steps
  wrote : c.writes ≤ max_writes
  forked : c.forks ≤ max_forks
  stamped : c.stamp ≡ c.first + c.forks

grown_limited : (p : Program) (m : Manager) (x : Effect) → Fits p m x → m.writes ≤ max_writes → m.forks ≤ max_forks → m.stamp ≡ m.first + m.forks → Limited m.level m.first (m.steps + 1) (one_more (grown (counts m) x))
grown_limited p m effect.Nothing f w k e =
    record { level_is = refl; first_is = refl; steps_are = refl; wrote = w; forked = k; stamped = e }
grown_limited p m (effect.Write ws) f w k e =
    record { level_is = refl; first_is = refl; steps_are = refl; wrote = omega (arith, f.1); forked = k; stamped = e }
grown_limited p m (effect.Fork u message) f w k e =
    record { level_is = refl; first_is = refl; steps_are = refl; wrote = w; forked = omega (arith, f.1.1); stamped = omega (arith, e) }

module _ (s : List ℕ) (a : verdict_of s ≡ Accepted) where
  -- a manager that starts is valid
  pub started_valid : (read : ℕ → ℕ → Value) → Legible (program_of s) read → (level stamp : ℕ) (message : Message) → Startable s level stamp message → Valid s (started (program_of s) read level stamp message)
  unfolding started
  started_valid read g level stamp message h =
      let p = program_of s in
      let e = started_counts p read level stamp message in
      let f = frame_for message.object (script_seen read message.object) message.name 0 true message.parameter in
      let k : Known s f = record { present = h.present; scripted = legible_low s read g message.object; named = h.named; near = omega arith } in
      let t = concluded_stack (Known s) (known_register s) p _ (first_stack (Known s) f k) in
      record {
        placed = rw (ap (λ c. c.level) e) h.placed;
        stack = t;
        live = concluded_live p _;
        few = concluded_few p _;
        made = omega (arith, ap (λ c. c.steps) e);
        wrote = omega (arith, ap (λ c. c.writes) e);
        forked = omega (arith, ap (λ c. c.forks) e);
        stamped = omega (arith, ap (λ c. c.stamp) e, ap (λ c. c.first) e, ap (λ c. c.forks) e);
        fits = rw (ap (λ c. c.first) e) h.fits;
      }

  -- the stack after the operation of a script step
  pub done_stack : (read : ℕ → ℕ → Value) → Legible (program_of s) read → (m : Manager) → Valid s m → is_running m.ending ≡ true → Stacked (Known s) (operated (program_of s) read m (at_step (top m) ((top m).next + 1)) (next_step (program_of s) (top m))).manager
  done_stack read g m v r =
      let p = program_of s in
      let f = top m in
      let h = top_each (Known s) m v.stack (v.live r) in
      operated_stack (Known s) (known_register s) p read m (at_step f (f.next + 1)) (next_step p f) v.stack (passed_known s a f h) (next_preserves s a read g m f h)

  -- a script step leaves a valid manager
  pub stepped_valid : (read : ℕ → ℕ → Value) → Legible (program_of s) read → (m : Manager) → Valid s m → is_running m.ending ≡ true → Valid s (stepped (program_of s) read m).manager
  stepped_valid read t m v r =
      let p = program_of s in
      let x = (stepped p read m).effect in
      let e = stepped_counts p read m in
      let g : Limited m.level m.first (m.steps + 1) (one_more (grown (counts m) x)) =
      grown_limited p m x (stepped_fits p read m (program_sound s a) (unfold program_of in v.placed)) v.wrote v.forked v.stamped in
      let steps = v.few r in
      record {
        placed = rw (ap (λ c. c.level) e ∙ g.level_is) v.placed;
        stack = stepped_stack (Known s) (known_register s) p read m (done_stack read t m v r);
        live = running_live p read m;
        few = running_few p read m;
        made = omega (arith, ap (λ c. c.steps) e, g.steps_are);
        wrote = omega (arith, ap (λ c. c.writes) e, g.wrote);
        forked = omega (arith, ap (λ c. c.forks) e, g.forked);
        stamped = omega (arith, ap (λ c. c.stamp) e, ap (λ c. c.first) e, ap (λ c. c.forks) e, g.stamped);
        fits = rw (ap (λ c. c.first) e ∙ g.first_is) v.fits;
      }

  -- and does nothing outside that concerns an object that is not there
  pub stepped_present : (read : ℕ → ℕ → Value) (m : Manager) → Valid s m → is_running m.ending ≡ true → EffectPresent s (stepped (program_of s) read m).effect
  unfolding stepped
  stepped_present read m v r = next_present s a read m (top m) v.placed (top_each (Known s) m v.stack (v.live r))
