-- The script steps of a manager, up to one that concerns others, lead its run to the same end, and so does what that one does outside it, and
-- a CREATE or WITHDRAW. Assumes nothing.
use Prim.Native.Nat.{ℕ, zero, suc, ◌+◌, ◌-◌, ◌≤◌, ◌<◌}
use mathlib.Core.Path.{◌≡◌, refl, sym, ◌∙◌, ap, subst}
use mathlib.Core.Bool.{true}
use mathlib.Core.List.{List}
use native.Mathlib.Omega.{arith}
use Rattle.session.specs.Parts.{level_count}
use Rattle.session.specs.Questions.{verdict_of, Accepted}
use Rattle.session.specs.Program.{Program, program_of}
use Rattle.session.specs.Value.{Value}
use Rattle.scripts.specs.Limits.{max_script_steps}
use Rattle.scripts.specs.Ending.{is_running}
use Rattle.scripts.specs.Effect as effect
use Rattle.scripts.specs.State.{Manager, Stepped}
use Rattle.scripts.specs.Manager.{stepped}
use Rattle.scripts.proofs.Laws.Accepted.{program_sound}
use Rattle.scripts.proofs.Laws.Counts.{counts, grown, one_more, stepped_counts}
use Rattle.cores.specs.Core.{effect_of}
use Rattle.cores.specs.declared.Effect.{Effect}
use Rattle.managers.specs.Manager.{manager_of, stepped_of}
use Rattle.managers.specs.Steps.{InternalSteps, Leads, internal, last}
use Rattle.managers.specs.declared.Manager as code
use Rattle.managers.proofs.Laws.Leads.{step_counted, internal_steps, internal_alike}
use Rattle.model.specs.Fork as model
use Rattle.model.specs.DepthFirst.{Progress, tally_at, field_now, effected, finish, run_fork}
use Rattle.theorems.proofs.Laws.Code.DepthFirst.{finish_step, effected_own, run_fork_leaves}
use Rattle.progress.specs.Representation.{RepresentedBy, Words, Represents}
use Rattle.descent.specs.Forks.{Same, Forking, Performed}
use Rattle.progress.specs.Changes.{ChangeDone}
use Rattle.progress.specs.declared.Fork as fork

-- a manager that made a fork has made one more than before that step
step_forking : (p : Program) (read : ℕ → ℕ → Value) (n : Manager) (r : code.Manager) → stepped p read n ≡ stepped_of r → Forking r.core.effect n.forks r.core.forks
unfolding manager_of
step_forking p read n r e u o b v i =
    ap (λ d. d.manager.forks) (sym e)
    ∙ ap (λ c. c.forks) (stepped_counts p read n ∙ ap (λ t. one_more (grown (counts n) t)) (ap (λ d. d.effect) e ∙ ap effect_of i))

-- one that made none has none to count
internal_forking : (e : Effect) (before forks : ℕ) → effect_of e ≡ effect.Nothing → Forking e before forks
internal_forking e before forks none u o b v i =
    let t : effect.Fork u (record { object = o; name = b; parameter = v }) ≡ effect.Nothing = sym (ap effect_of i) ∙ none in
    let z : ◌≡◌ {A = ℕ} 0 1 = cc in
    absurd (omega (arith, z))

module _ (s : List ℕ) (a : verdict_of s ≡ Accepted) where
  abbrev p : Program
  p = program_of s

  -- a fork that the last one made is counted
  pub led_forking : (read : ℕ → ℕ → Value) (m : Manager) (r : code.Manager) → Leads p read m (stepped_of r) → Forking r.core.effect (r.core.forks - 1) r.core.forks
  led_forking read m r (internal k q none) = internal_forking r.core.effect (r.core.forks - 1) r.core.forks none
  led_forking read m r (last k n q run e) = λ u o b v i. omega (arith, step_forking p read n r e u o b v i)

  module _ (left l : ℕ) (x : model.Fork) where
    -- what the run of fork x at level l ends with, from a manager of it on its way
    abbrev pub ends : Manager → Progress → Progress
    ends m g = finish (run_fork left p) (max_script_steps - m.steps) p l x m g

    step_ends : (m : Manager) (g : Progress) → m.steps < max_script_steps → is_running m.ending ≡ true → ends m g ≡ ends (stepped p (field_now p g) m).manager (effected (run_fork left p) l x m (stepped p (field_now p g) m).effect g)
    step_ends m g few run =
        let n = (stepped p (field_now p g) m).manager in
        let less : max_script_steps - m.steps ≡ suc (max_script_steps - n.steps) = omega (arith, step_counted p (field_now p g) m, few) in
        ap (λ k. finish (run_fork left p) k p l x m g) less
        ∙ finish_step (run_fork left p) (max_script_steps - n.steps) p l x m g run

    -- a step that is known
    step_does : (m : Manager) (d : Stepped) (g : Progress) → m.steps < max_script_steps → is_running m.ending ≡ true → l < p.levels → m.level ≡ l → stepped p (field_now p g) m ≡ d → (ends m g ≡ ends d.manager (effected (run_fork left p) l x m d.effect g)) × (tally_at (effected (run_fork left p) l x m d.effect g) l ≡ tally_at g l)
    step_does m d g few run placed at e =
        rw (sym e) (step_ends m g few run, effected_own p (program_sound s a) (run_fork left p) (run_fork_leaves p (program_sound s a) left) l placed x m g at)

    -- steps that concern nobody else
    internal_ends : (k : ℕ) (m b : Manager) (g : Progress) → b.steps ≤ max_script_steps → InternalSteps p (field_now p g) k m b → ends m g ≡ ends b g
    unfolding InternalSteps effected
    internal_ends zero m b g few e = ap (λ n. ends n g) e
    internal_ends (suc k) m b g few (run, (none, q)) =
        let n = (stepped p (field_now p g) m).manager in
        let made = internal_steps p (field_now p g) k n b q in
        step_ends m g (omega (arith, few, made, step_counted p (field_now p g) m)) run
        ∙ ap (λ e. ends n (effected (run_fork left p) l x m e g)) none
        ∙ internal_ends k n b g few q

  -- from the words w and the manager m the run of the fork ends as from w' and m'
  abbrev pub SameEnd : ℕ → fork.Fork → Words → Words → Manager → Manager → Progress → model.Fork → Type 0
  SameEnd left f w w' m m' g x =
      (g' : Progress) × (Represents s g' w'
      × ((ends left f.level x m g ≡ ends left f.level x m' g')
      × (tally_at g' f.level ≡ tally_at g f.level)))

  -- steps up to one that concerns others, and what that one does outside its manager
  pub led_ends : (left : ℕ) (f : fork.Fork) (w w' : Words) (m : Manager) (r : code.Manager) → r.core.steps ≤ max_script_steps → f.level < level_count s → m.level ≡ f.level → Performed s left f r.core.forks r.core.effect w w' → (g : Progress) (x : model.Fork) → Represents s g w → Same f x → Leads p (field_now p g) m (stepped_of r) → SameEnd left f w w' m (manager_of r) g x
  unfolding effected manager_of
  led_ends left f w w' m r few placed at does g x represents same (internal k q none) =
      let represented = does.1 g x m represents same (internal_forking r.core.effect m.forks r.core.forks none) in
      (g, (subst (λ e. Represents s (effected (run_fork left p) f.level x m e g) w') none represented, (internal_ends left f.level x k m (manager_of r) g few q, refl)))
  led_ends left f w w' m r few placed at does g x represents same (last k n q run e) =
      let read = field_now p g in
      let there : f.level < p.levels = unfold program_of in placed in
      let made : n.steps + 1 ≡ r.core.steps = sym (step_counted p read n) ∙ ap (λ d. d.manager.steps) e in
      let step = step_does left f.level x n (stepped_of r) g (omega (arith, made, few)) run there ((internal_alike p read k m n q).0 ∙ at) e in (
        effected (run_fork left p) f.level x n (effect_of r.core.effect) g,
        (does.1 g x n represents same (step_forking p read n r e), (internal_ends left f.level x k m n g (omega (arith, made, few)) q ∙ step.0, step.1)),
      )

  -- a CREATE or WITHDRAW
  pub change_ends : (left : ℕ) (f : fork.Fork) (m r : code.Manager) (h c t c' t' : List ℕ) → m.core.steps < max_script_steps → is_running m.core.ending ≡ true → f.level < level_count s → m.core.level ≡ f.level → ChangeDone s m r c t c' t' → (g : Progress) (x : model.Fork) → RepresentedBy s g c h t → SameEnd left f (record { current = c; ended = h; tallies = t }) (record { current = c'; ended = h; tallies = t' }) (manager_of m) (manager_of r) g x
  unfolding manager_of
  change_ends left f m r h c t c' t' few run placed at done g x represents =
      let n = manager_of m in
      let d = stepped p (field_now p g) n in
      let there : f.level < p.levels = unfold program_of in placed in
      let step = step_does left f.level x n d g few run there at refl in (
        effected (run_fork left p) f.level x n d.effect g,
        (
          subst (λ y. Represents s (effected (run_fork left p) y x n d.effect g) (record { current = c'; ended = h; tallies = t' })) at (done.does h g (run_fork left p) x represents),
          (step.0 ∙ ap (λ n. ends left f.level x n (effected (run_fork left p) f.level x (manager_of m) d.effect g)) (sym (done.is h g represents)), step.1),
        ),
      )
