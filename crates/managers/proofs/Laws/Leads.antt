-- Script steps in a row, as the definitions make them. Assumes nothing.
use Prim.Native.Nat.{ℕ, zero, suc, ◌+◌, ◌<◌}
use mathlib.Core.Path.{◌≡◌, refl, sym, ◌∙◌, ap, ap₂, subst}
use mathlib.Core.Bool.{true}
use native.Mathlib.Omega.{arith}
use Rattle.session.specs.Program.{Program}
use Rattle.session.specs.Value.{Value}
use Rattle.scripts.specs.Ending.{is_running}
use Rattle.scripts.specs.Effect as effect
use Rattle.scripts.specs.State.{Manager, Stepped}
use Rattle.scripts.specs.Manager.{stepped}
use Rattle.scripts.proofs.Laws.Counts.{Counts, counts, grown, one_more, stepped_counts}
use Rattle.managers.specs.Steps.{InternalSteps, Leads, internal, last}

-- each script step counts itself
more_steps : (c : Counts) (e : effect.Effect) → (one_more (grown c e)).steps ≡ c.steps + 1
more_steps c effect.Nothing = refl
more_steps c (effect.Write ws) = refl
more_steps c (effect.Fork u message) = refl

pub step_counted : (p : Program) (read : ℕ → ℕ → Value) (m : Manager) → (stepped p read m).manager.steps ≡ m.steps + 1
step_counted p read m = ap (λ c. c.steps) (stepped_counts p read m) ∙ more_steps (counts m) (stepped p read m).effect

-- one more that concerns nobody else
pub internal_more : (p : Program) (read : ℕ → ℕ → Value) (k : ℕ) (m b : Manager) → InternalSteps p read k m b → is_running b.ending ≡ true → (stepped p read b).effect ≡ effect.Nothing → InternalSteps p read (suc k) m (stepped p read b).manager
unfolding InternalSteps
internal_more p read zero m b e r n = (rw e r, (rw e n, ap (λ x. (stepped p read x).manager) e))
internal_more p read (suc k) m b (h, (i, q)) r n = (h, (i, internal_more p read k (stepped p read m).manager b q r n))

pub internal_steps : (p : Program) (read : ℕ → ℕ → Value) (k : ℕ) (m b : Manager) → InternalSteps p read k m b → b.steps ≡ m.steps + k
unfolding InternalSteps
internal_steps p read zero m b e = ap (λ x. x.steps) (sym e) ∙ omega arith
internal_steps p read (suc k) m b (h, (i, q)) =
    let rest = internal_steps p read k (stepped p read m).manager b q in
    let one = step_counted p read m in
    omega (arith, rest, one)

-- where such steps have led, one step more leads on
pub leads_step : (p : Program) (read : ℕ → ℕ → Value) (m n : Manager) → Leads p read m (record { manager = n; effect = effect.Nothing }) → is_running n.ending ≡ true → Leads p read m (stepped p read n)
leads_step p read m n (internal k q e) r = last k n q r refl
leads_step p read m n (last k b q run e) r =
    last (suc k) n
    (subst (λ x. InternalSteps p read (suc k) m x) (ap (λ d. d.manager) e) (internal_more p read k m b q run (ap (λ d. d.effect) e)))
    r refl

-- how many they were, where the count of steps is known: one
pub leads_one : (p : Program) (read : ℕ → ℕ → Value) (m : Manager) (d : Stepped) → Leads p read m d → d.manager.steps ≡ m.steps + 1 → d ≡ stepped p read m
unfolding InternalSteps
leads_one p read m d (internal zero q e) one =
    let none = internal_steps p read zero m d.manager q in
    absurd (omega (arith, none, one))
leads_one p read m d (internal (suc zero) (h, (i, q)) e) one =
    ap₂ (λ n x. record { manager = n; effect = x }) (sym q) (e ∙ sym i)
leads_one p read m d (internal (suc (suc k)) q e) one =
    let many = internal_steps p read (suc (suc k)) m d.manager q in
    absurd (omega (arith, many, one))
leads_one p read m d (last zero n q r e) one = sym e ∙ ap (stepped p read) (sym q)
leads_one p read m d (last (suc k) n q r e) one =
    let many = internal_steps p read (suc k) m n q in
    let more = step_counted p read n in
    let same = ap (λ x. x.manager.steps) e in
    absurd (omega (arith, many, more, same, one))

-- or none was made, and nothing done outside
pub data Steps (m : Manager) (d : Stepped) : Type 0 where
  none : d ≡ record { manager = m; effect = effect.Nothing } → Steps m d
  some : m.steps < d.manager.steps → Steps m d

pub leads_steps : (p : Program) (read : ℕ → ℕ → Value) (m : Manager) (d : Stepped) → Leads p read m d → Steps m d
unfolding InternalSteps
leads_steps p read m d (internal zero q e) = none (ap₂ (λ n x. record { manager = n; effect = x }) (sym q) e)
leads_steps p read m d (internal (suc k) q e) =
    let many = internal_steps p read (suc k) m d.manager q in
    some (omega (arith, many))
leads_steps p read m d (last k n q r e) =
    let many = internal_steps p read k m n q in
    let more = step_counted p read n in
    let same = ap (λ x. x.manager.steps) e in
    some (omega (arith, many, more, same))

-- they change neither the level nor the first write stamp
abbrev Alike : Manager → Manager → Type 0
Alike m n = (n.level ≡ m.level) × (n.first ≡ m.first)

grown_alike : (c : Counts) (e : effect.Effect) → ((one_more (grown c e)).level ≡ c.level) × ((one_more (grown c e)).first ≡ c.first)
grown_alike c effect.Nothing = (refl, refl)
grown_alike c (effect.Write ws) = (refl, refl)
grown_alike c (effect.Fork u message) = (refl, refl)

step_alike : (p : Program) (read : ℕ → ℕ → Value) (m : Manager) → Alike m (stepped p read m).manager
step_alike p read m =
    let e = stepped_counts p read m in
    let g = grown_alike (counts m) (stepped p read m).effect in
    (ap (λ c. c.level) e ∙ g.0, ap (λ c. c.first) e ∙ g.1)

pub internal_alike : (p : Program) (read : ℕ → ℕ → Value) (k : ℕ) (m b : Manager) → InternalSteps p read k m b → Alike m b
unfolding InternalSteps
internal_alike p read zero m b e = (ap (λ x. x.level) (sym e), ap (λ x. x.first) (sym e))
internal_alike p read (suc k) m b (h, (i, q)) =
    let one = step_alike p read m in
    let rest = internal_alike p read k (stepped p read m).manager b q in
    (rest.0 ∙ one.0, rest.1 ∙ one.1)

pub leads_alike : (p : Program) (read : ℕ → ℕ → Value) (m : Manager) (d : Stepped) → Leads p read m d → (d.manager.level ≡ m.level) × (d.manager.first ≡ m.first)
leads_alike p read m d (internal k q e) = internal_alike p read k m d.manager q
leads_alike p read m d (last k n q r e) =
    let t = internal_alike p read k m n q in
    let one = step_alike p read n in
    (ap (λ x. x.manager.level) (sym e) ∙ one.0 ∙ t.0, ap (λ x. x.manager.first) (sym e) ∙ one.1 ∙ t.1)
