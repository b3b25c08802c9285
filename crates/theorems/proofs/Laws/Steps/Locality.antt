-- A scheduler step reads only what its level dominates, and changes its own level and one strictly above. Steps at incomparable levels
-- commute. Over any program whose levels are partially ordered. Assumes nothing.
use Prim.Native.Nat.{ℕ, ◌<◌}
use mathlib.Core.Path.{◌≡◌, refl, sym, ◌∙◌, ap, fun_ext}
use mathlib.Core.Bool.{true, false, not, cond}
use native.Mathlib.Decide.{ℕ_discrete}
use lib.Dec.{eqb}
use Rattle.dominance.specs.Order.{strictly, PartialOrder}
use Rattle.lists.proofs.Laws.Range.{and_left, not_both}
use Rattle.lists.specs.Lists.{tab}
use Rattle.session.specs.Program.{Program}
use Rattle.lists.proofs.Laws.Lists.{Truth, holds, fails, truth}
use Rattle.lists.specs.Changed.{modify}
use Rattle.model.specs.Level.{Level, new_level, arrived}
use Rattle.model.specs.Step.{State, level_at, view_of, Arrival, none, at, Moved, move_at, applied, delivered}
use Rattle.lists.proofs.Laws.Changed.{modify_other, modify_comm, modify_twice}
use Rattle.theorems.proofs.Laws.Steps.Arrivals.{arrived_comm}

-- a fork goes to a level that is present and strictly dominates l
abbrev pub Above : Program → ℕ → Arrival → Type 0
Above p l none = Unit
Above p l (at u x) = (u < p.levels) × (strictly p.dom u l ≡ true)

-- two forks have different stamps
abbrev pub Apart : Arrival → Arrival → Type 0
Apart none b = Unit
Apart (at u x) none = Unit
Apart (at u x) (at w y) = x.stamp ≡ y.stamp → ⊥

-- a fork does not go to level l
abbrev pub Misses : ℕ → Arrival → Type 0
Misses l none = Unit
Misses l (at u x) = u ≡ l → ⊥

-- Locality: what a step does depends on what its level sees alone
pub local : (p : Program) (l : ℕ) (st st' : State) → view_of p l st ≡ view_of p l st' → move_at p l st ≡ move_at p l st'
unfolding move_at
local p l st st' e = rw e

-- a change at a level that l does not dominate is not seen by l
pub view_modify : (p : Program) (l k : ℕ) (f : Level → Level) (st : State) → p.dom l k ≡ false → view_of p l (modify k f st) ≡ view_of p l st
unfolding view_of
view_modify p l k f st e = ap (tab p.levels) (fun_ext λ j. seen j (truth (p.dom l j)))
  where
    seen : (j : ℕ) → Truth (p.dom l j) → cond (p.dom l j) (level_at (modify k f st) j) new_level ≡ cond (p.dom l j) (level_at st j) new_level
    seen j (holds h) = rw h (modify_other new_level k j f st (λ q. not_both (p.dom l k) (rw q h) e))
    seen j (fails h) = rw h refl

-- what a step at level k does is not seen by a level that does not dominate k
module _ (p : Program) (po : PartialOrder p.levels p.dom) where
  pub not_above : (l k u : ℕ) → l < p.levels → k < p.levels → u < p.levels → strictly p.dom u k ≡ true → p.dom l k ≡ false → p.dom l u ≡ false
  not_above l k u hl hk hu s e = below (truth (p.dom l u))
    where
      below : Truth (p.dom l u) → p.dom l u ≡ false
      below (holds h) = absurd (not_both (p.dom l k) (po.through l u k hl hu hk h (and_left (p.dom u k) (not (eqb u k)) s)) e)
      below (fails h) = h

  pub view_applied : (l k : ℕ) (done : Moved) (st : State) → l < p.levels → k < p.levels → p.dom l k ≡ false → Above p k done.arrival → view_of p l (applied k done st) ≡ view_of p l st
  view_applied l k done st hl hk e a = arrives done.arrival a
    where
      arrives : (b : Arrival) → Above p k b → view_of p l (delivered b (modify k (λ _. done.own) st)) ≡ view_of p l st
      arrives none a = unfold delivered in view_modify p l k (λ _. done.own) st e
      arrives (at u x) a =
          unfold delivered in
          view_modify p l u (arrived x) (modify k (λ _. done.own) st) (not_above l k u hl hk a.0 a.1 e)
          ∙ view_modify p l k (λ _. done.own) st e

-- two changes commute where neither fork goes to the other's level
pub delivered-modify : (b : Arrival) (l : ℕ) (f : Level → Level) (st : State) → Misses l b → delivered b (modify l f st) ≡ modify l f (delivered b st)
unfolding delivered
delivered-modify none l f st m = refl
delivered-modify (at u x) l f st m = modify_comm u l (arrived x) f st m

pub delivered_comm : (a b : Arrival) (st : State) → Apart a b → delivered a (delivered b st) ≡ delivered b (delivered a st)
unfolding delivered
delivered_comm none b st d = refl
delivered_comm (at u x) none st d = refl
delivered_comm (at u x) (at w y) st d = together (ℕ_discrete u w)
  where
    together : Dec (u ≡ w) → modify u (arrived x) (modify w (arrived y) st) ≡ modify w (arrived y) (modify u (arrived x) st)
    together (no n) = modify_comm u w (arrived x) (arrived y) st n
    together (yes e) =
        rw e (modify_twice w (arrived x) (arrived y) st
        ∙ ap (λ f. modify w f st) (fun_ext λ v. arrived_comm x y v d)
        ∙ sym (modify_twice w (arrived y) (arrived x) st))

pub applied_comm : (l k : ℕ) (m o : Moved) (st : State) → (l ≡ k → ⊥) → Misses k m.arrival → Misses l o.arrival → Apart m.arrival o.arrival → applied l m (applied k o st) ≡ applied k o (applied l m st)
applied_comm l k m o st n ml ok d =
    ap (delivered m.arrival) (sym (delivered-modify o.arrival l (λ _. m.own) (modify k (λ _. o.own) st) ok))
    ∙ delivered_comm m.arrival o.arrival (modify l (λ _. m.own) (modify k (λ _. o.own) st)) d
    ∙ ap (λ s. delivered o.arrival (delivered m.arrival s)) (modify_comm l k (λ _. m.own) (λ _. o.own) st n)
    ∙ ap (delivered o.arrival) (delivered-modify m.arrival k (λ _. o.own) (modify l (λ _. m.own) st) ml)
