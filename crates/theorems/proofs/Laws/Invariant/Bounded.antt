-- Each step of a manager keeps the limits of all levels, and leaves fewer steps. Assumes nothing.
use Prim.Native.Nat.{ℕ, zero, suc, ◌+◌, ◌<◌}
use mathlib.Core.Path.{◌≡◌, refl, sym, ap}
use mathlib.Core.Bool.{true}
use mathlib.Core.List.{[], ◌∷◌}
use native.Mathlib.Decide.{ℕ_discrete}
use native.Mathlib.Omega.{arith}
use lib.ListN.{length}
use Rattle.session.specs.Program.{Program, seen_by}
use Rattle.scripts.proofs.Laws.Effects.{Sound}
use Rattle.lists.specs.Changed.{modify}
use Rattle.model.specs.Fork.{Fork}
use Rattle.model.specs.Level.{Level, has_manager, arrived}
use Rattle.model.specs.Step.{State, level_at, view_of, Arrival, none, at, move_at, delivered, step_at}
use Rattle.theorems.proofs.Laws.Steps.Locality.{Above, Misses}
use Rattle.theorems.proofs.Laws.Steps.Diamond.{seen_level}
use Rattle.theorems.proofs.Laws.Steps.Moves.{move_above}
use Rattle.theorems.proofs.Laws.Invariant.Forks.{level_own, level_target, level_other, ForkInvariant}
use Rattle.theorems.proofs.Laws.Invariant.Preserved.{other_level}
use Rattle.theorems.proofs.Laws.Invariant.Measure.{cost, Bounded, Falls, moved_falls, arrived_bounded, arrived_cost}

-- the scheduler steps that a state has left
unfoldable pub total : State → ℕ
total [] = 0
total (v ∷ vs) = cost v + total vs

total_modify : (l : ℕ) (f : Level → Level) (st : State) → l < length st → total (modify l f st) + cost (level_at st l) ≡ total st + cost (f (level_at st l))
unfolding total modify
total_modify l f [] h = absurd (omega arith)
total_modify zero f (v ∷ vs) h = omega arith
total_modify (suc l) f (v ∷ vs) h = omega (arith, total_modify l f vs (omega arith))

-- a fork that arrives takes none
pub total_arrived : (u : ℕ) (x : Fork) (st : State) → total (modify u (arrived x) st) ≡ total st
unfolding modify total
total_arrived u x [] = refl
total_arrived zero x (v ∷ vs) = ap (λ c. c + total vs) (arrived_cost x v)
total_arrived (suc u) x (v ∷ vs) = ap (λ t. cost v + t) (total_arrived u x vs)

total_delivered : (b : Arrival) (st : State) → total (delivered b st) ≡ total st
unfolding delivered
total_delivered none st = refl
total_delivered (at u x) st = total_arrived u x st

-- a step of a manager keeps the limits of its level, and leaves it fewer steps
pub move_falls : (p : Program) (l : ℕ) (st : State) → Sound p → l < p.levels → has_manager (level_at st l) ≡ true → Bounded (level_at st l) → Falls (level_at st l) (move_at p l st).own
unfolding move_at
move_falls p l st so h m t =
    let view = view_of p l st in
    let same : level_at view l ≡ level_at st l = seen_level p l l st h (so.lattice.order.itself l h) in
    by (level_at view l) (level_at st l) same
    (moved_falls (seen_by l p) view l (level_at view l) (level_at view l).activity (rw same t) refl (rw same m))
  where
    by : (v w : Level) → v ≡ w → {z : Level} → Falls v z → Falls w z
    by v w q f = rw (sym q) f

-- the levels keep their limits
abbrev pub AllBounded : State → Type 0
AllBounded st = (k : ℕ) → Bounded (level_at st k)

-- a step of a manager keeps the limits of all levels
module _ (p : Program) (so : Sound p) (st : State) (o : ForkInvariant p st) (t : AllBounded st) (l : ℕ) (h : l < p.levels) (m : has_manager (level_at st l) ≡ true) where
  here : l < length st
  here = rw o.size h

  misses : (b : Arrival) → Above p l b → Misses l b
  misses none a = tt
  misses (at u x) a = λ q. other_level p u l a.1 (sym q)

  delivered_bounded : (b : Arrival) → Above p l b → (k : ℕ) → Bounded (level_at (delivered b (modify l (λ _. (move_at p l st).own) st)) k)
  delivered_bounded b a k = at_level b a (ℕ_discrete l k)
    where
      own : Bounded (move_at p l st).own
      own = (move_falls p l st so h m (t l)).bounded

      at_level : (b : Arrival) → Above p l b → Dec (l ≡ k) → Bounded (level_at (delivered b (modify l (λ _. (move_at p l st).own) st)) k)
      at_level b a (yes e) = rw (sym e, level_own b l (move_at p l st).own st (misses b a) here) own
      at_level none a (no n) = rw (level_other none l k (move_at p l st).own st n tt) (t k)
      at_level (at u x) a (no n) = elim (ℕ_discrete u k) [
        | yes e ↦ rw (sym e, level_target u x l (move_at p l st).own st (other_level p u l a.1) (rw o.size a.0)) (arrived_bounded x (level_at st u) (t u))
        | no g ↦ rw (level_other (at u x) l k (move_at p l st).own st n g) (t k)
      ]

  pub step_bounded : AllBounded (step_at p l st)
  unfolding step_at
  step_bounded = delivered_bounded (move_at p l st).arrival (move_above p l st so h (o.placed l h))

  pub step_less : total (step_at p l st) < total st
  unfolding step_at
  step_less =
      omega (arith, total_delivered (move_at p l st).arrival (modify l (λ _. (move_at p l st).own) st), total_modify l (λ _. (move_at p l st).own) st here, (move_falls p l st so h m (t l)).less)
