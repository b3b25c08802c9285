-- Arrivals of forks at a level commute. Assumes nothing.
use Prim.Native.Nat.{◌-◌}
use mathlib.Core.Path.{◌≡◌, ap}
use mathlib.Core.List.{List}
use Rattle.model.specs.Limits.{max_managers}
use Rattle.model.specs.Fork.{Fork}
use Rattle.model.specs.Level.{Level, arrived, started_count}
use Rattle.lists.proofs.Laws.Changed.{taken_comm}

-- a level with other forks waiting
abbrev with_waiting : Level → List Fork → Level
with_waiting v xs =
    record { waiting = xs; activity = v.activity; ended = v.ended; next = v.next; versions = v.versions }

-- two forks with different stamps leave the same level, whichever arrives first
pub arrived_comm : (x y : Fork) (v : Level) → (x.stamp ≡ y.stamp → ⊥) → arrived x (arrived y v) ≡ arrived y (arrived x v)
unfolding arrived
arrived_comm x y v n =
    ap (with_waiting v) (taken_comm (λ z. z.stamp) (max_managers - started_count v) x y n v.waiting)
