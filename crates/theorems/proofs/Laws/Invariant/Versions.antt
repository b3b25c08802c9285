-- The versions of a level are in order of write stamp: newest first, their write stamps never rise. Every step keeps this. Assumes nothing.
use Prim.Native.Nat.{ℕ, ◌≤◌, ◌<◌}
use mathlib.Core.Path.{◌≡◌}
use mathlib.Core.List.{List, [], ◌∷◌, ◌++◌}
use native.Mathlib.Omega.{arith}
use Rattle.session.specs.Program.{Program}
use Rattle.scripts.proofs.Laws.Effects.{Sound}
use Rattle.model.specs.Fork.{Fork}
use Rattle.model.specs.Level.{Version, Level, arrived}
use Rattle.model.specs.Step.{State, level_at, Arrival, move_at, step_at}
use Rattle.lists.specs.Each.{Each, Pairwise}
use Rattle.lists.proofs.Laws.Each.{each_map, each_append}
use Rattle.theorems.proofs.Laws.Invariant.Forks.{ForkInvariant}
use Rattle.theorems.proofs.Laws.Invariant.WriteStamps.{write_stamp, Marks}
use Rattle.theorems.proofs.Laws.Invariant.Became.{Became, own, got, stayed, became, step_marks}

-- the write stamps of versions, newest first, never rise
abbrev pub Falling : List Version → Type 0
Falling = Pairwise (λ v w. w.stamp ≤ v.stamp)

-- so it is at a level, and none is above the level's own write stamp
pub record Dated (v : Level) : Type 0 where
  pub falling : Falling v.versions
  pub low : Each (λ w. w.stamp ≤ write_stamp v) v.versions

-- versions of stamp b in front of versions up to b
fresh_low : (b : ℕ) (fs vs : List Version) → Each (λ w. w.stamp ≡ b) fs → Each (λ w. w.stamp ≤ b) vs → Each (λ w. w.stamp ≤ b) (fs ++ vs)
fresh_low b fs vs f e =
    each_append (λ w. w.stamp ≤ b) fs vs (each_map (λ w. w.stamp ≡ b) (λ w. w.stamp ≤ b) (λ w h. omega (arith, h)) fs f) e

fresh_falling : (b : ℕ) (fs vs : List Version) → Each (λ w. w.stamp ≡ b) fs → Each (λ w. w.stamp ≤ b) vs → Falling vs → Falling (fs ++ vs)
unfolding Each Pairwise
fresh_falling b [] vs f e d = d
fresh_falling b (w ∷ fs) vs f e d = (rw f.0 (fresh_low b fs vs f.1 e), fresh_falling b fs vs f.1 e d)

-- a step writes versions of the level's write stamp, and that does not fall: the order is kept
marks_dated : (l : ℕ) (v w : Level) (b : Arrival) → Marks l v w b → Dated v → Dated w
marks_dated l v w b m d =
    record {
      falling = rw m.versions (fresh_falling (write_stamp v) m.fresh v.versions m.current d.low d.falling);
      low = rw m.versions (each_map (λ r. r.stamp ≤ write_stamp v) (λ r. r.stamp ≤ write_stamp w) (λ r h. omega (arith, h, m.grows)) (m.fresh ++ v.versions) (fresh_low (write_stamp v) m.fresh v.versions m.current d.low));
    }

arrived_dated : (x : Fork) (v : Level) → Dated v → Dated (arrived x v)
unfolding arrived
arrived_dated x v d = record { falling = d.falling; low = d.low }

-- every step keeps the versions of all levels in order
pub step_dated : (p : Program) → Sound p → (st : State) → ForkInvariant p st → ((l : ℕ) → l < p.levels → Dated (level_at st l)) → (l : ℕ) → l < p.levels → (k : ℕ) → k < p.levels → Dated (level_at (step_at p l st) k)
step_dated p so st o i l h k hk = by (level_at (step_at p l st) k) (became p so st o l h k)
  where
    by : (v : Level) → Became p l st k v → Dated v
    by v (own e q) = rw q (marks_dated l (level_at st l) (move_at p l st).own (move_at p l st).arrival (step_marks p so st o l h) (i l h))
    by v (got c e s q) = rw q (arrived_dated c (level_at st k) (i k hk))
    by v (stayed n q) = rw q (i k hk)
