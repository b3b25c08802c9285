-- The invariants: no gap in what each of the three loops has passed.
use Prim.Native.Nat.{ℕ, ◌≤◌, ◌<◌, ◌-◌}
use mathlib.Core.Path.{◌≡◌}
use mathlib.Core.Bool.{true, ◌&&◌}
use lib.ListN.{length}
use Rattle.lists.specs.Range.{implies}
use Rattle.dominance.specs.Table.{dominates}
use Rattle.lattice.proofs.carries_through.Given as goal

abbrev pub invariant-loop-k : goal.invariant-loop-k
invariant-loop-k l =
    (l.k ≤ length l.masks) × (l.whole ≡ true)
    × ((z : ℕ) → z < l.k → implies (dominates l.masks l.i l.j && dominates l.masks l.j z) (dominates l.masks l.i z) ≡ true)

abbrev pub decreases-loop-k : goal.decreases-loop-k
decreases-loop-k l = length l.masks - l.k

abbrev pub invariant-loop-j : goal.invariant-loop-j
invariant-loop-j l =
    (l.j ≤ length l.masks) × (l.whole ≡ true)
    × ((y : ℕ) → y < l.j → (z : ℕ) → z < length l.masks → implies (dominates l.masks l.i y && dominates l.masks y z) (dominates l.masks l.i z) ≡ true)

abbrev pub decreases-loop-j : goal.decreases-loop-j
decreases-loop-j l = length l.masks - l.j

abbrev pub invariant-levels : goal.invariant-levels
invariant-levels l =
    (l.i ≤ length l.masks) × (l.whole ≡ true)
    × ((x : ℕ) → x < l.i → (y : ℕ) → y < length l.masks → (z : ℕ) → z < length l.masks → implies (dominates l.masks x y && dominates l.masks y z) (dominates l.masks x z) ≡ true)

abbrev pub decreases-levels : goal.decreases-levels
decreases-levels l = length l.masks - l.i
