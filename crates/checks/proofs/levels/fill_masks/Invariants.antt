-- The invariant: the masks of the records passed stand in front, and the rest is as it came.
use Prim.Native.Nat.{◌≤◌, ◌-◌}
use mathlib.Core.Path.{◌≡◌}
use mathlib.Core.List.{◌++◌}
use lib.ListN.{length, drop}
use Rattle.lists.specs.Lists.{tab}
use Rattle.session.specs.Record.{record_at, mask_of}
use Rattle.checks.proofs.levels.fill_masks.Given as goal

abbrev pub invariant-loop-i : goal.invariant-loop-i
invariant-loop-i l =
    (l.i ≤ l.levels) × (l.masks ≡ tab l.i (λ k. mask_of (record_at l.session k)) ++ drop l.i l.initial.masks) × (length l.masks ≡ length l.initial.masks)

abbrev pub decreases-loop-i : goal.decreases-loop-i
decreases-loop-i l = l.levels - l.i
