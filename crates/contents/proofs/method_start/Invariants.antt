-- The invariant: the steps passed have smaller keys.
use Prim.Native.Nat.{◌+◌, ◌-◌, ◌≤◌}
use Rattle.session.specs.Parts.{level_count, object_count}
use Rattle.contents.specs.Reading.{method_start}
use Rattle.contents.proofs.method_start.Given as goal

abbrev pub invariant-loop-r : goal.invariant-loop-r
invariant-loop-r l = (level_count l.session + object_count l.session ≤ l.r) × (l.r ≤ method_start l.session l.key)

abbrev pub decreases-loop-r : goal.decreases-loop-r
decreases-loop-r l = l.end - l.r
