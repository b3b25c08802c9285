-- The invariant: the lines of the levels passed are placed.
use Prim.Native.Nat.{◌-◌, ◌≤◌}
use Rattle.session.specs.Limits.{max_levels}
use Rattle.lists.specs.Lists.{tab, joined}
use Rattle.lists.specs.Placed.{Placed}
use Rattle.layout.specs.Shown.{average_in}
use Rattle.layout.proofs.put_averages.Given as goal

abbrev pub invariant-loop-level : goal.invariant-loop-level
invariant-loop-level l = (l.level ≤ max_levels) × Placed (joined (tab l.level (average_in l.steps l.managers))) l.at l.initial.page l.page l.next

abbrev pub decreases-loop-level : goal.decreases-loop-level
decreases-loop-level l = max_levels - l.level
