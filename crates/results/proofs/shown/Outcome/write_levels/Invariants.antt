-- The invariant: what is shown of the levels passed is placed.
use Prim.Native.Nat.{◌-◌, ◌*◌, ◌≤◌}
use mathlib.Core.Path.{◌≡◌}
use lib.ListN.{length}
use Rattle.dominance.specs.Table.{dominates}
use Rattle.lists.specs.Lists.{tab, joined}
use Rattle.histories.specs.Histories.{ended_in}
use Rattle.results.specs.Writing.{shown_level}
use Rattle.lists.specs.Placed.{Placed}
use Rattle.results.proofs.shown.Outcome.write_levels.Given as goal

abbrev pub invariant-loop-level : goal.invariant-loop-level
invariant-loop-level l =
    let o = l.self in
    (l.level-end ≡ length o.session.masks.now)
    × (l.level ≤ length o.session.masks.now)
    × (l.at ≤ 512 * l.level)
    × Placed (joined (tab l.level (shown_level (dominates o.session.masks.now) (ended_in o.histories.now o.counts.now) o.clearance))) 0 l.initial.res l.res l.at

abbrev pub decreases-loop-level : goal.decreases-loop-level
decreases-loop-level l = length l.self.session.masks.now - l.level
