-- The invariant: the versions before `low` are not above the bound, and those from `high` on are.
use Rattle.std.proofs.Common.{◌-◌}
use Rattle.versions.specs.Log.{log_start}
use Rattle.versions.proofs.Laws.Order.{Bracket}
use Rattle.versions.proofs.count_to.Given as goal

abbrev pub invariant-loop-low : goal.invariant-loop-low
invariant-loop-low l = Bracket l.work (log_start l.level) l.count l.bound l.low l.high

abbrev pub decreases-loop-low : goal.decreases-loop-low
decreases-loop-low l = l.high - l.low
