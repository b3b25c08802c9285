use Rattle.std.proofs.Common.{◌≡◌, ◌+◌, ◌*◌}
use Rattle.descent.proofs.Laws.Run.{Looped, steps_left}
use Rattle.descent.proofs.+perform_run_kept_run_manager.Given as goal

-- the levels left fall from a manager to those that it forks
abbrev pub decreases-perform : goal.decreases-perform
decreases-perform l = 3 * l.left + 2

abbrev pub decreases-run_kept : goal.decreases-run_kept
decreases-run_kept l = 3 * l.left + 1

abbrev pub decreases-run_manager : goal.decreases-run_manager
decreases-run_manager l = 3 * l.left

abbrev pub invariant-run_manager-loop-progress : goal.invariant-run_manager-loop-progress
invariant-run_manager-loop-progress l =
    (l.ending ≡ l.m.core.ending) × Looped l.session.bytes.now l.left l.fork l.initial.progress l.progress l.m

abbrev pub decreases-run_manager-loop-progress : goal.decreases-run_manager-loop-progress
decreases-run_manager-loop-progress l = steps_left l.m
