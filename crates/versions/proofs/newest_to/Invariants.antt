-- The invariant: the newest of the versions not yet passed is the newest up to the bound of all.
use Rattle.std.proofs.Common.{◌≡◌}
use Rattle.model.specs.Level.{newest, newest_to}
use Rattle.versions.specs.Log.{log_start, log_of}
use Rattle.versions.proofs.newest_to.Given as goal

abbrev pub invariant-loop-n : goal.invariant-loop-n
invariant-loop-n l =
    newest l.initial' l.object l.field (log_of l.work (log_start l.level) l.n) ≡ newest_to l.bound l.initial' l.object l.field (log_of l.work (log_start l.level) l.count)
