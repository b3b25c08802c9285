use mathlib.Core.Path.{◌≡◌}
use mathlib.Core.Bool.{true}
use Rattle.cores.specs.Core.{is_done}
use Rattle.managers.proofs.Laws.Advance.{Turning, turns_left}
use Rattle.managers.proofs.Manager.advance.Given as goal

abbrev pub invariant-loop-f : goal.invariant-loop-f
invariant-loop-f l =
    Turning l.session.bytes.now l.session.masks.now l.session.index.now l.sight.current.now l.sight.cache.now l.sight.all l.sight.unchanged l.limit l.initial.core l.initial.waiting l.core l.waiting × (is_done l.core.effect ≡ true)

abbrev pub decreases-loop-f : goal.decreases-loop-f
decreases-loop-f l = turns_left l.core
