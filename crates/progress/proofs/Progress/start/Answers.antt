use native.Mathlib.Omega.{arith}
use Rattle.progress.proofs.Laws.Starts.{level_low, script_there, script_low, script_small}
use Rattle.progress.proofs.Progress.start.Goals as goal

pub next-next-requires : goal.next-next-requires
next-next-requires c = level_low c.requires

pub overflow_cast-next : goal.overflow_cast-next
overflow_cast-next c = record { fits = omega (arith, c.next-next.ensures, c.requires.startable.fits) }

pub script_in-script-requires : goal.script_in-script-requires
script_in-script-requires c = script_there c.requires

pub overflow_cast-script : goal.overflow_cast-script
overflow_cast-script c = record { fits = omega (arith, c.script_in-script.ensures, script_small c.requires) }

pub start-requires : goal.start-requires
start-requires c =
    let h = c.requires in
    (rw c.next-next.ensures h.startable, omega (arith, c.script_in-script.ensures, script_low h))
