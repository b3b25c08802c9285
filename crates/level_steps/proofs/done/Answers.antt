-- What the step did outside leaves room for its history.
use mathlib.Core.Path.{ap}
use Rattle.cores.specs.Core.{effect_of}
use Rattle.level_state.proofs.Laws.Done.{step_done, nothing_done}
use Rattle.level_steps.proofs.done.Goals as goal

pub returns-in-Nothing : goal.returns-in-Nothing
returns-in-Nothing c =
    nothing_done (ap effect_of c.in-Nothing.is) c.settle.ensures.settled c.settle.ensures.rest

pub returns : goal.returns
returns c =
    step_done c.perform.ensures.performed c.perform.ensures.rest c.settle-2.ensures.settled c.settle-2.ensures.rest
