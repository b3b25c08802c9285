-- The code's manager, as the definitions have it. No meaning rests on these. Assumes nothing.
use Rattle.std.specs.Prelude.{◌-◌}
use Rattle.scripts.specs.State as defined
use Rattle.frames.specs.Frames.{frame_of, below}
use Rattle.cores.specs.Core.{bare, stack_of, effect_of}
use Rattle.managers.specs.declared.Manager.{Manager}

unfoldable pub manager_of : Manager → defined.Manager
manager_of m =
    bare m.core (stack_of m.core.height (frame_of m.core.top) (below m.waiting (m.core.height - 1)))

-- with what its last script step did outside it
abbrev pub stepped_of : Manager → defined.Stepped
stepped_of m = record { manager = manager_of m; effect = effect_of m.core.effect }
