-- The invariant: the words represent a state from which the rest of the timetable ends as the whole does; the managers that run are as
-- their steps leave them, and nothing is kept of what they read.
use Prim.Native.Nat.{◌-◌}
use mathlib.Core.List.{[]}
use lib.ListN.{length}
use Rattle.std.specs.Prelude.{None}
use Rattle.scripts.specs.declared.Ending.TheVariants.{Running}
use Rattle.cores.specs.declared.Effect.TheVariants.{Nothing}
use Rattle.managers.specs.declared.Manager.{Manager}
use Rattle.level_state.specs.Representation.{words_of}
use Rattle.timetabled.proofs.Laws.Listed.{ListLoop}
use Rattle.timetabled.proofs.run.Given as goal

-- what stands for a manager past the array
abbrev pub none : Manager
none =
    record {
      core = record {
        level = 0;
        first = 0;
        steps = 0;
        writes = 0;
        forks = 0;
        height = 0;
        ending = Running;
        reply = None;
        top = record { object = 0; slot = 0; next = 0; start = 0; count = 0; answer = 0; r0 = None; r1 = None; r2 = None; r3 = None };
        effect = Nothing;
      };
      waiting = [];
    }

abbrev pub invariant-loop-i : goal.invariant-loop-i
invariant-loop-i l =
    ListLoop l.session.bytes.now l.timetable none (words_of l.initial.state l.initial.work) (words_of l.state l.work) l.managers l.cache l.i

abbrev pub decreases-loop-i : goal.decreases-loop-i
decreases-loop-i l = length l.timetable - l.i
