-- The invariant: allowed steps led from the state at the start to the one that the words say, in which no manager runs at the level.
use Prim.Native.Nat.{◌-◌}
use lib.ListN.{get_or}
use Rattle.model.specs.Limits.{max_managers}
use Rattle.level_state.specs.Representation.{words_of}
use Rattle.fork_runs.proofs.Laws.Next.{Turns}
use Rattle.plain.proofs.run_level.Given as goal

abbrev pub invariant-loop-state : goal.invariant-loop-state
invariant-loop-state l =
    Turns l.session.bytes.now (words_of l.initial.state l.initial.work) (words_of l.state l.work) l.level

abbrev pub decreases-loop-state : goal.decreases-loop-state
decreases-loop-state l =
    max_managers - get_or l.state.tallies l.level 0
