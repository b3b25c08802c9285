-- The invariant: allowed steps were made from the session as read in, and no manager runs.
use Rattle.level_state.specs.Representation.{words_of}
use Rattle.plain.proofs.Laws.Plain.{PlainLoop, plain_left}
use Rattle.plain.proofs.run.Given as goal

abbrev pub invariant-loop-level : goal.invariant-loop-level
invariant-loop-level l =
    PlainLoop l.session.bytes.now l.session.masks.now (words_of l.initial.state l.initial.work) (words_of l.state l.work) 0

abbrev pub decreases-loop-level : goal.decreases-loop-level
decreases-loop-level l =
    plain_left l.session.masks.now l.state.tallies 0
