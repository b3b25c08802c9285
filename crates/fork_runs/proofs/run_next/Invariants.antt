-- The invariant: the words represent a state that the steps of the manager have led to since its start, and what is kept of its reads is
-- what it reads.
use mathlib.Core.Path.{◌≡◌}
use Rattle.level_state.specs.Representation.{words_of}
use Rattle.fork_runs.proofs.Laws.Left.{steps_left}
use Rattle.fork_runs.proofs.Laws.Next.{started_words, NextLoop}
use Rattle.fork_runs.proofs.run_next.Given as goal

abbrev pub invariant-loop-cache : goal.invariant-loop-cache
invariant-loop-cache l =
    NextLoop l.session.bytes.now (started_words (words_of l.fn.state l.fn.work) l.initial.state.ended l.initial.state.tallies) (words_of l.state l.work) l.level l.initial.m l.m l.cache × (l.ending ≡ l.m.core.ending)

abbrev pub decreases-loop-cache : goal.decreases-loop-cache
decreases-loop-cache l =
    steps_left l.session.bytes.now (words_of l.state l.work) l.cache l.m
