use Rattle.managers.specs.Steps.{Lowering}
use Rattle.managers.proofs.settled.Given as goal

abbrev pub invariant-loop-at : goal.invariant-loop-at
invariant-loop-at l = Lowering l.session.bytes.now l.session.index.now l.waiting l.initial.core l.core

abbrev pub decreases-loop-at : goal.decreases-loop-at
decreases-loop-at l = l.core.height
