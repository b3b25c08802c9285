use mathlib.Core.Path.{sym, ◌∙◌}
use Rattle.managers.proofs.Laws.Closing.{lowering_on}
use Rattle.managers.proofs.settled.Goals as goal

pub loop-at-preserved : goal.loop-at-preserved
loop-at-preserved c =
    lowering_on _ _ _ _ _ c.loop-at.invariant (sym c.pops.ensures ∙ c.loop-at-test.true) _ c.popped-lower.ensures _ c.causing-core.ensures

pub returns : goal.returns
returns c =
    record { lowered = c.loop-at.core; lowering = c.loop-at.invariant; still = sym c.pops.ensures ∙ c.loop-at-test.false; closed = c.closed.ensures }
