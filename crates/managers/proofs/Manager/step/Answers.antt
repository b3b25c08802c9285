-- A limit of one more makes one step.
use Rattle.managers.proofs.Laws.Done.{step_done}
use Rattle.managers.proofs.Manager.step.Goals as goal

pub returns : goal.returns
returns c =
    let a = c.requires in
    step_done _ _ _ _ _ _ _ a.held a.running c.advance.ensures
