use Rattle.scheduler.proofs.Laws.Answers.{plain-ends}
use Rattle.scheduler.proofs.make_steps.Goals as goal

pub returns-in-None : goal.returns-in-None
returns-in-None c =
    let r = c.run-in-None in
    rw c.in-None.is (plain-ends c.args.session.now.bytes.now c.args.session.now.accepted _ r.ensures.0, r.ensures.1)
