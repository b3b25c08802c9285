use Rattle.scheduler.proofs.Laws.Answers.{answered-plain}
use Rattle.scheduler.proofs.run_plain.Goals as goal

pub returns : goal.returns
returns c =
    answered-plain c.args.session.now c.args.clearance c.args.work.now c.args.res.now _ _ _ _ _ c.run_session.ensures
