use Rattle.scheduler.proofs.Laws.Answers.{shown-fits}
use Rattle.scheduler.proofs.show.Goals as goal

pub overflow_cast-result : goal.overflow_cast-result
overflow_cast-result c =
    record { fits = shown-fits _ _ _ _ _ _ _ c.requires c.args.clearance c.write-count.result _ _ c.write-count.ensures }
