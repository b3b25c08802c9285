use Rattle.queues.proofs.Laws.Stamp.{child_fits, child_is}
use Rattle.queues.proofs.child_stamp.Goals as goal

pub overflow_add-result-2 : goal.overflow_add-result-2
overflow_add-result-2 c = record { fits = child_fits c.args.stamp c.args.depth c.args.forks c.requires.0 c.requires.1 c.requires.2 }

pub returns : goal.returns
returns c = child_is c.args.stamp c.args.depth c.args.forks c.requires.0 c.requires.1 c.requires.2
